-- What a tree means as a typed program: its classes with what they declare, and the bodies of its methods and constructors.
use Rattle.std.specs.Prelude.{◌≡◌, ℕ, suc, ◌==◌, Bool, false, cond, List, [], ◌∷◌, ◌++◌, map, length, codes, Option, Some, None, slice_get, slice_set}
use Rattle.std.specs.List.{AllZip, position_from}
use Rattle.std.specs.Option.{option_map_or}
use Rattle.lang_base.specs.declared.effect.Access.{Access}
use Rattle.lang_base.specs.declared.effect.Access.TheVariants.{Read, Write}
use Rattle.lang_base.specs.declared.effect.Constraint.{Constraint}
use Rattle.lang_base.specs.declared.effect.Effect.{Effect}
use Rattle.lang_base.specs.declared.elems.Elem.TheVariants.{Star}
use Rattle.lang_base.specs.declared.region.Head.TheVariants.{Root}
use Rattle.lang_base.specs.Types.{PlainType, void}
use Rattle.syntax_tree.specs.declared.class.Class.{Class}
use Rattle.syntax_tree.specs.declared.class.Field.{Field}
use Rattle.syntax_tree.specs.declared.class.Formal.{Formal}
use Rattle.syntax_tree.specs.declared.class.Item.{Item}
use Rattle.syntax_tree.specs.declared.class.Method.{Method}
use Rattle.syntax_tree.specs.declared.class.MethodResult.{MethodResult}
use Rattle.syntax_tree.specs.declared.class.MethodResult.TheVariants as outcome
use Rattle.syntax_tree.specs.declared.class.Parent.{Parent}
use Rattle.syntax_tree.specs.declared.class.Program.{Program}
use Rattle.syntax_tree.specs.declared.class.SummaryTree.{SummaryTree}
use Rattle.syntax_tree.specs.declared.region.ConstrTree.{ConstrTree}
use Rattle.syntax_tree.specs.declared.region.Params.{Params}
use Rattle.syntax_tree.specs.declared.region.TypeTree.{TypeTree}
use Rattle.syntax_tree.specs.Nd.{program_uses_nd}
use Rattle.syntax_tree.specs.Plain.{plain_stmt, plain_stmts}
use Rattle.lang_typed.specs.Plain.{PlainProgram, PlainClass, PlainField, PlainMember, PlainParent}
use Rattle.lang_typed.specs.Scope.{class_at, member_at}
use Rattle.lang_typed.specs.Statements.{SameEffects}
use Rattle.syntax_means.specs.Declares.{ClassNamed, DeclaresConstructor, OwnMethod, all_methods, all_regions, inherited_fields, method_name, own_fields, spelled}
use Rattle.syntax_means.specs.Paths.{Around, NamesClass, PathMeans, PathOrRoot, TypeMeans}
use Rattle.syntax_means.specs.Bodies.{AllMean, with_local}
use Rattle.syntax_means.specs.Numbered.{Counts, given_in_all, own_regions, own_slots}

abbrev pub param_names : Params → List ℕ
param_names params = map (λ param. param.name) params.list

abbrev pub atomic_params : Params → List Bool
atomic_params params = map (λ param. param.atomic) params.list

-- formals have the slots after that of `this`, which is the first
abbrev pub with_formals : ℕ → List Formal → Around → Around
with_formals x [] A = A
with_formals x (formal ∷ formals) A = with_formals (suc x) formals (with_local formal.name x A)

-- around the signatures of a class, and around a method or a constructor of it
abbrev pub in_class : Program → PlainProgram → ℕ → Class → Around
in_class tree P c class = record { tree = tree; typed = P; class = c; params = param_names class.params; locals = []; regions = [] }

abbrev pub in_method : Program → PlainProgram → Class → OwnMethod → Around
in_method tree P class own = with_formals 1 own.method.formals (record (in_class tree P own.class class) { params = param_names class.params ++ param_names own.method.params })

pub record ConstraintMeans (A : Around) (written : ConstrTree) (g : Constraint) : Type 0 where
  pub left : PathMeans A [] written.left g.left
  pub right : PathMeans A [] written.right g.right

-- a field lies in `Root` where no region is written
pub record FieldMeans (A : Around) (written : Field) (f : PlainField) : Type 0 where
  pub ty : TypeMeans A written.ty f.ty
  pub region : PathOrRoot A [] written.region f.region

pub data ParentMeans (A : Around) : Option Parent → Option PlainParent → Type 0 where
  no_parent : ParentMeans A None None
  a_parent : {written : Parent} {p : PlainParent} → NamesClass A [] written.name written.args p.class p.args → ParentMeans A (Some written) (Some p)

pub data ResultMeans (A : Around) : MethodResult → PlainType → Type 0 where
  of_constructor : ResultMeans A outcome.Constructor void
  nothing : ResultMeans A outcome.Void void
  a_value : {kind : TypeTree} {t : PlainType} → TypeMeans A kind t → ResultMeans A (outcome.Value kind) t

pub record ItemMeans (A : Around) (access : Access) (written : Item) (e : Effect) : Type 0 where
  pub path : PathMeans A [] written.rpl e.rpl
  pub is : e ≡ record { access = access; atomic = written.atomic; rpl = e.rpl }

-- the effects of a summary: `writes Root:*` where none is written
pub data SummaryMeans (A : Around) : Option SummaryTree → List Effect → Type 0 where
  left_out : SummaryMeans A None (record { access = Write; atomic = false; rpl = record { head = Root; elems = Star ∷ [] } } ∷ [])
  written : {summary : SummaryTree} {effects : List Effect} (reads writes : List Effect) →
      AllZip (ItemMeans A Read) summary.reads reads → AllZip (ItemMeans A Write) summary.writes writes → SameEffects effects (reads ++ writes) →
      SummaryMeans A (Some summary) effects

-- the constructor is the one that the class declares
abbrev pub ConstructorMeans : Program → ℕ → Option ℕ → Type 0
ConstructorMeans tree c None = (n : ℕ) → DeclaresConstructor tree c n → ⊥
ConstructorMeans tree c (Some n) = DeclaresConstructor tree c n

-- the row in which a method of this name stands
abbrev pub row_named : Program → ℕ → List ℕ → Option ℕ
row_named tree name rows = position_from (λ n. option_map_or (λ m. m == name) (method_name tree n) false) 0 rows

-- a method has the row of the one that has its name, else a new one; a constructor has none
abbrev pub in_row : ℕ → Option ℕ → List ℕ → List ℕ
in_row n None rows = rows ++ n ∷ []
in_row n (Some r) rows = slice_set rows r n

abbrev pub with_method : Program → ℕ → Method → MethodResult → List ℕ → List ℕ
with_method tree n method outcome.Constructor rows = rows
with_method tree n method outcome.Void rows = in_row n (row_named tree method.name rows) rows
with_method tree n method (outcome.Value kind) rows = in_row n (row_named tree method.name rows) rows

-- the rows of a class, after these of its superclass: with the methods that it declares, of all from a number on
abbrev pub with_methods : Program → ℕ → ℕ → List OwnMethod → List ℕ → List ℕ
with_methods tree c n [] rows = rows
with_methods tree c n (own ∷ more) rows =
    with_methods tree c (suc n) more (cond (own.class == c) (with_method tree n own.method own.method.result rows) rows)

abbrev pub rows_above : PlainProgram → Option PlainParent → List ℕ
rows_above P parent = option_map_or (λ p. option_map_or (λ k. k.rows) (class_at P p.class) []) parent []

-- a class: its own fields come after those of its superclass
pub record ClassMeans (tree : Program) (P : PlainProgram) (c : ℕ) (class : Class) (k : PlainClass) : Type 0 where
  pub params : k.params ≡ atomic_params class.params
  pub given : AllZip (ConstraintMeans (in_class tree P c class)) class.params.given k.given
  pub parent : ParentMeans (in_class tree P c class) class.parent k.parent
  pub above : List PlainField
  pub own : List PlainField
  pub fields : k.fields ≡ above ++ own
  pub inherited : length above ≡ inherited_fields P c
  pub declared : AllZip (FieldMeans (in_class tree P c class)) (own_fields class) own
  pub rows : k.rows ≡ with_methods tree c 0 (all_methods tree) (rows_above P k.parent)
  pub constructor : ConstructorMeans tree c k.constructor

-- a method or a constructor
pub record MemberMeans (tree : Program) (P : PlainProgram) (own : OwnMethod) (m : PlainMember) : Type 0 where
  pub class : Class
  pub stands : slice_get tree.classes own.class ≡ Some class
  pub of_class : m.class ≡ own.class
  pub params : m.params ≡ atomic_params own.method.params
  pub given : AllZip (ConstraintMeans (in_method tree P class own)) own.method.params.given m.given
  pub formals : AllZip (λ formal t. TypeMeans (in_method tree P class own) formal.ty t) own.method.formals m.formals
  pub result : ResultMeans (in_method tree P class own) own.method.result m.result
  pub summary : SummaryMeans (in_method tree P class own) own.method.summary m.summary
  pub body : AllMean (in_method tree P class own) (plain_stmts (map plain_stmt own.method.body)) m.body
  -- locals have the slots after those of `this` and the formals, and both are numbered in the order of the text
  pub slots : Counts (suc (length m.formals)) m.slots (given_in_all own_slots m.body)
  pub regions : Counts 0 m.local_regions (given_in_all own_regions m.body)

-- the typed program is what the tree says: classes, members and region names stand in the order of the text
pub record Means (tree : Program) (P : PlainProgram) : Type 0 where
  pub as_many_classes : length P.classes ≡ length tree.classes
  pub classes : (c : ℕ) (class : Class) (k : PlainClass) → slice_get tree.classes c ≡ Some class → class_at P c ≡ Some k → ClassMeans tree P c class k
  pub as_many_members : length P.members ≡ length (all_methods tree)
  pub members : (n : ℕ) (own : OwnMethod) (m : PlainMember) → slice_get (all_methods tree) n ≡ Some own → member_at P n ≡ Some m → MemberMeans tree P own m
  pub region_names : P.region_names ≡ map (λ region. region.is_atomic) (all_regions tree)
  pub main_name : ℕ
  pub main_class : ClassNamed tree main_name P.main_class
  pub main_spelled : spelled tree main_name ≡ codes "Main"
  pub entry_name : ℕ
  pub main_member : method_name tree P.main_member ≡ Some entry_name
  pub entry_spelled : spelled tree entry_name ≡ codes "main"
  pub uses_nd : P.uses_nd ≡ program_uses_nd tree
