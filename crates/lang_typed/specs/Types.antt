-- Types and region paths in scope: when they are well formed, subtypes, and what an argument that is known in part forbids.
use Rattle.std.specs.Prelude.{◌≡◌, ℕ, suc, ◌<◌, ◌⊎◌, Bool, true, false, IsTrue, List, [], ◌∷◌, ◌++◌, All, map, length, Some, slice_get}
use Rattle.lang_base.specs.declared.effect.Constraint.{Constraint}
use Rattle.lang_base.specs.declared.elems.Elem.{Elem}
use Rattle.lang_base.specs.declared.elems.Elem.TheVariants.{Name, At, Any, Star, Local}
use Rattle.lang_base.specs.declared.elems.Index.TheVariants.{Literal, Variable, Renamed, Own}
use Rattle.lang_base.specs.declared.region.Head.{Head}
use Rattle.lang_base.specs.declared.region.Head.TheVariants.{Root, Param}
use Rattle.lang_base.specs.declared.region.Rpl.{Rpl}
use Rattle.lang_base.specs.Apart.{apart}
use Rattle.lang_base.specs.Branches.{atomic_path}
use Rattle.lang_base.specs.Regions.{substituted, fully_specified, argument, within}
use Rattle.lang_base.specs.Types.{PlainType, int, boolean, void, null, class, array, all_within, SameType, mentions_param, rigid_in_param, has_index, mentions_index}
use Rattle.lang_typed.specs.Plain.{PlainProgram, PlainClass, PlainParent}
use Rattle.lang_typed.specs.Scope.{Scope, constant, class_at, parent_of, atomic_in}

-- an element of a path, so many array types inside: names and own indices are there, variables keep their value
abbrev pub GoodElem : PlainProgram → Scope → ℕ → Elem → Type 0
GoodElem P L depth (Name n) = n < length P.region_names
GoodElem P L depth (At (Literal k)) = Unit {0}
GoodElem P L depth (At (Variable x)) = L.local x ≡ Some (constant int)
GoodElem P L depth (At (Renamed x)) = ⊥
GoodElem P L depth (At (Own d)) = d < depth
GoodElem P L depth Any = Unit {0}
GoodElem P L depth Star = Unit {0}
GoodElem P L depth (Local r n) = ⊥

abbrev pub GoodHead : Scope → Head → Type 0
GoodHead L Root = Unit {0}
GoodHead L (Param p) = p < length L.atomic

pub record GoodPath (P : PlainProgram) (L : Scope) (depth : ℕ) (a : Rpl) : Type 0 where
  pub begins : GoodHead L a.head
  pub elems : All (GoodElem P L depth) a.elems

-- a path that begins with a local region in scope
pub record LocalPath (P : PlainProgram) (L : Scope) (depth : ℕ) (a : Rpl) : Type 0 where
  pub region : ℕ
  pub rest : List Elem
  pub is : a ≡ record { head = Root; elems = Local region 0 ∷ rest }
  pub in_scope : IsTrue (L.regions region)
  pub elems : All (GoodElem P L depth) rest

-- region arguments for these parameters, after others: as many, an atomic one for an atomic parameter, and with all of
-- them put in, each constraint holds
pub record GoodArgs (P : PlainProgram) (L : Scope) (depth : ℕ) (params : List Bool) (given : List Constraint) (others args : List Rpl) : Type 0 where
  pub arity : length args ≡ length params
  pub paths : All (GoodPath P L depth) args
  pub atomic : (p : ℕ) (a : Rpl) → slice_get params p ≡ Some true → slice_get args p ≡ Some a → IsTrue (atomic_path (atomic_in P L) a)
  pub hold : All (λ k. IsTrue (apart L.given (substituted (others ++ args) k.left) (substituted (others ++ args) k.right))) given

abbrev pub IsFlat : PlainType → Type 0
IsFlat t = (t ≡ int) ⊎ (t ≡ boolean)

-- an array type without an index name speaks of no index of its own
abbrev pub SpeaksOfNone : Rpl → PlainType → Type 0
SpeaksOfNone a t = (has_index 0 a ≡ false) × (mentions_index 0 t ≡ false)

-- the type of a value, so many array types inside
abbrev pub GoodType : PlainProgram → Scope → ℕ → PlainType → Type 0
GoodType P L depth int = Unit {0}
GoodType P L depth boolean = Unit {0}
GoodType P L depth void = ⊥
GoodType P L depth null = ⊥
GoodType P L depth (class c args) = (k : PlainClass) × (class_at P c ≡ Some k) × GoodArgs P L depth k.params k.given [] args
-- only an array of ints or booleans that is no element itself may lie in a local region
GoodType P L depth (array t a named) =
    (GoodPath P L (suc depth) a ⊎ (LocalPath P L 1 a × IsFlat t × (depth ≡ 0))) × GoodType P L (suc depth) t × (named ≡ false → SpeaksOfNone a t)

-- a value of the first type may stand where one of the second is asked for
pub data Subtype (P : PlainProgram) : PlainType → PlainType → Type 0 where
  ints : Subtype P int int
  booleans : Subtype P boolean boolean
  null_object : {c : ℕ} {args : List Rpl} → Subtype P null (class c args)
  null_array : {t : PlainType} {a : Rpl} {named : Bool} → Subtype P null (array t a named)
  -- each argument lies in the other's; so does an array's region, over one type of elements
  objects : {c : ℕ} {rs ss : List Rpl} → IsTrue (all_within rs ss) → Subtype P (class c rs) (class c ss)
  arrays : {t u : PlainType} {a b : Rpl} {named named' : Bool} → IsTrue (within a b) → SameType t u → Subtype P (array t a named) (array u b named')
  -- a class stands below its superclass
  inherits : {c : ℕ} {rs : List Rpl} {p : PlainParent} {t : PlainType} →
      parent_of P c ≡ Some p → Subtype P (class p.class (map (substituted rs) p.args)) t → Subtype P (class c rs) t

-- each parameter that the type mentions has an argument that is fully specified: then the type is known, and can be
-- written; or each in which the type is rigid: then it can be read
abbrev pub Known : List Rpl → PlainType → Type 0
Known args t = (p : ℕ) → IsTrue (mentions_param p t) → IsTrue (fully_specified (argument args p))

abbrev pub Readable : List Rpl → PlainType → Type 0
Readable args t = (p : ℕ) → IsTrue (rigid_in_param p t) → IsTrue (fully_specified (argument args p))
