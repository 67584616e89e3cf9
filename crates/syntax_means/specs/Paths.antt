-- What region paths, region arguments and types that are written mean, by what is around them.
use Rattle.std.specs.Prelude.{◌≡◌, ℕ, ℤ, ◌==◌, Bool, false, cond, List, [], ◌∷◌, ◌++◌, map, is_some, Option, Some, None, slice_get}
use Rattle.std.specs.List.{AllZip, position_from}
use Rattle.std.specs.Option.{option_map_or}
use Rattle.lang_base.specs.declared.elems.Elem.{Elem}
use Rattle.lang_base.specs.declared.elems.Elem.TheVariants.{Name, At, Any, Star, Local}
use Rattle.lang_base.specs.declared.elems.Index.TheVariants.{Literal, Variable, Own}
use Rattle.lang_base.specs.declared.region.Head.TheVariants.{Root, Param}
use Rattle.lang_base.specs.declared.region.Rpl.{Rpl}
use Rattle.lang_base.specs.Regions.{following}
use Rattle.lang_base.specs.Types.{PlainType, array}
use Rattle.lang_base.specs.Types.{PlainType as ty}
use Rattle.syntax_tree.specs.declared.class.Program.{Program}
use Rattle.syntax_tree.specs.declared.region.BaseTree.{BaseTree}
use Rattle.syntax_tree.specs.declared.region.BaseTree.TheVariants as base
use Rattle.syntax_tree.specs.declared.region.ElemTree.{ElemTree}
use Rattle.syntax_tree.specs.declared.region.ElemTree.TheVariants as elem
use Rattle.syntax_tree.specs.declared.region.Named.{Named}
use Rattle.syntax_tree.specs.declared.region.RName.{RName}
use Rattle.syntax_tree.specs.declared.region.RplHead.{RplHead}
use Rattle.syntax_tree.specs.declared.region.RplHead.TheVariants as head
use Rattle.syntax_tree.specs.declared.region.RplTree.{RplTree}
use Rattle.syntax_tree.specs.declared.region.Suffix.{Suffix}
use Rattle.syntax_tree.specs.declared.region.TypeTree.{TypeTree}
use Rattle.lang_typed.specs.Plain.{PlainProgram, PlainClass}
use Rattle.lang_typed.specs.Scope.{class_at}
use Rattle.syntax_means.specs.Declares.{ClassNamed, DeclaresRegion, MeansIn}

-- what is around a place: the tree and its typed program, the class, the names of the region parameters by their numbers, and the
-- locals with their slots and the local regions with their numbers, the latest first
pub record Around : Type 0 where
  pub tree : Program
  pub typed : PlainProgram
  pub class : ℕ
  pub params : List ℕ
  pub locals : List (ℕ × ℕ)
  pub regions : List (ℕ × ℕ)

-- what stands beside a name
abbrev pub beside : List (ℕ × ℕ) → ℕ → Option ℕ
beside [] name = None
beside (known ∷ more) name = cond (known.0 == name) (Some known.1) (beside more name)

-- a region name: `r` in the class around, `C.r` in the class `C`
pub data RegionMeans (A : Around) (written : RName) (n : ℕ) : Type 0 where
  in_class : written.second ≡ None → MeansIn A.typed (DeclaresRegion A.tree written.first.name) A.class n → RegionMeans A written n
  in_other : {second : Named} {c : ℕ} → written.second ≡ Some second → ClassNamed A.tree written.first.name c →
      MeansIn A.typed (DeclaresRegion A.tree second.name) c n → RegionMeans A written n

-- the name of a region parameter, and of a local region; `C.r` is neither
abbrev pub IsParam : Around → RName → ℕ → Type 0
IsParam A written p = (written.second ≡ None) × (slice_get A.params p ≡ Some written.first.name)

abbrev pub IsLocalRegion : Around → RName → ℕ → Type 0
IsLocalRegion A written r = (written.second ≡ None) × (beside A.regions written.first.name ≡ Some r)

abbrev pub root_path : Rpl
root_path = record { head = Root; elems = [] }

-- where a path begins: at a region parameter, else at a local region, else at a region name
pub data HeadMeans (A : Around) : RplHead → Rpl → Type 0 where
  at_root : HeadMeans A head.Root root_path
  at_param : {written : RName} {p : ℕ} → IsParam A written p → HeadMeans A (head.Name written) (record { head = Param p; elems = [] })
  at_local : {written : RName} {r : ℕ} →
      ((p : ℕ) → IsParam A written p → ⊥) → IsLocalRegion A written r → HeadMeans A (head.Name written) (record { head = Root; elems = Local r 0 ∷ [] })
  at_region : {written : RName} {n : ℕ} → ((p : ℕ) → IsParam A written p → ⊥) → ((r : ℕ) → IsLocalRegion A written r → ⊥) →
      RegionMeans A written n → HeadMeans A (head.Name written) (record { head = Root; elems = Name n ∷ [] })

-- the array type around that an index name means, from the inside: the innermost with that name
abbrev pub index_of : List (Option Named) → ℕ → Option ℕ
index_of indices name = position_from (λ index. option_map_or (λ named. named.name == name) index false) 0 indices

-- an element, inside array types with these index names, the innermost first: `[v]` is the index name, else a local
pub data ElemMeans (A : Around) (indices : List (Option Named)) : ElemTree → Elem → Type 0 where
  a_region : {written : RName} {n : ℕ} → RegionMeans A written n → ElemMeans A indices (elem.Name written) (Name n)
  a_star : ElemMeans A indices elem.Star Star
  any_index : ElemMeans A indices elem.Any Any
  a_literal : {k : ℤ} → ElemMeans A indices (elem.Lit k) (At (Literal k))
  an_index : {v : Named} {d : ℕ} → index_of indices v.name ≡ Some d → ElemMeans A indices (elem.Index v) (At (Own d))
  a_variable : {v : Named} {x : ℕ} → index_of indices v.name ≡ None → beside A.locals v.name ≡ Some x → ElemMeans A indices (elem.Index v) (At (Variable x))

pub record PathMeans (A : Around) (indices : List (Option Named)) (path : RplTree) (a : Rpl) : Type 0 where
  pub start : Rpl
  pub begins : HeadMeans A path.head start
  pub elems : List Elem
  pub goes_on : AllZip (ElemMeans A indices) path.elems elems
  pub is : a ≡ following start elems

-- a path that may be left out: then it is `Root`
pub data PathOrRoot (A : Around) (indices : List (Option Named)) : Option RplTree → Rpl → Type 0 where
  left_out : PathOrRoot A indices None root_path
  written : {path : RplTree} {a : Rpl} → PathMeans A indices path a → PathOrRoot A indices (Some path) a

-- region arguments for these parameters: where they are left out, each is `Root`
pub data ArgsMean (A : Around) (indices : List (Option Named)) (params : List Bool) : List RplTree → List Rpl → Type 0 where
  all_left_out : {args : List Rpl} → args ≡ map (λ param. root_path) params → ArgsMean A indices params [] args
  all_written : {path : RplTree} {paths : List RplTree} {args : List Rpl} →
      AllZip (PathMeans A indices) (path ∷ paths) args → ArgsMean A indices params (path ∷ paths) args

-- a class with region arguments
pub record NamesClass (A : Around) (indices : List (Option Named)) (name : Named) (paths : List RplTree) (c : ℕ) (args : List Rpl) : Type 0 where
  pub class : PlainClass
  pub named : ClassNamed A.tree name.name c
  pub is : class_at A.typed c ≡ Some class
  pub given : ArgsMean A indices class.params paths args

pub data BaseMeans (A : Around) (indices : List (Option Named)) : BaseTree → PlainType → Type 0 where
  an_int : BaseMeans A indices base.Int ty.int
  a_boolean : BaseMeans A indices base.Bool ty.boolean
  a_class : {name : Named} {paths : List RplTree} {c : ℕ} {args : List Rpl} →
      NamesClass A indices name paths c args → BaseMeans A indices (base.Class name paths) (ty.class c args)

abbrev pub index_names : List Suffix → List (Option Named)
index_names suffixes = map (λ suffix. suffix.index) suffixes

-- arrays of such elements, the innermost suffix first, inside array types with these index names
pub data ArraysMean (A : Around) (outside : List (Option Named)) : List Suffix → PlainType → PlainType → Type 0 where
  no_suffix : {t : PlainType} → ArraysMean A outside [] t t
  one_suffix : {s : Suffix} {ss : List Suffix} {t u : PlainType} {a : Rpl} →
      PathOrRoot A (index_names (s ∷ ss) ++ outside) s.rpl a → ArraysMean A outside ss (array t a (is_some s.index)) u → ArraysMean A outside (s ∷ ss) t u

pub record FormMeans (A : Around) (outside : List (Option Named)) (base : BaseTree) (suffixes : List Suffix) (t : PlainType) : Type 0 where
  pub inside : PlainType
  pub begins : BaseMeans A (index_names suffixes ++ outside) base inside
  pub arrays : ArraysMean A outside suffixes inside t

abbrev pub TypeMeans : Around → TypeTree → PlainType → Type 0
TypeMeans A tree t = FormMeans A [] tree.base tree.suffixes t
