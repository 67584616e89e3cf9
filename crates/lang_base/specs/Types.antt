-- Types as plain data, what is put into them, what they mention, when they are the same, and subtyping.
use Rattle.std.specs.Prelude.{◌≡◌, ℕ, zero, suc, ◌<◌, Bool, true, false, ◌&&◌, ◌||◌, cond, ◌==◌, IsTrue, List, [], ◌∷◌, AllPairs, map, length, Option, Some, None, option_map}
use Rattle.std.specs.List.{list_any}
use Rattle.std.specs.Option.{option_and_then, option_map_or}
use Rattle.lang_base.specs.declared.elems.Elem.{Elem}
use Rattle.lang_base.specs.declared.elems.Elem.TheVariants.{At}
use Rattle.lang_base.specs.declared.elems.Index.TheVariants.{Own}
use Rattle.lang_base.specs.declared.region.Head.TheVariants.{Param}
use Rattle.lang_base.specs.declared.region.Rpl.{Rpl}
use Rattle.lang_base.specs.declared.ty.Ty.{Ty, fold-Ty}
use Rattle.lang_base.specs.declared.ty.Ty.TheOpen.{Ty-F}
use Rattle.lang_base.specs.declared.ty.Super.{Super}
use Rattle.lang_base.specs.Regions.{same_head, same_elem, within, substituted}

-- a type; an array has its element type, the region path of its elements, and whether an index name is written
pub data PlainType : Type 0 where
  int : PlainType
  boolean : PlainType
  void : PlainType
  null : PlainType
  class : ℕ → List Rpl → PlainType
  array : PlainType → Rpl → Bool → PlainType

-- one level of a type whose element type is plain already
abbrev pub type_step : Ty-F PlainType → PlainType
type_step Ty-F.Int = int
type_step Ty-F.Bool = boolean
type_step Ty-F.Void = void
type_step Ty-F.Null = null
type_step (Ty-F.Class number args) = class number args
type_step (Ty-F.Array elem rpl named) = array elem rpl named

abbrev pub plain_type : Ty → PlainType
plain_type = fold-Ty PlainType type_step

-- a type with arguments put in for the region parameters in each of its paths; an argument stands in no array type, so
-- it has no own index that could be captured
abbrev pub type_with : List Rpl → PlainType → PlainType
type_with args (class number paths) = class number (map (substituted args) paths)
type_with args (array elem rpl named) = array (type_with args elem) (substituted args rpl) named
type_with args t = t

-- what takes the place of the own index of an array type, so many array types further in, in one element, in a path and
-- in a type
abbrev pub elem_at : ℕ → Elem → Elem → Elem
elem_at depth k (At (Own d)) = cond (depth == d) k (At (Own d))
elem_at depth k x = x

abbrev pub path_at : ℕ → Elem → Rpl → Rpl
path_at depth k a = record { head = a.head; elems = map (elem_at depth k) a.elems }

abbrev pub type_at : ℕ → Elem → PlainType → PlainType
type_at depth k (class number paths) = class number (map (path_at depth k) paths)
type_at depth k (array elem rpl named) = array (type_at (suc depth) k elem) (path_at (suc depth) k rpl) named
type_at depth k t = t

-- a path begins with the region parameter; a type has such a path
abbrev pub has_param : ℕ → Rpl → Bool
has_param p a = same_head a.head (Param p)

abbrev pub mentions_param : ℕ → PlainType → Bool
mentions_param p (class number paths) = list_any (has_param p) paths
mentions_param p (array elem rpl named) = has_param p rpl || mentions_param p elem
mentions_param p t = false

-- an array type whose element type mentions the parameter
abbrev pub rigid_in_param : ℕ → PlainType → Bool
rigid_in_param p (array elem rpl named) = mentions_param p elem
rigid_in_param p t = false

-- the same for the own index of an array type, so many array types further in
abbrev pub has_index : ℕ → Rpl → Bool
has_index depth a = list_any (λ x. same_elem x (At (Own depth))) a.elems

abbrev pub mentions_index : ℕ → PlainType → Bool
mentions_index depth (class number paths) = list_any (has_index depth) paths
mentions_index depth (array elem rpl named) = has_index (suc depth) rpl || mentions_index (suc depth) elem
mentions_index depth t = false

abbrev pub rigid_in_index : ℕ → PlainType → Bool
rigid_in_index depth (array elem rpl named) = mentions_index (suc depth) elem
rigid_in_index depth t = false

-- a type as if no index name were written
abbrev pub unnamed : PlainType → PlainType
unnamed (array elem rpl named) = array (unnamed elem) rpl false
unnamed t = t

-- the same type: own indices are counted, so it doesn't matter how index names are spelt, or whether one that is
-- mentioned nowhere is written
abbrev pub SameType : PlainType → PlainType → Type 0
SameType a b = unnamed a ≡ unnamed b

-- the rows stand in the order of class numbers, one for a class at most
abbrev pub Ordered : List Super → Type 0
Ordered supers = AllPairs (λ row next. row.class < next.class) supers

-- the superclass that a row gives the class
abbrev pub superclass : List Super → ℕ → Option PlainType
superclass [] c = None
superclass (row ∷ rows) c = cond (row.class == c) (Some (plain_type row.parent)) (superclass rows c)

-- the superclass of a class type, with its region arguments put in
abbrev pub parent_of : List Super → PlainType → Option PlainType
parent_of supers (class c args) = option_map (type_with args) (superclass supers c)
parent_of supers t = None

-- what is reached in so many steps from a class type to its superclass
abbrev pub ancestor : List Super → ℕ → PlainType → Option PlainType
ancestor supers zero t = Some t
ancestor supers (suc n) t = option_and_then (parent_of supers) (ancestor supers n t)

-- no class type has more superclasses, one above the other, than there are rows
abbrev pub NoCycle : List Super → Type 0
NoCycle supers = (t : PlainType) → ancestor supers (suc (length supers)) t ≡ None

-- each path lies in the one at its place
abbrev pub all_within : List Rpl → List Rpl → Bool
all_within [] [] = true
all_within (a ∷ rs) (b ∷ ss) = within a b && all_within rs ss
all_within rs ss = false

-- types of one class, where each argument lies in the other's
abbrev pub class_within : PlainType → PlainType → Bool
class_within (class c rs) (class d ss) = (c == d) && all_within rs ss
class_within a b = false

-- the class type lies in the other, or its superclass does, or the superclass of that, at most so many steps up
abbrev pub below_class : List Super → ℕ → PlainType → PlainType → Bool
below_class supers zero a b = class_within a b
below_class supers (suc n) a b = class_within a b || option_map_or (λ t. below_class supers n t b) (parent_of supers a) false

-- the regions of the elements lie in the other's, and the element types are the same
abbrev pub ArrayWithin : PlainType → Rpl → PlainType → Rpl → Type 0
ArrayWithin elem rpl elem' rpl' = IsTrue (within rpl rpl') × SameType elem elem'

-- the first type is a subtype of the second; where there is no cycle, no chain of superclasses has more steps than
-- there are rows
abbrev pub Subtype : List Super → PlainType → PlainType → Type 0
Subtype supers int int = Unit {0}
Subtype supers boolean boolean = Unit {0}
Subtype supers void void = Unit {0}
Subtype supers null null = Unit {0}
Subtype supers null (class c args) = Unit {0}
Subtype supers null (array elem rpl named) = Unit {0}
Subtype supers (class c rs) (class d ss) = IsTrue (below_class supers (length supers) (class c rs) (class d ss))
Subtype supers (array elem rpl named) (array elem' rpl' named') = ArrayWithin elem rpl elem' rpl'
Subtype supers a b = ⊥
