-- Region paths that have no region in common: distinct elements, and apart by four rules.
use Rattle.std.specs.Prelude.{ℕ, Bool, true, false, not, ◌&&◌, ◌||◌, ◌==◌, nat_lt, List, [], ◌∷◌, length, reverse, count_by}
use Rattle.std.specs.Ordering.{int_eq}
use Rattle.lang_base.specs.declared.elems.Elem.{Elem}
use Rattle.lang_base.specs.declared.elems.Elem.TheVariants.{Name, At, Local}
use Rattle.lang_base.specs.declared.elems.Index.{Index}
use Rattle.lang_base.specs.declared.elems.Index.TheVariants.{Literal, Variable, Renamed}
use Rattle.lang_base.specs.declared.region.Rpl.{Rpl}
use Rattle.lang_base.specs.declared.effect.Constraint.{Constraint}
use Rattle.lang_base.specs.Regions.{is_star, is_index, same_head, is_root, within}

-- two indices that are never one number: different literals, and a variable and its renamed copy
abbrev pub distinct_index : Index → Index → Bool
distinct_index (Literal j) (Literal k) = not (int_eq j k)
distinct_index (Variable v) (Renamed w) = v == w
distinct_index (Renamed v) (Variable w) = v == w
distinct_index x y = false

-- two elements that fit no common element: different names or local regions, indices that are never one number, or
-- two of different kinds; `*` is distinct from nothing
abbrev pub distinct : Elem → Elem → Bool
distinct (Name m) (Name n) = not (m == n)
distinct (Name m) (Local c d) = true
distinct (Name m) y = is_index y
distinct (Local a b) (Local c d) = not ((a == c) && (b == d))
distinct (Local a b) (Name n) = true
distinct (Local a b) y = is_index y
distinct (At x) (At y) = distinct_index x y
distinct x (Name n) = is_index x
distinct x (Local c d) = is_index x
distinct x y = false

-- at some position before the first `*` of either list the two elements are distinct
abbrev pub apart_front : List Elem → List Elem → Bool
apart_front [] b = false
apart_front (x ∷ a) [] = false
apart_front (x ∷ a) (y ∷ b) = not (is_star x || is_star y) && (distinct x y || apart_front a b)

-- how many elements aren't `*`
abbrev pub solid : List Elem → ℕ
solid a = count_by (λ x. not (is_star x)) a

-- the first list has no `*`, and the second more elements that aren't `*`
abbrev pub shorter : List Elem → List Elem → Bool
shorter a b = (solid a == length a) && nat_lt (length a) (solid b)

abbrev pub apart_from_left : Rpl → Rpl → Bool
apart_from_left a b = same_head a.head b.head && apart_front a.elems b.elems

-- the length of the first tells them apart, where its head says where the count begins
abbrev pub apart_as_shorter : Rpl → Rpl → Bool
apart_as_shorter a b = (same_head a.head b.head || is_root a.head) && shorter a.elems b.elems

abbrev pub apart_by_length : Rpl → Rpl → Bool
apart_by_length a b = apart_as_shorter a b || apart_as_shorter b a

-- from their last elements back, before a `*` or the end of a list, some pair is distinct
abbrev pub apart_from_right : Rpl → Rpl → Bool
apart_from_right a b = apart_front (reverse a.elems) (reverse b.elems)

-- the paths lie one in each side of a constraint
abbrev pub apart_by : Constraint → Rpl → Rpl → Bool
apart_by c a b = (within a c.left && within b c.right) || (within a c.right && within b c.left)

abbrev pub apart_by_some : List Constraint → Rpl → Rpl → Bool
apart_by_some [] a b = false
apart_by_some (c ∷ cs) a b = apart_by c a b || apart_by_some cs a b

-- the two paths can never name one region, where the constraints hold
unfoldable pub apart : List Constraint → Rpl → Rpl → Bool
apart given a b = apart_from_left a b || apart_by_length a b || apart_from_right a b || apart_by_some given a b
