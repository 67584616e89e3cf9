-- When effects of open blocks interfere: by the rules by which region paths are apart, on regions without parameters and variables.
use Rattle.std.specs.Prelude.{ℕ, Bool, true, false, not, ◌&&◌, ◌||◌, ◌==◌, nat_lt, List, [], ◌∷◌, length, reverse, count_by}
use Rattle.std.specs.Ordering.{int_eq}
use Rattle.lang_base.specs.Effects.{is_write}
use Rattle.runs_theory.specs.Actions.{Rule}
use Rattle.runs_theory.specs.Objects.{same_path, LocalRegion, Made, Unmade, Part, Region_name, Number, Local, Own_index, Any_index, Any_parts, Region, Effect}

abbrev pub same_local : LocalRegion → LocalRegion → Bool
same_local (Made p m) (Made q n) = same_path p q && (m == n)
same_local (Unmade k) (Unmade l) = k == l
same_local (Made p m) (Unmade l) = false
same_local (Unmade k) (Made q n) = false

abbrev pub is_star : Part → Bool
is_star Any_parts = true
is_star (Region_name n) = false
is_star (Number k) = false
is_star (Local r) = false
is_star Own_index = false
is_star Any_index = false

-- a whole number, or what stands for one
abbrev pub is_index : Part → Bool
is_index (Number k) = true
is_index Own_index = true
is_index Any_index = true
is_index (Region_name n) = false
is_index (Local r) = false
is_index Any_parts = false

abbrev pub is_other_name : ℕ → Part → Bool
is_other_name m (Region_name n) = not (m == n)
is_other_name m (Local s) = true
is_other_name m (Number k) = true
is_other_name m Own_index = true
is_other_name m Any_index = true
is_other_name m Any_parts = false

abbrev pub is_other_local : LocalRegion → Part → Bool
is_other_local r (Local s) = not (same_local r s)
is_other_local r (Region_name n) = true
is_other_local r (Number k) = true
is_other_local r Own_index = true
is_other_local r Any_index = true
is_other_local r Any_parts = false

-- what fits an index
abbrev pub is_name : Part → Bool
is_name (Region_name n) = true
is_name (Local s) = true
is_name (Number k) = false
is_name Own_index = false
is_name Any_index = false
is_name Any_parts = false

-- two elements that fit no common element; `*` is distinct from nothing
abbrev pub distinct : Part → Part → Bool
distinct (Region_name m) y = is_other_name m y
distinct (Local r) y = is_other_local r y
distinct (Number j) (Number k) = not (int_eq j k)
distinct (Number j) y = is_name y
distinct Own_index y = is_name y
distinct Any_index y = is_name y
distinct Any_parts y = false

-- at some position before the first `*` of either region the two elements are distinct
abbrev pub apart_front : Region → Region → Bool
apart_front [] b = false
apart_front (x ∷ a) [] = false
apart_front (x ∷ a) (y ∷ b) = not (is_star x || is_star y) && (distinct x y || apart_front a b)

-- how many elements aren't `*`
abbrev pub solid : Region → ℕ
solid a = count_by (λ x. not (is_star x)) a

-- the first has no `*`, and the second more elements that aren't `*`
abbrev pub shorter : Region → Region → Bool
shorter a b = (solid a == length a) && nat_lt (length a) (solid b)

-- from the front, by their lengths, or from the back
abbrev pub apart : Region → Region → Bool
apart a b = apart_front a b || ((shorter a b || shorter b a) || apart_front (reverse a) (reverse b))

-- two effects interfere unless both are reads or their regions are apart
abbrev pub interferes : Effect → Effect → Bool
interferes e f = (is_write e.access || is_write f.access) && not (apart e.region f.region)

abbrev pub some_interferes : Effect → List Effect → Bool
some_interferes e [] = false
some_interferes e (f ∷ fs) = interferes e f || some_interferes e fs

abbrev pub lists_interfere : List Effect → List Effect → Bool
lists_interfere [] fs = false
lists_interfere (e ∷ es) fs = some_interferes e fs || lists_interfere es fs

-- a block may be entered while another is open where no effect of the one interferes with one of the other
abbrev pub lets : Rule
lets held entered = not (lists_interfere held entered)
