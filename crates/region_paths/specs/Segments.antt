-- The parts of a path between its `*`, each a segment: where one fits in a list of elements.
use Rattle.std.specs.Prelude.{◌≡◌, suc, Bool, true, false, not, ◌&&◌, cond, ◌==◌, List, [], ◌∷◌, drop, length, Option, Some, None}
use Rattle.lang_base.specs.declared.elems.Elem.{Elem}
use Rattle.lang_base.specs.Regions.{is_star, is_local, elem_within}

abbrev pub NoStar : List Elem → Type 0
NoStar [] = Unit {0}
NoStar (y ∷ s) = (is_star y ≡ false) × NoStar s

-- the list begins with elements that lie one by one in those of the segment
abbrev pub begins_within : List Elem → List Elem → Bool
begins_within [] l = true
begins_within (y ∷ s) [] = false
begins_within (y ∷ s) (x ∷ l) = elem_within x y && begins_within s l

-- what is left after those elements
abbrev pub following : List Elem → List Elem → Option (List Elem)
following s l = cond (begins_within s l) (Some (drop (length s) l)) None

-- what is left after the first place where the segment fits, with no local region before that place
abbrev pub after_first : List Elem → List Elem → Option (List Elem)
after_first s [] = following s []
after_first s (x ∷ l) = cond (begins_within s (x ∷ l)) (Some (drop (length s) (x ∷ l))) (cond (is_local x) None (after_first s l))

-- the segment fits at the end of the list, with no local region before
abbrev pub ends_within : List Elem → List Elem → Bool
ends_within s [] = length s == 0
ends_within s (x ∷ l) = cond (length s == suc (length l)) (begins_within s (x ∷ l)) (not (is_local x) && ends_within s l)
