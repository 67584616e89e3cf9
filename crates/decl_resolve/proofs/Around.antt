-- Index names around a place, over plain variables.
use Rattle.std.proofs.Common.{◌≡◌, ◌∙◌, ℕ, ◌+◌, ◌-◌, Bool, true, false, List, [], ◌∷◌, ◌++◌, map, drop, length, cond, Option, Some, None, refl, ap, sym, arith, length-drop}
use Rattle.std.specs.List.{position_from}
use Rattle.std.specs.Option.{option_or}
use Rattle.syntax_tree.specs.declared.region.Named.{Named}
use Rattle.syntax_tree.specs.declared.region.Suffix.{Suffix}
use Rattle.decl_resolve.specs.Index.{PlainIndex, is_named, names_around}

-- the first suffix of that index name, counted on from a number; else the array outside all of them
named_after : (name : ℕ) (made : Option Named) (suffixes : List Suffix) (at : ℕ) → position_from (is_named name) at (map (λ s. s.index) suffixes ++ made ∷ [])
    ≡ option_or (position_from (λ s. is_named name s.index) at suffixes) (cond (is_named name made) (Some (at + length suffixes)) None)
named_after name made [] at = ap (λ n. cond (is_named name made) (Some n) None) (let e : at ≡ at + 0 = omega arith in e)
named_after name made (s ∷ suffixes) at =
    ap (λ o. cond (is_named name s.index) (Some at) o)
    (named_after name made suffixes (at + 1) ∙ ap (λ n. option_or (position_from (λ s. is_named name s.index) (at + 1) suffixes) (cond (is_named name made) (Some n) None)) (let e : at + 1 + length suffixes ≡ at + length (s ∷ suffixes) = omega arith in e))
    ∙ or_inside (is_named name s.index) (position_from (λ s. is_named name s.index) (at + 1) suffixes) (cond (is_named name made) (Some (at + length (s ∷ suffixes))) None)
  where
    or_inside : (b : Bool) (o other : Option ℕ) → cond b (Some at) (option_or o other) ≡ option_or (cond b (Some at) o) other
    or_inside true o other = refl
    or_inside false o other = refl

-- the depth of a name around a place: that of the first suffix from the place on, else that of the created array
pub depth_found : (around : PlainIndex) (name : ℕ) → position_from (is_named name) 0 (names_around around)
    ≡ option_or (position_from (λ s. is_named name s.index) 0 (drop around.inside around.suffixes)) (cond (is_named name around.made) (Some (length around.suffixes - around.inside)) None)
depth_found around name =
    named_after name around.made (drop around.inside around.suffixes) 0
    ∙ ap (λ n. option_or (position_from (λ s. is_named name s.index) 0 (drop around.inside around.suffixes)) (cond (is_named name around.made) (Some n) None))
    (let e : 0 + length (drop around.inside around.suffixes) ≡ length around.suffixes - around.inside = omega (arith, length-drop around.inside around.suffixes) in e)

-- a suffix has it
pub depth_of_suffix : (around : PlainIndex) (name depth : ℕ) (found : Option ℕ) → found ≡ position_from (λ s. is_named name s.index) 0 (drop around.inside around.suffixes) → found ≡ Some depth
    → Some depth ≡ position_from (is_named name) 0 (names_around around)
depth_of_suffix around name depth found at is =
    sym (depth_found around name ∙ ap (λ o. option_or o (cond (is_named name around.made) (Some (length around.suffixes - around.inside)) None)) (sym at ∙ is))

-- none has it: it is that of the created array, or there is none
pub depth_of_made : (around : PlainIndex) (name : ℕ) (found : Option ℕ) (b : Bool) → found ≡ position_from (λ s. is_named name s.index) 0 (drop around.inside around.suffixes) → found ≡ None
    → is_named name around.made ≡ b → cond b (Some (length around.suffixes - around.inside)) None ≡ position_from (is_named name) 0 (names_around around)
depth_of_made around name found b at none is =
    sym (depth_found around name ∙ ap (λ o. option_or o (cond (is_named name around.made) (Some (length around.suffixes - around.inside)) None)) (sym at ∙ none)
    ∙ ap (λ yes. cond yes (Some (length around.suffixes - around.inside)) None) is)
