-- Effects: when one covers another, when two interfere, lists of distinct effects, and marks.
use Rattle.std.specs.Prelude.{Bool, true, false, not, ◌&&◌, ◌||◌, cond, List, [], ◌∷◌, ◌++◌, map}
use Rattle.lang_base.specs.declared.elems.Elem.{Elem}
use Rattle.lang_base.specs.declared.region.Rpl.{Rpl}
use Rattle.lang_base.specs.declared.effect.Access.{Access}
use Rattle.lang_base.specs.declared.effect.Access.TheVariants.{Read, Write}
use Rattle.lang_base.specs.declared.effect.Effect.{Effect}
use Rattle.lang_base.specs.declared.effect.Constraint.{Constraint}
use Rattle.lang_base.specs.Regions.{same_elem, same_head, within}
use Rattle.lang_base.specs.Apart.{apart}

abbrev pub is_write : Access → Bool
is_write Read = false
is_write Write = true

-- a write covers both, a read covers reads alone
abbrev pub covers_access : Access → Access → Bool
covers_access Write b = true
covers_access Read b = not (is_write b)

abbrev pub same_access : Access → Access → Bool
same_access Read Read = true
same_access Write Write = true
same_access a b = false

-- the first effect covers the second: the path of the second lies in that of the first, a read covers reads
-- alone, and a marked effect covers marked ones alone
unfoldable pub covers_effect : Effect → Effect → Bool
covers_effect e f = within f.rpl e.rpl && covers_access e.access f.access && (not e.atomic || f.atomic)

-- two effects interfere unless both are reads or their paths are apart
unfoldable pub interferes : List Constraint → Effect → Effect → Bool
interferes given e f = (is_write e.access || is_write f.access) && not (apart given e.rpl f.rpl)

abbrev pub some_covers : List Effect → Effect → Bool
some_covers [] f = false
some_covers (e ∷ es) f = covers_effect e f || some_covers es f

-- each effect of the second list is covered by one of the first
abbrev pub set_covers : List Effect → List Effect → Bool
set_covers es [] = true
set_covers es (f ∷ fs) = some_covers es f && set_covers es fs

abbrev pub same_bool : Bool → Bool → Bool
same_bool true b = b
same_bool false b = not b

abbrev pub same_elems : List Elem → List Elem → Bool
same_elems [] [] = true
same_elems [] (y ∷ b) = false
same_elems (x ∷ a) [] = false
same_elems (x ∷ a) (y ∷ b) = same_elem x y && same_elems a b

abbrev pub same_rpl : Rpl → Rpl → Bool
same_rpl a b = same_head a.head b.head && same_elems a.elems b.elems

unfoldable pub same_effect : Effect → Effect → Bool
same_effect e f = same_access e.access f.access && same_bool e.atomic f.atomic && same_rpl e.rpl f.rpl

abbrev pub has_effect : List Effect → Effect → Bool
has_effect [] f = false
has_effect (e ∷ es) f = same_effect e f || has_effect es f

-- the list with the effect last, unless it is there already
abbrev pub added : List Effect → Effect → List Effect
added es f = cond (has_effect es f) es (es ++ f ∷ [])

-- the list with further effects added one after another
abbrev pub gathered : List Effect → List Effect → List Effect
gathered es [] = es
gathered es (f ∷ fs) = gathered (added es f) fs

abbrev pub with_mark : Bool → Effect → Effect
with_mark mark e = record e { atomic = mark }

-- the effects, each marked or each plain, each once and at its first place
abbrev pub all_marked : Bool → List Effect → List Effect
all_marked mark es = gathered [] (map (with_mark mark) es)
