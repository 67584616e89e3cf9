-- A list of effects by groups: for an effect, those of its group and those that belong to none.
use Rattle.std.specs.Prelude.{◌≡◌, Bool, true, false, List, [], filter, Option, Some, None, unwrap_or}
use Rattle.std.specs.Borrow.{Bor}
use Rattle.indexmap.specs.IndexMap.{IndexMap, get_by}
use Rattle.lang_base.specs.declared.elems.Elem.{Elem}
use Rattle.lang_base.specs.declared.effect.Effect.{Effect}
use Rattle.region_interfere.specs.declared.key.Key.{Key}
use Rattle.region_interfere.specs.Groups.{key_of, is_key}
use Rattle.lang_base.specs.Keys.{elems_eq}

abbrev pub is_none : Option (List Elem) → Bool
is_none None = true
is_none (Some k) = false

-- the effect belongs to the group with these elements in common
abbrev pub is_in : Key → List Elem → Effect → Bool
is_in key q f = is_key (key_of key f) q

-- the effect belongs to no group
abbrev pub is_in_none : Key → Effect → Bool
is_in_none key f = is_none (key_of key f)

-- the effects of the group with these elements in common; all of them without any
abbrev pub in_group : Key → Option (List Elem) → List Effect → List Effect
in_group key None fs = fs
in_group key (Some q) fs = filter (is_in key q) fs

-- the effects that belong to no group, unless all are taken already
abbrev pub in_no_group : Key → Option (List Elem) → List Effect → List Effect
in_no_group key None fs = []
in_no_group key (Some q) fs = filter (is_in_none key) fs

-- the effects that are kept under these elements
abbrev pub group_of : {S : Type 0} → IndexMap (Bor (List Elem)) (List Effect) S → List Elem → List Effect
group_of keyed q = unwrap_or (get_by (λ k. elems_eq q k.now) keyed) []

-- the effects in their groups, and those that belong to none
pub record Sorted {S : Type 0} (key : Key) (keyed : IndexMap (Bor (List Elem)) (List Effect) S) (unkeyed fs : List Effect) : Type 0 where
  pub groups : (q : List Elem) → group_of keyed q ≡ filter (is_in key q) fs
  pub rest : unkeyed ≡ filter (is_in_none key) fs
