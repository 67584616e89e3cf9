-- Effects of branches by groups: elements of a path, such that paths that differ in them are apart.
use Rattle.std.specs.Prelude.{◌≡◌, ℕ, ◌-◌, ◌<◌, Bool, true, false, not, ◌&&◌, ◌||◌, cond, ◌==◌, IsTrue, List, [], ◌∷◌, length, take, drop, All, slice_index_or, Option, Some}
use Rattle.std.specs.Prelude.{None, unwrap_or}
use Rattle.std.specs.Borrow.{Bor}
use Rattle.indexmap.specs.IndexMap.{IndexMap, get_by}
use Rattle.lang_base.specs.declared.elems.Elem.{Elem}
use Rattle.lang_base.specs.declared.effect.Access.{Access}
use Rattle.lang_base.specs.declared.effect.Effect.{Effect}
use Rattle.lang_base.specs.Regions.{same_head}
use Rattle.lang_base.specs.Effects.{is_write}
use Rattle.lang_base.specs.Matching.{is_concrete, all_concrete}
use Rattle.lang_base.specs.Keys.{elems_eq}
use Rattle.region_interfere.specs.declared.seen.Seen.{Seen}
use Rattle.region_interfere.specs.declared.seen.Seen.TheVariants.{Nobody, One, Many}
use Rattle.region_interfere.specs.declared.seen.Group.{Group}
use Rattle.region_interfere.specs.declared.key.Key.{Key}
use Rattle.region_interfere.specs.declared.key.Key.TheVariants.{First, Last, Whole}
use Rattle.region_interfere.specs.declared.grouping.Groups.{Groups}

abbrev pub seen_with : Seen → ℕ → Seen
seen_with Nobody j = One j
seen_with (One k) j = cond (k == j) (One k) Many
seen_with Many j = Many

-- the branch is among them
abbrev pub seen : Seen → ℕ → Bool
seen Nobody j = false
seen (One k) j = k == j
seen Many j = true

-- another branch is among them
abbrev pub has_other : Seen → ℕ → Bool
has_other Nobody j = false
has_other (One k) j = not (k == j)
has_other Many j = true

abbrev pub no_group : Group
no_group = record { any = Nobody; writers = Nobody }

abbrev pub group_with : Group → ℕ → Access → Group
group_with g j access = record { any = seen_with g.any j; writers = cond (is_write access) (seen_with g.writers j) g.writers }

-- the group has an effect of the branch, and a write of it if this is one
abbrev pub group_shows : Group → ℕ → Access → Bool
group_shows g j access = seen g.any j && (not (is_write access) || seen g.writers j)

abbrev pub group_meets : Group → ℕ → Access → Bool
group_meets g j access = cond (is_write access) (has_other g.any j) (has_other g.writers j)

-- a list of one element that stands for itself alone
abbrev pub fixed_one : List Elem → Option (List Elem)
fixed_one [] = None
fixed_one (x ∷ []) = cond (is_concrete x) (Some (x ∷ [])) None
fixed_one (x ∷ y ∷ r) = None

-- the first element, the last one or all of them, where these stand for themselves
abbrev pub key_of : Key → Effect → Option (List Elem)
key_of (First head) e = cond (same_head e.rpl.head head) (fixed_one (take 1 e.rpl.elems)) None
key_of Last e = fixed_one (drop (length e.rpl.elems - 1) e.rpl.elems)
key_of (Whole head) e = cond (same_head e.rpl.head head && all_concrete e.rpl.elems) (Some e.rpl.elems) None

abbrev pub keyed_group : {S : Type 0} → IndexMap (Bor (List Elem)) Group S → List Elem → Group
keyed_group keyed q = unwrap_or (get_by (λ k. elems_eq q k.now) keyed) no_group

-- the group of the effects with these elements; without any, that of the effects that have none
abbrev pub group_at : Groups → Option (List Elem) → Group
group_at g None = g.unkeyed
group_at g (Some q) = keyed_group g.keyed q

-- all effects show this one of the branch, and so does its group
abbrev pub shows : Groups → ℕ → Effect → Bool
shows g j f = group_shows g.all j f.access && group_shows (group_at g (key_of g.key f)) j f.access

abbrev pub is_key : Option (List Elem) → List Elem → Bool
is_key None q = false
is_key (Some k) q = elems_eq k q

abbrev pub with_unkeyed : Option (List Elem) → Group → ℕ → Access → Group
with_unkeyed None g j access = group_with g j access
with_unkeyed (Some k) g j access = g

-- an effect of a branch is noted, and nothing else has changed
pub record Noted (old new : Groups) (j : ℕ) (e : Effect) : Type 0 where
  pub key : new.key ≡ old.key
  pub all : new.all ≡ group_with old.all j e.access
  pub unkeyed : new.unkeyed ≡ with_unkeyed (key_of old.key e) old.unkeyed j e.access
  pub keyed : (q : List Elem) →
      keyed_group new.keyed q ≡ cond (is_key (key_of old.key e) q) (group_with (keyed_group old.keyed q) j e.access) (keyed_group old.keyed q)

-- what was shown is shown, and so are these effects of the branch
pub record Shows (old new : Groups) (j : ℕ) (es : List Effect) : Type 0 where
  pub key : new.key ≡ old.key
  pub kept : (i : ℕ) (f : Effect) → IsTrue (shows old i f) → IsTrue (shows new i f)
  pub there : All (λ f. IsTrue (shows new j f)) es

-- the effects of the first branches are shown
abbrev pub ShowsFirst : Groups → List (List Effect) → ℕ → Type 0
ShowsFirst g branches n = (j : ℕ) (d : List Effect) → j < n → All (λ f. IsTrue (shows g j f)) (slice_index_or branches j d)

abbrev pub ShowsAll : Groups → List (List Effect) → Type 0
ShowsAll g branches = ShowsFirst g branches (length branches)

-- an effect of the branch with these elements meets none of another branch
abbrev pub alone_at : Option (List Elem) → Groups → ℕ → Access → Bool
alone_at None g j access = not (group_meets g.all j access)
alone_at (Some k) g j access = not (group_meets g.unkeyed j access) && not (group_meets (keyed_group g.keyed k) j access)

abbrev pub alone : Groups → ℕ → Effect → Bool
alone g j e = alone_at (key_of g.key e) g j e.access
