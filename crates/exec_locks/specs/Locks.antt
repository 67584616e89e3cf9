-- The open blocks, and who stands inside them.
use Rattle.std.specs.Prelude.{◌≡◌, ℕ, ◌+◌, ◌-◌, ◌<◌, min, ◌⊎◌, Bool, true, false, not, ◌&&◌, ◌||◌, ◌==◌, cond, nat_lt, List, [], ◌∷◌, IsTrue, is_some, Option, Some, None}
use Rattle.std.specs.Ordering.{nat_cmp}
use Rattle.std.specs.FinMap.{FinMap, get, insert, remove}
use Rattle.lang_base.specs.declared.effect.Effect.{Effect}
use Rattle.lang_base.specs.declared.region.Head.TheVariants.{Root}
use Rattle.lang_base.specs.Effects.{interferes}
use Rattle.exec_locks.specs.declared.standing.Standing.{Standing}
use Rattle.exec_locks.specs.declared.standing.Standing.TheVariants.{Opener, Adopted}

-- the openers and the adopted tasks, by number
abbrev pub Standings : Type 0
Standings = FinMap nat_cmp Standing

abbrev pub some_interferes : Effect → List Effect → Bool
some_interferes e [] = false
some_interferes e (f ∷ fs) = interferes [] e f || some_interferes e fs

-- some effect of the first list interferes with some of the second
abbrev pub lists_interfere : List Effect → List Effect → Bool
lists_interfere [] fs = false
lists_interfere (e ∷ es) fs = some_interferes e fs || lists_interfere es fs

-- the paths begin at the root
abbrev pub AllRoot : List Effect → Type 0
AllRoot [] = Unit {0}
AllRoot (e ∷ es) = (e.rpl.head ≡ Root) × AllRoot es

abbrev pub effects_of : Option Standing → List Effect
effects_of (Some (Opener effects depth)) = effects
effects_of standing = []

-- the task is the opener of the block that another was adopted into
abbrev pub opened_for : Option Standing → ℕ → Bool
opened_for (Some (Adopted opener depth)) q = opener == q
opened_for standing q = false

abbrev pub block_interferes : Option Standing → List Effect → Bool
block_interferes (Some (Opener effects depth)) wants = lists_interfere wants effects
block_interferes standing wants = false

-- the task holds a block that interferes with what another task wants, and that this one doesn't stand inside
abbrev pub hinders : Standings → ℕ → List Effect → ℕ → Bool
hinders locks task wants q = not (q == task) && not (opened_for (get locks task) q) && block_interferes (get locks q) wants

-- the least task that hinders
pub record IsLeastHolder (locks : Standings) (task : ℕ) (wants : List Effect) (holder : ℕ) : Type 0 where
  pub itself : IsTrue (hinders locks task wants holder)
  pub least : (q : ℕ) → q < holder → hinders locks task wants q ≡ false

abbrev pub IsFree : Standings → ℕ → List Effect → Type 0
IsFree locks task wants = (q : ℕ) → hinders locks task wants q ≡ false

abbrev pub is_inside : Standings → ℕ → Bool
is_inside locks task = is_some (get locks task)

-- the task stands inside a block already, or nothing hinders it
abbrev pub MayEnter : Standings → ℕ → List Effect → Type 0
MayEnter locks task wants = IsTrue (is_inside locks task) ⊎ IsFree locks task wants

-- a count that stands still at its last value
abbrev pub next : ℕ → ℕ
next n = min (n + 1) 18446744073709551615

abbrev pub deepened : Standing → Standing
deepened (Opener effects depth) = Opener effects (next depth)
deepened (Adopted opener depth) = Adopted opener (next depth)

-- the task has one entry more, if it stands inside a block
abbrev pub deepened_from : Standings → ℕ → Option Standing → Standings
deepened_from locks task None = locks
deepened_from locks task (Some standing) = insert locks task (deepened standing)

abbrev pub entered_from : Standings → ℕ → List Effect → Option Standing → Standings
entered_from locks task wants None = insert locks task (Opener wants 1)
entered_from locks task wants (Some standing) = insert locks task (deepened standing)

-- the task has entered a block: its own, or one more inside that in which it stands
abbrev pub entered : Standings → ℕ → List Effect → Standings
entered locks task wants = entered_from locks task wants (get locks task)

-- the task has an entry open
abbrev pub HasEntry : Option Standing → Type 0
HasEntry None = ⊥
HasEntry (Some (Opener effects depth)) = Unit {0}
HasEntry (Some (Adopted opener depth)) = 0 < depth

-- the innermost entry of the task isn't the outermost one of an opener
abbrev pub is_inner : Standing → Bool
is_inner (Opener effects depth) = nat_lt 1 depth
is_inner (Adopted opener depth) = true

-- the next exit of the task is from the outermost entry of an opener
abbrev pub is_outermost : Option Standing → Bool
is_outermost None = false
is_outermost (Some standing) = not (is_inner standing)

abbrev pub shallower : Standing → Standing
shallower (Opener effects depth) = Opener effects (depth - 1)
shallower (Adopted opener depth) = Adopted opener (depth - 1)

abbrev pub exited_from : Standings → ℕ → Option Standing → Standings
exited_from locks task None = locks
exited_from locks task (Some standing) = cond (is_inner standing) (insert locks task (shallower standing)) (remove locks task)

-- the task has left its innermost entry: the outermost one of an opener releases its block
abbrev pub exited : Standings → ℕ → Standings
exited locks task = exited_from locks task (get locks task)

abbrev pub opener_of : ℕ → Option Standing → ℕ
opener_of by (Some (Adopted opener depth)) = opener
opener_of by standing = by

-- the task belongs to the block in which another stands
abbrev pub adopted : Standings → ℕ → ℕ → Standings
adopted locks by task = insert locks task (Adopted (opener_of by (get locks by)) 0)
