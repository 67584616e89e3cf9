-- The tasks that have rested in front of an entry.
use Rattle.std.specs.Prelude.{ℕ, List, [], Option, Some, None}
use Rattle.std.specs.Ordering.{nat_cmp}
use Rattle.std.specs.FinMap.{FinMap, get}
use Rattle.lang_base.specs.declared.effect.Effect.{Effect}
use Rattle.exec_locks.specs.Locks.{AllRoot}

-- by their numbers, with the effects with which they are to enter
abbrev pub Waiting : Type 0
Waiting = FinMap nat_cmp (List Effect)

abbrev pub wanted : Option (List Effect) → List Effect
wanted None = []
wanted (Some effects) = effects

abbrev pub AllWantRoots : Waiting → Type 0
AllWantRoots waits = (q : ℕ) → AllRoot (wanted (get waits q))
