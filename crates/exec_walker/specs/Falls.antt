-- A trap on its way up, and a branch that begins.
use Rattle.std.specs.Prelude.{◌≡◌, ◌<◌, ◌≤◌, ℕ, [], ◌∷◌, List, map, length, Option, Some, None, Result, Ok, Err}
use Rattle.lang_base.specs.declared.place.Place.{Place}
use Rattle.lang_base.specs.declared.value.Trap.{Trap}
use Rattle.lang_base.specs.declared.outcome.Limits.{Limits}
use Rattle.lang_meaning.specs.Actions.{Task}
use Rattle.lang_meaning.specs.Elision.{LocalRegion}
use Rattle.lang_meaning.specs.Elision.{Store as Elided}
use Rattle.exec_walker.specs.Walk as walk
use Rattle.exec_walker.specs.Walk.{falls, branch_level, shortened}
use Rattle.exec_walker.specs.declared.halt.Halt.{Halt}
use Rattle.exec_walker.specs.declared.level.Level.{Level}
use Rattle.exec_walker.specs.declared.waiting.Fork.{Fork}
use Rattle.exec_walker.specs.declared.walker.Falling.{Falling}
use Rattle.exec_walker.specs.declared.walker.Falling.TheVariants.{On, Comes}
use Rattle.exec_walker.specs.declared.walker.Walker.{Walker}
use Rattle.exec_walker.specs.States.{plain_level, construct, plain_waiting, rest_of, work_of, ComesTo}
use Rattle.exec_walker.specs.Stores.{Holds}

-- where a trap at this place went up past the innermost of what waited: it goes up from there as from here, or the walk has come
-- to where it leads
abbrev pub FallsOn : Limits → List walk.Waiting → Trap → Place → Elided → Result Falling Halt → Walker → Type 0
FallsOn L ws t p w (Ok (On u q)) k = (v : Elided) × (falls ws t p w ≡ falls (map plain_waiting k.waiting) u q v) × Holds L k.store v
FallsOn L ws t p w (Ok (Comes x)) k = ComesTo L (Ok x) k (falls ws t p w)
FallsOn L ws t p w (Err h) k = ComesTo L (Err h) k (falls ws t p w)

-- a task is the next of a construct in a body, and the others come after it
pub record IsNext (o : walk.Level) (c : Fork) (g : Level) (d : Fork) : Type 0 where
  pub task : Task ℕ LocalRegion
  pub first : rest_of c o ≡ task ∷ rest_of d o
  pub level : plain_level g ≡ branch_level (construct c o) task
  pub work : work_of d.running.now ≡ shortened task.work
  pub kept : construct d o ≡ construct c o

-- the body of the next branch, or none where there is none
abbrev pub Begins : walk.Level → Fork → Option Level → Fork → Type 0
Begins o c None d = (rest_of c o ≡ []) × (construct d o ≡ construct c o)
Begins o c (Some g) d = IsNext o c g d

-- where the trap goes on upwards, less waits, or no more
abbrev pub IsShorter : Walker → Result Falling Halt → Walker → Type 0
IsShorter old (Ok (On u q)) new = length new.waiting < length old.waiting
IsShorter old (Ok (Comes x)) new = Unit {0}
IsShorter old (Err h) new = Unit {0}

abbrev pub IsNoLonger : Walker → Result Falling Halt → Walker → Type 0
IsNoLonger old (Ok (On u q)) new = length new.waiting ≤ length old.waiting
IsNoLonger old (Ok (Comes x)) new = Unit {0}
IsNoLonger old (Err h) new = Unit {0}
