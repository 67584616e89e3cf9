-- Instructions of values and jumps: they touch nothing but the stack and the slots of their level.
use Rattle.std.specs.Prelude.{◌≡◌, ℕ, List, map, Bool, true, false, Some, slice_get}
use Rattle.lang_base.specs.declared.place.Place.{Place}
use Rattle.lang_base.specs.declared.value.Trap.TheVariants as trap
use Rattle.code_instrs.specs.declared.instr.Instr.{Instr}
use Rattle.code_instrs.specs.declared.instr.Instr.TheVariants as i
use Rattle.code_instrs.specs.Machine.{On, Off, Stand, Goes, Ticks, Stuck}
use Rattle.code_instrs.specs.Machine as machine
use Rattle.code_instrs.specs.Plain.{PlainCode, Line, body_at}
use Rattle.exec_task.specs.declared.action.Ending.TheVariants as ending
use Rattle.exec_task.specs.declared.local_step.LocalStep.{LocalStep}
use Rattle.exec_task.specs.declared.local_step.LocalStep.TheVariants as local_step
use Rattle.exec_task.specs.declared.task.Level.{Level}
use Rattle.exec_task.specs.declared.task.Standing.TheVariants as standing
use Rattle.exec_task.specs.declared.task.Task.{Task}
use Rattle.exec_task.specs.Tasks.{plain_level, plain_ending}

-- what it comes to, wherever it stands and whatever the callers are; unless it goes on, the level is as it was
abbrev pub StepsLocally : (Place → List (machine.Level ℕ (ℕ × ℕ)) → Stand ℕ (ℕ × ℕ)) → Level → LocalStep → Level → Type 0
StepsLocally o g local_step.Goes h = (at : Place) (fs : List Level) → o at (map plain_level fs) ≡ Goes (On (plain_level h) (map plain_level fs))
StepsLocally o g local_step.Ticks h = (at : Place) (fs : List Level) → o at (map plain_level fs) ≡ Ticks (On (plain_level h) (map plain_level fs))
StepsLocally o g local_step.Divides h = ((at : Place) (fs : List Level) → o at (map plain_level fs) ≡ Goes (Off (plain_ending (ending.Trapped trap.Divide at)))) × (h ≡ g)
StepsLocally o g local_step.Stuck h = ((at : Place) (fs : List Level) → o at (map plain_level fs) ≡ Stuck) × (h ≡ g)
StepsLocally o g local_step.Full h = h ≡ g
StepsLocally o g local_step.Other h = h ≡ g

-- whether an instruction is one of values and jumps
abbrev pub is_own : Instr → Bool
is_own (i.Int k) = true
is_own (i.Bool b) = true
is_own i.Null = true
is_own (i.Load k) = true
is_own (i.Store k) = true
is_own i.Pop = true
is_own (i.Unary o) = true
is_own (i.Binary o) = true
is_own (i.Jump l) = true
is_own (i.Unless l) = true
is_own i.Turn = true
is_own x = false

-- such an instruction leaves its level in its body
pub record IsOwn (old : Level) (p : LocalStep) (new : Level) : Type 0 where
  pub body : new.body ≡ old.body
  pub own : p ≡ local_step.Other → ⊥

-- where a task is at an instruction, it is another one
abbrev pub IsAtOther : PlainCode → Task → Type 0
IsAtOther C t = t.standing ≡ standing.At → (l : Line) → Some l ≡ slice_get (body_at C t.level.body).lines t.level.at → is_own l.instr ≡ false
