-- The events that a schedule makes, of a typed program.
use Rattle.std.specs.Prelude.{◌≡◌, ℕ, ℤ, List, reverse, IsSome}
use Rattle.lang_base.specs.declared.outcome.Limits.{Limits}
use Rattle.lang_typed.specs.Plain.{PlainProgram}
use Rattle.code_instrs.specs.declared.code.Code.{Code}
use Rattle.code_instrs.specs.Plain.{plain_code}
use Rattle.code_scheme.specs.Whole.{compiled}
use Rattle.exec_machine.specs.declared.made_event.MadeEvent.{MadeEvent}
use Rattle.exec_machine.specs.Events.{Makes}
use Rattle.exec_machine.specs.Keeping.{Played}
use Rattle.exec_machine.specs.Replay.{Moment}
use Rattle.exec_run.specs.history.Replaying.{GoesWrong, GetsStuck}
use Rattle.exec_run.specs.Replays.{HasFollowed}
use Rattle.exec_run.specs.Run.{IsTooWide}
use Rattle.exec_run.specs.declared.showing.Shown.{Shown}
use Rattle.exec_run.specs.declared.showing.Shown.TheVariants.{Made, Unfit, Halted}

-- the events of a run that has come out by exactly the schedule; or a number that can't be made, or is missing; or the run can't go on
pub data AreEvents (P : PlainProgram) (L : Limits) (argument : ℤ) (schedule : List ℕ) : Shown → Type 0 where
  made : (code : Code) (xs : List MadeEvent) (m : Moment) → plain_code code ≡ compiled P → Makes code L argument (reverse schedule) (reverse xs) m → IsSome m.outcome
      → AreEvents P L argument schedule (Made xs)
  unfit : (at : ℕ) (p : Played) → HasFollowed P L argument schedule at p → GoesWrong schedule at p → AreEvents P L argument schedule (Unfit at)
  halted : (at : ℕ) (p : Played) → HasFollowed P L argument schedule at p → GetsStuck schedule at p → AreEvents P L argument schedule Halted
  too_wide : IsTooWide P → AreEvents P L argument schedule Halted
