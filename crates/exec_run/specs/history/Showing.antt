-- The events that a replay of a schedule makes.
use Rattle.std.specs.Prelude.{ℕ, ℤ, List, reverse, IsSome}
use Rattle.lang_base.specs.declared.outcome.Limits.{Limits}
use Rattle.code_instrs.specs.declared.code.Code.{Code}
use Rattle.exec_machine.specs.declared.made_event.MadeEvent.{MadeEvent}
use Rattle.exec_machine.specs.Events.{Makes}
use Rattle.exec_machine.specs.Replay.{Moment}

-- a schedule makes these events, and the run has come out
pub record Shows (code : Code) (limits : Limits) (argument : ℤ) (schedule : List ℕ) (xs : List MadeEvent) : Type 0 where
  pub moment : Moment
  pub makes : Makes code limits argument (reverse schedule) (reverse xs) moment
  pub finished : IsSome moment.outcome
