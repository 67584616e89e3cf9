-- What a schedule comes to, of a typed program.
use Rattle.std.specs.Prelude.{◌≡◌, ℕ, ℤ, List, [], length, Some}
use Rattle.lang_base.specs.declared.outcome.Limits.{Limits}
use Rattle.lang_typed.specs.Plain.{PlainProgram}
use Rattle.code_instrs.specs.declared.code.Code.{Code}
use Rattle.code_instrs.specs.Plain.{plain_code}
use Rattle.code_scheme.specs.Whole.{compiled}
use Rattle.exec_run.specs.history.Replaying.{HasMade, GoesWrong, GetsStuck}
use Rattle.exec_machine.specs.Keeping.{Played}
use Rattle.exec_run.specs.Run.{IsRecordOf, IsTooWide}
use Rattle.exec_run.specs.declared.recorded.Recorded.{Recorded}
use Rattle.exec_run.specs.declared.replaying.Replayed.{Replayed}
use Rattle.exec_run.specs.declared.replaying.Replayed.TheVariants.{Ran, Unfit, Halted}

-- the first numbers of a schedule can be made by the program's code, which leads to this machine
pub record HasFollowed (P : PlainProgram) (L : Limits) (argument : ℤ) (schedule : List ℕ) (count : ℕ) (p : Played) : Type 0 where
  pub code : Code
  pub is_code : plain_code code ≡ compiled P
  pub made : HasMade code L argument schedule count p

-- a run that has come out by exactly the schedule; or a number that can't be made, or is missing; or the run can't go on
pub data IsFollowed (P : PlainProgram) (L : Limits) (argument : ℤ) (schedule : List ℕ) : Replayed → Type 0 where
  ran : (r : Recorded) → IsRecordOf P L argument 0 r → r.record.machine.schedule ≡ schedule → IsFollowed P L argument schedule (Ran r)
  unfit : (at : ℕ) (p : Played) → HasFollowed P L argument schedule at p → GoesWrong schedule at p → IsFollowed P L argument schedule (Unfit at)
  halted : (at : ℕ) (p : Played) → HasFollowed P L argument schedule at p → GetsStuck schedule at p → IsFollowed P L argument schedule Halted
  too_wide : IsTooWide P → IsFollowed P L argument schedule Halted

-- the record of a machine that has finished, of which the caller made all events
pub record IsMadeBy (p : Played) (r : Recorded) : Type 0 where
  pub machine : r.record.machine ≡ p
  pub came : p.outcome ≡ Some r.outcome
  pub no_shares : r.record.shares ≡ []
  pub own : r.record.own ≡ length p.schedule
