-- How a run of a typed program comes out.
use Rattle.std.specs.Prelude.{◌≡◌, ◌+◌, ℕ, ℤ, All, [], length, sum, Option, Some, None}
use Rattle.lang_base.specs.declared.outcome.Limits.{Limits}
use Rattle.lang_base.specs.declared.outcome.Outcome.{Outcome}
use Rattle.lang_typed.specs.Plain.{PlainProgram}
use Rattle.code_instrs.specs.declared.code.Code.{Code}
use Rattle.code_instrs.specs.Plain.{plain_code}
use Rattle.code_scheme.specs.Whole.{compiled}
use Rattle.exec_task.specs.Halts.{IsWidthBounded}
use Rattle.exec_machine.specs.declared.halted.Halted.TheVariants.{Stuck}
use Rattle.exec_machine.specs.Keeping.{Played, IsReplayed, HaltsGreedily, GreedilyOn, HasEnded}
use Rattle.exec_run.specs.declared.workers.working.Worked.{Worked}
use Rattle.exec_run.specs.declared.recorded.Recorded.{Recorded}

-- a machine on the program's code, on the argument of `main`, within limits; it is where its schedule leads
pub record IsRunOf (P : PlainProgram) (L : Limits) (argument : ℤ) (p : Played) : Type 0 where
  pub is_code : plain_code p.code ≡ compiled P
  pub limits : p.limits ≡ L
  pub is_argument : p.argument ≡ argument
  pub replayed : IsReplayed p

-- what the greatest ready task does next can't be done; or no task is ready, or more events were made than are in a run
pub data CannotGoOn (p : Played) : Type 0 where
  stuck : HaltsGreedily p Stuck → CannotGoOn p
  unfinished : p.outcome ≡ None → HasEnded p → CannotGoOn p

-- the code of the program has a fork of more branches than a value counts
pub record IsTooWide (P : PlainProgram) : Type 0 where
  pub code : Code
  pub is_code : plain_code code ≡ compiled P
  pub wide : All IsWidthBounded code.sites → ⊥

-- there is a moment of a run at which it can't go on, or no run at all
pub data HasNoRun (P : PlainProgram) (L : Limits) (argument : ℤ) : Type 0 where
  halted : (p : Played) → IsRunOf P L argument p → CannotGoOn p → HasNoRun P L argument
  never_begun : IsTooWide P → HasNoRun P L argument

-- a run from its start on in which at each step the task that began last of those that are ready has gone on
pub record IsElision (P : PlainProgram) (L : Limits) (argument : ℤ) (p : Played) : Type 0 where
  pub is_run : IsRunOf P L argument p
  pub start : Played
  pub nothing : start.schedule ≡ []
  pub steps : GreedilyOn start p

-- how it comes out, or that there is none
pub data ComesOut (P : PlainProgram) (L : Limits) (argument : ℤ) : Option Outcome → Type 0 where
  finished : (p : Played) (o : Outcome) → IsElision P L argument p → p.outcome ≡ Some o → ComesOut P L argument (Some o)
  not_at_all : HasNoRun P L argument → ComesOut P L argument None

-- a run that has come out, made by so many workers and the caller
pub record IsRecordOf (P : PlainProgram) (L : Limits) (argument : ℤ) (workers : ℕ) (r : Recorded) : Type 0 where
  pub is_run : IsRunOf P L argument r.record.machine
  pub came : r.record.machine.outcome ≡ Some r.outcome
  pub seats : length r.record.shares ≡ workers
  pub counted : length r.record.machine.schedule ≡ sum r.record.shares + r.record.own

pub data IsRun (P : PlainProgram) (L : Limits) (argument : ℤ) (workers : ℕ) : Option Recorded → Type 0 where
  recorded_so : (r : Recorded) → IsRecordOf P L argument workers r → IsRun P L argument workers (Some r)
  no_record : HasNoRun P L argument → IsRun P L argument workers None

-- a machine has gone on in the run that it made
pub record IsSameRun (old new : Played) : Type 0 where
  pub code : new.code ≡ old.code
  pub limits : new.limits ≡ old.limits
  pub argument : new.argument ≡ old.argument
  pub replayed : IsReplayed new

-- a machine that has made no event of a run, or that there is none
pub data IsOpened (P : PlainProgram) (L : Limits) (argument : ℤ) : Option Played → Type 0 where
  opened : (p : Played) → IsRunOf P L argument p → p.schedule ≡ [] → IsOpened P L argument (Some p)
  too_wide : IsTooWide P → IsOpened P L argument None

-- what workers left is finished by the caller, or can't be
pub data IsFinished (w : Worked) : Option Recorded → Type 0 where
  finished_so : (r : Recorded) → IsSameRun w.machine r.record.machine → r.record.machine.outcome ≡ Some r.outcome → r.record.shares ≡ w.shares
      → length r.record.machine.schedule ≡ sum r.record.shares + r.record.own → IsFinished w (Some r)
  unfinished_so : (p : Played) → IsSameRun w.machine p → CannotGoOn p → IsFinished w None
