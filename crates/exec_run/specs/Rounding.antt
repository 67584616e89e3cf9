-- How a run of a typed program comes out that is made in rounds.
use Rattle.std.specs.Prelude.{◌≡◌, ℕ, ℤ, [], length, replicate, Option, Some, None}
use Rattle.lang_base.specs.declared.outcome.Limits.{Limits}
use Rattle.lang_typed.specs.Plain.{PlainProgram}
use Rattle.exec_machine.specs.declared.halted.Halted.TheVariants.{Stuck}
use Rattle.exec_machine.specs.Keeping.{Played, HasEnded}
use Rattle.exec_run.specs.rounds.Rounds.{RoundsOn, RoundsBreakOff}
use Rattle.exec_run.specs.Run.{IsRunOf, IsTooWide}
use Rattle.exec_run.specs.declared.recorded.Recorded.{Recorded}

-- a run from its start on that was made by whole rounds
pub record IsByRounds (P : PlainProgram) (L : Limits) (argument : ℤ) (p : Played) : Type 0 where
  pub is_run : IsRunOf P L argument p
  pub start : Played
  pub nothing : start.schedule ≡ []
  pub count : ℕ
  pub rounds : RoundsOn start count p

-- a run from its start on, with a round in which a task can't make its next event
pub record IsBrokenOff (P : PlainProgram) (L : Limits) (argument : ℤ) (p : Played) : Type 0 where
  pub is_run : IsRunOf P L argument p
  pub start : Played
  pub nothing : start.schedule ≡ []
  pub broken : RoundsBreakOff start p Stuck

-- the rounds lead to a moment at which the run can't go on, or there is no run at all
pub data HasNoRounds (P : PlainProgram) (L : Limits) (argument : ℤ) : Type 0 where
  broken_off : (p : Played) → IsBrokenOff P L argument p → HasNoRounds P L argument
  unfinished : (p : Played) → IsByRounds P L argument p → p.outcome ≡ None → HasEnded p → HasNoRounds P L argument
  never_begun : IsTooWide P → HasNoRounds P L argument

-- the record of a machine that has finished, of which the caller made all events, by so many rounds, and so many workers none
pub record IsMadeAlone (workers count : ℕ) (p : Played) (r : Recorded) : Type 0 where
  pub machine : r.record.machine ≡ p
  pub came : p.outcome ≡ Some r.outcome
  pub no_shares : r.record.shares ≡ replicate workers 0
  pub own : r.record.own ≡ length p.schedule
  pub rounds : r.record.rounds ≡ count

-- a run in rounds that has come out, with its record; or there is none
pub data ComesByRounds (P : PlainProgram) (L : Limits) (argument : ℤ) (workers : ℕ) : Option Recorded → Type 0 where
  by_rounds : (r : Recorded) (p : Played) (is : IsByRounds P L argument p) → IsMadeAlone workers is.count p r → ComesByRounds P L argument workers (Some r)
  no_rounds : HasNoRounds P L argument → ComesByRounds P L argument workers None
