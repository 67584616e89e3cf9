-- Events of one task, one after the other.
use Rattle.std.specs.Prelude.{ℕ, ◌≡◌, ◌≤◌, ◌+◌, IsSome, None}
use Rattle.exec_world.specs.Ready.{IsReady}
use Rattle.exec_machine.specs.Keeping.{Played, IsAfter, WhyHaltedAt}
use Rattle.exec_run.specs.declared.desk.burst.Burst.{Burst}
use Rattle.exec_run.specs.declared.desk.burst.BurstEnd.{BurstEnd}
use Rattle.exec_run.specs.declared.desk.burst.BurstEnd.TheVariants as burst_end

-- a machine has gone on by so many events, all of this task
pub data GoesOnBy (before : Played) (task : ℕ) : ℕ → Played → Type 0 where
  here : GoesOnBy before task 0 before
  further : (n : ℕ) (middle after : Played) → GoesOnBy before task n middle → IsAfter middle task after → GoesOnBy before task (n + 1) after

-- why there is no further event of the task, after so many
abbrev pub WhyNoMore : Played → ℕ → ℕ → BurstEnd → Type 0
WhyNoMore after task n burst_end.Full = n ≡ 256
WhyNoMore after task n burst_end.Finished = IsSome after.outcome
WhyNoMore after task n burst_end.Unready = (after.outcome ≡ None) × (IsReady after.world task → ⊥)
WhyNoMore after task n (burst_end.Halted h) = (after.outcome ≡ None) × IsReady after.world task × WhyHaltedAt after task h

-- a burst: 1 to 256 events of one task, as many as can be made
pub record IsBurst (before : Played) (task : ℕ) (made : Burst) (after : Played) : Type 0 where
  pub some : 1 ≤ made.events
  pub most : made.events ≤ 256
  pub goes_on : GoesOnBy before task made.events after
  pub why : WhyNoMore after task made.events made.end
