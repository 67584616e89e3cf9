-- What one call at the desk does.
use Rattle.std.specs.Prelude.{ℕ, ◌≡◌, ◌+◌, ◌≤◌, ◌⊎◌, length, IsSome, Option, Some, None}
use Rattle.exec_world.specs.Ready.{IsReady, NoneReady, IsGreatestReady}
use Rattle.exec_world.specs.declared.world.World.{World}
use Rattle.exec_machine.specs.Keeping.{Played, WhyHaltedAt}
use Rattle.exec_machine.specs.declared.halted.Halted.{Halted}
use Rattle.exec_run.specs.desk.Bursts.{IsBurst}
use Rattle.exec_run.specs.desk.Place.{Place}
use Rattle.exec_run.specs.declared.desk.burst.Burst.{Burst}
use Rattle.exec_run.specs.declared.desk.step.DeskStep.{DeskStep}
use Rattle.exec_run.specs.declared.desk.step.DeskStep.TheVariants.{Stepped, Finished, NoneReady as none_ready}

-- the task that a wish leads to: the wished one if it is ready, and else the greatest that is
abbrev pub IsPicked : World → Option ℕ → ℕ → Type 0
IsPicked w None task = IsGreatestReady w task
IsPicked w (Some wish) task = (IsReady w wish × (task ≡ wish)) ⊎ ((IsReady w wish → ⊥) × IsGreatestReady w task)

-- the place with so many events more
abbrev pub risen : Place → ℕ → Place
risen place n = record { number = place.number; made = place.made + n }

-- the task that the wish leads to has made a burst, and the share rose by its number
pub record StepsBy (before : Played) (seat : Place) (wish : Option ℕ) (task : ℕ) (after : Played) (later : Place) : Type 0 where
  pub unfinished : before.outcome ≡ None
  pub picked : IsPicked before.world wish task
  pub made : Burst
  pub burst : IsBurst before task made after
  pub share : later ≡ risen seat made.events

-- from a machine and a seat to the machine and the seat afterwards
abbrev pub StepsTo : Played → Place → Option ℕ → DeskStep → Played → Place → Type 0
StepsTo before seat wish (Stepped task front) after later = StepsBy before seat wish task after later × (front ≡ length after.schedule)
StepsTo before seat wish (Finished front) after later =
    IsSome before.outcome × (after ≡ before) × (later ≡ seat) × (front ≡ length after.schedule)
StepsTo before seat wish (none_ready front) after later =
    (before.outcome ≡ None) × NoneReady before.world × (after ≡ before) × (later ≡ seat) × (front ≡ length after.schedule)

-- no event was made: why the task that the wish leads to couldn't
pub record WhyNotStepped (before : Played) (wish : Option ℕ) (h : Halted) : Type 0 where
  pub unfinished : before.outcome ≡ None
  pub task : ℕ
  pub picked : IsPicked before.world wish task
  pub why : WhyHaltedAt before task h

-- what the holder of a seat knows of a call: a step raises its share by 1 to 256, and no other answer changes it
abbrev pub Raises : Place → DeskStep → Place → Type 0
Raises seat (Stepped task front) later = (n : ℕ) × (1 ≤ n) × (n ≤ 256) × (later ≡ risen seat n)
Raises seat (Finished front) later = later ≡ seat
Raises seat (none_ready front) later = later ≡ seat
