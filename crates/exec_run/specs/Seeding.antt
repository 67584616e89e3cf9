-- How a run of a typed program comes out whose order is drawn by a seed.
use Rattle.std.specs.Prelude.{◌≡◌, ℕ, ℤ, ◌+◌, ◌*◌, ◌/◌, ◌%◌, ◌^◌, [], Option, Some, None}
use Rattle.lang_base.specs.declared.outcome.Limits.{Limits}
use Rattle.lang_typed.specs.Plain.{PlainProgram}
use Rattle.exec_world.specs.Ready.{IsGreatestReady, NoneReadyBelow, IsGreatestBelow}
use Rattle.exec_world.specs.declared.world.World.{World}
use Rattle.exec_machine.specs.declared.halted.Halted.{Halted}
use Rattle.exec_machine.specs.declared.halted.Halted.TheVariants.{Stuck}
use Rattle.exec_machine.specs.Keeping.{Played, IsAfter, HasEnded, WhyHaltedAt}
use Rattle.exec_run.specs.Run.{IsRunOf, IsTooWide}
use Rattle.exec_run.specs.Rounding.{IsMadeAlone}
use Rattle.exec_run.specs.declared.recorded.Recorded.{Recorded}

-- The state of a generator after another: 64 bits, with the constants of Knuth's MMIX. Its first is the seed.
abbrev pub next_state : ℕ → ℕ
next_state state = (state * 6364136223846793005 + 1442695040888963407) % 2 ^ 64

-- the number that a state gives, of those up to a greatest one, by its high half
abbrev pub number_drawn : ℕ → ℕ → ℕ
number_drawn state greatest = (state / 2 ^ 32) % (greatest + 1)

-- The task that a state draws. A number is drawn, up to the greatest ready task: it is the greatest ready task below the number, or where there is
-- none the greatest of all.
pub data IsDrawn (w : World) (state : ℕ) : ℕ → Type 0 where
  below : (greatest task : ℕ) → IsGreatestReady w greatest → IsGreatestBelow w (number_drawn state greatest) task → IsDrawn w state task
  none_below : (greatest : ℕ) → IsGreatestReady w greatest → NoneReadyBelow w (number_drawn state greatest) → IsDrawn w state greatest

-- a machine has gone on by steps, each of the task that the generator's next state draws; it stands at this state now
pub data SeededOn (before : Played) (seed : ℕ) : ℕ → Played → Type 0 where
  here : SeededOn before seed seed before
  further : (state task : ℕ) (middle after : Played) → SeededOn before seed state middle → IsDrawn middle.world (next_state state) task → IsAfter middle task after
      → SeededOn before seed (next_state state) after

-- the same, at any state
pub record WasSeeded (before : Played) (seed : ℕ) (after : Played) : Type 0 where
  pub state : ℕ
  pub steps : SeededOn before seed state after

-- the step of the task that is drawn next was not made
pub record SeedBreaksOff (before : Played) (seed : ℕ) (after : Played) (h : Halted) : Type 0 where
  pub state : ℕ
  pub steps : SeededOn before seed state after
  pub task : ℕ
  pub drawn : IsDrawn after.world (next_state state) task
  pub why : WhyHaltedAt after task h

-- a run from its start on whose tasks were drawn by a seed
pub record IsBySeed (P : PlainProgram) (L : Limits) (argument : ℤ) (seed : ℕ) (p : Played) : Type 0 where
  pub is_run : IsRunOf P L argument p
  pub start : Played
  pub nothing : start.schedule ≡ []
  pub seeded : WasSeeded start seed p

-- a run from its start on, with a task that is drawn and can't make its next event
pub record IsBrokenOff (P : PlainProgram) (L : Limits) (argument : ℤ) (seed : ℕ) (p : Played) : Type 0 where
  pub is_run : IsRunOf P L argument p
  pub start : Played
  pub nothing : start.schedule ≡ []
  pub broken : SeedBreaksOff start seed p Stuck

-- the seed leads to a moment at which the run can't go on, or there is no run at all
pub data HasNoSeeded (P : PlainProgram) (L : Limits) (argument : ℤ) (seed : ℕ) : Type 0 where
  broken_off : (p : Played) → IsBrokenOff P L argument seed p → HasNoSeeded P L argument seed
  unfinished : (p : Played) → IsBySeed P L argument seed p → p.outcome ≡ None → HasEnded p → HasNoSeeded P L argument seed
  never_begun : IsTooWide P → HasNoSeeded P L argument seed

-- a run by a seed that has come out, with its record; or there is none
pub data ComesBySeed (P : PlainProgram) (L : Limits) (argument : ℤ) (workers seed : ℕ) : Option Recorded → Type 0 where
  by_seed : (r : Recorded) (p : Played) → IsBySeed P L argument seed p → IsMadeAlone workers 0 p r → ComesBySeed P L argument workers seed (Some r)
  no_seeded : HasNoSeeded P L argument seed → ComesBySeed P L argument workers seed None

-- a state draws one task at most in a world
abbrev pub OneDraw : Type 0
OneDraw = (w : World) (state first second : ℕ) → IsDrawn w state first → IsDrawn w state second → first ≡ second
