-- The events that a schedule makes in a machine, each with what its task is answered and where in the text it stood.
use Rattle.std.specs.Prelude.{◌≡◌, ℕ, ℤ, List, [], ◌∷◌, Option, Some, None, option_map, slice_get}
use Rattle.lang_base.specs.declared.outcome.Limits.{Limits}
use Rattle.lang_base.specs.declared.place.Place.{Place}
use Rattle.code_instrs.specs.declared.code.Code.{Code}
use Rattle.code_instrs.specs.Machine.{Level, State, On, Rested, Off, Nowhere}
use Rattle.code_instrs.specs.Plain.{PlainCode, body_at, plain_code}
use Rattle.exec_world.specs.Costs.{Within}
use Rattle.exec_world.specs.World.{answer_to}
use Rattle.exec_machine.specs.Replay.{Moment, NextOf, CanBeMade, Opens, after, limited}
-- an event that was made: what its task was answered, and the place of the instruction at which the task stood, unless it was at
-- its end
pub use Rattle.exec_machine.specs.declared.made_event.MadeEvent.{MadeEvent}

abbrev pub place_in : PlainCode → Level ℕ (ℕ × ℕ) → Option Place
place_in C g = option_map (λ l. l.place) (slice_get (body_at C g.body).lines g.at)

abbrev pub place_at : PlainCode → State ℕ (ℕ × ℕ) → Option Place
place_at C (On g gs) = place_in C g
place_at C (Rested g gs) = place_in C g
place_at C (Off e) = None
place_at C Nowhere = None

-- the next event of a ready task, with what it would be answered
pub record MakesNext (C : PlainCode) (m : Moment) (k : ℕ) (x : MadeEvent) : Type 0 where
  pub next : NextOf C m k x.event
  pub answer : x.answer ≡ answer_to m.world x.event
  pub place : x.place ≡ place_at C next.stands.state

-- a schedule makes these events, and leads there; of both the latest stands first. The last number of a run that has met a limit
-- makes none
pub data Makes (code : Code) (L : Limits) (argument : ℤ) : List ℕ → List MadeEvent → Moment → Type 0 where
  opens : {m : Moment} → Opens code L argument m → Makes code L argument [] [] m
  makes : {ks : List ℕ} {xs : List MadeEvent} {before n : Moment} (k : ℕ) (x : MadeEvent) (y : MakesNext (plain_code code) before k x) →
      Makes code L argument ks xs before → CanBeMade (plain_code code) before.world x.event y.next.stands.state → Within code before.world x.event →
      n ≡ after code before x.event y.next.stands.state y.next.stands.made → Makes code L argument (k ∷ ks) (x ∷ xs) n
  meets_limit : {ks : List ℕ} {xs : List MadeEvent} {before n : Moment} (k : ℕ) (x : MadeEvent) (y : MakesNext (plain_code code) before k x) →
      Makes code L argument ks xs before → CanBeMade (plain_code code) before.world x.event y.next.stands.state → (Within code before.world x.event → ⊥) →
      n ≡ record { world = before.world; tasks = before.tasks; outcome = Some (limited L) } → Makes code L argument (k ∷ ks) xs n
