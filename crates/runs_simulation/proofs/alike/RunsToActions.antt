-- A task's way to an action in a machine is like that with the names of a run.
use Rattle.std.proofs.Common.{◌≡◌, ℕ, zero, suc, Bool, true, false, if◌then◌else◌, ◌==◌, List, [], ◌∷◌, refl, subst, Option, Some, slice_get}
use Rattle.lang_meaning.specs.Actions.{Do, Rest, Answer, Action}
use Rattle.lang_meaning.specs.Asking.{most_ticks}
use Rattle.code_instrs.specs.Plain.{PlainCode}
use Rattle.code_instrs.specs.Machine.{Start, State, Stand, begins_at}
use Rattle.code_instrs.specs.RunsToActions.{Halt, Asks, ran_on_tick, ran_on, run_to_action, RunsToAction, Halts}
use Rattle.runs_theory.specs.Objects.{Path, Name, LocalRegion}
use Rattle.runs_program.specs.Steps.{named_by}
use Rattle.exec_task.specs.Names.{names_of}
use Rattle.runs_elision.proofs.Worlds.{Distinct}
use Rattle.runs_simulation.proofs.alike.Sights.{Sight, made_like, StateLike, state_later, StandLike, goes_like, ticks_like, makes_like, waits_like, ends_like, stuck_like, HaltLike, asks_like, finished_like, dead_like, do_like, rest_like}
use Rattle.runs_simulation.proofs.alike.Steps.{step_like}

abbrev pub HaltOf : Type 0
HaltOf = Halt Name LocalRegion

-- what comes of a task's way to an action in a machine
abbrev Alike : Sight → Option HaltOf → Halt ℕ (ℕ × ℕ) → Type 0
Alike w o h = (g : HaltOf) × (o ≡ Some g) × HaltLike w h g

alike_some : {w : Sight} {h h' : Halt ℕ (ℕ × ℕ)} {g : HaltOf} → ◌≡◌ {A = Option (Halt ℕ (ℕ × ℕ))} (Some h') (Some h) → HaltLike w h' g → Alike w (Some g) h
alike_some {w} {h} {h'} {g} e l = (let same : h' ≡ h = cc in (g, refl, subst (λ z. HaltLike w z g) same l))

abbrev RunsToActions : Sight → (ℕ → ℕ → State ℕ (ℕ × ℕ) → Option (Halt ℕ (ℕ × ℕ))) → (ℕ → ℕ → State Name LocalRegion → Option HaltOf) → Type 0
RunsToActions w more more' = (ticks made : ℕ) (s : State ℕ (ℕ × ℕ)) (t : State Name LocalRegion) (h : Halt ℕ (ℕ × ℕ)) → StateLike w s t → more ticks made s ≡ Some h
    → Alike w (more' ticks made t) h

module _ (C : PlainCode) (k : ℕ) (p : Path) {w : Sight} (d : Distinct w.names) (there : slice_get w.paths k ≡ Some p) where
  tick_like : (more : ℕ → ℕ → State ℕ (ℕ × ℕ) → Option (Halt ℕ (ℕ × ℕ))) (more' : ℕ → ℕ → State Name LocalRegion → Option HaltOf) → RunsToActions w more more'
      → (ticks made : ℕ) (s : State ℕ (ℕ × ℕ)) (t : State Name LocalRegion) (h : Halt ℕ (ℕ × ℕ)) → StateLike w s t → ran_on_tick more ticks made s ≡ Some h
      → Alike w (ran_on_tick more' ticks made t) h
  tick_like more more' rec ticks made s t h l e = go (suc ticks == most_ticks) e
    where
      go : (b : Bool) → (if b then Some (Asks (suc ticks) made (Do Rest) (λ x. s)) else more (suc ticks) made s) ≡ Some h
          → Alike w (if b then Some (Asks (suc ticks) made (Do Rest) (λ x. t)) else more' (suc ticks) made t) h
      go true i = alike_some i (asks_like (suc ticks) made (do_like rest_like) (λ v x y wide a. state_later wide l))
      go false i = rec (suc ticks) made s t h l i

  stand_like : (more : ℕ → ℕ → State ℕ (ℕ × ℕ) → Option (Halt ℕ (ℕ × ℕ))) (more' : ℕ → ℕ → State Name LocalRegion → Option HaltOf) → RunsToActions w more more'
      → (ticks made : ℕ) {o : Stand ℕ (ℕ × ℕ)} {q : Stand Name LocalRegion} (h : Halt ℕ (ℕ × ℕ)) → StandLike w o q
      → ran_on (names_of k) more ticks made o ≡ Some h → Alike w (ran_on (named_by p) more' ticks made q) h
  stand_like more more' rec ticks made h (goes_like {s} {t} l) e = rec ticks made s t h l e
  stand_like more more' rec ticks made h (ticks_like {s} {t} l) e = tick_like more more' rec ticks made s t h l e
  stand_like more more' rec ticks made h (makes_like l) e = tick_like more more' rec ticks (suc made) _ _ h (l _ _ (made_like k made p there)) e
  stand_like more more' rec ticks made h (waits_like a l) e = alike_some e (asks_like ticks made a l)
  stand_like more more' rec ticks made h (ends_like l) e = alike_some e (finished_like ticks l)
  stand_like more more' rec ticks made h stuck_like e = alike_some e dead_like

  run_in : (fuel : ℕ) → RunsToActions w (λ n m s. run_to_action (names_of k) C fuel n m s) (λ n m s. run_to_action (named_by p) C fuel n m s)
  run_in zero ticks made s t h l e = absurd (cc)
  run_in (suc fuel) ticks made s t h l e =
      stand_like (λ n m s. run_to_action (names_of k) C fuel n m s) (λ n m s. run_to_action (named_by p) C fuel n m s) (run_in fuel) ticks made h (step_like C k p d l) e

  pub run_like : (made : ℕ) {s : State ℕ (ℕ × ℕ)} {t : State Name LocalRegion} {h : Halt ℕ (ℕ × ℕ)} → StateLike w s t → RunsToAction (names_of k) C made s h
      → (g : HaltOf) × RunsToAction (named_by p) C made t g × HaltLike w h g
  run_like made {s} {t} {h} l x = (let a = run_in x.fuel 0 made s t h l x.runs in (a.0, record { fuel = x.fuel; runs = a.1 }, a.2))

-- where a task of a run stands after its answers, the latest first, and how many local regions it has made
pub data StandsAfter (C : PlainCode) (p : Path) (b : Start Name LocalRegion) : List (Answer Name LocalRegion) → State Name LocalRegion → ℕ → Type 0 where
  at_first : StandsAfter C p b [] (begins_at b) 0
  after_answer : (got : List (Answer Name LocalRegion)) (n m : ℕ) (a : Action Name LocalRegion (Start Name LocalRegion)) (f : Answer Name LocalRegion
      → State Name LocalRegion) → Halts (named_by p) C b got (Asks n m a f) → (x : Answer Name LocalRegion) → StandsAfter C p b (x ∷ got) (f x) m

pub halts_next : {C : PlainCode} {p : Path} {b : Start Name LocalRegion} {got : List (Answer Name LocalRegion)} {s : State Name LocalRegion} {made : ℕ}
    {h : HaltOf} → StandsAfter C p b got s made → RunsToAction (named_by p) C made s h → Halts (named_by p) C b got h
halts_next at_first l = l
halts_next (after_answer got n m a f halts x) l = (n, m, a, f, halts, l)
