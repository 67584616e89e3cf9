-- Tasks that began at good starts: a start is good where the task always comes to a next action, and never is stuck.
use Rattle.std.proofs.Common.{◌≡◌, ◌≤◌, ℕ, zero, suc, ◌+◌, Bool, true, false, if◌then◌else◌, ◌==◌, List, [], ◌∷◌, refl, Option, Some, arith}
use Rattle.lang_meaning.specs.Values.{Naming}
use Rattle.lang_meaning.specs.Actions.{Rest, Action, Do, Answer, Unknown}
use Rattle.lang_meaning.specs.Asking.{most_ticks}
use Rattle.code_instrs.specs.Plain.{PlainCode}
use Rattle.code_instrs.specs.Machine.{Start, State, Stand, Goes, Ticks, Makes, Waits, Ends, Stuck, step, Solo}
use Rattle.code_instrs.specs.RunsToActions.{Halt, Asks, Finished, Dead, ran_on_tick, ran_on, run_to_action, RunsToAction, Halts}
use Rattle.code_instrs.proofs.RunsToActions.{runs_are_solo}
use Rattle.code_scheme.specs.Laws.{RunsEndOf}
use Rattle.exec_task.specs.Halts.{stands}
use Rattle.exec_task.specs.Names.{names_of}
use Rattle.exec_machine.specs.Running.{Running, at_start, front}

-- a task makes no more local regions than ticks
module _ {N M : Type 0} (names : Naming N M) (C : PlainCode) where
  abbrev Counted : (ℕ → ℕ → State N M → Option (Halt N M)) → Type 0
  Counted more =
      (ticks made : ℕ) (s : State N M) (n m : ℕ) (a : Action N M (Start N M)) (k : Answer N M → State N M) → more ticks made s ≡ Some (Asks n m a k) →
      m + ticks ≤ made + n

  tick_counted : (more : ℕ → ℕ → State N M → Option (Halt N M)) → Counted more → (ticks made : ℕ) (s : State N M) (n m : ℕ)
      (a : Action N M (Start N M)) (k : Answer N M → State N M) → ran_on_tick more ticks made s ≡ Some (Asks n m a k) → m + suc ticks ≤ made + n
  tick_counted more rec ticks made s n m a k e = go (suc ticks == most_ticks) e
    where
      go : (b : Bool) → (if b then Some (Asks (suc ticks) made (Do Rest) (λ x. s)) else more (suc ticks) made s) ≡ Some (Asks n m a k) → m + suc ticks ≤ made + n
      go true i = let ticks_are : suc ticks ≡ n = cc in let made_are : made ≡ m = cc in omega (arith, ticks_are, made_are)
      go false i = rec (suc ticks) made s n m a k i

  stand_counted : (more : ℕ → ℕ → State N M → Option (Halt N M)) → Counted more → (ticks made : ℕ) (o : Stand N M) (n m : ℕ)
      (a : Action N M (Start N M)) (k : Answer N M → State N M) → ran_on names more ticks made o ≡ Some (Asks n m a k) → m + ticks ≤ made + n
  stand_counted more rec ticks made (Goes s) n m a k e = rec ticks made s n m a k e
  stand_counted more rec ticks made (Ticks s) n m a k e = let le = tick_counted more rec ticks made s n m a k e in omega (arith, le)
  stand_counted more rec ticks made (Makes j) n m a k e = let le = tick_counted more rec ticks (suc made) (j (names.made made)) n m a k e in omega (arith, le)
  stand_counted more rec ticks made (Waits b j) n m a k e = let ticks_are : ticks ≡ n = cc in let made_are : made ≡ m = cc in omega (arith, ticks_are, made_are)
  stand_counted more rec ticks made (Ends d) n m a k e = absurd (cc)
  stand_counted more rec ticks made Stuck n m a k e = absurd (cc)

  pub run_counted : (fuel : ℕ) → Counted (λ ticks made s. run_to_action names C fuel ticks made s)
  run_counted zero ticks made s n m a k e = absurd (cc)
  run_counted (suc fuel) ticks made s n m a k e = stand_counted (λ t q s. run_to_action names C fuel t q s) (run_counted fuel) ticks made (step names C s) n m a k e

-- where a task stands has its ticks and its local regions
abbrev pub HasCounts : ℕ → ℕ → Halt ℕ (ℕ × ℕ) → Type 0
HasCounts ticks made (Asks n m a k) = (n ≡ ticks) × (m ≡ made)
HasCounts ticks made (Finished n e) = Unit {0}
HasCounts ticks made Dead = Unit {0}

pub front_counts : (C : PlainCode) (k ticks made : ℕ) (z : State ℕ (ℕ × ℕ)) → HasCounts ticks made (front C k ticks made z)
front_counts C k ticks made z = go (ticks == most_ticks)
  where
    at : (o : Stand ℕ (ℕ × ℕ)) → HasCounts ticks made (stands ticks made o)
    at (Waits a k) = (refl, refl)
    at (Ends e) = tt
    at (Goes s) = tt
    at (Ticks s) = tt
    at (Makes k) = tt
    at Stuck = tt

    go : (b : Bool) → HasCounts ticks made (if b then Asks ticks made (Do Rest) (λ x. z) else stands ticks made (step (names_of k) C z))
    go true = (refl, refl)
    go false = at (step (names_of k) C z)

-- where a task of a run may be that began so: at its start, or after an answer to where it stood
pub data ComesTo (C : PlainCode) (k : ℕ) (b : Start ℕ (ℕ × ℕ)) : Running → Type 0 where
  at_first : ComesTo C k b (at_start b)
  after_answer : (got : List (Answer ℕ (ℕ × ℕ))) (n m : ℕ) (a : Action ℕ (ℕ × ℕ) (Start ℕ (ℕ × ℕ))) (f : Answer ℕ (ℕ × ℕ) → State ℕ (ℕ × ℕ)) →
      Halts (names_of k) C b got (Asks n m a f) → (x : Answer ℕ (ℕ × ℕ)) → ComesTo C k b (record { state = f x; made = m })

module _ (C : PlainCode) (k : ℕ) (b : Start ℕ (ℕ × ℕ)) where
  pub next_run : RunsEndOf (names_of k) C b → (t : Running) → ComesTo C k b t → (h : Halt ℕ (ℕ × ℕ)) × RunsToAction (names_of k) C t.made t.state h
  next_run ends t at_first = ends.first
  next_run ends t (after_answer got n m a f halts x) = ends.later got n m a f halts x

  -- after one more answer
  pub comes_on : (t : Running) → ComesTo C k b t → (n m : ℕ) (a : Action ℕ (ℕ × ℕ) (Start ℕ (ℕ × ℕ))) (f : Answer ℕ (ℕ × ℕ) → State ℕ (ℕ × ℕ)) →
      RunsToAction (names_of k) C t.made t.state (Asks n m a f) → (x : Answer ℕ (ℕ × ℕ)) → ComesTo C k b (record { state = f x; made = m })
  comes_on t at_first n m a f run_to_action x = after_answer [] n m a f run_to_action x
  comes_on t (after_answer got n' m' a' f' halts y) n m a f run_to_action x = after_answer (y ∷ got) n m a f (n', m', a', f', halts, run_to_action) x

  pub never_dead : ((got : List (Answer ℕ (ℕ × ℕ))) → Solo (names_of k) C b got Unknown → ⊥) → (t : Running) → ComesTo C k b t →
      RunsToAction (names_of k) C t.made t.state Dead → ⊥
  never_dead never t at_first run_to_action = never [] (runs_are_solo (names_of k) C b [] Dead run_to_action)
  never_dead never t (after_answer got n m a f halts y) run_to_action = never (y ∷ got) (runs_are_solo (names_of k) C b (y ∷ got) Dead (n, m, a, f, halts, run_to_action))
