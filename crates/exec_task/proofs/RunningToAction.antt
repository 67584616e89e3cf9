-- The way of a task to its next action.
use Rattle.std.proofs.Common.{arith, ◌≡◌, ◌<◌, ◌≤◌, ℕ, zero, suc, ◌==◌, eq-eqb, Bool, true, false, if◌then◌else◌, refl, sym, ap, ◌∙◌, subst, Option, Some, None, Result, Ok, Err, MatchOption, IfOk, OnErr}
use Rattle.lang_base.specs.declared.memory.NoMemory.{NoMemory}
use Rattle.lang_meaning.specs.Actions.{Do, Rest}
use Rattle.lang_meaning.specs.Asking.{most_ticks}
use Rattle.code_instrs.specs.RunsToActions.{Halt, Asks, Finished, Dead, ran_on, run_to_action}
use Rattle.code_instrs.specs.Machine.{Stand, Goes, Ticks, Makes, Waits, Ends, Stuck}
use Rattle.code_instrs.specs.Plain.{PlainCode}
use Rattle.exec_task.specs.declared.action.Action.{Action}
use Rattle.exec_task.specs.declared.action.Action.TheVariants as action
use Rattle.exec_task.specs.declared.action.Own.TheVariants as own
use Rattle.exec_task.specs.declared.task.Task.{Task}
use Rattle.exec_task.specs.Advances.{step_at, Advances, StandsAt}
use Rattle.exec_task.specs.Fuel.{is_well, is_enough, Least, one_least}
use Rattle.exec_task.specs.Halts.{run_from, Halts, stands, front_of, IsActionOf, IsAsking, Ends as Ending, Paced, Reaches}
use Rattle.exec_task.specs.Names.{names_of}
use Rattle.exec_task.specs.Tasks.{state_of}
use Rattle.exec_task.proofs.Stepping.{goes_on, one_step}

-- the least number that passes a test
least : (f : ℕ → Bool) (n : ℕ) → f n ≡ true → (m : ℕ) × ((f m ≡ true) × ((k : ℕ) → k < m → f k ≡ false))
least f zero e = (zero, (e, λ k h. absurd (omega arith)))
least f (suc n) e = go (f zero) refl (least (λ k. f (suc k)) n e)
  where
    below : f zero ≡ false → (m : ℕ) → ((k : ℕ) → k < m → f (suc k) ≡ false) → (k : ℕ) → k < suc m → f k ≡ false
    below z m h zero l = z
    below z m h (suc k) l = h k (omega arith)

    go : (b : Bool) → f zero ≡ b → (m : ℕ) × ((f (suc m) ≡ true) × ((k : ℕ) → k < m → f (suc k) ≡ false))
        → (m : ℕ) × ((f m ≡ true) × ((k : ℕ) → k < m → f k ≡ false))
    go true z r = (zero, (z, λ k h. absurd (omega arith)))
    go false z r = (suc r.0, (r.1.0, below z r.0 r.1.1))

module _ (C : PlainCode) where
  -- with no step nothing is known
  nothing_yet : (t : Task) → t.ticks < 4096 → is_enough C t 0 ≡ false
  nothing_yet t h =
      ap (λ b. is_well (if b then Some (Asks t.ticks t.made (Do Rest) (λ x. state_of t)) else run_to_action (names_of t.number) C 0 t.ticks t.made (state_of t))) (goes_on C t h)

  pub least_next : (old new : Task) → old.ticks < 4096 → Advances C old new → Least C old → Least C new
  least_next old new h adv (zero, (e, f)) = let g = nothing_yet old h in absurd (cc)
  least_next old new h adv (suc n, (e, f)) =
      (n, (ap is_well (sym (adv n)) ∙ e, λ k l. ap is_well (sym (adv k)) ∙ f (suc k) (omega arith)))

  pub next_less : (old new : Task) → old.ticks < 4096 → Advances C old new → (a : Least C old) (b : Least C new) → b.0 < a.0
  unfolding least_next
  next_less old new h adv (zero, (e, f)) b = let g = nothing_yet old h in absurd (cc)
  next_less old new h adv (suc n, (e, f)) b =
      let g : b.0 ≡ n = one_least C new b (least_next old new h adv (suc n, (e, f))) in omega (arith, g)

  pub not_stuck : (t : Task) → t.ticks < 4096 → Least C t → step_at C t ≡ Stuck → ⊥
  not_stuck t h (zero, (e, f)) s = let g = nothing_yet t h in cc
  not_stuck t h (suc n, (e, f)) s = let g : is_enough C t (suc n) ≡ false = ap is_well (one_step C t Stuck n h s) in cc

  pub least_after : (old new : Task) (r : Result (Option Action) NoMemory) → IfOk r (λ o. MatchOption o (Advances C old new) (λ a. StandsAt C old a new))
      → OnErr r (new ≡ old) → old.ticks < 4096 → Least C old → Least C new
  least_after old new (Ok None) o e h a = least_next old new h o a
  least_after old new (Ok (Some x)) o e h a = subst (Least C) (sym o.1) a
  least_after old new (Err x) o e h a = subst (Least C) (sym e) a

  -- where a task stands after fewer ticks than may be
  pub front_is : (t : Task) → t.ticks < 4096 → front_of C t ≡ stands t.ticks t.made (step_at C t)
  front_is t h =
      ap (λ b. if b then Asks t.ticks t.made (Do Rest) (λ x. state_of t) else stands t.ticks t.made (step_at C t)) (goes_on C t h)

  pub action_at_front : (t : Task) (a : Action) → t.ticks < 4096 → IsActionOf C a (stands t.ticks t.made (step_at C t)) → IsActionOf C a (front_of C t)
  action_at_front t a h s = subst (IsActionOf C a) (sym (front_is t h)) s

  pub halts_front : (t : Task) (a : Action) → t.ticks < 4096 → IsActionOf C a (stands t.ticks t.made (step_at C t)) → Halts C t (front_of C t)
  halts_front t a h s = record { fuel = 1; runs = one_step C t (step_at C t) 0 h refl ∙ by_case (step_at C t) s ∙ ap Some (sym (front_is t h)) }
    where
      by_case : (o : Stand ℕ (ℕ × ℕ)) → IsActionOf C a (stands t.ticks t.made o)
          → ran_on (names_of t.number) (λ n m s. run_to_action (names_of t.number) C 0 n m s) t.ticks t.made o ≡ Some (stands t.ticks t.made o)
      by_case (Goes s) x = absurd x
      by_case (Ticks s) x = absurd x
      by_case (Makes k) x = absurd x
      by_case (Waits a k) x = refl
      by_case (Ends e) x = refl
      by_case Stuck x = absurd x

  at_rest : (t : Task) → 4096 ≤ t.ticks → t.ticks ≤ 4096 → (t.ticks == most_ticks) ≡ true
  unfolding most_ticks
  at_rest t h k = eq-eqb t.ticks 4096 (omega arith)

  rest_is : (t : Task) → 4096 ≤ t.ticks → t.ticks ≤ 4096 → front_of C t ≡ Asks t.ticks t.made (Do Rest) (λ x. state_of t)
  rest_is t h k =
      ap (λ b. if b then Asks t.ticks t.made (Do Rest) (λ x. state_of t) else stands t.ticks t.made (step_at C t)) (at_rest t h k)

  pub halts_rest : (t : Task) → 4096 ≤ t.ticks → t.ticks ≤ 4096 → Halts C t (front_of C t)
  halts_rest t h k = record {
    fuel = 0;
    runs = ap (λ b. if b then Some (Asks t.ticks t.made (Do Rest) (λ x. state_of t)) else run_to_action (names_of t.number) C 0 t.ticks t.made (state_of t)) (at_rest t h k)
        ∙ ap Some (sym (rest_is t h k));
  }

  pub action_at_rest : (t : Task) → 4096 ≤ t.ticks → t.ticks ≤ 4096 → IsActionOf C (action.Do own.Rest) (front_of C t)
  action_at_rest t h k = subst (IsActionOf C (action.Do own.Rest)) (sym (rest_is t h k)) refl

  pub reaches_next : (a b c : Task) → Reaches C a b → b.ticks < 4096 → Advances C b c → c.number ≡ b.number → Paced c
      → (IsAsking (stands b.ticks b.made (step_at C b)) → ⊥) → Reaches C a c
  reaches_next a b c r h adv e p m = record {
    running = λ x z. r.running x (record { fuel = suc z.fuel; runs = adv z.fuel ∙ z.runs });
    number = e ∙ r.number;
    paced = p;
    again = λ z. absurd (m (subst IsAsking (front_is b h) (subst (λ t. IsAsking (front_of C t)) (sym (r.again z)) z)));
  }

  -- a way that ends well has a least number of steps, and the other way round
  pub least_of : (t : Task) → Ending C t → Least C t
  least_of t e = least (is_enough C t) e.halts.fuel (ap is_well e.halts.runs ∙ well e.halt e.alive)
    where
      well : (h : Halt ℕ (ℕ × ℕ)) → (h ≡ Dead → ⊥) → is_well (Some h) ≡ true
      well (Asks n m a k) d = refl
      well (Finished n x) d = refl
      well Dead d = absurd (d refl)

  pub ends_of : (t : Task) → Least C t → Ending C t
  ends_of t (n, (e, f)) = by_case (run_from (names_of t.number) C n t.ticks t.made (state_of t)) refl e
    where
      by_case : (o : Option (Halt ℕ (ℕ × ℕ))) → run_from (names_of t.number) C n t.ticks t.made (state_of t) ≡ o → is_well o ≡ true → Ending C t
      by_case None i w = absurd (cc)
      by_case (Some (Asks m x a k)) i w = record { halt = Asks m x a k; halts = record { fuel = n; runs = i }; alive = λ d. cc }
      by_case (Some (Finished m x)) i w = record { halt = Finished m x; halts = record { fuel = n; runs = i }; alive = λ d. cc }
      by_case (Some Dead) i w = absurd (cc)
