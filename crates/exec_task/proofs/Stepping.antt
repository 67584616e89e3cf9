-- A step of a task is that of its state.
use Rattle.std.proofs.Common.{rules, arith, ◌≡◌, ◌≢◌, ◌<◌, ℕ, suc, ◌==◌, if◌then◌else◌, false, List, map, refl, sym, ap, ◌∙◌, subst, Some, None}
use Rattle.std.specs.Prelude.{slice_get}
use Rattle.lang_meaning.specs.Actions.{Do, Rest}
use Rattle.lang_meaning.specs.Asking.{most_ticks}
use Rattle.code_instrs.specs.Machine.{State, Stand, Goes, Ticks, Makes, Waits, Ends, Stuck, exec, exec_line, rested_line, step}
use Rattle.code_instrs.specs.RunsToActions.{Asks, ran_on, run_to_action}
use Rattle.code_instrs.specs.Machine as machine
use Rattle.code_instrs.specs.Plain.{PlainCode, Line, body_at}
use Rattle.exec_task.specs.declared.action.Action.{Action}
use Rattle.exec_task.specs.declared.action.Action.TheVariants as action
use Rattle.exec_task.specs.declared.action.Ending.{Ending}
use Rattle.exec_task.specs.declared.step.Step.{Step}
use Rattle.exec_task.specs.declared.step.Step.TheVariants as step_of
use Rattle.exec_task.specs.declared.task.Level.{Level}
use Rattle.exec_task.specs.declared.task.Standing.TheVariants as standing
use Rattle.exec_task.specs.declared.task.Task.{Task}
use Rattle.exec_task.specs.Advances.{step_at, StepsTo, Advances}
use Rattle.exec_task.specs.Halts.{run_from, stands, IsActionOf}
use Rattle.exec_task.specs.Names.{names_of}
use Rattle.exec_task.specs.Steps.{WaitsFor, Comes, Enters, HasNext, with_local}
use Rattle.exec_task.specs.Tasks.{plain_level, state_in, state_of, plain_ending}

module _ (C : PlainCode) where
  pub step_on : (t : Task) → t.standing ≡ standing.At
      → step_at C t ≡ exec_line (names_of t.number) C (slice_get (body_at C t.level.body).lines t.level.at) (plain_level t.level) (map plain_level t.callers)
  unfolding step
  step_on t e = ap (λ s. step (names_of t.number) C (state_in s t.level t.callers)) e

  pub step_rested : (t : Task) → t.standing ≡ standing.Rested
      → step_at C t ≡ rested_line (names_of t.number) C (slice_get (body_at C t.level.body).lines t.level.at) (plain_level t.level) (map plain_level t.callers)
  unfolding step
  step_rested t e = ap (λ s. step (names_of t.number) C (state_in s t.level t.callers)) e

  pub step_ended : (t : Task) (e : Ending) → t.standing ≡ standing.Ended e → step_at C t ≡ Ends (plain_ending e)
  unfolding step
  step_ended t x e = ap (λ s. step (names_of t.number) C (state_in s t.level t.callers)) e

  pub step_nowhere : (t : Task) → t.standing ≡ standing.Nowhere → step_at C t ≡ Stuck
  unfolding step
  step_nowhere t e = ap (λ s. step (names_of t.number) C (state_in s t.level t.callers)) e

  pub run_short : (t : Task) → t.standing ≡ standing.At → None ≡ slice_get (body_at C t.level.body).lines t.level.at → step_at C t ≡ Stuck
  run_short t e h = step_on t e ∙ ap (λ l. exec_line (names_of t.number) C l (plain_level t.level) (map plain_level t.callers)) (sym h)

  pub run_at : (t : Task) (l : Line) → t.standing ≡ standing.At → Some l ≡ slice_get (body_at C t.level.body).lines t.level.at
      → step_at C t ≡ exec (names_of t.number) C l.place l.instr (plain_level t.level) (map plain_level t.callers)
  run_at t l e f = step_on t e ∙ ap (λ l. exec_line (names_of t.number) C l (plain_level t.level) (map plain_level t.callers)) (sym f)

  pub goes_by_itself : (t : Task) (h : Level) (l : Line) → t.standing ≡ standing.At → Some l ≡ slice_get (body_at C t.level.body).lines t.level.at
      → exec (names_of t.number) C l.place l.instr (plain_level t.level) (map plain_level t.callers) ≡ Goes (machine.On (plain_level h) (map plain_level t.callers))
      → step_at C t ≡ Goes (state_of (record t { level = h }))
  goes_by_itself t h l e f is = run_at t l e f ∙ is ∙ ap (λ s. Goes (state_in s h t.callers)) (sym e)

  pub ticks_by_itself : (t : Task) (h : Level) (l : Line) → t.standing ≡ standing.At → Some l ≡ slice_get (body_at C t.level.body).lines t.level.at
      → exec (names_of t.number) C l.place l.instr (plain_level t.level) (map plain_level t.callers) ≡ Ticks (machine.On (plain_level h) (map plain_level t.callers))
      → step_at C t ≡ Ticks (state_of (record t { level = h }))
  ticks_by_itself t h l e f is = run_at t l e f ∙ is ∙ ap (λ s. Ticks (state_in s h t.callers)) (sym e)

  is_action : (o : Stand ℕ (ℕ × ℕ)) (a : Action) → WaitsFor C o a → (n m : ℕ) → IsActionOf C a (stands n m o)
  is_action o a w n m = subst (λ o. IsActionOf C a (stands n m o)) (sym w.waits) w.says

  same_task : (t : Task) (h : Level) (hs : List Level) → h ≡ t.level → hs ≡ t.callers → record t { level = h; callers = hs } ≡ t
  same_task t h hs e f = ap (λ g. record t { level = g; callers = hs }) e ∙ ap (λ gs. record t { callers = gs }) f

  pub run_steps : (t : Task) (h : Level) (hs : List Level) (l : Line) (s : Step) → t.standing ≡ standing.At
      → Some l ≡ slice_get (body_at C t.level.body).lines t.level.at → HasNext t.level
      → Comes C (exec (names_of t.number) C l.place l.instr (plain_level t.level) (map plain_level t.callers)) t.level t.callers s h hs
      → StepsTo C t s (record t { level = h; callers = hs })
  run_steps t h hs l s e f room c = by_case s c
    where
      is : step_at C t ≡ exec (names_of t.number) C l.place l.instr (plain_level t.level) (map plain_level t.callers)
      is = run_at t l e f

      on : state_in t.standing h hs ≡ state_in standing.At h hs
      on = ap (λ s. state_in s h hs) e

      by_case : (s : Step) → Comes C (exec (names_of t.number) C l.place l.instr (plain_level t.level) (map plain_level t.callers)) t.level t.callers s h hs
          → StepsTo C t s (record t { level = h; callers = hs })
      by_case step_of.Goes c = is ∙ c ∙ ap machine.Goes (sym on)
      by_case (step_of.Makes r) c = (
        is ∙ c.0 ∙ sym (ap (λ g. machine.Makes (λ m. machine.On (with_local r m (plain_level g)) (map plain_level hs))) c.1
            ∙ ap (λ gs. machine.Makes (λ m. machine.On (with_local r m (plain_level t.level)) (map plain_level gs))) c.2),
        subst HasNext (sym c.1) room,
        e,
      )
      by_case (step_of.Ends x) c = is ∙ c
      by_case (step_of.Waits a) c = (λ n m. subst (λ o. IsActionOf C a (stands n m o)) (sym is) (is_action _ a c.0 n m), same_task t h hs c.1 c.2)
      by_case step_of.Stuck c = is ∙ c

  pub rested_steps : (t : Task) (s : Step) → t.standing ≡ standing.Rested
      → Enters C (λ names fs. rested_line names C (slice_get (body_at C t.level.body).lines t.level.at) (plain_level t.level) fs) s → StepsTo C t s t
  rested_steps t (step_of.Waits a) e w =
      (λ n m. subst (λ o. IsActionOf C a (stands n m o)) (sym (step_rested t e)) (is_action _ a (w t.number t.callers) n m), refl)
  rested_steps t step_of.Stuck e w = step_rested t e ∙ w t.number t.callers
  rested_steps t step_of.Goes e w = absurd (w t.number t.callers)
  rested_steps t (step_of.Makes r) e w = absurd (w t.number t.callers)
  rested_steps t (step_of.Ends x) e w = absurd (w t.number t.callers)

  pub ended_steps : (t : Task) (x y : Ending) → t.standing ≡ standing.Ended x → y ≡ x → StepsTo C t (step_of.Waits (action.End y)) t
  ended_steps t x y e f =
      (λ n m. subst (λ o. IsActionOf C (action.End y) (stands n m o)) (sym (step_ended t x e ∙ ap (λ z. Ends (plain_ending z)) (sym f))) refl, refl)

  pub goes_on : (t : Task) → t.ticks < 4096 → (t.ticks == most_ticks) ≡ false
  unfolding most_ticks
  goes_on t h = let other : t.ticks ≢ 4096 = omega arith in search (rules, other)

  pub one_step : (t : Task) (o : Stand ℕ (ℕ × ℕ)) (fuel : ℕ) → t.ticks < 4096 → step_at C t ≡ o
      → run_from (names_of t.number) C (suc fuel) t.ticks t.made (state_of t)
      ≡ ran_on (names_of t.number) (λ n m s. run_to_action (names_of t.number) C fuel n m s) t.ticks t.made o
  one_step t o fuel h e =
      ap (λ b. if b then Some (Asks t.ticks t.made (Do Rest) (λ x. state_of t)) else run_to_action (names_of t.number) C (suc fuel) t.ticks t.made (state_of t)) (goes_on t h)
      ∙ ap (ran_on (names_of t.number) (λ n m s. run_to_action (names_of t.number) C fuel n m s) t.ticks t.made) e

  from_here : (old new : Task) (n m fuel : ℕ) (s : State ℕ (ℕ × ℕ)) → new.number ≡ old.number → new.ticks ≡ n → new.made ≡ m → state_of new ≡ s
      → run_from (names_of old.number) C fuel n m s ≡ run_from (names_of new.number) C fuel new.ticks new.made (state_of new)
  from_here old new n m fuel s a b c d =
      sym (ap (λ i. run_from (names_of i) C fuel new.ticks new.made (state_of new)) a ∙ ap (λ i. run_from (names_of old.number) C fuel i new.made (state_of new)) b
      ∙ ap (λ i. run_from (names_of old.number) C fuel n i (state_of new)) c ∙ ap (run_from (names_of old.number) C fuel n m) d)

  pub by_going : (old new : Task) → old.ticks < 4096 → step_at C old ≡ Goes (state_of new) → new.number ≡ old.number → new.ticks ≡ old.ticks
      → new.made ≡ old.made → Advances C old new
  by_going old new h e a b c fuel =
      one_step old (Goes (state_of new)) fuel h e
      ∙ sym (ap (λ x. if x then Some (Asks old.ticks old.made (Do Rest) (λ y. state_of new)) else run_to_action (names_of old.number) C fuel old.ticks old.made (state_of new)) (goes_on old h))
      ∙ from_here old new old.ticks old.made fuel (state_of new) a b c refl

  pub by_ticking : (old new : Task) → old.ticks < 4096 → step_at C old ≡ Ticks (state_of new) → new.number ≡ old.number → new.ticks ≡ suc old.ticks
      → new.made ≡ old.made → Advances C old new
  by_ticking old new h e a b c fuel =
      one_step old (Ticks (state_of new)) fuel h e ∙ from_here old new (suc old.ticks) old.made fuel (state_of new) a b c refl

  pub by_making : (old new : Task) (k : (ℕ × ℕ) → State ℕ (ℕ × ℕ)) → old.ticks < 4096 → step_at C old ≡ Makes k → new.number ≡ old.number
      → new.ticks ≡ suc old.ticks → new.made ≡ suc old.made → state_of new ≡ k (old.number, suc old.made) → Advances C old new
  by_making old new k h e a b c d fuel =
      one_step old (Makes k) fuel h e ∙ from_here old new (suc old.ticks) (suc old.made) fuel (k (old.number, suc old.made)) a b c d

  -- the state of a task that has made a region
  pub made_here : (mid new : Task) (r n m : ℕ) → mid.standing ≡ standing.At → new.standing ≡ mid.standing → new.callers ≡ mid.callers
      → plain_level new.level ≡ with_local r (mid.number, suc mid.made) (plain_level mid.level) → mid.number ≡ n → mid.made ≡ m
      → state_of new ≡ machine.On (with_local r (n, suc m) (plain_level mid.level)) (map plain_level mid.callers)
  made_here mid new r n m a b c d e f =
      ap (λ s. state_in s new.level new.callers) (b ∙ a) ∙ ap (λ g. machine.On g (map plain_level new.callers)) d
      ∙ ap (λ cs. machine.On (with_local r (mid.number, suc mid.made) (plain_level mid.level)) (map plain_level cs)) c
      ∙ ap (λ i. machine.On (with_local r (i, suc mid.made) (plain_level mid.level)) (map plain_level mid.callers)) e
      ∙ ap (λ i. machine.On (with_local r (n, suc i) (plain_level mid.level)) (map plain_level mid.callers)) f
