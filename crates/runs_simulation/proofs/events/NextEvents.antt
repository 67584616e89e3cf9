-- A ready task of a machine has a next event.
use Rattle.std.proofs.Common.{◌≡◌, ◌∙◌, ℕ, suc, zero, ◌==◌, if◌then◌else◌, Bool, true, false, map, Some, None, option_map, refl, ap, sym, subst}
use Rattle.lang_meaning.specs.Actions.{Do, End, Rest}
use Rattle.lang_meaning.specs.Asking.{most_ticks}
use Rattle.code_instrs.specs.RunsToActions.{Asks, Dead, Halt, RunsToAction, run_to_action, ran_on}
use Rattle.code_instrs.specs.Machine.{Ends, Makes, Stand, State, Stuck, Ticks, Waits, step}
use Rattle.code_instrs.specs.Machine.{Goes as GoesTo}
use Rattle.code_instrs.specs.Plain.{PlainCode}
use Rattle.exec_task.specs.Halts.{IsActionOf, stands}
use Rattle.exec_task.specs.Names.{names_of}
use Rattle.exec_task.specs.declared.action.Action.{Action}
use Rattle.exec_task.specs.declared.action.Action.TheVariants as action
use Rattle.exec_task.specs.declared.action.Own.TheVariants as own
use Rattle.exec_world.specs.Ready.{IsReady}
use Rattle.exec_world.specs.declared.event.Event.{Event}
use Rattle.exec_machine.specs.Premise.{GoesOn}
use Rattle.exec_machine.specs.Replay.{Moment, NextOf}
use Rattle.exec_machine.specs.Running.{Goes, Running, front}
use Rattle.exec_machine.specs.Wants.{WantsRightly, noted, wanted_after}
use Rattle.runs_simulation.proofs.events.Sayings.{WaitsRight, said_by, step_right}

-- where a task's way ends, with the action that says so
record Front (C : PlainCode) (k : ℕ) (h : Halt ℕ (ℕ × ℕ)) : Type 0 where
  ticks : ℕ
  made : ℕ
  state : State ℕ (ℕ × ℕ)
  is : front C k ticks made state ≡ h
  action : Action
  is_action : IsActionOf C action h

abbrev Further : PlainCode → ℕ → ℕ → Type 0
Further C k fuel =
    (ticks made : ℕ) (z : State ℕ (ℕ × ℕ)) (h : Halt ℕ (ℕ × ℕ)) → (ticks == most_ticks) ≡ false → run_to_action (names_of k) C fuel ticks made z ≡ Some h → (h ≡ Dead → ⊥) → Front C k h

same_halt : {A : Type 0} {x y : A} → Some x ≡ Some y → x ≡ y
same_halt e = cc

module _ (C : PlainCode) (k fuel : ℕ) (more : Further C k fuel) where
  -- after a tick: the task rests, or goes on
  ticked : (ticks made : ℕ) (z : State ℕ (ℕ × ℕ)) (h : Halt ℕ (ℕ × ℕ)) (b : Bool) → (ticks == most_ticks) ≡ b
      → (if b then Some (Asks ticks made (Do Rest) (λ x. z)) else run_to_action (names_of k) C fuel ticks made z) ≡ Some h → (h ≡ Dead → ⊥) → Front C k h
  ticked ticks count z h true last runs alive = record {
    ticks = ticks;
    made = count;
    state = z;
    is = ap (λ b. if b then Asks ticks count (Do Rest) (λ x. z) else stands ticks count (step (names_of k) C z)) last ∙ same_halt runs;
    action = action.Do own.Rest;
    is_action = subst (IsActionOf C (action.Do own.Rest)) (same_halt runs) refl;
  }
  ticked ticks count z h false last runs alive = more ticks count z h last runs alive

  module _ (ticks made : ℕ) (z : State ℕ (ℕ × ℕ)) (h : Halt ℕ (ℕ × ℕ)) (less : (ticks == most_ticks) ≡ false) (alive : h ≡ Dead → ⊥) where
    here : (s : Stand ℕ (ℕ × ℕ)) → step (names_of k) C z ≡ s → front C k ticks made z ≡ stands ticks made s
    here s e =
        ap (λ b. if b then Asks ticks made (Do Rest) (λ x. z) else stands ticks made (step (names_of k) C z)) less ∙ ap (stands ticks made) e

    by_stand : (s : Stand ℕ (ℕ × ℕ)) → step (names_of k) C z ≡ s → ran_on (names_of k) (λ n m t. run_to_action (names_of k) C fuel n m t) ticks made s ≡ Some h → Front C k h
    by_stand (GoesTo t) e runs = more ticks made t h less runs alive
    by_stand (Ticks t) e runs = ticked (suc ticks) made t h (suc ticks == most_ticks) refl runs alive
    by_stand (Makes made_so) e runs = ticked (suc ticks) (suc made) (made_so ((names_of k).made made)) h (suc ticks == most_ticks) refl runs alive
    by_stand (Waits a kont) e runs =
        let said = said_by C a (subst (WaitsRight C) e (step_right (names_of k) C z)) in record {
          ticks = ticks;
          made = made;
          state = z;
          is = here (Waits a kont) e ∙ same_halt runs;
          action = said.0;
          is_action = subst (IsActionOf C said.0) (same_halt runs) said.1;
        }
    by_stand (Ends x) e runs =
        let said = said_by C (End x) tt in record {
          ticks = ticks;
          made = made;
          state = z;
          is = here (Ends x) e ∙ same_halt runs;
          action = said.0;
          is_action = subst (IsActionOf C said.0) (same_halt runs) said.1;
        }
    by_stand Stuck e runs = absurd (alive (sym (same_halt runs)))

front_there : (C : PlainCode) (k fuel : ℕ) → Further C k fuel
front_there C k zero ticks count z h less runs alive = absurd (let none : None ≡ Some h = runs in cc)
front_there C k (suc fuel) ticks count z h less runs alive = by_stand C k fuel (front_there C k fuel) ticks count z h less alive (step (names_of k) C z) refl runs

wants_rightly : (C : PlainCode) (z : State ℕ (ℕ × ℕ)) (ticks : ℕ) (a : Action) → WantsRightly C z ticks a (option_map (map noted) (wanted_after C ticks z))
wants_rightly C z ticks (action.Do own.Rest) = refl
wants_rightly C z ticks a = tt

first_tick : (0 == most_ticks) ≡ false
unfolding most_ticks
first_tick = refl

-- a ready task has a next event
pub next_event : (C : PlainCode) (m : Moment) (k : ℕ) → GoesOn C m → m.outcome ≡ None → IsReady m.world k → (e : Event) × NextOf C m k e
next_event C m k goes unfinished ready = (
  record { task = k; ticks = F.ticks; action = F.action; wants = option_map (map noted) (wanted_after C F.ticks F.state) },
  record {
    unfinished = unfinished;
    ready = ready;
    task = live.0;
    there = live.1;
    stands = record {
      state = F.state;
      made = F.made;
      run_to_action = subst (λ h. RunsToAction (names_of k) C live.0.made live.0.state h) (sym F.is) G.run_to_action;
      is_action = subst (IsActionOf C F.action) (sym F.is) F.is_action;
      number = refl;
      wants = wants_rightly C F.state F.ticks F.action;
    };
  },
)
  where
    live : (t : Running) × (m.tasks k ≡ Some t)
    live = goes.live k ready

    G : Goes C k live.0
    G = goes.all_go k live.0 live.1

    F : Front C k G.halt
    F = front_there C k G.run_to_action.fuel 0 live.0.made live.0.state G.halt first_tick G.run_to_action.runs G.alive
