-- A task that is given its answer goes on its way to the next action.
use Rattle.std.proofs.Common.{arith, ◌≡◌, ℕ, ◌==◌, if◌then◌else◌, refl, sym, ap, ◌∙◌, false, Some}
use Rattle.lang_meaning.specs.Actions.{Do, Rest}
use Rattle.lang_meaning.specs.Asking.{most_ticks}
use Rattle.code_instrs.specs.RunsToActions.{Halt, Asks, Finished, Dead, run_to_action}
use Rattle.code_instrs.specs.Machine.{State}
use Rattle.code_instrs.specs.Plain.{PlainCode}
use Rattle.exec_task.specs.Halts.{run_from, OnTheWay, front_of, Follows, Ends, Paced}
use Rattle.exec_task.specs.Names.{names_of}
use Rattle.exec_task.specs.Tasks.{state_of, plain_answer}
use Rattle.exec_task.specs.declared.action.Answer.{Answer}
use Rattle.exec_task.specs.declared.task.Task.{Task}
use Rattle.exec_machine.specs.Running.{Running, Goes, OnItsWay, IsAnswered, answered}

at_zero : (0 == most_ticks) ≡ false
unfolding most_ticks
at_zero = refl

-- a way to an action on which no tick was made yet
from_zero : (C : PlainCode) (k fuel made : ℕ) (s : State ℕ (ℕ × ℕ)) → run_from (names_of k) C fuel 0 made s ≡ run_to_action (names_of k) C fuel 0 made s
from_zero C k fuel made s = ap (λ b. if b then Some (Asks 0 made (Do Rest) (λ x. s)) else run_to_action (names_of k) C fuel 0 made s) at_zero

-- what is kept of a task is at the start of its way to the next action
pub record Begins (k : ℕ) (s : Task) (t : Running) : Type 0 where
  pub number : s.number ≡ k
  pub ticks : s.ticks ≡ 0
  pub made : s.made ≡ t.made
  pub state : state_of s ≡ t.state

run_is : (C : PlainCode) (k : ℕ) (s : Task) (t : Running) → Begins k s t → (fuel : ℕ)
    → run_from (names_of s.number) C fuel s.ticks s.made (state_of s) ≡ run_to_action (names_of k) C fuel 0 t.made t.state
run_is C k s t b fuel =
    ap (λ n. run_from (names_of n) C fuel s.ticks s.made (state_of s)) b.number
    ∙ ap (λ n. run_from (names_of k) C fuel n s.made (state_of s)) b.ticks
    ∙ ap (λ n. run_from (names_of k) C fuel 0 n (state_of s)) b.made
    ∙ ap (λ z. run_from (names_of k) C fuel 0 t.made z) b.state
    ∙ from_zero C k fuel t.made t.state

pub on_its_way : (C : PlainCode) (k : ℕ) (s : Task) (t : Running) → Goes C k t → Begins k s t → OnItsWay C k s t
on_its_way C k s t g b = record {
  number = b.number;
  way = λ h x. record { fuel = x.fuel; runs = sym (run_is C k s t b x.fuel) ∙ x.runs };
  ends = record { halt = g.halt; halts = record { fuel = g.run_to_action.fuel; runs = run_is C k s t b g.run_to_action.fuel ∙ g.run_to_action.runs }; alive = g.alive };
  paced = record { ticks = omega (arith, b.ticks); names = omega (arith, b.ticks, b.made, g.names) };
}

pub delivered : (C : PlainCode) (k : ℕ) (old new : Task) (x : Answer) (t : Running) → IsAnswered C k old x t → Follows (front_of C old) x new
    → new.number ≡ old.number → Begins k new t
delivered C k old new x t a f n = by_case (front_of C old) a.goes_on f
  where
    same : (u v : Running) → Some u ≡ Some v → u ≡ v
    same u v e = cc

    by_case : (h : Halt ℕ (ℕ × ℕ)) → answered h x ≡ Some t → Follows h x new → Begins k new t
    by_case (Asks ticks made act on) e f =
        let r : Running = record { state = on (plain_answer x); made = made } in
        let is : r ≡ t = same r t e in
        record { number = n ∙ a.number; ticks = f.1; made = f.2 ∙ ap (λ r. r.made) is; state = f.0 ∙ ap (λ r. r.state) is }
    by_case (Finished ticks end) e f = absurd (cc)
    by_case Dead e f = absurd (cc)

-- further on its way
pub ran_on : (C : PlainCode) (k : ℕ) (old new : Task) (t : Running) → OnItsWay C k old t → OnTheWay C old new → new.number ≡ old.number → Ends C new → Paced new
    → OnItsWay C k new t
ran_on C k old new t w way n ends paced = record { number = n ∙ w.number; way = λ h x. w.way h (way h x); ends = ends; paced = paced }
