-- From a state the machine does what a program does, and goes on as whatever follows from the states after it.
use Rattle.std.proofs.Common.{◌≡◌, ℕ, zero, suc, ◌+◌, ◌≤◌, Bool, true, false, List, length, refl, sym, ap, ◌∙◌, subst, arith}
use Rattle.lang_base.specs.declared.place.Place.{Place}
use Rattle.lang_base.specs.declared.value.Trap.{Trap}
use Rattle.lang_typed.specs.declared.stmt.Forking.{Forking}
use Rattle.lang_typed.specs.Plain.{PlainProgram}
use Rattle.lang_meaning.specs.Values.{Value, Naming}
use Rattle.lang_meaning.specs.Actions.{Frame, Task, Trapped, Own, Do, Fork, Begin, Join, Answer, Reply}
use Rattle.lang_meaning.specs.Core.{Result, Goes_on, Returns, Prog, Ret, Traps, Act, Makes, Again, Split, next_of, and_then, Out, Done, bind, loop, tested, rounded, run}
use Rattle.lang_meaning.specs.Counts.{truth, Brought, brought}
use Rattle.lang_meaning.specs.Expressions.{gives}
use Rattle.lang_meaning.specs.Asking.{Reported, asked, ticked, begins_then, reported_join, reported}
use Rattle.code_instrs.specs.Plain.{PlainCode}
use Rattle.code_instrs.specs.Machine.{Start, State, Off, Goes, Ticks, Waits, trapped, step}
use Rattle.code_instrs.specs.Machine.{Stand as stand}
use Rattle.code_scheme.specs.Compiled.{AllCompiled}
use Rattle.code_scheme.proofs.Does.{after, room, after_assoc, bind_assoc, Replies, Does, does_same, does_less, does_on, does_step, does_act, does_tick, does_make, does_end, does_begins}

-- a loop over what is reported
abbrev pub again : {N M : Type 0} → Naming N M → (t b : Frame N M → Prog N M) → ℕ → Frame N M → Reported N M → Out N M (Result N M) (Reported N M)
again names t b m f w = loop ticked (λ g v. run (reported names) (t g) v) (λ g v. run (reported names) (b g) v) m f w

abbrev pub past_test : {N M : Type 0} → Naming N M → (t b : Frame N M → Prog N M) → ℕ → Result N M → Reported N M → Out N M (Result N M) (Reported N M)
past_test names t b m r w = tested ticked (λ g v. run (reported names) (b g) v) (λ g u. again names t b m g u) r w

-- s: where it starts; B: where it goes on, with a value and a frame at this depth; G: where it has returned
pub record Sim {N M : Type 0} (names : Naming N M) (C : PlainCode) (P : PlainProgram) (d : ℕ) (s : State N M) (B : Value N → Frame N M →
    State N M) (G : Value N → State N M) (p : Prog N M) : Type 0 where
  pub does : (b : ℕ) (K : Result N M → Reported N M → Reply N M (Task N M)) →
      ((v : Value N) (g : Frame N M) → g.left ≡ d → Does names C P b (B v g) (K (Goes_on v g))) → ((v : Value N) → Does names C P b (G v) (K (Returns v))) →
      Does names C P b s (λ w. after (run (reported names) p w) K)

module _ {N M : Type 0} {names : Naming N M} {C : PlainCode} {P : PlainProgram} {d : ℕ} where
  -- there already
  pub sim_here : {B : Value N → Frame N M → State N M} {G : Value N → State N M} (v : Value N) (f : Frame N M) → f.left ≡ d →
      Sim names C P d (B v f) B G (gives v f)
  sim_here v f l = record { does = λ b K h r. h v f l }

  -- a step in front
  pub sim_step : {s t : State N M} {B : Value N → Frame N M → State N M} {G : Value N → State N M} {p : Prog N M} → step names C s ≡ Goes t →
      Sim names C P d t B G p → Sim names C P d s B G p
  sim_step e x = record { does = λ b K h r. does_step e (x.does b K h r) }

  -- a step after
  pub sim_last : {s : State N M} {B B' : Value N → Frame N M → State N M} {G : Value N → State N M} {p : Prog N M} →
      ((v : Value N) (g : Frame N M) → step names C (B v g) ≡ Goes (B' v g)) → Sim names C P d s B G p → Sim names C P d s B' G p
  sim_last e x = record { does = λ b K h r. x.does b K (λ v g i. does_step (e v g) (h v g i)) r }

  -- one step that gives a value
  pub sim_value : {s : State N M} {B : Value N → Frame N M → State N M} {G : Value N → State N M} (v : Value N) (f : Frame N M) → f.left ≡ d →
      step names C s ≡ Goes (B v f) → Sim names C P d s B G (gives v f)
  sim_value v f l e = record { does = λ b K h r. does_step e (h v f l) }

  pub sim_return : {s : State N M} {B : Value N → Frame N M → State N M} {G : Value N → State N M} (v : Value N) → step names C s ≡ Goes (G v) →
      Sim names C P d s B G (Ret (Returns v))
  sim_return v e = record { does = λ b K h r. does_step e (r v) }

  -- trapped already, and by a step
  pub sim_off : {B : Value N → Frame N M → State N M} {G : Value N → State N M} (t : Trap) (at : Place) → Sim names C P d (Off (Trapped t at)) B G (Traps t at)
  sim_off t at = record { does = λ b K h r. does_end (Trapped t at) }

  pub sim_trap : {s : State N M} {B : Value N → Frame N M → State N M} {G : Value N → State N M} (t : Trap) (at : Place) →
      step names C s ≡ Goes (trapped t at) → Sim names C P d s B G (Traps t at)
  sim_trap t at e = record { does = λ b K h r. does_step e (does_end (Trapped t at)) }

  pub sim_then : {s : State N M} {B B' : Value N → Frame N M → State N M} {G : Value N → State N M} {p : Prog N M} {q : Value N → Frame N M → Prog N M} →
      Sim names C P d s B G p → ((v : Value N) (g : Frame N M) → g.left ≡ d → Sim names C P d (B v g) B' G (q v g)) → Sim names C P d s B' G (and_then p q)
  sim_then {s} {B} {B'} {G} {p} {q} x y = record {
    does = λ b K h r. does_on p (next_of q) K (x.does b (λ x v. after (run (reported names) (next_of q x) v) K) (λ v g i. (y v g i).does b K h r) r);
  }

  pub sim_act : {s : State N M} {B : Value N → Frame N M → State N M} {G : Value N → State N M} {o : Own N M} {k : Answer N M → State N M} {j : Answer N M →
      Prog N M} → step names C s ≡ Waits (Do o) k → ((x : Answer N M) → Sim names C P d (k x) B G (j x)) → Sim names C P d s B G (Act o j)
  sim_act {s} {B} {G} {o} {k} {j} e x = record {
    does = λ b K h r. does_act (Do o) (Do o) (λ x v. run (reported names) (j x) v) K refl e (λ y. (x y).does b K h r);
  }

  pub sim_make : {s : State N M} {B : Value N → Frame N M → State N M} {G : Value N → State N M} {k : M → State N M} {j : M → Prog N M} →
      step names C s ≡ stand.Makes k → ((r : M) → Sim names C P d (k r) B G (j r)) → Sim names C P d s B G (Makes j)
  sim_make {s} {B} {G} {k} {j} e x = record { does = λ b K h r. does_make (λ m v. run (reported names) (j m) v) K e (λ m. (x m).does b K h r) }

  -- a loop. H: its head; T: after the test; L: after the tick; F: after the body
  module _ (H L : Frame N M → State N M) (T F B : Value N → Frame N M → State N M) (G : Value N → State N M) (t b : Frame N M →
      Prog N M) (ht : (f : Frame N M) → f.left ≡ d → Sim names C P d (H f) T G (t f)) (hb : (f : Frame N M) → f.left ≡ d →
      Sim names C P d (L f) F G (b f)) (M' : Frame N M → State N M) (leave : (v : Value N) (g : Frame N M) → truth v ≡ false →
      step names C (T v g) ≡ Goes (B v g)) (enter : (v : Value N) (g : Frame N M) → truth v ≡ true →
      step names C (T v g) ≡ Goes (M' g)) (tick : (g : Frame N M) → step names C (M' g) ≡ Ticks (L g)) (back : (v : Value N) (g : Frame N M) →
      step names C (F v g) ≡ Goes (H g)) where
    at_test : (a m : ℕ) (K : Result N M → Reported N M → Reply N M (Task N M)) →
        ((i : Frame N M) → i.left ≡ d → Does names C P a (H i) (λ w. after (again names t b m i w) K)) →
        ((v : Value N) (g : Frame N M) → g.left ≡ d → Does names C P (suc a) (B v g) (K (Goes_on v g))) →
        ((v : Value N) → Does names C P (suc a) (G v) (K (Returns v))) → (v : Value N) (g : Frame N M) → g.left ≡ d → (x : Bool) → truth v ≡ x →
        Does names C P (suc a) (T v g) (λ w. after (past_test names t b m (Goes_on v g) w) K)
    at_test a m K more h r v g l false e =
        does_same (λ w. ap (λ x. after
        (elim x as (λ y. Out N M (Result N M) (Reported N M)) [
          | false ↦ Done (Goes_on v g) w
          | true ↦ bind (ticked w)
              (λ u w'. bind (run (reported names) (b g) w') (λ r w''. rounded (again names t b m) r w''))
        ]) K) (sym e))
        (does_step (leave v g e) (h v g l))
    at_test a m K more h r v g l true e =
        does_same (λ w. ap (λ x. after
        (elim x as (λ y. Out N M (Result N M) (Reported N M)) [
          | false ↦ Done (Goes_on v g) w
          | true ↦ bind (ticked w)
              (λ u w'. bind (run (reported names) (b g) w') (λ r w''. rounded (again names t b m) r w''))
        ]) K) (sym e))
        (does_step (enter v g e)
        (does_tick (λ v. bind (run (reported names) (b g) v) (λ r v. rounded (again names t b m) r v)) K (tick g)
        (does_same (λ w. sym (after_assoc (run (reported names) (b g) w) (λ r v. rounded (again names t b m) r v) K))
        ((hb g l).does a (λ r v. after (rounded (again names t b m) r v) K) (λ v i y. does_step (back v i) (more i y))
        (λ j. does_less (omega arith) (r j))))))

    rounds : (a m : ℕ) → a ≤ m → (f : Frame N M) (K : Result N M → Reported N M → Reply N M (Task N M)) → f.left ≡ d →
        ((v : Value N) (g : Frame N M) → g.left ≡ d → Does names C P a (B v g) (K (Goes_on v g))) → ((v : Value N) → Does names C P a (G v) (K (Returns v))) →
        Does names C P a (H f) (λ w. after (again names t b m f w) K)
    rounds zero m le f K l h r = record { from = λ w i j. absurd (omega arith) }
    rounds (suc a) zero le f K l h r = absurd (omega arith)
    rounds (suc a) (suc m) le f K l h r =
        does_same (λ w. sym (after_assoc (run (reported names) (t f) w) (λ r v. past_test names t b m r v) K))
        ((ht f l).does (suc a) (λ r v. after (past_test names t b m r v) K)
        (λ v g y. at_test a m K (λ i y. rounds a m (omega arith) i K y (λ u j z. does_less (omega arith) (h u j z)) (λ j. does_less (omega arith) (r j)))
        h r v g y (truth v) refl) r)

    pub sim_loop : (f : Frame N M) → f.left ≡ d → Sim names C P d (H f) B G (Again t b f (λ r. Ret r))
    sim_loop f l = record {
      does = λ a K h r. record {
        from = λ w lo i.
            (let x = rounds (suc (room w)) (suc (room w)) (omega arith) f K l (λ v g y. does_less (omega arith) (h v g y))
            (λ v. does_less (omega arith) (r v)) in
            let y = x.from w lo (omega arith) in
            subst (λ z. Replies names C P w.since w.made (H f) w.to_come z) (sym (after_assoc (again names t b (suc (room w)) f w) (λ r v. Done r v) K)) y);
      };
    }

  -- branches. J: in front of the join, where a branch is next and so many are left; D: after it
  pub sim_split : {s : State N M} {B : Value N → Frame N M → State N M} {G : Value N → State N M} (forking : Forking) (ts : List (Task N M))
      (bs : List (Start N M)) (bodies : ℕ → Prog N M) (k : Brought N → Prog N M) (J : ℕ → ℕ → State N M) (D : Brought N → State N M) (n : ℕ) → length ts ≡ n →
      AllCompiled C P bs ts → step names C s ≡ Waits (Fork (record { kind = forking; tasks = bs })) (λ x. J 0 n) →
      ((i m : ℕ) → i + suc m ≡ n → step names C (J i (suc m)) ≡ Waits (Begin i) (λ x. J (suc i) m)) →
      ((i : ℕ) → step names C (J i 0) ≡ Waits Join (λ x. D (brought x))) → ((x : Brought N) → Sim names C P d (D x) B G (k x)) →
      Sim names C P d s B G (Split forking ts bodies k)
  sim_split {s} {B} {G} forking ts bs bodies k J D n many all fork begin join out = record {
    does = λ b K h r.
        (let Y : Brought N → Reported N M → Out N M (Result N M) (Reported N M) = λ x v. run (reported names) (k x) v in
        let begins = does_begins {b = b} n J D Y K begin join (λ x. (out x).does b K h r) n 0 (omega arith) in
        does_same (λ w. ap (λ o. after o K) (ap (λ i. bind (asked (Fork (record { kind = forking; tasks = ts })) w) (λ a v. bind (begins_then 0 i reported_join v) Y)) (sym many) ∙
        sym (bind_assoc (asked (Fork (record { kind = forking; tasks = ts })) w) (λ a v. begins_then 0 (length ts) reported_join v) Y)))
        (does_act (Fork (record { kind = forking; tasks = ts })) (Fork (record { kind = forking; tasks = bs })) (λ a v. bind (begins_then 0 n reported_join v) Y) K (bs, refl, all) fork (λ x. begins)));
  }
