-- The tasks that a machine keeps, through a change of one.
use Rattle.std.proofs.Common.{◌≡◌, ◌≢◌, ℕ, ◌==◌, if◌then◌else◌, true, cond, inl, inr, refl, sym, ap, subst, ◌∙◌, Option, Some, None, Result, Ok, Err, IfOk, OnOk}
use Rattle.std.proofs.lemmas.Bool.Decides.{eqb_tells}
use Rattle.std.specs.Ordering.{nat_cmp, eq_by_cmp}
use Rattle.std.specs.Cmp.{nat_cmp_total}
use Rattle.std.specs.FinMap.{FinMap, get, insert, remove, get-insert, get-remove}
use Rattle.lang_base.specs.declared.memory.NoMemory.{NoMemory}
use Rattle.code_instrs.specs.Plain.{PlainCode}
use Rattle.exec_task.specs.Halts.{Halts, IsActionOf, front_of}
use Rattle.exec_task.specs.declared.action.Action.{Action}
use Rattle.exec_tasks.proofs.Numbers.{itself, other_number}
use Rattle.exec_machine.specs.declared.slot.Slot.{Slot}
use Rattle.exec_machine.specs.Running.{Running, Goes, GoesOne, StandsFor, StandsForOne, AllStand, OfSlot, StandsAt}
use Rattle.exec_machine.specs.Replay.{with_task}

-- the two tests of numbers are one
one_test : (q k : ℕ) → eq_by_cmp nat_cmp q k ≡ (q == k)
one_test q k =
    elim (eqb_tells q k) [
      | inl same ↦ subst (λ n. eq_by_cmp nat_cmp n k ≡ true) (sym same.1) (itself k) ∙ sym same.0
      | inr apart ↦ other_number q k apart.1 ∙ sym apart.0
    ]

-- where a task was put, and beside it
pub placed : (tasks : ℕ → Option Running) (k : ℕ) (x : Option Running) → with_task tasks k x k ≡ x
placed tasks k x = elim (eqb_tells k k) [
  | inl same ↦ ap (λ b. if b then x else tasks k) same.0
  | inr apart ↦ absurd (apart.1 refl)
]

pub beside : (tasks : ℕ → Option Running) (k : ℕ) (x : Option Running) (q : ℕ) → q ≢ k → with_task tasks k x q ≡ tasks q
beside tasks k x q apart = elim (eqb_tells q k) [
  | inl same ↦ absurd (apart same.1)
  | inr other ↦ ap (λ b. if b then x else tasks q) other.0
]

module _ (C : PlainCode) (slots : FinMap nat_cmp Slot) (tasks : ℕ → Option Running) (k : ℕ) where
  pub stand_put : (s : Slot) (x : Option Running) → AllStand C slots tasks → StandsForOne C k (Some s) x → AllStand C (insert slots k s) (with_task tasks k x)
  stand_put s x all here q =
      subst (λ o. StandsForOne C q o (with_task tasks k x q)) (sym (get-insert nat_cmp_total slots k s q ∙ ap (λ b. cond b (Some s) (get slots q)) (one_test q k)))
      (elim (eqb_tells q k) [
        | inl same ↦ subst (λ b. StandsForOne C q (cond b (Some s) (get slots q)) (if b then x else tasks q)) (sym same.0)
            (subst (λ n. StandsForOne C n (Some s) x) (sym same.1) here)
        | inr apart ↦ subst (λ b. StandsForOne C q (cond b (Some s) (get slots q)) (if b then x else tasks q)) (sym apart.0) (all q)
      ])

  pub stand_taken : AllStand C slots tasks → AllStand C (remove slots k) (with_task tasks k None)
  stand_taken all q =
      subst (λ o. StandsForOne C q o (with_task tasks k None q)) (sym (get-remove nat_cmp_total slots k q ∙ ap (λ b. cond b None (get slots q)) (one_test q k)))
      (elim (eqb_tells q k) [
        | inl same ↦ subst (λ b. StandsForOne C q (cond b None (get slots q)) (if b then None else tasks q)) (sym same.0) (tt {0})
        | inr apart ↦ subst (λ b. StandsForOne C q (cond b None (get slots q)) (if b then None else tasks q)) (sym apart.0) (all q)
      ])

  pub stand_kept : (s : Slot) → AllStand C slots tasks → StandsForOne C k (Some s) (tasks k) → AllStand C (insert slots k s) tasks
  stand_kept s all here q =
      subst (λ o. StandsForOne C q o (tasks q)) (sym (get-insert nat_cmp_total slots k s q ∙ ap (λ b. cond b (Some s) (get slots q)) (one_test q k)))
      (elim (eqb_tells q k) [
        | inl same ↦ subst (λ b. StandsForOne C q (cond b (Some s) (get slots q)) (tasks q)) (sym same.0)
            (subst (λ n. StandsForOne C n (Some s) (tasks n)) (sym same.1) here)
        | inr apart ↦ subst (λ b. StandsForOne C q (cond b (Some s) (get slots q)) (tasks q)) (sym apart.0) (all q)
      ])

-- a slot that has gone on stands for the task for which it stood
pub stands_still : (C : PlainCode) (k : ℕ) (old new : Slot) (o : Option Running) → GoesOne C k o → StandsForOne C k (Some old) o
    → ((t : Running) → Goes C k t → StandsFor C k old t → StandsFor C k new t) → StandsForOne C k (Some new) o
stands_still C k old new None go stands still = stands
stands_still C k old new (Some t) go stands still = still t go stands

-- where an action is answered, the slot stands at it
pub stands_at : (C : PlainCode) (o : Option Slot) (s : Slot) (r : Result Action NoMemory) → o ≡ Some s → OnOk r (s.pending ≡ None)
    → OnOk r (Halts C s.task (front_of C s.task)) → IfOk r (λ a. IsActionOf C a (front_of C s.task)) → IfOk r (λ a. OfSlot o (StandsAt C a))
stands_at C o s (Ok a) is given halts is_action =
    subst (λ x. OfSlot x (StandsAt C a)) (sym is) (record { given = given; halts = halts; is_action = is_action })
stands_at C o s (Err e) is given halts is_action = tt
