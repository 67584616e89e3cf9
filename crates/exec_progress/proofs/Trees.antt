-- Which tasks of a world are live after an action.
use Rattle.std.proofs.Common.{◌≡◌, ◌≢◌, ℕ, ◌⊎◌, inl, inr, Bool, true, false, cond, List, refl, sym, subst, IsSome, Option, Some, None}
use Rattle.std.specs.Ordering.{nat_cmp, eq_by_cmp}
use Rattle.std.specs.Cmp.{nat_cmp_total}
use Rattle.std.specs.FinMap.{empty, get, insert, remove, get-empty, get-insert, get-remove}
use Rattle.lang_base.specs.declared.place.Place.{Place}
use Rattle.lang_base.specs.declared.value.SlotValue.{SlotValue}
use Rattle.lang_base.specs.declared.value.Trap.{Trap}
use Rattle.exec_tasks.specs.Scope.{with_branch, with_end}
use Rattle.exec_tasks.specs.Tree.{Tasks, Tree, only_root, task_at, fresh, changed_to, changed, with_scope, next_origin, with_task, end_noted, without_task, end_of, origin_of}
use Rattle.exec_tasks.specs.declared.end.TaskEnd.{TaskEnd}
use Rattle.exec_tasks.specs.declared.task.Origin.{Origin}
use Rattle.exec_tasks.specs.declared.task.Task.{Task}
use Rattle.exec_tasks.proofs.Numbers.{same_number, itself}

-- a task of this number is live
abbrev pub IsLive : Tasks → ℕ → Type 0
IsLive tasks q = IsSome (get tasks q)

put_live : (tasks : Tasks) (n : ℕ) (t : Task) (q : ℕ) → IsLive (insert tasks n t) q → (q ≡ n) ⊎ IsLive tasks q
put_live tasks n t q live = go (eq_by_cmp nat_cmp q n) refl (subst IsSome (get-insert nat_cmp_total tasks n t q) live)
  where
    go : (b : Bool) → eq_by_cmp nat_cmp q n ≡ b → IsSome (cond b (Some t) (get tasks q)) → (q ≡ n) ⊎ IsLive tasks q
    go true e x = inl (same_number q n e)
    go false e x = inr x

taken_live : (tasks : Tasks) (n q : ℕ) → IsLive (remove tasks n) q → (q ≢ n) × IsLive tasks q
taken_live tasks n q live = go (eq_by_cmp nat_cmp q n) refl (subst IsSome (get-remove nat_cmp_total tasks n q) live)
  where
    go : (b : Bool) → eq_by_cmp nat_cmp q n ≡ b → IsSome (cond b None (get tasks q)) → (q ≢ n) × IsLive tasks q
    go true e x = absurd (cc)
    go false e x = (λ same. (let is = subst (λ k. eq_by_cmp nat_cmp k n ≡ true) (sym same) (itself n) in cc), x)

pub changed_live : (tasks : Tasks) (n : ℕ) (f : Task → Task) (q : ℕ) → IsLive (changed tasks n f) q → IsLive tasks q
changed_live tasks n f q live = go (get tasks n) refl live
  where
    go : (o : Option Task) → get tasks n ≡ o → IsLive (changed_to tasks n o f) q → IsLive tasks q
    go None e x = x
    go (Some t) e x = elim (put_live tasks n (f t) q x) [
      | inl same ↦ subst (λ k. IsSome (get tasks k)) (sym same) (subst IsSome (sym e) refl)
      | inr old ↦ old
    ]

-- at the start the root alone is live
pub root_live : (q : ℕ) → IsLive only_root.tasks q → q ≡ 0
root_live q live = elim (put_live empty 0 (fresh None) q live) [
  | inl same ↦ same
  | inr old ↦ (let none : IsSome {T = Task} None = subst IsSome (get-empty nat_cmp q) old in absurd (cc))
]

-- a branch that begins has the next number
pub begun_live : (tree : Tree) (n q : ℕ) → IsLive (with_task tree n).tasks q → (q ≡ tree.begun) ⊎ IsLive tree.tasks q
begun_live tree n q live =
    put_live tree.tasks tree.begun (fresh (next_origin n (task_at tree n))) q
    (changed_live (insert tree.tasks tree.begun (fresh (next_origin n (task_at tree n)))) n (with_scope with_branch) q live)

noted_live : (tree : Tree) (n : ℕ) (o : Option Origin) (how : TaskEnd) (q : ℕ) → IsLive (end_noted tree n o how).tasks q → (q ≢ n) × IsLive tree.tasks q
noted_live tree n None how q live = taken_live tree.tasks n q live
noted_live tree n (Some origin) how q live =
    taken_live tree.tasks n q (changed_live (remove tree.tasks n) origin.parent (with_scope (λ scope. with_end scope origin.step.branch how)) q live)

pub ended_live : (tree : Tree) (n : ℕ) (trap : Option (Trap × Place)) (slots : List SlotValue) (q : ℕ) → IsLive (without_task tree n trap slots).tasks q →
    (q ≢ n) × IsLive tree.tasks q
ended_live tree n trap slots q live = noted_live tree n (origin_of (task_at tree n)) (end_of (task_at tree n) trap slots) q live

noted_begun : (tree : Tree) (n : ℕ) (o : Option Origin) (how : TaskEnd) → (end_noted tree n o how).begun ≡ tree.begun
noted_begun tree n None how = refl
noted_begun tree n (Some origin) how = refl

pub ended_begun : (tree : Tree) (n : ℕ) (trap : Option (Trap × Place)) (slots : List SlotValue) → (without_task tree n trap slots).begun ≡ tree.begun
ended_begun tree n trap slots = noted_begun tree n (origin_of (task_at tree n)) (end_of (task_at tree n) trap slots)
