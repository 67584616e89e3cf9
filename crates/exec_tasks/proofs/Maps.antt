-- Maps that answer alike are one, and a task of a map through a change.
use Rattle.std.proofs.Common.{◌≡◌, ℕ, refl, sym, ap, ◌∙◌, Some, None, Bool, true, false, cond, Result, Ok, Err, OnErr, subst}
use Rattle.std.specs.Ordering.{nat_cmp, eq_by_cmp}
use Rattle.std.specs.Cmp.{nat_cmp_total, Equal-is}
use Rattle.std.specs.FinMap.{FinMap, get, insert, get-insert, get_tied, same_map, nat_cmp-IsAntisymmetric}
use Rattle.exec_tasks.specs.declared.task.Task.{Task}
use Rattle.exec_tasks.specs.Tree.{Tasks, OfTask, changed, changed_to}

pub same_maps : {A : Type 0} (m n : FinMap nat_cmp A) → ((q : ℕ) → get m q ≡ get n q) → m ≡ n
same_maps m n same = same_map nat_cmp_total nat_cmp-IsAntisymmetric m n same

-- what was there, put there again
pub put_again : {A : Type 0} (m : FinMap nat_cmp A) (k : ℕ) (w t : A) → Some t ≡ get m k → w ≡ t → insert m k w ≡ m
put_again {A} m k w t at is =
    ap (insert m k) is ∙ same_maps (insert m k t) m (λ q. get-insert nat_cmp_total m k t q ∙ found q (eq_by_cmp nat_cmp q k) refl)
  where
    found : (q : ℕ) (b : Bool) → eq_by_cmp nat_cmp q k ≡ b → cond b (Some t) (get m q) ≡ get m q
    found q false e = refl
    found q true e = at ∙ get_tied nat_cmp_total m q k ((Equal-is (nat_cmp q k)).0 e)

-- a task written, or not there
pub written : (tasks : Tasks) (k : ℕ) (w t : Task) (change : Task → Task) → Some t ≡ get tasks k → w ≡ change t
    → insert tasks k w ≡ changed tasks k change
written tasks k w t change at is = ap (insert tasks k) is ∙ ap (λ o. changed_to tasks k o change) at

pub not_written : (tasks : Tasks) (k : ℕ) (change : Task → Task) → None ≡ get tasks k → tasks ≡ changed tasks k change
not_written tasks k change at = ap (λ o. changed_to tasks k o change) at

-- a task that the map has, or hasn't
pub of_found : (tasks : Tasks) (k : ℕ) (t : Task) (P : Task → Type 0) → Some t ≡ get tasks k → OfTask (get tasks k) P → P t
of_found tasks k t P at holds = subst (λ o. OfTask o P) (sym at) holds

pub of_none : (tasks : Tasks) (k : ℕ) (P : Task → Type 0) → None ≡ get tasks k → OfTask (get tasks k) P → ⊥
of_none tasks k P at holds = subst (λ o. OfTask o P) (sym at) holds

-- a fact for the other answer
pub on_err : {T E : Type 0} (r : Result T E) (Q : Type 0) → Q → OnErr r Q
on_err (Ok x) Q q = tt
on_err (Err e) Q q = q
