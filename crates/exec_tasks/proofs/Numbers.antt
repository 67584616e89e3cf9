-- Facts of each task of a map through its changes, and the numbers of a tree.
use Rattle.std.proofs.Common.{◌≡◌, ◌≢◌, ℕ, ◌+◌, ◌<◌, ◌≤◌, refl, sym, ap, subst, ◌∙◌, Option, Some, None, Bool, true, false, cond, arith, true≢false}
use Rattle.std.specs.Ordering.{nat_cmp, eq_by_cmp}
use Rattle.std.specs.Cmp.{nat_cmp_total, Equal-is, tied_itself}
use Rattle.std.specs.FinMap.{FinMap, get, insert, remove, empty, get-insert, get-remove, get-empty, nat_cmp-IsAntisymmetric}
use Rattle.exec_tasks.specs.declared.task.Task.{Task}
use Rattle.exec_tasks.specs.Tree.{Tasks, changed, changed_to, OfEach, OfTask, OfOrigin, IsNumbered, fresh, next_origin}
use Rattle.exec_tasks.proofs.Maps.{same_maps}

-- the test of numbers by which a map finds, and what it tells
pub same_number : (q k : ℕ) → eq_by_cmp nat_cmp q k ≡ true → q ≡ k
same_number q k e = nat_cmp-IsAntisymmetric q k ((Equal-is (nat_cmp q k)).0 e)

pub itself : (k : ℕ) → eq_by_cmp nat_cmp k k ≡ true
itself k = (Equal-is (nat_cmp k k)).1 (tied_itself nat_cmp_total k)

pub other_number : (q k : ℕ) → q ≢ k → eq_by_cmp nat_cmp q k ≡ false
other_number q k apart = other (eq_by_cmp nat_cmp q k) refl
  where
    other : (b : Bool) → eq_by_cmp nat_cmp q k ≡ b → b ≡ false
    other true e = absurd (apart (same_number q k e))
    other false e = refl

module _ {A : Type 0} where
  pub get_inserted : (m : FinMap nat_cmp A) (k : ℕ) (t : A) → get (insert m k t) k ≡ Some t
  get_inserted m k t = get-insert nat_cmp_total m k t k ∙ ap (λ b. cond b (Some t) (get m k)) (itself k)

  pub get_beside : (m : FinMap nat_cmp A) (k q : ℕ) (t : A) → q ≢ k → get (insert m k t) q ≡ get m q
  get_beside m k q t apart = get-insert nat_cmp_total m k t q ∙ ap (λ b. cond b (Some t) (get m q)) (other_number q k apart)

pub taken_back : (tasks : Tasks) (k : ℕ) (t : Task) → get tasks k ≡ None → remove (insert tasks k t) k ≡ tasks
taken_back tasks k t absent =
    same_maps (remove (insert tasks k t) k) tasks (λ q. get-remove nat_cmp_total (insert tasks k t) k q ∙ at q (eq_by_cmp nat_cmp q k) refl)
  where
    at : (q : ℕ) (b : Bool) → eq_by_cmp nat_cmp q k ≡ b → cond b None (get (insert tasks k t) q) ≡ get tasks q
    at q true e = sym absent ∙ ap (get tasks) (sym (same_number q k e))
    at q false e = get_beside tasks k q t (λ same. true≢false (sym (ap (λ n. eq_by_cmp nat_cmp n k) same ∙ itself k) ∙ e))

module _ (P : ℕ → Task → Type 0) where
  at_number : (q k : ℕ) (b : Bool) (x : Option Task) (t : Task) → eq_by_cmp nat_cmp q k ≡ b → P k t → OfEach x (P q) → OfEach (cond b (Some t) x) (P q)
  at_number q k true x t e here there = subst (λ n. P n t) (sym (same_number q k e)) here
  at_number q k false x t e here there = there

  pub each_inserted : (tasks : Tasks) (k : ℕ) (t : Task) → ((q : ℕ) → OfEach (get tasks q) (P q)) → P k t → (q : ℕ) → OfEach (get (insert tasks k t) q) (P q)
  each_inserted tasks k t each here q =
      subst (λ o. OfEach o (P q)) (sym (get-insert nat_cmp_total tasks k t q)) (at_number q k (eq_by_cmp nat_cmp q k) (get tasks q) t refl here (each q))

  without : (b : Bool) (x : Option Task) (q : ℕ) → OfEach x (P q) → OfEach (cond b None x) (P q)
  without true x q there = tt
  without false x q there = there

  pub each_removed : (tasks : Tasks) (k : ℕ) → ((q : ℕ) → OfEach (get tasks q) (P q)) → (q : ℕ) → OfEach (get (remove tasks k) q) (P q)
  each_removed tasks k each q = subst (λ o. OfEach o (P q)) (sym (get-remove nat_cmp_total tasks k q)) (without (eq_by_cmp nat_cmp q k)
      (get tasks q) q (each q))

  changed_at : (tasks : Tasks) (k : ℕ) (o : Option Task) (change : Task → Task) → get tasks k ≡ o → ((t : Task) → P k t → P k (change t))
      → ((q : ℕ) → OfEach (get tasks q) (P q)) → (q : ℕ) → OfEach (get (changed_to tasks k o change) q) (P q)
  changed_at tasks k None change is keeps each q = each q
  changed_at tasks k (Some t) change is keeps each q = each_inserted tasks k (change t) each (keeps t (subst (λ o. OfEach o (P k)) is (each k))) q

  pub each_changed : (tasks : Tasks) (k : ℕ) (change : Task → Task) → ((t : Task) → P k t → P k (change t))
      → ((q : ℕ) → OfEach (get tasks q) (P q)) → (q : ℕ) → OfEach (get (changed tasks k change) q) (P q)
  each_changed tasks k change keeps each q = changed_at tasks k (get tasks k) change refl keeps each q

abbrev Below : ℕ → ℕ → Task → Type 0
Below begun q task = q < begun

abbrev Rises : ℕ → Task → Type 0
Rises q task = OfOrigin task.origin (λ origin. origin.parent < q)

-- a change that keeps where the task came from
pub numbered_changed : (tasks : Tasks) (begun k : ℕ) (change : Task → Task) → ((t : Task) → (change t).origin ≡ t.origin) → IsNumbered tasks begun
    → IsNumbered (changed tasks k change) begun
numbered_changed tasks begun k change keeps numbered = record {
  below = each_changed (Below begun) tasks k change (λ t h. h) numbered.below;
  rising = each_changed Rises tasks k change (λ t h. subst (λ o. OfOrigin o (λ origin. origin.parent < k)) (sym (keeps t)) h) numbered.rising;
}

pub numbered_removed : (tasks : Tasks) (begun k : ℕ) → IsNumbered tasks begun → IsNumbered (remove tasks k) begun
numbered_removed tasks begun k numbered = record {
  below = each_removed (Below begun) tasks k numbered.below;
  rising = each_removed Rises tasks k numbered.rising;
}

weaker : (P Q : Task → Type 0) (o : Option Task) → ((t : Task) → P t → Q t) → OfEach o P → OfEach o Q
weaker P Q None all each = tt
weaker P Q (Some t) all each = all t each

pub numbered_inserted : (tasks : Tasks) (begun : ℕ) (t : Task) → Rises begun t → IsNumbered tasks begun → IsNumbered (insert tasks begun t) (begun + 1)
numbered_inserted tasks begun t rises numbered = record {
  below = each_inserted (Below (begun + 1)) tasks begun t (λ q. weaker (Below begun q) (Below (begun + 1) q) (get tasks q) (λ u h. omega arith)
      (numbered.below q)) (omega arith);
  rising = each_inserted Rises tasks begun t numbered.rising rises;
}

-- a task that has begun has a number below the count
pub number_below : (tasks : Tasks) (begun k : ℕ) (P : Task → Type 0) → IsNumbered tasks begun → OfTask (get tasks k) P → k < begun
number_below tasks begun k P numbered has = at (get tasks k) has (numbered.below k)
  where
    at : (o : Option Task) → OfTask o P → OfEach o (λ task. k < begun) → k < begun
    at None has below = absurd has
    at (Some t) has below = below

-- no task has a number from the count on
pub absent_from : (tasks : Tasks) (begun : ℕ) → IsNumbered tasks begun → (q : ℕ) → begun ≤ q → get tasks q ≡ None
absent_from tasks begun numbered q from = at (get tasks q) refl (numbered.below q)
  where
    at : (o : Option Task) → get tasks q ≡ o → OfEach o (λ task. q < begun) → o ≡ None
    at None is below = refl
    at (Some t) is below = absurd (omega (arith, below, from))

pub next_absent : (tasks : Tasks) (begun : ℕ) → IsNumbered tasks begun → get tasks begun ≡ None
next_absent tasks begun numbered = at (get tasks begun) refl (numbered.below begun)
  where
    at : (o : Option Task) → get tasks begun ≡ o → OfEach o (λ task. begun < begun) → o ≡ None
    at None is below = refl
    at (Some t) is below = absurd (omega (arith, below))

pub next_rises : (begun n : ℕ) (o : Option Task) → n < begun → Rises begun (fresh (next_origin n o))
next_rises begun n None lt = tt
next_rises begun n (Some t) lt = lt

pub numbered_empty : IsNumbered empty 0
numbered_empty = record {
  below = λ q. subst (λ o. OfEach o (Below 0 q)) (sym (get-empty nat_cmp q)) tt;
  rising = λ q. subst (λ o. OfEach o (Rises q)) (sym (get-empty nat_cmp q)) tt;
}
