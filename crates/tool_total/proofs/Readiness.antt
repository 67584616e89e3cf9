-- Whether a task is ready can be decided, and which tasks are.
use Rattle.std.proofs.Common.{◌≡◌, ◌∙◌, ◌⊎◌, ◌+◌, ◌<◌, ◌≤◌, ◌==◌, ◌&&◌, ◌||◌, ℕ, suc, zero, Bool, true, false, not, List, [], ◌∷◌, length, Contains, Option, Some, None, inl, inr, ⊎_elim, refl, ap, sym, subst, arith}
use Rattle.std.specs.Prelude.{is_some, slice_index}
use Rattle.std.specs.FinMap.{contains_key-keys, get, keys}
use Rattle.std.specs.List.{list_any}
use Rattle.std.specs.List.Sorted.{IsStrictlyIncreasing}
use Rattle.std.specs.Ordering.{eq_by_cmp, nat_cmp}
use Rattle.std.proofs.lemmas.Bool.{cases_Bool, cases_lt, false≢true}
use Rattle.lang_base.specs.declared.effect.Effect.{Effect}
use Rattle.tool_total.proofs.Lists.{head_in, in_cases, later_in, nothing_in}
use Rattle.exec_locks.specs.Locks.{IsFree, MayEnter, Standings, block_interferes, hinders, is_inside, opened_for}
use Rattle.exec_locks.specs.declared.standing.Standing.{Standing}
use Rattle.exec_tasks.specs.Tree.{is_ready}
use Rattle.exec_tasks.proofs.Numbers.{same_number}
use Rattle.exec_world.specs.Ready.{IsFreeFor, IsReady}
use Rattle.exec_world.specs.declared.world.World.{World}
use Rattle.exec_run.specs.rounds.Rounds.{AreReady}

or_parts : (a b : Bool) → (a || b) ≡ true → (a ≡ true) ⊎ (b ≡ true)
or_parts true b e = inl refl
or_parts false b e = inr e

and_false : (a : Bool) → (a && false) ≡ false
and_false true = refl
and_false false = refl

-- none of these tasks hinders, or one does
module _ (locks : Standings) (task : ℕ) (wants : List Effect) where
  none_of : (xs : List ℕ) → ((q : ℕ) → list_any (eq_by_cmp nat_cmp q) xs ≡ true → hinders locks task wants q ≡ false) ⊎ ((q : ℕ) × (hinders locks task wants q ≡ true))
  none_of [] = inl (λ q e. absurd (false≢true e))
  none_of (x ∷ xs) =
      ⊎_elim (λ (h : hinders locks task wants x ≡ true). inr (x, h))
      (λ (free : hinders locks task wants x ≡ false).
      ⊎_elim (λ rest. inl (λ q e.
      ⊎_elim (λ same. subst (λ i. hinders locks task wants i ≡ false) (sym (same_number q x same)) free) (λ later. rest q later)
      (or_parts (eq_by_cmp nat_cmp q x) (list_any (eq_by_cmp nat_cmp q) xs) e))) (λ found. inr found) (none_of xs))
      (cases_Bool (hinders locks task wants x))

  -- a task without a block hinders nobody
  without_block : (q : ℕ) → get locks q ≡ None → hinders locks task wants q ≡ false
  without_block q none =
      ap (λ (o : Option Standing). not (q == task) && not (opened_for (get locks task) q) && block_interferes o wants) none
      ∙ and_false (not (q == task) && not (opened_for (get locks task) q))

  free_or : IsFree locks task wants ⊎ (IsFree locks task wants → ⊥)
  free_or = ⊎_elim (λ none. inl (λ q. by none q (get locks q) refl)) (λ found. inr (λ free. false≢true (sym (free found.0) ∙ found.1))) (none_of (keys locks))
    where
      by : ((q : ℕ) → list_any (eq_by_cmp nat_cmp q) (keys locks) ≡ true → hinders locks task wants q ≡ false) → (q : ℕ) (o : Option Standing) → get locks q ≡ o
          → hinders locks task wants q ≡ false
      by none q None e = without_block q e
      by none q (Some s) e = none q (sym (contains_key-keys locks q) ∙ ap (λ (x : Option Standing). is_some x) e)

  enter_or : MayEnter locks task wants ⊎ (MayEnter locks task wants → ⊥)
  enter_or =
      ⊎_elim (λ (inside : is_inside locks task ≡ true). inl (inl inside))
      (λ (outside : is_inside locks task ≡ false). ⊎_elim (λ free. inl (inr free))
      (λ bound. inr (λ may. ⊎_elim (λ inside. false≢true (sym outside ∙ inside)) (λ free. bound free) may)) free_or)
      (cases_Bool (is_inside locks task))

free_for_or : (locks : Standings) (task : ℕ) (o : Option (List Effect)) → IsFreeFor locks task o ⊎ (IsFreeFor locks task o → ⊥)
free_for_or locks task None = inl tt
free_for_or locks task (Some effects) = enter_or locks task effects

pub ready_or : (w : World) (k : ℕ) → IsReady w k ⊎ (IsReady w k → ⊥)
ready_or w k =
    ⊎_elim (λ (goes_on : is_ready w.tree k ≡ true). ⊎_elim (λ free. inl (goes_on, free)) (λ bound. inr (λ ready. bound ready.1)) (free_for_or w.locks k (get w.waits k)))
    (λ (rests : is_ready w.tree k ≡ false). inr (λ ready. false≢true (sym rests ∙ ready.0)))
    (cases_Bool (is_ready w.tree k))

-- ascending numbers
rising_cons : (x : ℕ) (xs : List ℕ) → ((i : ℕ) → i < length xs → x < slice_index xs i) → IsStrictlyIncreasing xs → IsStrictlyIncreasing (x ∷ xs)
rising_cons x xs above rises zero less = above 0 (omega arith)
rising_cons x xs above rises (suc j) less =
    let next : suc (j + 1) ≡ suc j + 1 = omega arith in subst (λ i. slice_index xs j < slice_index (x ∷ xs) i) next (rises j (omega arith))

-- the ready tasks among so many from a number on
record ReadyFrom (w : World) (first many : ℕ) : Type 0 where
  tasks : List ℕ
  rises : IsStrictlyIncreasing tasks
  above : (i : ℕ) → i < length tasks → first ≤ slice_index tasks i
  ready : (k : ℕ) → Contains tasks k → IsReady w k
  all : (k : ℕ) → first ≤ k → k < first + many → IsReady w k → Contains tasks k

ready_from : (w : World) (many first : ℕ) → ReadyFrom w first many
ready_from w zero first = record {
  tasks = [];
  rises = λ k less. absurd (omega arith);
  above = λ i less. absurd (omega arith);
  ready = λ k c. absurd (nothing_in k c);
  all = λ k from below is. absurd (omega arith);
}
ready_from w (suc many) first = with_first (ready_from w many (suc first)) (ready_or w first)
  where
    with_first : ReadyFrom w (suc first) many → IsReady w first ⊎ (IsReady w first → ⊥) → ReadyFrom w first (suc many)
    with_first R (inl is) = record {
      tasks = first ∷ R.tasks;
      rises = rising_cons first R.tasks (λ i less. (let a = R.above i less in omega (arith, a))) R.rises;
      above = λ i less. first_least i less;
      ready = λ k c. ⊎_elim (λ same. subst (IsReady w) same is) (λ later. R.ready k later) (in_cases first R.tasks k c);
      all = λ k from below there. at k from below there (cases_lt first k);
    }
      where
        first_least : (i : ℕ) → i < length (first ∷ R.tasks) → first ≤ slice_index (first ∷ R.tasks) i
        first_least zero less = omega arith
        first_least (suc i) less = (let a = R.above i (omega arith) in omega (arith, a))

        at : (k : ℕ) → first ≤ k → k < first + suc many → IsReady w k → (first < k) ⊎ (k ≤ first) → Contains (first ∷ R.tasks) k
        at k from below there (inl more) = later_in first R.tasks k (R.all k (omega arith) (omega arith) there)
        at k from below there (inr most) =
            let same : first ≡ k = omega arith in subst (λ i. Contains (first ∷ R.tasks) i) same (head_in first R.tasks)
    with_first R (inr not_so) = record {
      tasks = R.tasks;
      rises = R.rises;
      above = λ i less. (let a = R.above i less in omega (arith, a));
      ready = R.ready;
      all = λ k from below there. at k from below there (cases_lt first k);
    }
      where
        at : (k : ℕ) → first ≤ k → k < first + suc many → IsReady w k → (first < k) ⊎ (k ≤ first) → Contains R.tasks k
        at k from below there (inl more) = R.all k (omega arith) (omega arith) there
        at k from below there (inr most) = absurd (let same : k ≡ first = omega arith in not_so (subst (IsReady w) same there))

-- the ready tasks of a world in which each has a number below a bound
pub ready_tasks : (w : World) (bound : ℕ) → ((k : ℕ) → IsReady w k → k < bound) → (tasks : List ℕ) × AreReady w tasks
ready_tasks w bound below =
    let R = ready_from w bound 0 in (
      R.tasks,
      record { ascending = R.rises; all = λ k. (λ c. R.ready k c, λ is. (let less = below k is in R.all k (omega arith) (omega (arith, less)) is)) },
    )
