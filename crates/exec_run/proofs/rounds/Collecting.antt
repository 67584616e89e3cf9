-- The ready tasks of a world, from the greatest down.
use Rattle.std.proofs.Common.{arith, ◌≡◌, ◌<◌, ◌+◌, ℕ, zero, suc, ◌⊎◌, inl, inr, List, [], ◌∷◌, ◌++◌, get_or, slice_index, reverse, Contains, Option, Some, None, MatchOption, subst, sym, ap, ◌∙◌}
use Rattle.std.specs.List.Sorted.{IsStrictlyIncreasing}
use Rattle.std.proofs.lemmas.Bool.{cases_order}
use Rattle.std.proofs.lemmas.List.{reverse-append}
use Rattle.std.proofs.lemmas.List.Elements.{Contains-get_or, Contains-push, Contains-push_cases, Contains-append_left, Contains-append_right, Contains-append_cases}
use Rattle.exec_world.specs.Ready.{IsReady, NoneReady, IsGreatestReady, NoneReadyBelow, IsGreatestBelow}
use Rattle.exec_world.specs.declared.world.World.{World}
use Rattle.exec_run.specs.rounds.Rounds.{AreReady}

pub nothing : (q : ℕ) → Contains [] q → ⊥
nothing q has = omega (arith, has.1)

pub first-in : (k : ℕ) (ks : List ℕ) → Contains (k ∷ ks) k
first-in k ks = Contains-append_left (k ∷ []) ks k (Contains-push [] k)

further-in : (k : ℕ) (ks : List ℕ) (q : ℕ) → Contains ks q → Contains (k ∷ ks) q
further-in k ks q has = Contains-append_right (k ∷ []) ks q has

in-cases : (k : ℕ) (ks : List ℕ) (q : ℕ) → Contains (k ∷ ks) q → (k ≡ q) ⊎ Contains ks q
in-cases k ks q has = by_case (Contains-append_cases (k ∷ []) ks q has)
  where
    alone : Contains [] q ⊎ (k ≡ q) → k ≡ q
    alone (inl in_none) = absurd (nothing q in_none)
    alone (inr same) = same

    by_case : Contains (k ∷ []) q ⊎ Contains ks q → (k ≡ q) ⊎ Contains ks q
    by_case (inl here) = inl (alone (Contains-push_cases [] k q here))
    by_case (inr there) = inr there

ascends : (k : ℕ) (ks : List ℕ) → ((q : ℕ) → Contains ks q → k < q) → IsStrictlyIncreasing ks → IsStrictlyIncreasing (k ∷ ks)
ascends k ks less up zero within = less (get_or ks 0 0) (Contains-get_or ks 0 0 (omega (arith, within)))
ascends k ks less up (suc i) within =
    let same : suc (i + 1) ≡ suc i + 1 = omega arith in
    subst (λ n. slice_index ks i < slice_index (k ∷ ks) n) same (up i (omega (arith, within)))

-- how far it is to the end
abbrev pub left : Option ℕ → ℕ
left None = 0
left (Some task) = task + 1

-- the ready tasks that a list lacks: none, or this one and some below it
abbrev pub Lacks : World → Option ℕ → List ℕ → Type 0
Lacks w None tasks = (q : ℕ) → IsReady w q → Contains tasks q
Lacks w (Some task) tasks = IsReady w task × ((q : ℕ) → Contains tasks q → task < q) × ((q : ℕ) → task < q → IsReady w q → Contains tasks q)

-- some of the ready tasks, and the greatest that is lacking
pub record Collected (w : World) (next : Option ℕ) (tasks : List ℕ) : Type 0 where
  pub ascending : IsStrictlyIncreasing tasks
  pub ready : (q : ℕ) → Contains tasks q → IsReady w q
  pub lacks : Lacks w next tasks

module _ (w : World) where
  pub none_yet : (o : Option ℕ) → MatchOption o (NoneReady w) (IsGreatestReady w) → Collected w o []
  none_yet None none = record { ascending = λ k within. omega (arith, within); ready = λ q has. absurd (nothing q has); lacks = λ q r. absurd (none q r) }
  none_yet (Some task) great = record {
    ascending = λ k within. omega (arith, within);
    ready = λ q has. absurd (nothing q has);
    lacks = (great.itself, (λ q has. absurd (nothing q has)), λ q less r. absurd (great.greatest q less r));
  }

  module _ (task : ℕ) (tasks : List ℕ) (some : Collected w (Some task) tasks) where
    ready_more : (q : ℕ) → Contains (task ∷ tasks) q → IsReady w q
    ready_more q has = by_case (in-cases task tasks q has)
      where
        by_case : (task ≡ q) ⊎ Contains tasks q → IsReady w q
        by_case (inl same) = subst (IsReady w) same some.lacks.0
        by_case (inr there) = some.ready q there

    less_than : (n : ℕ) → n < task → (q : ℕ) → Contains (task ∷ tasks) q → n < q
    less_than n less q has = by_case (in-cases task tasks q has)
      where
        by_case : (task ≡ q) ⊎ Contains tasks q → n < q
        by_case (inl same) = omega (arith, same, less)
        by_case (inr there) = omega (arith, some.lacks.1 q there, less)

    -- each from a number on, where none is ready between that number and the task
    each_from : (Q : ℕ → Type 0) → ((q : ℕ) → Q q → q < task → IsReady w q → ⊥) → (q : ℕ) → Q q → IsReady w q → Contains (task ∷ tasks) q
    each_from Q none q in_q r = by_case (cases_order q task)
      where
        by_case : (q ≡ task) ⊎ ((q < task) ⊎ (task < q)) → Contains (task ∷ tasks) q
        by_case (inl same) = subst (Contains (task ∷ tasks)) (sym same) (first-in task tasks)
        by_case (inr (inl less)) = absurd (none q in_q less r)
        by_case (inr (inr more)) = further-in task tasks q (some.lacks.2 q more r)

    pub one_more : (o : Option ℕ) → MatchOption o (NoneReadyBelow w task) (IsGreatestBelow w task) → Collected w o (task ∷ tasks)
    one_more None none = record {
      ascending = ascends task tasks some.lacks.1 some.ascending;
      ready = ready_more;
      lacks = λ q r. each_from (λ _. Unit {0}) (λ n _ less ready. none n less ready) q tt r;
    }
    one_more (Some next) great = record {
      ascending = ascends task tasks some.lacks.1 some.ascending;
      ready = ready_more;
      lacks = (great.itself, less_than next great.below, λ q more r. each_from (λ n. next < n) (λ n over less ready. great.greatest n over less ready) q more r);
    }

  -- a list that is gathered from its end
  pub pushed : (task : ℕ) (old new : List ℕ) (o : Option ℕ) → Collected w (Some task) (reverse old) → new ≡ old ++ task ∷ []
      → MatchOption o (NoneReadyBelow w task) (IsGreatestBelow w task) → Collected w o (reverse new)
  pushed task old new o some is next = subst (Collected w o) (sym (ap reverse is ∙ reverse-append old (task ∷ []))) (one_more task (reverse old) some o next)

  pub all_ready : (tasks : List ℕ) → Collected w None tasks → AreReady w tasks
  all_ready tasks all = record { ascending = all.ascending; all = λ k. (all.ready k, all.lacks k) }
