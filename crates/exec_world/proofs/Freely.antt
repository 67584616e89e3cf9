-- The greatest task that is ready.
use Rattle.std.proofs.Common.{arith, ◌≡◌, ◌<◌, ◌≤◌, ◌⊎◌, inl, inr, ℕ, IsTrue, Option, Some, None, MatchOption, sym, subst, true≢false}
use Rattle.std.proofs.lemmas.Bool.{cases_lt, cases_order}
use Rattle.exec_tasks.specs.Tree.{task_at, ready}
use Rattle.exec_world.proofs.Places.{absent}
use Rattle.exec_world.specs.Queues.{AllHavePlaces}
use Rattle.exec_world.specs.Words.{IsLastBelow, NoneBelow}
use Rattle.exec_world.specs.Ready.{IsReady, NoneReady, IsGreatestReady, NoneReadyBelow, IsGreatestBelow}
use Rattle.exec_world.specs.declared.queues.Queues.{Queues}
use Rattle.exec_world.specs.declared.world.World.{World}

-- no task from the number of the next on is ready
pub none_yet : (w : World) → ((q : ℕ) → w.tree.begun ≤ q → task_at w.tree q ≡ None) → (q : ℕ) → w.tree.begun ≤ q → IsReady w q → ⊥
none_yet w none q from r = true≢false (sym (subst (λ o. IsTrue (ready o)) (none q from) r.0))

-- none from a task that isn't ready to a bound is, where none of the run queue is between it and what is left
pub passed : (w : World) (queues : Queues) (bound rest task : ℕ) → AllHavePlaces w queues → IsLastBelow queues.run rest task → (IsReady w task → ⊥)
    → ((q : ℕ) → rest ≤ q → q < bound → IsReady w q → ⊥) → (q : ℕ) → task ≤ q → q < bound → IsReady w q → ⊥
passed w queues bound rest task places last stuck above q from within r = by_case (cases_order q task)
  where
    further : task < q → (q < rest) ⊎ (rest ≤ q) → ⊥
    further lt (inl below) = absent w queues q (places q) (last.last q lt below) r
    further lt (inr over) = above q over within r

    by_case : (q ≡ task) ⊎ ((q < task) ⊎ (task < q)) → ⊥
    by_case (inl same) = stuck (subst (IsReady w) same r)
    by_case (inr (inl less)) = omega (arith, less, from)
    by_case (inr (inr more)) = further more (cases_lt q rest)

-- none below the bound is ready, where none of what is left is in the run queue
pub none_left : (w : World) (queues : Queues) (bound rest : ℕ) → AllHavePlaces w queues → NoneBelow queues.run rest
    → ((q : ℕ) → rest ≤ q → q < bound → IsReady w q → ⊥) → NoneReadyBelow w bound
none_left w queues bound rest places none above q within r = by_case (cases_lt q rest)
  where
    by_case : (q < rest) ⊎ (rest ≤ q) → ⊥
    by_case (inl below) = absent w queues q (places q) (none q below) r
    by_case (inr over) = above q over within r

-- the last of what is left in the run queue is the greatest below the bound that is ready, if it is
pub greatest_is : (w : World) (queues : Queues) (bound rest task : ℕ) → rest ≤ bound → AllHavePlaces w queues → IsLastBelow queues.run rest task → IsReady w task
    → ((q : ℕ) → rest ≤ q → q < bound → IsReady w q → ⊥) → IsGreatestBelow w bound task
greatest_is w queues bound rest task within places last ready above =
    record { itself = ready; below = omega (arith, within, last.below); greatest = λ q lt less r. by_case q lt less r (cases_lt q rest) }
  where
    by_case : (q : ℕ) → task < q → q < bound → IsReady w q → (q < rest) ⊎ (rest ≤ q) → ⊥
    by_case q lt less r (inl below) = absent w queues q (places q) (last.last q lt below) r
    by_case q lt less r (inr over) = above q over less r

-- below the number of the next stand all that are ready
pub greatest_of : (w : World) (bound : ℕ) → ((q : ℕ) → bound ≤ q → IsReady w q → ⊥) → (o : Option ℕ) → MatchOption o (NoneReadyBelow w bound) (IsGreatestBelow w bound)
    → MatchOption o (NoneReady w) (IsGreatestReady w)
greatest_of w bound over None none = λ q r. by_case q r (cases_lt q bound)
  where
    by_case : (q : ℕ) → IsReady w q → (q < bound) ⊎ (bound ≤ q) → ⊥
    by_case q r (inl below) = none q below r
    by_case q r (inr from) = over q from r
greatest_of w bound over (Some task) great = record { itself = great.itself; greatest = λ q lt r. by_case q lt r (cases_lt q bound) }
  where
    by_case : (q : ℕ) → task < q → IsReady w q → (q < bound) ⊎ (bound ≤ q) → ⊥
    by_case q lt r (inl below) = great.greatest q lt below r
    by_case q lt r (inr from) = over q from r
