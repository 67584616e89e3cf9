-- A wait queue that comes into the run queue.
use Rattle.std.proofs.Common.{◌≡◌, ◌≢◌, ◌⊎◌, inl, inr, ℕ, sym, subst, Some, None}
use Rattle.std.specs.Ordering.{nat_cmp}
use Rattle.std.specs.BTreeMap as tree
use Rattle.std.specs.BTreeMap.{Updates}
use Rattle.exec_tasks.proofs.Numbers.{other_number}
use Rattle.exec_world.proofs.Maps.{same_or_apart}
use Rattle.exec_world.specs.Words.{Words, Has}
use Rattle.exec_world.specs.Queues.{HasIn, Runs, Waits, Keeps}
use Rattle.exec_world.specs.declared.queues.Queues.{Queues}

module _ (old new : Queues) (holder : ℕ) (queue : Words) (there : Some queue ≡ tree.get nat_cmp old.wait holder)
    (gone : Updates nat_cmp old.wait new.wait holder None) where
  pub woken : ((q : ℕ) → Has old.run q → Has new.run q) → ((q : ℕ) → Has queue q → Has new.run q) → Keeps old new
  woken kept moved = record { run = kept; wait = λ h q waiting. by_case h q waiting (same_or_apart h holder) }
    where
      by_case : (h q : ℕ) → Waits old h q → (h ≡ holder) ⊎ (h ≢ holder) → Waits new h q ⊎ Runs new q
      by_case h q waiting (inl same) =
          inr (moved q (subst (λ o. HasIn o q) (sym there) (subst (λ n. HasIn (tree.get nat_cmp old.wait n) q) same waiting)))
      by_case h q waiting (inr apart) =
          inl (subst (λ o. HasIn o q) (sym (gone.2 h (other_number holder h (λ same. apart (sym same))))) waiting)
