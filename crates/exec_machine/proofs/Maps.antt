-- The map of slots, through a change of one.
use Rattle.std.proofs.Common.{◌≡◌, ◌≢◌, ℕ, sym, ap, ◌∙◌, Some, None, cond, subst}
use Rattle.std.specs.Ordering.{nat_cmp}
use Rattle.std.specs.Cmp.{nat_cmp_total}
use Rattle.std.specs.FinMap.{FinMap, get, insert, remove, get-insert, get-remove}
use Rattle.exec_tasks.proofs.Numbers.{itself, other_number}
use Rattle.exec_machine.specs.declared.slot.Slot.{Slot}
use Rattle.exec_machine.specs.Running.{OfSlot}

pub got : (m : FinMap nat_cmp Slot) (k : ℕ) (w : Slot) → get (insert m k w) k ≡ Some w
got m k w = get-insert nat_cmp_total m k w k ∙ ap (λ b. cond b (Some w) (get m k)) (itself k)

pub gone : (m : FinMap nat_cmp Slot) (k : ℕ) → get (remove m k) k ≡ None
gone m k = get-remove nat_cmp_total m k k ∙ ap (λ b. cond b None (get m k)) (itself k)

-- a slot that the map has, or hasn't
module _ (m : FinMap nat_cmp Slot) (k : ℕ) (slots : FinMap nat_cmp Slot) (P : Slot → Type 0) (is : m ≡ slots) where
  pub of_found : (t : Slot) → Some t ≡ get m k → OfSlot (get slots k) P → P t
  of_found t at holds = subst (λ o. OfSlot o P) (ap (λ (ts : FinMap nat_cmp Slot). get ts k) (sym is) ∙ sym at) holds

  pub of_none : None ≡ get m k → OfSlot (get slots k) P → ⊥
  of_none at holds = subst (λ o. OfSlot o P) (ap (λ (ts : FinMap nat_cmp Slot). get ts k) (sym is) ∙ sym at) holds

  pub put_there : (t : Slot) → Some t ≡ get m k → P t → OfSlot (get slots k) P
  put_there t at holds = subst (λ o. OfSlot o P) (at ∙ ap (λ (ts : FinMap nat_cmp Slot). get ts k) is) holds

-- beside what was put
pub beside_put : (m : FinMap nat_cmp Slot) (k : ℕ) (w : Slot) (q : ℕ) → q ≢ k → get (insert m k w) q ≡ get m q
beside_put m k w q apart = get-insert nat_cmp_total m k w q ∙ ap (λ b. cond b (Some w) (get m q)) (other_number q k apart)
