-- Entries that open and close in the map.
use Rattle.std.proofs.Common.{◌≡◌, ℕ, sym, ap, subst, ◌∙◌, Option, Some, None, true, false, cond}
use Rattle.std.specs.Ordering.{nat_cmp}
use Rattle.std.specs.FinMap.{get, insert, remove}
use Rattle.std.specs.BTreeMap as tree
use Rattle.std.specs.BTreeMap.{WritesThrough}
use Rattle.exec_locks.specs.declared.standing.Standing.{Standing}
use Rattle.exec_locks.specs.Locks.{Standings, deepened, deepened_from, is_inner, shallower, exited, exited_from, HasEntry}
use Rattle.exec_locks.proofs.Maps.{Map, seen, get_seen, written, put_same}

pub at_key : (m : Map) (k : ℕ) (o : Option Standing) (locks : Standings) → o ≡ tree.get nat_cmp m k → seen m ≡ locks → get locks k ≡ o
at_key m k o locks at is = ap (λ (l : Standings). get l k) (sym is) ∙ get_seen m k ∙ sym at

pub entry_more : (m : Map) (lender : Standing → Map) (k : ℕ) (w t : Standing) (locks : Standings) → Some t ≡ tree.get nat_cmp m k
    → ((x : Standing) → WritesThrough nat_cmp (nat_cmp k) m x (lender x)) → w ≡ deepened t → seen m ≡ locks
    → seen (lender w) ≡ deepened_from locks k (get locks k)
entry_more m lender k w t locks at through is same =
    written m lender k w t at through ∙ ap (insert (seen m) k) is ∙ ap (λ l. insert l k (deepened t)) same
    ∙ ap (deepened_from locks k) (sym (at_key m k (Some t) locks at same))

pub entry_less : (m : Map) (lender : Standing → Map) (k : ℕ) (w t : Standing) (locks : Standings) → Some t ≡ tree.get nat_cmp m k
    → ((x : Standing) → WritesThrough nat_cmp (nat_cmp k) m x (lender x)) → w ≡ shallower t → is_inner t ≡ true → seen m ≡ locks
    → seen (lender w) ≡ exited locks k
entry_less m lender k w t locks at through is inner same =
    written m lender k w t at through ∙ ap (insert (seen m) k) is ∙ ap (λ l. insert l k (shallower t)) same
    ∙ ap (λ b. cond b (insert locks k (shallower t)) (remove locks k)) (sym inner)
    ∙ ap (exited_from locks k) (sym (at_key m k (Some t) locks at same))

pub entry_same : (m : Map) (lender : Standing → Map) (k : ℕ) (w t : Standing) (locks : Standings) → Some t ≡ tree.get nat_cmp m k
    → ((x : Standing) → WritesThrough nat_cmp (nat_cmp k) m x (lender x)) → w ≡ t → seen m ≡ locks → seen (lender w) ≡ locks
entry_same m lender k w t locks at through is same =
    written m lender k w t at through ∙ ap (insert (seen m) k) is ∙ put_same m k t at ∙ same

pub outermost : (m : Map) (k : ℕ) (t : Standing) (locks : Standings) → Some t ≡ tree.get nat_cmp m k → is_inner t ≡ false → seen m ≡ locks
    → exited locks k ≡ remove locks k
outermost m k t locks at outer same =
    ap (exited_from locks k) (at_key m k (Some t) locks at same) ∙ ap (λ b. cond b (insert locks k (shallower t)) (remove locks k)) outer

pub no_entry : (m : Map) (k : ℕ) (locks : Standings) → None ≡ tree.get nat_cmp m k → seen m ≡ locks → HasEntry (get locks k) → ⊥
no_entry m k locks at same has = subst HasEntry (at_key m k None locks at same) has
