-- A map from numbers seen as a finite map.
use Rattle.std.proofs.Common.{◌≡◌, ◌≢◌, ◌⊎◌, inl, inr, ℕ, List, [], ◌∷◌, refl, sym, ap, ◌∙◌, Option, Some, None, Bool, true, false, cond, subst, true≢false}
use Rattle.std.specs.Ordering.{nat_cmp, is_eq, eq_by_cmp}
use Rattle.std.specs.Cmp.{nat_cmp_total, eq_by_cmp_equiv}
use Rattle.std.specs.FinMap.{FinMap, from_entries, find, get, insert, remove, get-from_entries, get-insert, get-remove, same_map, nat_cmp-IsAntisymmetric}
use Rattle.std.specs.Map.{lookup}
use Rattle.std.specs.BTreeMap as tree
use Rattle.std.specs.BTreeMap.{is_at, Updates}
use Rattle.std.specs.declared.collections.BTreeMap.{BTreeMap}
use Rattle.std.specs.declared.alloc.Global.{Global}
use Rattle.exec_tasks.proofs.Numbers.{same_number, itself}

symmetric : (k q : ℕ) → eq_by_cmp nat_cmp k q ≡ eq_by_cmp nat_cmp q k
symmetric k q = (eq_by_cmp_equiv nat_cmp_total).symm k q

pub same_or_apart : (q k : ℕ) → (q ≡ k) ⊎ (q ≢ k)
same_or_apart q k = by_case (eq_by_cmp nat_cmp q k) refl
  where
    by_case : (b : Bool) → eq_by_cmp nat_cmp q k ≡ b → (q ≡ k) ⊎ (q ≢ k)
    by_case true e = inl (same_number q k e)
    by_case false e = inr (λ same. true≢false (sym (ap (λ n. eq_by_cmp nat_cmp n k) same ∙ itself k) ∙ e))

module _ {A : Type 0} where
  abbrev pub seen : BTreeMap ℕ A Global → FinMap nat_cmp A
  seen m = from_entries m.entries

  find_is_lookup : (q : ℕ) (es : List (ℕ × A)) → find nat_cmp q es ≡ lookup (is_at (nat_cmp q)) es
  find_is_lookup q [] = refl
  find_is_lookup q (e ∷ es) = ap (cond (is_eq (nat_cmp q e.0)) (Some e.1)) (find_is_lookup q es)

  pub get_seen : (m : BTreeMap ℕ A Global) (q : ℕ) → get (seen m) q ≡ tree.get nat_cmp m q
  get_seen m q = get-from_entries nat_cmp_total m.entries q ∙ find_is_lookup q m.entries

  pub same_maps : (m n : FinMap nat_cmp A) → ((q : ℕ) → get m q ≡ get n q) → m ≡ n
  same_maps m n same = same_map nat_cmp_total nat_cmp-IsAntisymmetric m n same

  pub seen_put : (m n : BTreeMap ℕ A Global) (k : ℕ) (t : A) → Updates nat_cmp m n k (Some t) → seen n ≡ insert (seen m) k t
  seen_put m n k t u = same_maps (seen n) (insert (seen m) k t) (λ q.
      get_seen n q ∙ u.0 q ∙ ap (λ b. cond b (Some t) (tree.get nat_cmp m q)) (symmetric k q)
      ∙ ap (cond (eq_by_cmp nat_cmp q k) (Some t)) (sym (get_seen m q)) ∙ sym (get-insert nat_cmp_total (seen m) k t q))

  pub seen_removed : (m n : BTreeMap ℕ A Global) (k : ℕ) → Updates nat_cmp m n k None → seen n ≡ remove (seen m) k
  seen_removed m n k u = same_maps (seen n) (remove (seen m) k) (λ q.
      get_seen n q ∙ u.0 q ∙ ap (λ b. cond b None (tree.get nat_cmp m q)) (symmetric k q)
      ∙ ap (cond (eq_by_cmp nat_cmp q k) None) (sym (get_seen m q)) ∙ sym (get-remove nat_cmp_total (seen m) k q))

  -- what is put in and taken out again leaves nothing
  pub taken_back : (m : FinMap nat_cmp A) (k : ℕ) (t : A) → get m k ≡ None → remove (insert m k t) k ≡ m
  taken_back m k t absent =
      same_maps (remove (insert m k t) k) m (λ q. get-remove nat_cmp_total (insert m k t) k q
      ∙ ap (cond (eq_by_cmp nat_cmp q k) None) (get-insert nat_cmp_total m k t q) ∙ at q (eq_by_cmp nat_cmp q k) refl)
    where
      at : (q : ℕ) (b : Bool) → eq_by_cmp nat_cmp q k ≡ b → cond b None (cond b (Some t) (get m q)) ≡ get m q
      at q true e = sym absent ∙ ap (get m) (sym (same_number q k e))
      at q false e = refl

  pub none_in : (m : BTreeMap ℕ A Global) → m.entries ≡ [] → (q : ℕ) → get (seen m) q ≡ None
  none_in m e q = get_seen m q ∙ ap (lookup (is_at (nat_cmp q))) e

  module _ (P : Option A → Type 0) where
    -- a fact of each answer of a map, through its changes
    pub each_put : (m : FinMap nat_cmp A) (k : ℕ) (t : A) → ((q : ℕ) → P (get m q)) → P (Some t) → (q : ℕ) → P (get (insert m k t) q)
    each_put m k t each here q = subst P (sym (get-insert nat_cmp_total m k t q)) (by_case (eq_by_cmp nat_cmp q k))
      where
        by_case : (b : Bool) → P (cond b (Some t) (get m q))
        by_case true = here
        by_case false = each q

    pub each_taken : (m : FinMap nat_cmp A) (k : ℕ) → ((q : ℕ) → P (get m q)) → P None → (q : ℕ) → P (get (remove m k) q)
    each_taken m k each here q = subst P (sym (get-remove nat_cmp_total m k q)) (by_case (eq_by_cmp nat_cmp q k))
      where
        by_case : (b : Bool) → P (cond b None (get m q))
        by_case true = here
        by_case false = each q
