-- A map of standings seen as a finite map.
use Rattle.std.proofs.Common.{arith, ◌≡◌, ℕ, List, [], ◌∷◌, length, refl, sym, ap, ◌∙◌, Some, None, Bool, true, false, cond, subst, IsSome}
use Rattle.std.specs.Ordering.{nat_cmp, is_eq, eq_by_cmp}
use Rattle.std.specs.Cmp.{nat_cmp_total, eq_by_cmp_equiv, Equal-is}
use Rattle.std.specs.FinMap.{from_entries, find, get, insert, remove, get-from_entries, get-insert, get-remove, get_tied, same_map, nat_cmp-IsAntisymmetric}
use Rattle.std.specs.Map.{lookup}
use Rattle.std.specs.BTreeMap as tree
use Rattle.std.specs.BTreeMap.{is_at, Updates, WritesThrough}
use Rattle.std.specs.declared.collections.BTreeMap.{BTreeMap}
use Rattle.std.specs.declared.alloc.Global.{Global}
use Rattle.exec_locks.specs.declared.standing.Standing.{Standing}
use Rattle.exec_locks.specs.Locks.{Standings}

abbrev pub Map : Type 0
Map = BTreeMap ℕ Standing Global

abbrev pub seen : Map → Standings
seen m = from_entries m.entries

find_is_lookup : (q : ℕ) (es : List (ℕ × Standing)) → find nat_cmp q es ≡ lookup (is_at (nat_cmp q)) es
find_is_lookup q [] = refl
find_is_lookup q (e ∷ es) = ap (cond (is_eq (nat_cmp q e.0)) (Some e.1)) (find_is_lookup q es)

pub get_seen : (m : Map) (q : ℕ) → get (seen m) q ≡ tree.get nat_cmp m q
get_seen m q = get-from_entries nat_cmp_total m.entries q ∙ find_is_lookup q m.entries

pub same_standings : (m n : Standings) → ((q : ℕ) → get m q ≡ get n q) → m ≡ n
same_standings m n same = same_map nat_cmp_total nat_cmp-IsAntisymmetric m n same

symmetric : (k q : ℕ) → eq_by_cmp nat_cmp k q ≡ eq_by_cmp nat_cmp q k
symmetric k q = (eq_by_cmp_equiv nat_cmp_total).symm k q

pub seen_put : (m n : Map) (k : ℕ) (t : Standing) → Updates nat_cmp m n k (Some t) → seen n ≡ insert (seen m) k t
seen_put m n k t u = same_standings (seen n) (insert (seen m) k t) (λ q.
    get_seen n q ∙ u.0 q ∙ ap (λ b. cond b (Some t) (tree.get nat_cmp m q)) (symmetric k q)
    ∙ ap (cond (eq_by_cmp nat_cmp q k) (Some t)) (sym (get_seen m q)) ∙ sym (get-insert nat_cmp_total (seen m) k t q))

pub seen_removed : (m n : Map) (k : ℕ) → Updates nat_cmp m n k None → seen n ≡ remove (seen m) k
seen_removed m n k u = same_standings (seen n) (remove (seen m) k) (λ q.
    get_seen n q ∙ u.0 q ∙ ap (λ b. cond b None (tree.get nat_cmp m q)) (symmetric k q)
    ∙ ap (cond (eq_by_cmp nat_cmp q k) None) (sym (get_seen m q)) ∙ sym (get-remove nat_cmp_total (seen m) k q))

-- a standing written through what the map lent
pub written : (m : Map) (lender : Standing → Map) (k : ℕ) (w t : Standing) → Some t ≡ tree.get nat_cmp m k
    → ((x : Standing) → WritesThrough nat_cmp (nat_cmp k) m x (lender x)) → seen (lender w) ≡ insert (seen m) k w
written m lender k w t at through = seen_put m (lender w) k w ((through w).3 (subst IsSome at refl))

pub put_same : (m : Map) (k : ℕ) (t : Standing) → Some t ≡ tree.get nat_cmp m k → insert (seen m) k t ≡ seen m
put_same m k t at = same_standings (insert (seen m) k t) (seen m) (λ q. get-insert nat_cmp_total (seen m) k t q ∙ found q (eq_by_cmp nat_cmp q k) refl)
  where
    found : (q : ℕ) (b : Bool) → eq_by_cmp nat_cmp q k ≡ b → cond b (Some t) (get (seen m) q) ≡ get (seen m) q
    found q false e = refl
    found q true e = at ∙ sym (get_seen m k) ∙ get_tied nat_cmp_total (seen m) q k ((Equal-is (nat_cmp q k)).0 e)

pub none_in : (m : Map) → length m.entries ≡ 0 → (q : ℕ) → get (seen m) q ≡ None
none_in m e q = get_seen m q ∙ at m.entries e
  where
    at : (es : List (ℕ × Standing)) → length es ≡ 0 → lookup (is_at (nat_cmp q)) es ≡ None
    at [] e = refl
    at (x ∷ es) e = absurd (omega (arith, e))
