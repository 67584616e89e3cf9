-- What a branch assigns, by the positions in the list of what it assigns.
use Rattle.std.proofs.Common.{◌≡◌, ℕ, ◌<◌, ◌≤◌, ◌↔◌, false, length, get_or, sym, ◌∙◌, subst, arith}
use Rattle.std.proofs.lemmas.List.{get_or_default}
use Rattle.std.specs.Bool.{IsTrue}
use Rattle.body_locals.specs.declared.branch.Touched.{Touched}
use Rattle.body_locals.specs.Clash.{Uses, Disturbs}

pub disturbs_at : (a b : Touched) (k : ℕ) → k < length a.writes → Uses b (get_or a.writes k 0) → Disturbs a b
disturbs_at a b k p u = (get_or a.writes k 0, (k, p, get_or_default a.writes k (get_or a.writes k 0) 0 p), u)

pub disturbs_not : (a b : Touched) (n : ℕ) → length a.writes ≤ n → ((k : ℕ) → k < n → ¬ Uses b (get_or a.writes k 0)) → ¬ Disturbs a b
disturbs_not a b n all none (local, (k, p, e), u) =
    let same : local ≡ get_or a.writes k 0 = sym e ∙ get_or_default a.writes k local 0 p in
    none k (omega arith) (subst (λ (v : ℕ). Uses b v) same u)

-- the answer of a walk that found no such local
pub disturbs_none : (a b : Touched) (n : ℕ) → length a.writes ≤ n → ((k : ℕ) → k < n → ¬ Uses b (get_or a.writes k 0)) → IsTrue false ↔ Disturbs a b
disturbs_none a b n all none = (λ e. absurd (cc), λ d. absurd (disturbs_not a b n all none d))
