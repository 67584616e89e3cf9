-- A run in the order of elision is determined by the events of each task.
use Rattle.std.proofs.Common.{◌≡◌, ℕ, ◌⊎◌, inl, inr, ⊎_elim, List, [], ◌∷◌, length, refl, sym, ap, ◌∙◌, subst, arith}
use Rattle.runs_theory.specs.Objects.{Path}
use Rattle.runs_theory.specs.Order.{InOrder, Lex, level_with, lower, position, shorter}
use Rattle.runs_theory.specs.Runs.{Event, Run, Upto, count, later, mine, now}
use Rattle.runs_theory.proofs.events.Upto.{upto_split, upto_none}
use Rattle.runs_theory.proofs.events.Mine.{path_cases, mine_nil, mine_same, mine_other, Found, found}

pub lex_trans : {xs ys zs : List ℕ} → Lex xs ys → Lex ys zs → Lex xs zs
lex_trans shorter (lower k) = shorter
lex_trans shorter (level_with k) = shorter
lex_trans (lower h) (lower k) = lower (omega arith)
lex_trans (lower h) (level_with k) = lower h
lex_trans (level_with h) (lower k) = lower k
lex_trans (level_with h) (level_with k) = level_with (lex_trans h k)

pub lex_differ : {xs ys : List ℕ} → Lex xs ys → xs ≡ ys → ⊥
lex_differ shorter e = absurd (cc)
lex_differ (lower {x = x} {y = y} h) e = let k : x ≡ y = cc in absurd (omega arith)
lex_differ (level_with {xs = xs} {ys = ys} h) e = lex_differ h (let k : xs ≡ ys = cc in k)

-- the latest event of the one run stands in the other: it is the latest there, or stands before it
latest_in : (e y : Event) (R S : Run) → InOrder (y ∷ S) → mine (e ∷ R) e.path ≡ mine (y ∷ S) e.path → (e ≡ y)
    ⊎ Lex (position e.path (count R e.path)) (position y.path (count S y.path))
latest_in e y R S o m = go (found (y ∷ S) e.path (subst (λ l. Upto (e ∷ mine R e.path) l) (sym (mine_same e R e.path refl) ∙ m) now))
  where
    go : Found (y ∷ S) e.path e (mine R e.path) → (e ≡ y) ⊎ Lex (position e.path (count R e.path)) (position y.path (count S y.path))
    go f = ⊎_elim (λ k. inl k.0) (λ u. inr (subst (λ k. Lex (position e.path k) (position y.path (count S y.path))) (ap length f.mine_is)
        (o.each y e S f.before now u))) (upto_split f.stands)

pub order_tail : {e : Event} {R : Run} → InOrder (e ∷ R) → InOrder R
order_tail o = record { each = λ y x Y X h k. o.each y x Y X (later h) k }

pub no_events : (e : Event) (R : Run) → mine (e ∷ R) e.path ≡ mine [] e.path → ⊥
no_events e R m = upto_none (subst (λ l. Upto (e ∷ mine R e.path) l) (sym (mine_same e R e.path refl) ∙ m ∙ mine_nil e.path) now)

pub same_tail : (e : Event) (R S : Run) → ((p : Path) → mine (e ∷ R) p ≡ mine (e ∷ S) p) → (p : Path) → mine R p ≡ mine S p
same_tail e R S m p = ⊎_elim here (λ h. sym (mine_other e R p h) ∙ m p ∙ mine_other e S p h) (path_cases e.path p)
  where
    here : e.path ≡ p → mine R p ≡ mine S p
    here h = let k : e ∷ mine R p ≡ e ∷ mine S p = sym (mine_same e R p h) ∙ m p ∙ mine_same e S p h in cc

pub one_order : (R S : Run) → InOrder R → InOrder S → ((p : Path) → mine R p ≡ mine S p) → R ≡ S
one_order [] [] o q m = refl
one_order [] (y ∷ S) o q m = absurd (no_events y S (sym (m y.path)))
one_order (e ∷ R) [] o q m = absurd (no_events e R (m e.path))
one_order (e ∷ R) (y ∷ S) o q m = go (one_order R S (order_tail o) (order_tail q)) (latest_in e y R S q (m e.path)) (latest_in y e S R o (sym (m y.path)))
  where
    same : (((p : Path) → mine R p ≡ mine S p) → R ≡ S) → e ≡ y → e ∷ R ≡ y ∷ S
    same rec k =
        let t : R ≡ S = rec (same_tail e R S (λ p. m p ∙ ap (λ z. mine (z ∷ S) p) (sym k))) in
        cc

    go : (((p : Path) → mine R p ≡ mine S p) → R ≡ S) → (e ≡ y) ⊎ Lex (position e.path (count R e.path)) (position y.path (count S y.path)) → (y ≡ e)
        ⊎ Lex (position y.path (count S y.path)) (position e.path (count R e.path)) → e ∷ R ≡ y ∷ S
    go rec (inl k) b = same rec k
    go rec (inr h) (inl k) = same rec (sym k)
    go rec (inr h) (inr k) = absurd (lex_differ (lex_trans h k) refl)
