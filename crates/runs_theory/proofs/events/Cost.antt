-- A run whose events of each task are a beginning of those of another costs no more.
use Rattle.std.proofs.Common.{◌≡◌, ℕ, zero, suc, ◌+◌, ◌<◌, ◌≤◌, ◌⊎◌, inl, inr, ⊎_elim, List, [], ◌∷◌, length, refl, sym, ap, ◌∙◌, subst, arith, append-nil}
use Rattle.std.proofs.lemmas.Bool.{cases_lt}
use Rattle.runs_theory.specs.Actions.{Ending, Program}
use Rattle.runs_theory.specs.Meaning.{Disciplined}
use Rattle.runs_theory.specs.Objects.{Path}
use Rattle.runs_theory.specs.Order.{Agree}
use Rattle.runs_theory.specs.Runs.{Ended, Event, Faithful, Run, Upto, count, later, mine, now, total}
use Rattle.runs_theory.proofs.events.Upto.{upto_all, upto_length, upto_none, upto_same}
use Rattle.runs_theory.proofs.events.Mine.{path_cases, mine_nil, mine_same, mine_other, numbered}
use Rattle.runs_theory.proofs.order.Between.{complete, ended_longer}

pub total_nil : (c : Event → ℕ) → total c [] ≡ 0
unfolding total
total_nil c = refl

pub total_step : (c : Event → ℕ) (e : Event) (R : Run) → total c (e ∷ R) ≡ c e + total c R
unfolding total
total_step c e R = refl

-- a run without the latest event of a task
record Without (c : Event → ℕ) (R : Run) (p : Path) (y : Event) (ys : Run) : Type 0 where
  run : Run
  costs : total c R ≡ c y + total c run
  here : mine run p ≡ ys
  other : (q : Path) → (q ≡ p → ⊥) → mine run q ≡ mine R q

without : (c : Event → ℕ) (R : Run) (p : Path) (y : Event) (ys : Run) → mine R p ≡ y ∷ ys → Without c R p y ys
without c [] p y ys e = absurd (let k : [] ≡ y ∷ ys = sym (mine_nil p) ∙ e in cc)
without c (x ∷ R) p y ys e = go (without c R p y ys) (path_cases x.path p)
  where
    go : (mine R p ≡ y ∷ ys → Without c R p y ys) → (x.path ≡ p) ⊎ (x.path ≡ p → ⊥) → Without c (x ∷ R) p y ys
    go rec (inl k) =
        let m : x ∷ mine R p ≡ y ∷ ys = sym (mine_same x R p k) ∙ e in
        let xy : x ≡ y = cc in
        record { run = R; costs = total_step c x R ∙ ap (λ z. c z + total c R) xy; here = cc; other = λ q n. sym (mine_other x R q (λ h. n (sym h ∙ k))) }
    go rec (inr k) =
        let w = rec (sym (mine_other x R p k) ∙ e) in
        record {
          run = x ∷ w.run;
          costs = (let a = w.costs in let b = total_step c x R in let d = total_step c x w.run in omega arith);
          here = mine_other x w.run p k ∙ w.here;
          other = λ q n. ⊎_elim (λ h. mine_same x w.run q h ∙ ap (λ l. x ∷ l) (w.other q n) ∙ sym (mine_same x R q h))
              (λ h. mine_other x w.run q h ∙ w.other q n ∙ sym (mine_other x R q h)) (path_cases x.path q);
        }

upto_cases : {A : Type 0} {y : A} {xs ys : List A} → Upto xs (y ∷ ys) → (xs ≡ y ∷ ys) ⊎ Upto xs ys
upto_cases now = inl refl
upto_cases (later h) = inr h

pub total_le : (c : Event → ℕ) (S R : Run) → ((p : Path) → Upto (mine R p) (mine S p)) → total c R ≤ total c S
total_le c [] [] h = omega arith
total_le c [] (e ∷ R) h = absurd (upto_none (subst (Upto (e ∷ mine R e.path)) (mine_nil e.path)
    (subst (λ l. Upto l (mine [] e.path)) (mine_same e R e.path refl) (h e.path))))
total_le c (y ∷ S) R h = go (total_le c S) (upto_cases (subst (Upto (mine R y.path)) (mine_same y S y.path refl) (h y.path)))
  where
    at_other : (q : Path) → (q ≡ y.path → ⊥) → Upto (mine R q) (mine S q)
    at_other q n = subst (Upto (mine R q)) (mine_other y S q (λ e. n (sym e))) (h q)

    go : ((Q : Run) → ((p : Path) → Upto (mine Q p) (mine S p)) → total c Q ≤ total c S) → (mine R y.path ≡ y ∷ mine S y.path)
        ⊎ Upto (mine R y.path) (mine S y.path) → total c R ≤ total c (y ∷ S)
    go rec (inr u) =
        let a = rec R (λ q. ⊎_elim (λ e. subst (λ p. Upto (mine R p) (mine S p)) (sym e) u) (at_other q) (path_cases q y.path)) in
        let b = total_step c y S in
        omega arith
    go rec (inl e) =
        let w = without c R y.path y (mine S y.path) e in
        let a = rec w.run (λ q. ⊎_elim (λ k. subst (λ p. Upto (mine w.run p) (mine S p)) (sym k) (subst (λ l. Upto l (mine S y.path)) (sym w.here) now))
        (λ n. subst (λ l. Upto l (mine S q)) (sym (w.other q n)) (at_other q n)) (path_cases q y.path)) in
        let b = total_step c y S in
        let d = w.costs in
        omega arith

-- in a run whose root has ended each task has made all that it makes in any run
pub most_events : (P : Program) (D : Disciplined P) {R S : Run} {x : Ending} → Faithful P R → Faithful P S → Agree R S → Ended S [] x → (p : Path)
    → Upto (mine R p) (mine S p)
most_events P D {R} {S} l m ag g p = go (cases_lt 0 (count R p))
  where
    none : (xs : Run) → length xs ≤ 0 → Upto xs (mine S p)
    none [] n = upto_all (mine S p)
    none (x ∷ xs) n = absurd (omega arith)

    back : count R p ≤ count S p → Upto (mine R p) (mine S p) ⊎ Upto (mine S p) (mine R p) → Upto (mine R p) (mine S p)
    back n (inl u) = u
    back n (inr u) = let k = upto_length u in subst (λ l. Upto l (mine S p)) (upto_same u (omega arith)) now

    pred_less : (n : ℕ) → 0 < n → (k : ℕ) × (suc k ≡ n)
    pred_less zero h = absurd (omega arith)
    pred_less (suc k) h = (k, refl)

    go : (0 < count R p) ⊎ (count R p ≤ 0) → Upto (mine R p) (mine S p)
    go (inr n) = none (mine R p) n
    go (inl n) =
        let k = pred_less (count R p) n in
        let ke = k.1 in
        let z = numbered R p k.0 (omega arith) in
        let e = complete P D [] l m ag g p z.1 z.0 z.2 (z.3 ∙ sym (append-nil p)) in
        let en = subst (λ q. Ended S q e.0) (append-nil p) e.1 in
        let c = ended_longer P D p l ag en z.2 z.3 in
        let zn = z.4 in
        back (omega arith) (ag.both p)
