-- A schedule records one run, and each legal run is recorded.
use Rattle.std.proofs.Common.{◌≡◌, ℕ, suc, List, [], ◌∷◌, length, refl, sym, ap, ◌∙◌, subst, ◌≤◌, arith}
use Rattle.runs_theory.specs.Actions.{Action, Begin, Do, End, Fork, Join, Program}
use Rattle.runs_theory.specs.Blocks.{Legal}
use Rattle.runs_theory.specs.Meaning.{Disciplined}
use Rattle.runs_theory.specs.Runs.{Event, Faithful, Follows, Right, Run, Upto, entry_step, event_cells, event_steps, mine, now}
use Rattle.runs_theory.specs.Schedules.{Limits, Ran, Ready, Within}
use Rattle.runs_theory.proofs.runs.Faithful.{agree_self, same_act}
use Rattle.runs_theory.proofs.order.Agreement.{same_event, same_joins}
use Rattle.runs_theory.proofs.events.Things.{same_some}
use Rattle.runs_theory.proofs.events.Numbers.{number_one, number_of_begun}
use Rattle.runs_theory.proofs.events.Upto.{upto_none}
use Rattle.runs_theory.proofs.events.Mine.{mine_step}
use Rattle.runs_theory.proofs.events.Cost.{total_step}

pub ran_faithful : (P : Program) (L : Limits) (ks : List ℕ) (R : Run) → Ran P L ks R → Faithful P R
ran_faithful P L [] [] r = tt
ran_faithful P L [] (e ∷ R) r = absurd r
ran_faithful P L (k ∷ ks) [] r = absurd r
ran_faithful P L (k ∷ ks) (e ∷ R) r = (r.1.allowed.follows, ran_faithful P L ks R r.0)

pub ran_legal : (P : Program) (L : Limits) (ks : List ℕ) (R : Run) → Ran P L ks R → Legal P R
ran_legal P L [] [] r = tt
ran_legal P L [] (e ∷ R) r = absurd r
ran_legal P L (k ∷ ks) [] r = absurd r
ran_legal P L (k ∷ ks) (e ∷ R) r = (r.1.allowed, ran_legal P L ks R r.0)

pub ran_length : (P : Program) (L : Limits) (ks : List ℕ) (R : Run) → Ran P L ks R → length ks ≡ length R
ran_length P L [] [] r = refl
ran_length P L [] (e ∷ R) r = absurd r
ran_length P L (k ∷ ks) [] r = absurd r
ran_length P L (k ∷ ks) (e ∷ R) r = ap (λ n. suc n) (ran_length P L ks R r.0)

entry_more : (es fs : Run) → Upto es fs → entry_step es ≤ entry_step fs
entry_more [] [] h = omega arith
entry_more [] (f ∷ fs) h = omega arith
entry_more (e ∷ es) [] h = absurd (upto_none h)
entry_more (e ∷ es) (f ∷ fs) h = omega arith

pub within_less : (P : Program) (L : Limits) (e : Event) (R : Run) → Within P L (e ∷ R) → Within P L R
within_less P L e R w = record {
  steps = (let a = w.steps in let b = total_step event_steps e R in let c = entry_more (mine R []) (mine (e ∷ R) []) (mine_step e R []) in omega arith);
  cells = (let a = w.cells in let b = total_step event_cells e R in omega arith);
}

-- each legal run within limits is recorded by a schedule
pub recorded : (P : Program) (L : Limits) (R : Run) → Legal P R → Within P L R → (ks : List ℕ) × Ran P L ks R
recorded P L [] l w = ([], w)
recorded P L (e ∷ R) l w =
    let r = recorded P L R l.1 (within_less P L e R w) in
    let n = number_of_begun l.0.follows.begun in
    (n.0 ∷ r.0, (r.1, record { allowed = l.0; number = n.1 }, w))

module _ (P : Program) (D : Disciplined P) where
  -- the next event of a task in one run is one, conflicts or not
  pub same_step : {R : Run} {e f : Event} → Faithful P R → Follows P R e → Follows P R f → e.path ≡ f.path → e ≡ f
  same_step {R} {e} {f} l a b pe = same_event e f pe both.0 both.1 (answer e.act refl)
    where
      both : (e.ticks ≡ f.ticks) × (e.act ≡ f.act)
      both = same_act P f.path (agree_self R) now now a b pe refl refl

      right_e : (c : Action) → e.act ≡ c → Right P R f.path c e.ans
      right_e c k = subst (λ c. Right P R f.path c e.ans) k (subst (λ p. Right P R p e.act e.ans) pe a.right)

      right_f : (c : Action) → e.act ≡ c → Right P R f.path c f.ans
      right_f c k = subst (λ c. Right P R f.path c f.ans) (sym both.1 ∙ k) b.right

      answer : (c : Action) → e.act ≡ c → e.ans ≡ f.ans
      answer (Do o) k = same_some (right_e (Do o) k) (right_f (Do o) k)
      answer (Fork ts) k = right_e (Fork ts) k ∙ sym (right_f (Fork ts) k)
      answer (Begin i) k = right_e (Begin i) k ∙ sym (right_f (Begin i) k)
      answer Join k = same_joins P D f.path l l (agree_self R) refl (right_e Join k) (right_f Join k)
      answer (End x) k = right_e (End x) k ∙ sym (right_f (End x) k)

  pub one_run : (L : Limits) (ks : List ℕ) (R S : Run) → Ran P L ks R → Ran P L ks S → R ≡ S
  one_run L [] [] [] r s = refl
  one_run L [] [] (f ∷ S) r s = absurd s
  one_run L [] (e ∷ R) S r s = absurd r
  one_run L (k ∷ ks) [] S r s = absurd r
  one_run L (k ∷ ks) (e ∷ R) [] r s = absurd s
  one_run L (k ∷ ks) (e ∷ R) (f ∷ S) r s = go (one_run L ks R S r.0 s.0)
    where
      go : R ≡ S → e ∷ R ≡ f ∷ S
      go q =
          let t : Ready P R k f = subst (λ Z. Ready P Z k f) (sym q) s.1 in
          let same = same_step (ran_faithful P L ks R r.0) r.1.allowed.follows t.allowed.follows (number_one r.1.number t.number) in
          λ i. same i ∷ q i
