-- A schedule records one run of a program at most, and finishes in one way at most.
use Rattle.std.proofs.Common.{◌≡◌, ℕ, List, [], ◌∷◌, refl, sym, subst}
use Rattle.runs_theory.specs.Actions.{Ending, Program}
use Rattle.runs_theory.specs.Meaning.{Disciplined}
use Rattle.runs_theory.specs.Order.{Comes, Outcome}
use Rattle.runs_theory.specs.Runs.{Ended, Event, Run}
use Rattle.runs_theory.specs.Schedules.{Finished, Limits, Ran, Ready, Within, ended, no_room, over}
use Rattle.runs_theory.proofs.runs.Schedules.{one_run, ran_legal}
use Rattle.runs_theory.proofs.Theorems.{comes_one_way, nothing_after, one_next}

module _ (P : Program) (D : Disciplined P) (L : Limits) where
  -- a schedule records a run, which goes on by this number
  abbrev pub NextRun : List ℕ → ℕ → Type 0
  NextRun ks k = (R : Run) × (e : Event) × Ran P L ks R × Ready P R k e

  pub next_of_ran : (k : ℕ) (ks : List ℕ) (R : Run) → Ran P L (k ∷ ks) R → NextRun ks k
  next_of_ran k ks [] r = absurd r
  next_of_ran k ks (e ∷ R) r = (R, e, r.0, r.1)

  pub next_of_finished : (k : ℕ) (ks : List ℕ) (o : Outcome) → Finished P L (k ∷ ks) o → NextRun ks k
  next_of_finished k ks o (ended R r c) = next_of_ran k ks R r
  next_of_finished k ks o (over _ _ R e r h n) = (R, e, r, h)

  -- a number whose event would be over a limit is in no run
  pub over_not_ran : (k : ℕ) (ks : List ℕ) (S : Run) (f : Event) (R : Run) → Ran P L ks S → Ready P S k f → (Within P L (f ∷ S) → ⊥) → Ran P L (k ∷ ks) R → ⊥
  over_not_ran k ks S f [] s g n r = r
  over_not_ran k ks S f (e ∷ R) s g n r =
      let same : S ≡ R = one_run P D L ks S R s r.0 in
      let event : f ≡ e = one_next P D R k f e (ran_legal P L ks R r.0) (subst (λ Z. Ready P Z k f) same g) r.1 in
      n (subst (λ Z. Within P L (f ∷ Z)) (sym same) (subst (λ x. Within P L (x ∷ R)) (sym event) r.2))

  no_room_not_ran : (R : Run) → (Within P L [] → ⊥) → Ran P L [] R → ⊥
  no_room_not_ran [] n r = n r
  no_room_not_ran (e ∷ R) n r = r

  -- nothing comes after the end
  pub not_past : (ks : List ℕ) (o : Outcome) → Finished P L ks o → (k : ℕ) → NextRun ks k → ⊥
  not_past ks o (ended S s c) k (R, e, r, h) =
      let same : S ≡ R = one_run P D L ks S R s r in
      nothing_after P D R c.end e (ran_legal P L ks R r) (subst (λ Z. Ended Z [] c.end) same c.ended) h.allowed
  not_past ks o (over j js S f s g n) k (R, e, r, h) = over_not_ran j js S f R s g n r
  not_past ks o (no_room n) k (R, e, r, h) = no_room_not_ran R n r

  -- nor has a run finished whose root hasn't ended
  pub not_finished : (ks : List ℕ) (R : Run) → Ran P L ks R → ((x : Ending) → Ended R [] x → ⊥) → (o : Outcome) → Finished P L ks o → ⊥
  not_finished ks R r on o (ended S s c) =
      let same : S ≡ R = one_run P D L ks S R s r in on c.end (subst (λ Z. Ended Z [] c.end) same c.ended)
  not_finished ks R r on o (over j js S f s g n) = over_not_ran j js S f R s g n r
  not_finished ks R r on o (no_room n) = no_room_not_ran R n r

  -- it comes out in one way
  pub finished_once : (ks js : List ℕ) (o q : Outcome) → ks ≡ js → Finished P L ks o → Finished P L js q → o ≡ q
  finished_once ks js o q same (ended R r c) (ended S s d) =
      let here : Ran P L js R = subst (λ l. Ran P L l R) same r in
      comes_one_way P D S o q (ran_legal P L js S s) (subst (λ Z. Comes P Z o) (one_run P D L js R S here s) c) d
  finished_once ks js o q same (ended R r c) (over k is S f s g n) = absurd (over_not_ran k is S f R s g n (subst (λ l. Ran P L l R) same r))
  finished_once ks js o q same (ended R r c) (no_room n) = absurd (no_room_not_ran R n (subst (λ l. Ran P L l R) same r))
  finished_once ks js o q same (over k is R e r h n) (ended S s d) = absurd (over_not_ran k is R e S r h n (subst (λ l. Ran P L l S) (sym same) s))
  finished_once ks js o q same (over k is R e r h n) (over j hs S f s g m) = refl
  finished_once ks js o q same (over k is R e r h n) (no_room m) = refl
  finished_once ks js o q same (no_room n) (ended S s d) = absurd (no_room_not_ran S n (subst (λ l. Ran P L l S) (sym same) s))
  finished_once ks js o q same (no_room n) (over j hs S f s g m) = refl
  finished_once ks js o q same (no_room n) (no_room m) = refl
