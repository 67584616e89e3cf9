-- Schedules come to an end, and without conflicts to the same one.
use Rattle.std.proofs.Common.{◌≡◌, ℕ, zero, suc, ◌+◌, ◌*◌, ◌<◌, ◌≤◌, ◌⊎◌, inl, inr, ⊎_elim, List, [], ◌∷◌, ◌++◌, length, refl, sym, subst, arith}
use Rattle.std.proofs.Common.{append_assoc}
use Rattle.std.proofs.lemmas.Bool.{cases_lt}
use Rattle.runs_theory.specs.Actions.{Ending, Program}
use Rattle.runs_theory.specs.Blocks.{Legal}
use Rattle.runs_theory.specs.Laws.{AllFree}
use Rattle.runs_theory.specs.Meaning.{Disciplined, InTurn, Known, Lively, Paced}
use Rattle.runs_theory.specs.Order.{Comes, Limited, Outcome}
use Rattle.runs_theory.specs.Runs.{Ended, Event, Run, cells_of, entry_step, event_cells, event_steps, mine, steps_of}
use Rattle.runs_theory.specs.Schedules.{Finished, Greatest, Greedy, Limits, Ran, Ready, Within, ended, no_room, over}
use Rattle.runs_theory.proofs.events.Upto.{upto_length}
use Rattle.runs_theory.proofs.events.Mine.{mine_at}
use Rattle.runs_theory.proofs.runs.Ready.{HasEnded, it_has, it_has_not, has_ended}
use Rattle.runs_theory.proofs.runs.Schedules.{ran_legal}
use Rattle.runs_theory.proofs.runs.Bound.{ran_bounded}
use Rattle.runs_theory.proofs.order.Greatest.{next_greatest}
use Rattle.runs_theory.proofs.Theorems.{none_costs_more, same_outcome, each_comes_out, some_ready_event}

-- what is recorded is within the limits
ran_within : (P : Program) (L : Limits) (ks : List ℕ) (R : Run) → Ran P L ks R → Within P L R
ran_within P L [] [] r = r
ran_within P L [] (e ∷ R) r = absurd r
ran_within P L (k ∷ ks) [] r = absurd r
ran_within P L (k ∷ ks) (e ∷ R) r = r.2

starts_within : (P : Program) (L : Limits) (ks : List ℕ) (R : Run) → Ran P L ks R → Within P L []
starts_within P L [] [] r = r
starts_within P L [] (e ∷ R) r = absurd r
starts_within P L (k ∷ ks) [] r = absurd r
starts_within P L (k ∷ ks) (e ∷ R) r = starts_within P L ks R r.0

entry_most : (es : Run) → entry_step es ≤ 1
entry_most [] = omega arith
entry_most (e ∷ es) = omega arith

entry_some : (es : Run) → 0 < length es → entry_step es ≡ 1
entry_some [] h = absurd (omega arith)
entry_some (e ∷ es) h = refl

module _ (P : Program) (D : Disciplined P) (free : AllFree P) where
  -- a run that costs no more than one within the limits is within them
  pub none_over : (L : Limits) (R S : Run) (x : Ending) → Legal P R → Within P L R → Ended R [] x → Legal P S → Within P L S
  none_over L R S x l w g m =
      let a = none_costs_more P D S R x m l (free S m) (free R l) g event_steps in
      let b = none_costs_more P D S R x m l (free S m) (free R l) g event_cells in
      let c = entry_most (mine S []) in
      let d = entry_some (mine R []) (let n = upto_length (mine_at [] g.stands g.path) in omega arith) in
      record { steps = (let i = w.steps in omega arith); cells = (let i = w.cells in omega arith) }

  -- a schedule whose root has ended, and one that ended over a limit
  not_over : (L : Limits) (ks js : List ℕ) (o : Outcome) (R S : Run) (k : ℕ) (e : Event) → Ran P L ks R → Comes P R o → Ran P L js S → Ready P S k e
      → (Within P L (e ∷ S) → ⊥) → ⊥
  not_over L ks js o R S k e r c s h n = n (none_over L R (e ∷ S) c.end (ran_legal P L ks R r) (ran_within P L ks R r) c.ended
      (h.allowed, ran_legal P L js S s))

  pub schedules_agree : (L : Limits) (ks js : List ℕ) (o q : Outcome) → Finished P L ks o → Finished P L js q → o ≡ q
  schedules_agree L ks js o q (ended R r c) (ended S s d) =
      let l = ran_legal P L ks R r in
      let m = ran_legal P L js S s in
      same_outcome P D R S o q l m (free R l) (free S m) c d
  schedules_agree L ks js o q (ended R r c) (over k is S e s h n) = absurd (not_over L ks is o R S k e r c s h n)
  schedules_agree L ks js o q (ended R r c) (no_room n) = absurd (n (starts_within P L ks R r))
  schedules_agree L ks js o q (over k is R e r h n) (ended S s d) = absurd (not_over L js is q S R k e s d r h n)
  schedules_agree L ks js o q (over k is R e r h n) (over j hs S f s g m) = refl
  schedules_agree L ks js o q (over k is R e r h n) (no_room m) = refl
  schedules_agree L ks js o q (no_room n) (ended S s d) = absurd (n (starts_within P L js S s))
  schedules_agree L ks js o q (no_room n) (over j hs S f s g m) = refl
  schedules_agree L ks js o q (no_room n) (no_room m) = refl

within_cases : (P : Program) (L : Limits) (R : Run) → Within P L R ⊎ (Within P L R → ⊥)
within_cases P L R = go (cases_lt L.steps (steps_of R)) (cases_lt L.cells (cells_of P R))
  where
    go : (L.steps < steps_of R) ⊎ (steps_of R ≤ L.steps) → (L.cells < cells_of P R) ⊎ (cells_of P R ≤ L.cells) → Within P L R ⊎ (Within P L R → ⊥)
    go (inl a) b = inr (λ w. (let i = w.steps in omega arith))
    go (inr a) (inl b) = inr (λ w. (let i = w.cells in omega arith))
    go (inr a) (inr b) = inl (record { steps = a; cells = b })

module _ (P : Program) (D : Disciplined P) (V : Lively P) (known : Known P) (C : Paced P) (L : Limits) where
  -- so many numbers are left at most
  carry_on : (n : ℕ) (ks : List ℕ) (R : Run) → Ran P L ks R → 2 * L.steps + 2 ≤ n + length ks → (js : List ℕ) × (o : Outcome) × Finished P L (js ++ ks) o
  carry_on zero ks R r h = absurd (let b = ran_bounded P D C L ks R r in omega arith)
  carry_on (suc n) ks R r h = go (λ k e s. carry_on n (k ∷ ks) (e ∷ R) s (omega arith)) (has_ended R [])
    where
      l : Legal P R
      l = ran_legal P L ks R r

      go : ((k : ℕ) (e : Event) → Ran P L (k ∷ ks) (e ∷ R) → (js : List ℕ) × (o : Outcome) × Finished P L (js ++ (k ∷ ks)) o) → HasEnded R [] → (js : List ℕ)
          × (o : Outcome) × Finished P L (js ++ ks) o
      go rec (it_has x g) = let c = each_comes_out P R x l g in ([], c.0, ended R r c.1)
      go rec (it_has_not f) = step (some_ready_event P D V known R l f)
        where
          step : (k : ℕ) × (e : Event) × Ready P R k e → (js : List ℕ) × (o : Outcome) × Finished P L (js ++ ks) o
          step z = ⊎_elim in_limits (λ m. (z.0 ∷ [], Limited L.steps L.cells, over z.0 ks R z.1 r z.2 m)) (within_cases P L (z.1 ∷ R))
            where
              in_limits : Within P L (z.1 ∷ R) → (js : List ℕ) × (o : Outcome) × Finished P L (js ++ ks) o
              in_limits w =
                  let f = rec z.0 z.1 (r, z.2, w) in
                  (f.0 ++ z.0 ∷ [], f.1, subst (λ ms. Finished P L ms f.1) (sym (append_assoc f.0 (z.0 ∷ []) ks)) f.2)

  pub each_finishes : (ks : List ℕ) (R : Run) → Ran P L ks R → (js : List ℕ) × (o : Outcome) × Finished P L (js ++ ks) o
  each_finishes ks R r = carry_on (2 * L.steps + 2) ks R r (omega arith)

-- the same with the greatest number each time
module _ (P : Program) (D : Disciplined P) (V : Lively P) (T : InTurn P) (known : Known P) (C : Paced P) (L : Limits) where
  abbrev Stops : Type 0
  Stops = (ks : List ℕ) × (R : Run) × Ran P L ks R × Greedy P R
      × (((x : Ending) × Ended R [] x) ⊎ ((e : Event) × (k : ℕ) × Ready P R k e × Greatest P R e × (Within P L (e ∷ R) → ⊥)))

  greedy_on : (n : ℕ) (ks : List ℕ) (R : Run) → Ran P L ks R → Greedy P R → 2 * L.steps + 2 ≤ n + length ks → Stops
  greedy_on zero ks R r g h = absurd (let b = ran_bounded P D C L ks R r in omega arith)
  greedy_on (suc n) ks R r g h = go (λ k e s m. greedy_on n (k ∷ ks) (e ∷ R) s m (omega arith)) (has_ended R [])
    where
      l : Legal P R
      l = ran_legal P L ks R r

      go : ((k : ℕ) (e : Event) → Ran P L (k ∷ ks) (e ∷ R) → Greedy P (e ∷ R) → Stops) → HasEnded R [] → Stops
      go rec (it_has x y) = (ks, R, r, g, inl (x, y))
      go rec (it_has_not f) = step (next_greatest P D V T known R l g f)
        where
          step : (e : Event) × (k : ℕ) × Ready P R k e × Greatest P R e → Stops
          step z = ⊎_elim (λ w. rec z.1 z.0 (r, z.2, w) (z.3, g)) (λ m. (ks, R, r, g, inr (z.0, z.1, z.2, z.3, m))) (within_cases P L (z.0 ∷ R))

  pub greatest_finishes : Within P L [] → Stops
  greatest_finishes w = greedy_on (2 * L.steps + 2) [] [] w tt (omega arith)
