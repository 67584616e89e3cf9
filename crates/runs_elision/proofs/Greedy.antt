-- The run in which the ready task with the greatest number always goes on is that of the elision.
use Rattle.std.proofs.Common.{◌≡◌, ℕ, ◌≤◌, ◌⊎◌, inl, inr, ⊎_elim, ℤ, [], ◌∷◌, refl, sym, subst, arith}
use Rattle.lang_typed.specs.Plain.{PlainProgram}
use Rattle.lang_meaning.specs.Elision.{elided}
use Rattle.lang_meaning.specs.Outcomes.{Limited}
use Rattle.runs_theory.specs.Actions.{Ending, Program}
use Rattle.runs_theory.specs.Blocks.{Allowed, Legal}
use Rattle.runs_theory.specs.Meaning.{Disciplined}
use Rattle.runs_theory.specs.Order.{InOrder}
use Rattle.runs_theory.specs.Runs.{Ended, Event, Run, Upto, entry_step, event_cells, event_steps, later, mine, now, total}
use Rattle.runs_theory.specs.Schedules.{Greedy, Limits, Numbered, Within}
use Rattle.runs_theory.proofs.events.Cost.{total_step}
use Rattle.runs_theory.proofs.events.Mine.{mine_upto}
use Rattle.runs_theory.proofs.events.Numbers.{number_of_begun, number_one}
use Rattle.runs_theory.proofs.runs.Schedules.{same_step}
use Rattle.runs_theory.proofs.Theorems.{nothing_after}
use Rattle.runs_theory.proofs.events.Upto.{upto_all, upto_length}
use Rattle.runs_theory.proofs.runs.Written.{legal_faithful}
use Rattle.runs_program.specs.Steps.{stepped}
use Rattle.runs_elision.specs.Laws.{ComesOutAsElided, GreedyIsElided, GreedyOverIsLimited, in_limits, over_limits}
use Rattle.runs_elision.proofs.Simulation.{D}
use Rattle.runs_elision.proofs.Theorems.{elision_is_legal}

-- where one is up to a moment of the other, the same or with one more event
data Next (R S : Run) : Type 0 where
  same : S ≡ R → Next R S
  more : (f : Event) → Upto (f ∷ R) S → Next R S

next_of : {R S : Run} → Upto R S → Next R S
next_of now = same refl
next_of {R} (later {y = y} {ys = ys} h) = go (next_of h)
  where
    go : Next R ys → Next R (y ∷ ys)
    go (same e) = more y (subst (λ (l : Run). Upto (y ∷ l) (y ∷ ys)) e now)
    go (more f k) = more f (later k)

module _ (P : Program) (D : Disciplined P) where
  legal_at : {f : Event} {B S : Run} → Upto (f ∷ B) S → Legal P S → Greedy P S → (l : Legal P (f ∷ B)) × Greedy P (f ∷ B)
  legal_at now l g = (l, g)
  legal_at (later h) l g = legal_at h l.1 g.1

  -- two greedy runs do the same as far as both go
  greedy_upto : (R S : Run) → Legal P R → Greedy P R → Legal P S → Greedy P S → Upto R S ⊎ Upto S R
  greedy_upto [] S l g m h = inl (upto_all S)
  greedy_upto (e ∷ R) S l g m h = ⊎_elim (λ u. go (next_of u)) (λ u. inr (later u)) (greedy_upto R S l.1 g.1 m h)
    where
      go : Next R S → Upto (e ∷ R) S ⊎ Upto S (e ∷ R)
      go (same q) = inr (subst (λ (l : Run). Upto l (e ∷ R)) (sym q) (later now))
      go (more f u) =
          let z = legal_at u m h in
          let a : Allowed P R f = z.0.0 in
          let ne = number_of_begun l.0.follows.begun in
          let nf = number_of_begun a.follows.begun in
          let i = g.0.none f nf.0 ne.0 a nf.1 ne.1 in
          let j = z.1.0.none e ne.0 nf.0 l.0 ne.1 nf.1 in
          let n : ne.0 ≡ nf.0 = omega arith in
          let p : e.path ≡ f.path = number_one ne.1 (subst (λ k. Numbered R k f.path) (sym n) nf.1) in
          let s : e ≡ f = same_step P D (legal_faithful P R l.1) l.0.follows a.follows p in
          inl (subst (λ (y : Event). Upto (y ∷ R) S) (sym s) u)

  -- nothing comes after the root's end
  whole : {R S : Run} {x : Ending} → Legal P S → Ended R [] x → Upto R S → S ≡ R
  whole {R} {S} {x} l g u = go (next_of u)
    where
      allowed : {f : Event} {T : Run} → Upto (f ∷ R) T → Legal P T → Legal P (f ∷ R)
      allowed now m = m
      allowed (later h) m = allowed h m.1

      go : Next R S → S ≡ R
      go (same e) = e
      go (more f h) = let a = allowed h l in absurd (nothing_after P D R x f a.1 g a.0)

  -- a beginning of a run costs no more
  total_less : (c : Event → ℕ) {R S : Run} → Upto R S → total c R ≤ total c S
  total_less c now = omega arith
  total_less c (later {y = e} {ys = S} h) = let a = total_less c h in let b = total_step c e S in omega arith

  entry_less : (es fs : Run) → Upto es fs → entry_step es ≤ entry_step fs
  entry_less [] fs h = omega arith
  entry_less (e ∷ es) [] h = absurd (let n = upto_length h in omega arith)
  entry_less (e ∷ es) (f ∷ fs) h = omega arith

  within_less : (L : Limits) {R S : Run} → Upto R S → Within P L S → Within P L R
  within_less L {R} {S} h w = record {
    steps = (let a = total_less event_steps h in let b = entry_less (mine R []) (mine S []) (mine_upto [] h) in let i = w.steps in omega arith);
    cells = (let a = total_less event_cells h in let i = w.cells in omega arith);
  }

module _ (P : PlainProgram) (arg : ℤ) (L : Limits) where
  abbrev QG : Program
  QG = stepped P arg

  E : (R : Run) × Legal QG R × InOrder R × Greedy QG R × ComesOutAsElided P arg L R
  E = elision_is_legal P arg L

  ended_is : (R : Run) (x : Ending) → Legal QG R → Ended R [] x → Upto R E.0 ⊎ Upto E.0 R → ComesOutAsElided P arg L E.0 → ComesOutAsElided P arg L R
  ended_is R x l g (inl u) c = subst (λ (S : Run). ComesOutAsElided P arg L S) (whole QG (D P arg) E.1 g u) c
  ended_is R x l g (inr u) (in_limits o c w i) = subst (λ (S : Run). ComesOutAsElided P arg L S) (sym (whole QG (D P arg) l c.ended u)) (in_limits o c w i)
  ended_is R x l g (inr u) (over_limits n e) = over_limits (λ w. n (within_less QG (D P arg) L u w)) e

  over_is : (R : Run) → Legal QG R → (Within QG L R → ⊥) → Upto R E.0 ⊎ Upto E.0 R → ComesOutAsElided P arg L E.0 → elided P arg L ≡ Limited L.steps L.cells
  over_is R l n (inl u) (in_limits o c w i) = absurd (n (within_less QG (D P arg) L u w))
  over_is R l n (inr u) (in_limits o c w i) = absurd (n (subst (λ (S : Run). Within QG L S) (sym (whole QG (D P arg) l c.ended u)) w))
  over_is R l n u (over_limits m e) = e

pub greedy_is_elided : GreedyIsElided
greedy_is_elided P arg L R x l g e =
    (let z = E P arg L in ended_is P arg L R x l e (greedy_upto (stepped P arg) (D P arg) R z.0 l g z.1 z.3) z.4)

pub greedy_over_is_limited : GreedyOverIsLimited
greedy_over_is_limited P arg L R l g n =
    (let z = E P arg L in over_is P arg L R l n (greedy_upto (stepped P arg) (D P arg) R z.0 l g z.1 z.3) z.4)
