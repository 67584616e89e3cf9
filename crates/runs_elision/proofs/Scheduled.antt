-- The elision as a schedule: the tasks of its events, up to the first that is over a limit.
use Rattle.std.proofs.Common.{ℕ, ◌⊎◌, inl, inr, ⊎_elim, List, [], ◌∷◌}
use Rattle.lang_meaning.specs.Outcomes.{Limited}
use Rattle.runs_theory.specs.Actions.{Program}
use Rattle.runs_theory.specs.Blocks.{Legal}
use Rattle.runs_theory.specs.Order.{Outcome}
use Rattle.runs_theory.specs.Runs.{Event, Run}
use Rattle.runs_theory.specs.Schedules.{Finished, Limits, Within, ended, no_room, over}
use Rattle.runs_theory.proofs.events.Numbers.{number_of_begun}
use Rattle.runs_theory.proofs.runs.Schedules.{recorded}
use Rattle.runs_program.specs.Steps.{stepped}
use Rattle.runs_elision.specs.Laws.{ComesOutAsElided, ElisionIsScheduled, IsElided, in_limits, over_limits}
use Rattle.runs_elision.proofs.Theorems.{elision_is_legal, limited, within_cases}

-- the first event of a run that is over a limit
record FirstOver (P : Program) (L : Limits) : Type 0 where
  event : Event
  before : Run
  legal : Legal P (event ∷ before)
  within : Within P L before
  not_within : Within P L (event ∷ before) → ⊥

first_over : (P : Program) (L : Limits) (R : Run) → Legal P R → (Within P L R → ⊥) → (Within P L [] → ⊥) ⊎ FirstOver P L
first_over P L [] l n = inl n
first_over P L (e ∷ R) l n =
    ⊎_elim (λ w. inr (record { event = e; before = R; legal = l; within = w; not_within = n })) (λ m. first_over P L R l.1 m) (within_cases P L R)

pub elision_is_scheduled : ElisionIsScheduled
elision_is_scheduled P arg L = (let z = elision_is_legal P arg L in go z.0 z.1 z.4)
  where
    at_limit : (Within (stepped P arg) L [] → ⊥) ⊎ FirstOver (stepped P arg) L → IsElided P arg L (Limited L.steps L.cells)
        → (ks : List ℕ) × (o : Outcome) × Finished (stepped P arg) L ks o × IsElided P arg L o
    at_limit (inl n) i = ([], Limited L.steps L.cells, no_room n, i)
    at_limit (inr f) i =
        let l = f.legal in
        let r = recorded (stepped P arg) L f.before l.1 f.within in
        let k = number_of_begun l.0.follows.begun in
        (k.0 ∷ r.0, Limited L.steps L.cells, over k.0 r.0 f.before f.event r.1 (record { allowed = l.0; number = k.1 }) f.not_within, i)

    go : (R : Run) → Legal (stepped P arg) R → ComesOutAsElided P arg L R
        → (ks : List ℕ) × (o : Outcome) × Finished (stepped P arg) L ks o × IsElided P arg L o
    go R l (in_limits o c w i) = (let r = recorded (stepped P arg) L R l w in (r.0, o, ended R r.1 c, i))
    go R l (over_limits n e) = at_limit (first_over (stepped P arg) L R l n) (limited P arg L e)
