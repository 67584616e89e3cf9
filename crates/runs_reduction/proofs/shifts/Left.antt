-- A block that a task has entered is open still, or the task has left it.
use Rattle.std.proofs.Common.{◌≡◌, ℕ, ◌<◌, ◌⊎◌, inl, inr, ⊎_elim, List, [], ◌∷◌, length, refl, sym, ap, ◌∙◌, subst}
use Rattle.runs_theory.specs.Actions.{Action, Begin, Do, End, Ending, Enter, Exit, Fork, Join, Look, New, Print, Read, Rest, Write}
use Rattle.runs_theory.specs.Blocks.{Hold, In_block, Out_of, hold, hold_after}
use Rattle.runs_theory.specs.Objects.{Effect, Path}
use Rattle.runs_theory.specs.Order.{IsPlain}
use Rattle.runs_theory.specs.Runs.{Event, Run, Upto, count, later, mine, now}
use Rattle.runs_reduction.specs.Moved.{inner, spot_of}
use Rattle.runs_theory.proofs.events.Upto.{upto_length, upto_split, upto_none}
use Rattle.runs_theory.proofs.events.Mine.{mine_at, found}
use Rattle.runs_theory.proofs.runs.Blocks.{stays}

pub data Leaves (a : Action) : Type 0 where
  exits : a ≡ Do Exit → Leaves a
  ends : (x : Ending) → a ≡ End x → Leaves a

leaving : (a : Action) (n : ℕ) (E : List Effect) → hold_after a (In_block n E) ≡ Out_of → Leaves a
leaving (Do Exit) n E h = exits refl
leaving (End x) n E h = ends x refl
leaving (Do (Enter F)) n E h = absurd (cc)
leaving (Do Rest) n E h = absurd (cc)
leaving (Do (Read m i)) n E h = absurd (cc)
leaving (Do (Write m i v)) n E h = absurd (cc)
leaving (Do (Look m)) n E h = absurd (cc)
leaving (Do (New t c)) n E h = absurd (cc)
leaving (Do (Print l)) n E h = absurd (cc)
leaving (Fork ts) n E h = absurd (cc)
leaving (Begin b) n E h = absurd (cc)
leaving Join n E h = absurd (cc)

pub leaves_plain : {a : Action} → Leaves a → IsPlain a
leaves_plain (exits k) = subst IsPlain (sym k) tt
leaves_plain (ends x k) = subst IsPlain (sym k) tt

-- it belongs in the innermost branch
pub leaves_spot : (R : Run) (p : Path) (a : Action) → Leaves a → spot_of R p a ≡ inner R p
leaves_spot R p a (exits k) = ap (spot_of R p) k
leaves_spot R p a (ends x k) = ap (spot_of R p) k

-- along the events of one task, of which A are those before the entry a
record Left (L A : Run) (a : Event) : Type 0 where
  event : Event
  before : Run
  stands : Upto (event ∷ before) L
  since : Upto (a ∷ A) before
  shut : hold (event ∷ before) ≡ Out_of
  leaves : Leaves event.act

data Held (h : Hold) : Type 0 where
  out : h ≡ Out_of → Held h
  block : (n : ℕ) (E : List Effect) → h ≡ In_block n E → Held h

held : (h : Hold) → Held h
held Out_of = out refl
held (In_block n E) = block n E refl

left_or_open : (L A : Run) (a : Event) (E : List Effect) → Upto (a ∷ A) L → hold A ≡ Out_of → a.act ≡ Do (Enter E) → ((n : ℕ) × (hold L ≡ In_block n E)) ⊎ Left L A a
left_or_open [] A a E h o k = absurd (upto_none h)
left_or_open (x ∷ L) A a E h o k = ⊎_elim here (λ j. after j (left_or_open L A a E j o k)) (upto_split h)
  where
    here : (a ≡ x) × (A ≡ L) → ((n : ℕ) × (hold (x ∷ L) ≡ In_block n E)) ⊎ Left (x ∷ L) A a
    here d = inl (0, ap (λ b. hold_after b (hold L)) (sym (ap (λ v. v.act) d.0) ∙ k) ∙ ap (λ m. hold_after (Do (Enter E)) m) (sym (ap hold d.1) ∙ o))

    after : Upto (a ∷ A) L → ((n : ℕ) × (hold L ≡ In_block n E)) ⊎ Left L A a → ((n : ℕ) × (hold (x ∷ L) ≡ In_block n E)) ⊎ Left (x ∷ L) A a
    after j (inr y) = inr (record { event = y.event; before = y.before; stands = later y.stands; since = y.since; shut = y.shut; leaves = y.leaves })
    after j (inl y) = go (held (hold (x ∷ L)))
      where
        from : hold (x ∷ L) ≡ hold_after x.act (In_block y.0 E)
        from = ap (hold_after x.act) y.1

        go : Held (hold (x ∷ L)) → ((n : ℕ) × (hold (x ∷ L) ≡ In_block n E)) ⊎ Left (x ∷ L) A a
        go (out z) = inr (record { event = x; before = L; stands = now; since = j; shut = z; leaves = leaving x.act y.0 E (sym from ∙ z) })
        go (block n F z) = inl (n, z ∙ ap (In_block n) (sym (stays x.act y.0 n E F (sym from ∙ z))))

-- the same, in the run
pub record LeftAt (R : Run) (p : Path) (A : Run) : Type 0 where
  pub event : Event
  pub before : Run
  pub stands : Upto (event ∷ before) R
  pub path : event.path ≡ p
  pub since : count A p < count before p
  pub shut : hold (event ∷ mine before p) ≡ Out_of
  pub leaves : Leaves event.act

pub left_at : {A R : Run} {a : Event} (p : Path) (E : List Effect) → Upto (a ∷ A) R → a.path ≡ p → hold (mine A p) ≡ Out_of → a.act ≡ Do (Enter E)
    → ((n : ℕ) × (hold (mine R p) ≡ In_block n E)) ⊎ LeftAt R p A
left_at {A} {R} {a} p E h q o k = go (left_or_open (mine R p) (mine A p) a E (mine_at p h q) o k)
  where
    go : ((n : ℕ) × (hold (mine R p) ≡ In_block n E)) ⊎ Left (mine R p) (mine A p) a → ((n : ℕ) × (hold (mine R p) ≡ In_block n E)) ⊎ LeftAt R p A
    go (inl y) = inl y
    go (inr y) =
        let f = found R p y.stands in
        let n = upto_length y.since in
        let m = ap (λ l. hold (y.event ∷ l)) f.mine_is ∙ y.shut in
        let i = f.mine_is in
        inr (record {
          event = y.event;
          before = f.before;
          stands = f.stands;
          path = f.path;
          since = subst (λ l. count A p < length l) (sym i) n;
          shut = m;
          leaves = y.leaves;
        })
