-- Blocks along the events of one task.
use Rattle.std.proofs.Common.{◌≡◌, ℕ, zero, suc, List, [], ◌∷◌, refl, ap, ◌∙◌, subst, arith}
use Rattle.runs_theory.specs.Actions.{Action, Begin, Do, End, Enter, Exit, Fork, Join, Look, New, Print, Read, Rest, Write}
use Rattle.runs_theory.specs.Blocks.{Hold, In_block, Out_of, hold, hold_after}
use Rattle.runs_theory.specs.Objects.{Effect, Path}
use Rattle.runs_theory.specs.Runs.{Event, Run, Upto, later, mine, now}
use Rattle.runs_theory.proofs.events.Upto.{upto_length}
use Rattle.runs_theory.proofs.events.Mine.{mine_at, mine_upto, found}

in_same : (n m : ℕ) (E F : List Effect) → In_block n E ≡ In_block m F → E ≡ F
in_same n m E F e = cc

-- where a block is open after an action, it was open in front of it, or the action is the outermost entry
pub data Opened (a : Action) (h : Hold) (E : List Effect) : Type 0 where
  was : (m : ℕ) → h ≡ In_block m E → Opened a h E
  enters : h ≡ Out_of → a ≡ Do (Enter E) → Opened a h E

pub opened : (a : Action) (h : Hold) (n : ℕ) (E : List Effect) → hold_after a h ≡ In_block n E → Opened a h E
opened (Do (Enter F)) Out_of n E e = let k : F ≡ E = in_same 0 n F E e in enters refl (ap (λ G. Do (Enter G)) k)
opened (Do (Enter F)) (In_block m G) n E e = let k : G ≡ E = in_same (suc m) n G E e in was m (ap (In_block m) k)
opened (Do Exit) Out_of n E e = absurd (cc)
opened (Do Exit) (In_block zero G) n E e = absurd (cc)
opened (Do Exit) (In_block (suc m) G) n E e = let k : G ≡ E = in_same m n G E e in was (suc m) (ap (In_block (suc m)) k)
opened (End x) h n E e = absurd (cc)
opened (Do Rest) h n E e = was n e
opened (Do (Read m i)) h n E e = was n e
opened (Do (Write m i v)) h n E e = was n e
opened (Do (Look m)) h n E e = was n e
opened (Do (New t c)) h n E e = was n e
opened (Do (Print l)) h n E e = was n e
opened (Fork ts) h n E e = was n e
opened (Begin b) h n E e = was n e
opened Join h n E e = was n e

-- the outermost entry of the open block; the block stays open from there on
record Entry (L : Run) (E : List Effect) : Type 0 where
  before : Run
  event : Event
  stands : Upto (event ∷ before) L
  outside : hold before ≡ Out_of
  act : event.act ≡ Do (Enter E)
  open_since : (Z : Run) → Upto Z L → Upto (event ∷ before) Z → (m : ℕ) × (hold Z ≡ In_block m E)

entry : (L : Run) (n : ℕ) (E : List Effect) → hold L ≡ In_block n E → Entry L E
entry [] n E e = absurd (cc)
entry (x ∷ L) n E e = go (λ m k. entry L m E k) (opened x.act (hold L) n E e)
  where
    first_here : hold L ≡ Out_of → x.act ≡ Do (Enter E) → (Z : Run) → Upto Z (x ∷ L) → Upto (x ∷ L) Z → (m : ℕ) × (hold Z ≡ In_block m E)
    first_here o a Z now k = (n, e)
    first_here o a Z (later h) k = let p = upto_length h in let q = upto_length k in absurd (omega arith)

    still : (r : Entry L E) → (Z : Run) → Upto Z (x ∷ L) → Upto (r.event ∷ r.before) Z → (m : ℕ) × (hold Z ≡ In_block m E)
    still r Z now k = (n, e)
    still r Z (later h) k = r.open_since Z h k

    go : ((m : ℕ) → hold L ≡ In_block m E → Entry L E) → Opened x.act (hold L) E → Entry (x ∷ L) E
    go rec (enters o a) = record { before = L; event = x; stands = now; outside = o; act = a; open_since = first_here o a }
    go rec (was m k) = let r = rec m k in record {
      before = r.before;
      event = r.event;
      stands = later r.stands;
      outside = r.outside;
      act = r.act;
      open_since = still r;
    }

-- the same, in the run
pub record EntryAt (R : Run) (p : Path) (E : List Effect) : Type 0 where
  pub before : Run
  pub event : Event
  pub stands : Upto (event ∷ before) R
  pub path : event.path ≡ p
  pub outside : hold (mine before p) ≡ Out_of
  pub act : event.act ≡ Do (Enter E)
  pub open_since : (Z : Run) → Upto Z R → Upto (event ∷ before) Z → (m : ℕ) × (hold (mine Z p) ≡ In_block m E)

pub entry_at : (R : Run) (p : Path) (n : ℕ) (E : List Effect) → hold (mine R p) ≡ In_block n E → EntryAt R p E
entry_at R p n E e = make (entry (mine R p) n E e)
  where
    make : Entry (mine R p) E → EntryAt R p E
    make r =
        let f = found R p r.stands in
        record {
          before = f.before;
          event = r.event;
          stands = f.stands;
          path = f.path;
          outside = ap hold f.mine_is ∙ r.outside;
          act = r.act;
          open_since = λ Z h k. r.open_since (mine Z p) (mine_upto p h) (subst (λ l. Upto (r.event ∷ l) (mine Z p)) f.mine_is (mine_at p k f.path));
        }

-- after an action of an open block it is open with the same effects, or shut
pub stays : (a : Action) (n m : ℕ) (E F : List Effect) → hold_after a (In_block n E) ≡ In_block m F → E ≡ F
stays a n m E F e = go (opened a (In_block n E) m F e)
  where
    go : Opened a (In_block n E) F → E ≡ F
    go (was k h) = in_same n k E F h
    go (enters o h) = absurd (cc)
