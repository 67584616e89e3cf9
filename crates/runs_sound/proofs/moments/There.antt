-- What a task of a well-typed program next acts on is there, by whatever rule blocks are entered.
use Rattle.std.proofs.Common.{◌≡◌, ◌∙◌, ℕ, zero, suc, ℤ, FitsSigned, List, ◌++◌, length, reverse, refl, ap, subst, arith, Some}
use Rattle.std.specs.Int.{w32}
use Rattle.lang_typed.specs.Plain.{PlainProgram}
use Rattle.lang_typed.specs.WellTyped.{WellTyped}
use Rattle.lang_meaning.specs.Asking.{ask, does, replied, reported}
use Rattle.lang_meaning.specs.Core.{run}
use Rattle.runs_reduction.proofs.shifts.Rules.{begun_rule, faithful_rule, reply_rule}
use Rattle.runs_theory.specs.Actions.{Answer, Do, Enter, Exit, Look, Named, New, Next, Own, Print, Program, Read, Reply, Rest, Task, Went, Write}
use Rattle.runs_theory.specs.Blocks.{with_rule}
use Rattle.runs_theory.specs.Objects.{Name, Path, Thing, size, slot_of}
use Rattle.runs_theory.specs.Runs.{Begun, Faithful, Run, answered_by, answers, made, mine, read_at, reply, seen, thing_of, wrote_at}
use Rattle.runs_theory.proofs.runs.Written.{legal_faithful}
use Rattle.runs_program.specs.Interfering.{lets}
use Rattle.runs_program.specs.Steps.{named_by, stepped}
use Rattle.runs_sound.specs.Frames.{State}
use Rattle.runs_sound.specs.RunLaws.{NamesAreKnownByAnyRule}
use Rattle.runs_sound.specs.Shapes.{Grows, Shape}
use Rattle.runs_sound.specs.Work.{Moves}
use Rattle.runs_sound.proofs.moments.Acting.{counts_as}
use Rattle.runs_sound.proofs.moments.Moments.{Goes, Here, MayDo, Moment, Quietly, at, forked, making, reported_on, state_of, still}
use Rattle.runs_sound.proofs.moments.Sound.{Kept, asks_counting, Sound, Stands, branches_of}
use Rattle.runs_sound.proofs.moments.Whole.{Whole, whole}

module _ (P : PlainProgram) (wt : WellTyped P) (arg : ℤ) (small : FitsSigned w32 arg) {R : Run} (l : Faithful (stepped P arg) R) (p : Path) (t : Task)
    (b : Begun (stepped P arg) R p t) (o : Own) (ticks : ℕ) (asks : (stepped P arg).meaning p t (answers (mine R p)) ≡ Next ticks (Do o)) where
  abbrev Q : Program
  Q = stepped P arg

  abbrev w : Whole P wt arg small (length R) R
  w = whole P wt arg small (length R) R l (omega arith)

  abbrev s : Sound P Q (length R) R
  s = w.holds

  abbrev k : Kept
  k = s.keeping p

  stand : Stands P Q (length R) R (s.keeping p) (branches_of P Q s.keeping p) s.shapes p t
  stand = s.tasks p t b

  abbrev replies : List Answer → Reply
  replies xs = asks_counting k (reverse xs ++ answers (mine R p))

  meant : replied t.work (run (reported (named_by p)) (does (named_by p) P t) (reported_on 0 0 (reverse (answers (mine R p))))) ≡ Next ticks (Do o)
  unfolding ask
  meant = asks

  counted : (m : ℕ) × (asks_counting k (answers (mine R p)) ≡ Next m (Do o))
  counted = counts_as k p t (λ q t. does (named_by q) P t) stand.path stand.task (w.works p) (answers (mine R p)) ticks (Do o) meant

  -- what it does next is in order
  record Moving : Type 0 where
    state : State
    moves : Moves P k.bounds state o
    grown : Grows state.shapes s.shapes

  moving : Moving
  moving = deep stand.depth refl stand.goes
    where
      at_moment : (h : Moment P k.bounds) → Quietly P k.bounds k.scope t.work.copies stand.moment h → MayDo P k.bounds k.scope t.work.copies h (Do o) → Moving
      at_moment h w m = go h m (grown stand.moment h w stand.grown)
        where
          grown : (g h : Moment P k.bounds) → Quietly P k.bounds k.scope t.work.copies g h → Grows (state_of g).shapes s.shapes → Grows (state_of h).shapes s.shapes
          grown g _ still z = z
          grown _ _ (making n) z = z

          go : (h : Moment P k.bounds) → MayDo P k.bounds k.scope t.work.copies h (Do o) → Grows (state_of h).shapes s.shapes → Moving
          go (at z) m g = record { state = z; moves = m.0; grown = g }
          go (forked z forking ts forks n) m g = absurd m

      deep : (n : ℕ) → stand.depth ≡ n → Goes P k.bounds k.scope t.work.copies n stand.moment replies → Moving
      deep zero q z = let n = stand.enough in absurd (omega (arith, n, q))
      deep (suc d) q z =
          let w = subst (λ r. Here P k.bounds k.scope t.work.copies (λ h m. Goes P k.bounds k.scope t.work.copies d h m) stand.moment replies r) counted.1 z in
          at_moment w.moment w.quietly w.may

  thing_there : (n : Name) (shape : Shape) → s.shapes n ≡ Some shape → (t : Thing) × (thing_of Q R n ≡ Some t)
  thing_there n shape e = let y = s.things n shape e in (y.0, y.1)

  answered : (a : Answer) × (reply Q R p o ≡ Some a)
  answered = go o moving.moves
    where
      z : State
      z = moving.state

      go : (o : Own) → Moves P (s.keeping p).bounds moving.state o → (a : Answer) × (reply Q R p o ≡ Some a)
      go (Read n i) m = let y = thing_there n m.cell.shape (moving.grown n m.cell.shape m.cell.is) in
          (read_at R y.0 n (slot_of i (size y.0)), ap (λ c. answered_by c (λ t. read_at R t n (slot_of i (size t)))) y.1)
      go (Write n i v) m = let y = thing_there n m.0.cell.shape (moving.grown n m.0.cell.shape m.0.cell.is) in
          (wrote_at (slot_of i (size y.0)), ap (λ c. answered_by c (λ t. wrote_at (slot_of i (size t)))) y.1)
      go (Look n) m = let y = thing_there n m.0 (moving.grown n m.0 m.1) in (seen y.0, ap (λ c. answered_by c seen) y.1)
      go (New t c) m = (Named (record { maker = p; count = length (made Q R p) }), refl)
      go Rest m = (Went, refl)
      go (Print bytes) m = (Went, refl)
      go (Enter E) m = (Went, refl)
      go Exit m = (Went, refl)

pub names_are_known_by_any_rule : NamesAreKnownByAnyRule
names_are_known_by_any_rule P wt arg small rule = record {
  replies = λ R l p t b o asks.
      (let Q = with_rule rule (stepped P arg) in
      let f = faithful_rule Q lets R (legal_faithful Q R l) in
      let a = answered P wt arg small f p t (begun_rule Q lets b) o asks.0 asks.1 in
      (a.0, reply_rule (stepped P arg) rule R p o ∙ a.1));
}
