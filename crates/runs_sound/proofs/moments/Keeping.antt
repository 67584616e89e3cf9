-- What is said of whole runs, read off what holds of them.
use Rattle.std.proofs.Common.{◌≡◌, ◌∙◌, ℕ, ℤ, FitsSigned, List, ◌∷◌, length, reverse, refl, sym, ap, subst, arith, length-append, Option, Some, None, slice_get}
use Rattle.std.specs.Int.{w32}
use Rattle.lang_base.specs.declared.place.Place.{Place}
use Rattle.lang_base.specs.declared.value.Trap.{Trap}
use Rattle.lang_typed.specs.Plain.{PlainProgram}
use Rattle.lang_typed.specs.WellTyped.{WellTyped}
use Rattle.lang_meaning.specs.Asking.{does, replied}
use Rattle.lang_meaning.specs.Core.{run}
use Rattle.lang_meaning.specs.Outcomes.{first_trap, all_locals, joined_or}
use Rattle.runs_reduction.proofs.shifts.Rules.{faithful_rule}
use Rattle.runs_theory.specs.Actions.{Answer, Ending, Task}
use Rattle.runs_theory.specs.Blocks.{with_rule}
use Rattle.runs_theory.specs.Objects.{Path}
use Rattle.runs_theory.specs.Runs.{Begun, Ended, Event, Faithful, Joins, Right, Run, Upto, count, mine}
use Rattle.runs_theory.proofs.runs.Faithful.{follows_at}
use Rattle.runs_theory.proofs.events.Things.{same_some}
use Rattle.runs_theory.proofs.events.Upto.{upto_tail, upto_trans}
use Rattle.runs_theory.proofs.runs.Written.{legal_faithful}
use Rattle.runs_program.specs.Interfering.{lets}
use Rattle.runs_program.specs.Steps.{named_by, stepped}
use Rattle.runs_sound.specs.Counting.{counting, number_of, regions_made}
use Rattle.runs_sound.specs.Laws.{main_bounds}
use Rattle.runs_sound.specs.RunLaws.{RunsAreSound}
use Rattle.runs_sound.specs.Runs.{ForkedInOrder, KeepsTo}
use Rattle.runs_sound.specs.Shapes.{Describes}
use Rattle.runs_sound.specs.Soundness.{IsSound, JoinFits, JoinsFitting}
use Rattle.runs_sound.specs.Work.{Prog}
use Rattle.runs_sound.proofs.accesses.Guarding.{conflict_is_atomic}
use Rattle.runs_sound.proofs.moments.Joining.{all_returned, joined_at}
use Rattle.runs_sound.proofs.moments.Moments.{reported_on}
use Rattle.runs_sound.proofs.accesses.Lying.{access_lies_throughout}
use Rattle.runs_sound.proofs.moments.Sound.{ActOk, EventOk, Kept, Sound, branches_of, made_of}
use Rattle.runs_sound.proofs.moments.Whole.{Whole, whole}

-- how many local regions a task has made is told by its answers
made_as : (P : PlainProgram) (arg : ℤ) {N : ℕ} {R : Run} (s : Sound P (stepped P arg) N R) (p : Path) (t : Task) → Begun (stepped P arg) R p t →
    (s.keeping p).work ≡ (λ q t. does (named_by q) P t) → (got : List Answer) → made_of (s.keeping p) got ≡ regions_made (named_by p) P t got
unfolding regions_made
made_as P arg s p t b work got =
    let stand = s.tasks p t b in
    ap (λ q. number_of (replied (s.keeping p).task.work (run (counting (named_by q)) ((s.keeping p).work q (s.keeping p).task) (reported_on 0 0 (reverse got))))) stand.path
    ∙ ap (λ (u : Task). number_of (replied u.work (run (counting (named_by p)) ((s.keeping p).work p u) (reported_on 0 0 (reverse got))))) stand.task
    ∙ ap (λ (w : Path → Task → Prog). number_of (replied t.work (run (counting (named_by p)) (w p t) (reported_on 0 0 (reverse got))))) work

-- a run whose events are asked for and answered rightly, whichever blocks wait
module _ (P : PlainProgram) (wt : WellTyped P) (arg : ℤ) (small : FitsSigned w32 arg) (R : Run) (l : Faithful (stepped P arg) R) where
  abbrev w : Whole P wt arg small (length R) R
  w = whole P wt arg small (length R) R l (omega arith)

  abbrev s : Sound P (stepped P arg) (length R) R
  s = w.holds

  abbrev kept_to : KeepsTo P (stepped P arg) (main_bounds P wt) R
  kept_to = record {
    shapes = s.shapes;
    heap = record {
      things = λ n t there. (let z = s.shaped n t there in
          let y = s.things n z.0 z.1 in (z.0, z.1, subst (λ u. Describes P z.0 u) (same_some y.1 there) y.2));
      cells = s.cells;
    };
    bounds = λ p. (s.keeping p).bounds;
    scopes = λ p. (s.keeping p).scope;
    made = λ p. made_of (s.keeping p);
    counts = λ p t b got. made_as P arg s p t b (w.works p) got;
    root = ap (λ (k : Kept). k.bounds) w.root;
    named = λ p t b. (s.tasks p t b).path;
    forks = λ f F ts u act. (let ok = subst (λ c. EventOk P (stepped P arg) (s.keeping f.path) (branches_of P (stepped P arg) s.keeping f.path) s.shapes F f.path c) act (s.events f F u) in
        record {
          state = ok.state;
          entries = ok.entered;
          forks = ok.forks;
          grown = ok.grown;
          kept = λ i. ap (λ (k : Kept). k.bounds) (ok.kept i);
          scopes = λ i. ap (λ (k : Kept). k.scope) (ok.kept i);
        });
    acts = λ y Y o u act. subst (λ c. ActOk P (s.keeping y.path) s.shapes Y y.path c y.ans) act (s.acted y Y u);
  }

  -- a join is answered by what the ends of its branches fit
  module _ (y : Event) (Y : Run) (u : Upto (y ∷ Y) R) (j : Joins Y y.path y.ans) where
    forked : ForkedInOrder P (s.keeping y.path).bounds (made_of (s.keeping y.path)) (λ i. (s.keeping ((count j.before y.path, i) ∷ y.path)).bounds) (λ i. (s.keeping ((count j.before y.path, i) ∷ y.path)).scope) s.shapes
        (mine j.before y.path) (count j.before y.path) j.tasks
    forked = subst (λ p. ForkedInOrder P (s.keeping p).bounds (made_of (s.keeping p)) (λ i. (s.keeping ((count j.before p, i) ∷ p)).bounds) (λ i. (s.keeping ((count j.before p, i) ∷ p)).scope) s.shapes (mine j.before p) (count j.before p) j.tasks)
        j.path (kept_to.forks j.fork j.before j.tasks (upto_trans j.stands (upto_tail u)) j.act)

    ended : (v : ℕ × ℕ) (x : Ending) → v.0 ≡ count j.before y.path → slice_get j.ends v.1 ≡ Some x → Ended R (v ∷ y.path) x
    ended v x e there =
        let z = j.ended v x e there in
        record { before = z.before; event = z.event; stands = upto_trans z.stands (upto_tail u); path = z.path; act = z.act }

    fits : (o : Option (Trap × Place)) → JoinFits P (s.keeping y.path).bounds forked.state j.tasks.kind j.tasks.tasks forked.forks
        (joined_at s.shapes forked.state) (joined_or o (all_locals j.ends))
    fits None = all_returned P (stepped P arg) s y.path j.before j.fork (upto_trans j.stands (upto_tail u)) j.path j.tasks j.act forked.state forked.forks forked.kept forked.scopes j.ends ended
    fits (Some fell) = tt

    joins_fitting : JoinsFitting P (λ p. (s.keeping p).bounds) (λ p. made_of (s.keeping p)) (λ p. (s.keeping p).scope) s.shapes Y y.path y.ans
    joins_fitting = record {
      before = j.before;
      fork = j.fork;
      branches = j.tasks;
      stands = j.stands;
      path = j.path;
      act = j.act;
      number = (let a = ap length j.last in
          let b = length-append j.since (j.fork ∷ mine j.before y.path) in
          let c = j.all_begun in omega (arith, a, b, c));
      forked = forked;
      after = joined_at s.shapes forked.state;
      since = record { grows = forked.grown; made = omega arith; entries = refl };
      fits = subst (λ x. JoinFits P (s.keeping y.path).bounds forked.state j.tasks.kind j.tasks.tasks forked.forks
          (joined_at s.shapes forked.state) x)
          (sym j.answer) (fits (first_trap j.ends));
      grown = λ n z q. q;
    }

  is_sound : IsSound P (stepped P arg) (main_bounds P wt) R
  is_sound = record {
    keeps = kept_to;
    accesses = access_lies_throughout P arg l s;
    ends = λ y Y x u act. (let ok = subst (λ c. EventOk P (stepped P arg) (s.keeping y.path) (branches_of P (stepped P arg) s.keeping y.path) s.shapes Y y.path c) act (s.events y Y u) in
        record { task = ok.0; begun = ok.1; fits = ok.2 });
    joins = λ y Y u act. joins_fitting y Y u (subst (λ c. Right (stepped P arg) Y y.path c y.ans) act (follows_at (stepped P arg) u l).right);
    conflicts = conflict_is_atomic P arg l s;
  }

pub runs_are_sound : RunsAreSound
runs_are_sound P wt arg small rule R l =
    let Q = with_rule rule (stepped P arg) in
    is_sound P wt arg small R (faithful_rule Q lets R (legal_faithful Q R l))
