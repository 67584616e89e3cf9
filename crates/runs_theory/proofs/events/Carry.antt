-- What one run hands on to another in which the tasks concerned have at least the same events.
use Rattle.std.proofs.Common.{◌≡◌, ℕ, inl, List, [], ◌∷◌, ◌++◌, length, refl, sym, ap, ◌∙◌, subst}
use Rattle.runs_theory.specs.Actions.{Answer, Ending, Program, Task}
use Rattle.runs_theory.specs.Blocks.{In_block, hold}
use Rattle.runs_theory.specs.Objects.{Effect, Path}
use Rattle.runs_theory.specs.Order.{Agree}
use Rattle.runs_theory.specs.Runs.{Begun, Ended, Event, Faithful, Joins, Run, Upto, branch, mine, now, root}
use Rattle.runs_theory.proofs.events.Upto.{upto_trans, upto_tail}
use Rattle.runs_theory.proofs.events.Mine.{mine_at, mine_upto, Found, found}
use Rattle.runs_theory.proofs.runs.Faithful.{begun_upto, follows_at}
use Rattle.runs_theory.proofs.runs.Standing.{Grows}

pub agree_of : {R S : Run} → Grows R S → Agree R S
agree_of h = record { both = λ p. inl (h.each p) }

pub grows_upto : {B R S : Run} → Upto B R → Grows R S → Grows B S
grows_upto h g = record { each = λ p. upto_trans (mine_upto p h) (g.each p) }

-- an event of the one run, in the other
pub found_in : {R S : Run} {w : Event} {W : Run} (q : Path) → Grows R S → Upto (w ∷ W) R → w.path ≡ q → Found S q w (mine W q)
found_in {R} {S} q h hw wq = found S q (upto_trans (mine_at q hw wq) (h.each q))

pub begun_in : {P : Program} {R S : Run} {p : Path} {t : Task} → Grows R S → Begun P R p t → Begun P S p t
begun_in h (root a b) = root a b
begun_in h (branch q u F f ts B g a b c d e i b1 c1 e1 d1) =
    let k = found_in q h b c in
    let j = found_in q h b1 c1 in
    branch q u k.before f ts j.before g a k.stands c (ap length k.mine_is ∙ d) e i j.stands c1 e1 (ap length j.mine_is ∙ d1)

pub ended_in : {R S : Run} {p : Path} {x : Ending} → (Upto (mine R p) (mine S p)) → Ended R p x → Ended S p x
ended_in {S = S} {p = p} h g =
    let k = found S p (upto_trans (mine_at p g.stands g.path) h) in
    record { before = k.before; event = g.event; stands = k.stands; path = g.path; act = g.act }

-- a join stays right where its task has the same events and the branches have at least as many
pub joins_in : {R S : Run} {p : Path} {a : Answer} → mine R p ≡ mine S p → ((u : ℕ × ℕ) → Upto (mine R (u ∷ p)) (mine S (u ∷ p))) → Joins R p a → Joins S p a
joins_in {R = R} {S = S} {p = p} m h j =
    let k = found S p (subst (λ l. Upto (j.fork ∷ mine j.before p) l) m (mine_at p j.stands j.path)) in
    record {
      before = k.before;
      fork = j.fork;
      stands = k.stands;
      path = j.path;
      since = j.since;
      last = sym m ∙ j.last ∙ ap (λ l. j.since ++ j.fork ∷ l) (sym k.mine_is);
      tasks = j.tasks;
      act = j.act;
      all_begun = j.all_begun;
      ends = j.ends;
      each = j.each;
      ended = λ u x e g. ended_in (h u) (j.ended u x (e ∙ ap length k.mine_is) g);
      answer = j.answer;
    }

-- a task inside an entry of its own has made an event
pub has_event : (L : Run) (n : ℕ) (E : List Effect) → hold L ≡ In_block n E → (x : Event) × (X : Run) × (L ≡ x ∷ X)
has_event [] n E e = absurd (cc)
has_event (x ∷ X) n E e = (x, X, refl)

-- and a task that has made one has begun
pub begun_at : (P : Program) {w : Event} {W R : Run} (q : Path) → Faithful P R → Upto (w ∷ W) R → w.path ≡ q → (t : Task) × Begun P R q t
begun_at P {w} {W} {R} q l h e = let a = follows_at P h l in (a.task, begun_upto (upto_tail h) (subst (λ r. Begun P W r a.task) e a.begun))

pub begun_held : (P : Program) (R : Run) (q : Path) (n : ℕ) (F : List Effect) → Faithful P R → hold (mine R q) ≡ In_block n F → (t : Task) × Begun P R q t
begun_held P R q n F l h =
    let x = has_event (mine R q) n F h in
    let f = found R q (subst (λ k. Upto (x.0 ∷ x.1) k) (sym x.2) now) in
    begun_at P q l f.stands f.path
