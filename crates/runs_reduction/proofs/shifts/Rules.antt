-- A weaker rule of open blocks allows what a stronger one does.
use Rattle.std.proofs.Common.{◌≡◌, [], ◌∷◌, refl, ◌∙◌}
use Rattle.runs_theory.specs.Actions.{Action, Answer, Begin, Do, End, Enter, Exit, Fork, Join, Look, New, Own, Print, Program, Read, Rest, Rule, Task, Write}
use Rattle.runs_theory.specs.Blocks.{with_rule}
use Rattle.runs_theory.specs.Meaning.{Disciplined}
use Rattle.runs_theory.specs.Objects.{Path}
use Rattle.runs_theory.specs.Runs.{Begun, Event, Faithful, Follows, Right, Run, branch, reply, root}
use Rattle.runs_theory.specs.Standing.{Admitted, Valid}
use Rattle.runs_reduction.specs.Laws.{Weaker}

pub begun_rule : (P : Program) (rule : Rule) {R : Run} {p : Path} {t : Task} → Begun P R p t → Begun (with_rule rule P) R p t
begun_rule P rule (root a b) = root a b
begun_rule P rule (branch q u F f ts B g a b c d e s h i j m) = branch q u F f ts B g a b c d e s h i j m

pub reply_rule : (P : Program) (rule : Rule) (R : Run) (p : Path) (o : Own) → reply (with_rule rule P) R p o ≡ reply P R p o
reply_rule P rule R p Rest = refl
reply_rule P rule R p (Read n i) = refl
reply_rule P rule R p (Write n i v) = refl
reply_rule P rule R p (Look n) = refl
reply_rule P rule R p (New t c) = refl
reply_rule P rule R p (Print l) = refl
reply_rule P rule R p (Enter E) = refl
reply_rule P rule R p Exit = refl

right_rule : (P : Program) (rule : Rule) (R : Run) (p : Path) (a : Action) (x : Answer) → Right P R p a x → Right (with_rule rule P) R p a x
right_rule P rule R p (Do o) x h = reply_rule P rule R p o ∙ h
right_rule P rule R p (Fork ts) x h = h
right_rule P rule R p (Begin b) x h = h
right_rule P rule R p Join x h = h
right_rule P rule R p (End y) x h = h

pub follows_rule : (P : Program) (rule : Rule) (R : Run) (e : Event) → Follows P R e → Follows (with_rule rule P) R e
follows_rule P rule R e f = record {
  task = f.task;
  begun = begun_rule P rule f.begun;
  asks = f.asks;
  right = right_rule P rule R e.path e.act e.ans f.right;
}

-- blocks aside, runs are the same by each rule
pub faithful_rule : (P : Program) (rule : Rule) (R : Run) → Faithful P R → Faithful (with_rule rule P) R
faithful_rule P rule [] l = tt
faithful_rule P rule (e ∷ R) l = (follows_rule P rule R e l.0, faithful_rule P rule R l.1)

pub valid_rule : (P : Program) (weak : Rule) → Weaker weak P.rule → (R : Run) → Valid P R → Valid (with_rule weak P) R
valid_rule P weak w [] l = tt
valid_rule P weak w (e ∷ R) l = (admitted l.0, valid_rule P weak w R l.1)
  where
    admitted : Admitted P R e → Admitted (with_rule weak P) R e
    admitted a = record {
      follows = follows_rule P weak R e a.follows;
      enters = λ E k. (let c = a.enters E k in record { clear = λ s q F h. w F E (c.clear s q F h) });
    }

pub disciplined_rule : (P : Program) (rule : Rule) → Disciplined P → Disciplined (with_rule rule P)
disciplined_rule P rule D = record { over = D.over; begins = D.begins; joins = D.joins }
