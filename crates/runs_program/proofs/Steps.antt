-- What a typed program keeps to, task by task; so the laws of runs hold of it.
use Rattle.std.proofs.Common.{ℕ, ℤ, List}
use Rattle.lang_typed.specs.Plain.{PlainProgram}
use Rattle.lang_meaning.proofs.Tasks.{asks_disciplined, asks_lively, asks_in_turn, asks_paced}
use Rattle.runs_theory.specs.Actions.{Branches, Answer, Task}
use Rattle.runs_theory.specs.Meaning.{AfterFork}
use Rattle.lang_meaning.specs.Asking.{ask}
use Rattle.lang_meaning.specs.Tasks.{AfterFork as TaskAfterFork}
use Rattle.runs_theory.specs.Objects.{Path}
use Rattle.runs_program.specs.Laws.{EachKeeps}
use Rattle.runs_program.specs.Steps.{named_by, stepped}

after_fork : (P : PlainProgram) (arg : ℤ) (p : Path) (t : Task) (got : List Answer) (ts : Branches) (n : ℕ) → TaskAfterFork (ask (named_by p) P t) got ts n
    → AfterFork (stepped P arg) p t got ts n
after_fork P arg p t got ts n a = record { since = a.since; answer = a.answer; earlier = a.earlier; is = a.is; number = a.number; forks = a.forks }

pub each_keeps : EachKeeps
each_keeps P arg = record {
  disciplined = record {
    over = λ p t got x a e. (asks_disciplined (named_by p) P t).over got x a e;
    begins = λ p t got since ts k a l h. (0, (asks_disciplined (named_by p) P t).begins got since ts k a l h);
    joins = λ p t got since ts a l. (0, (asks_disciplined (named_by p) P t).joins got since ts a l);
  };
  lively = record {
    known = λ p t got e. (asks_lively (named_by p) P t).known got e;
    starts = λ p t e. (asks_lively (named_by p) P t).starts e;
    goes_on = λ p t got a c e o. (asks_lively (named_by p) P t).goes_on got a c e o;
    joins_forked = λ p t got e. (let j = (asks_lively (named_by p) P t).joins_forked got e in (j.0, after_fork P arg p t got j.0 _ j.1));
  };
  in_turn = record {
    begins_forked = λ p t got b e. (let j = (asks_in_turn (named_by p) P t).begins_forked got b e in (j.0, j.1, after_fork P arg p t got j.0 b j.2));
  };
  paced = record { enters = λ p t got a e. (let i = (asks_paced (named_by p) P t).enters got a e in (i.0, (0, i.1))) };
}
