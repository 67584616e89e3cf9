-- A typed program as the theory of runs sees it.
use Rattle.std.specs.Prelude.{ℤ, []}
use Rattle.lang_typed.specs.Plain.{PlainProgram}
use Rattle.lang_meaning.specs.Asking.{ask}
use Rattle.lang_meaning.specs.Elision.{root_task, main_object}
use Rattle.lang_meaning.specs.Values.{Naming}
use Rattle.runs_theory.specs.Actions.{Program}
use Rattle.runs_theory.specs.Objects.{Path, Name, same_name, LocalRegion, Made, Unmade}
use Rattle.runs_program.specs.Interfering.{lets}

-- how a task names the local regions that it makes
abbrev pub named_by : Path → Naming Name LocalRegion
named_by p = record { same = same_name; made = λ c. Made p c; unmade = Unmade }

-- the object that stands at the start
abbrev pub first_name : Name
first_name = record { maker = []; count = 0 }

-- the program on an argument
abbrev pub stepped : PlainProgram → ℤ → Program
stepped P arg = record {
  meaning = λ p t got. ask (named_by p) P t got;
  root = root_task (named_by []) P first_name arg;
  object = main_object P;
  rule = lets;
}
