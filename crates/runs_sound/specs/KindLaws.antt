-- No run of a well-typed program meets a value or an answer of a wrong kind, as statements.
use Rattle.std.specs.Prelude.{◌≡◌, ℤ, FitsSigned, List}
use Rattle.std.specs.Int.{w32}
use Rattle.lang_typed.specs.Plain.{PlainProgram}
use Rattle.lang_typed.specs.WellTyped.{WellTyped}
use Rattle.lang_meaning.specs.Asking.{ask}
use Rattle.runs_theory.specs.Actions.{Answer, Rule, Task}
use Rattle.runs_theory.specs.Blocks.{Legal, with_rule}
use Rattle.runs_theory.specs.Objects.{Path, Name, LocalRegion}
use Rattle.runs_theory.specs.Runs.{Begun, Run, answers, mine}
use Rattle.runs_program.specs.Steps.{named_by, stepped}
use Rattle.runs_sound.specs.Kinds.{Wrong, strict_ask}

-- in a run that is legal by any rule of open blocks, each task replies as by the meaning to what it has been answered there, whatever is done at a
-- wrong kind: so that is never done
abbrev pub RunsMeetNoWrongKind : Type 0
RunsMeetNoWrongKind = (wrong : Wrong Name LocalRegion) (P : PlainProgram) → WellTyped P → (arg : ℤ) → FitsSigned w32 arg → (rule : Rule) (R : Run) →
    Legal (with_rule rule (stepped P arg)) R → (p : Path) (t : Task) → Begun (stepped P arg) R p t →
    strict_ask wrong (named_by p) P t (answers (mine R p)) ≡ ask (named_by p) P t (answers (mine R p))

-- where at a wrong kind is done what the meaning does there, it is the meaning
abbrev pub KindsAreLookedAtAlone : Type 0
KindsAreLookedAtAlone = (p : Path) (P : PlainProgram) (t : Task) (got : List Answer) → strict_ask (λ q. q) (named_by p) P t got ≡ ask (named_by p) P t got
