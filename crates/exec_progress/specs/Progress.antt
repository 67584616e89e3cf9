-- That compiled code goes on, wherever a schedule leads.
use Rattle.std.specs.Prelude.{◌≡◌, ◌≤◌, ℤ}
use Rattle.lang_base.specs.declared.outcome.Limits.{Limits}
use Rattle.lang_typed.specs.Plain.{PlainProgram}
use Rattle.lang_typed.specs.Resolved.{Resolved, HasMain}
use Rattle.code_instrs.specs.declared.code.Code.{Code}
use Rattle.code_instrs.specs.Plain.{plain_code}
use Rattle.code_scheme.specs.Whole.{compiled}
use Rattle.exec_machine.specs.Premise.{CanProgress}

-- the most steps that a job may ask for
abbrev pub CodeMakesProgress : Type 0
CodeMakesProgress =
    (code : Code) (P : PlainProgram) (L : Limits) (argument : ℤ) → plain_code code ≡ compiled P → Resolved P → HasMain P → L.steps ≤ 20000000 →
    CanProgress code L argument
