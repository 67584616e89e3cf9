-- What a machine's run of a well-typed program is by the source, nd constructs or not.
use Rattle.std.specs.Prelude.{ℕ, ℤ, ◌≡◌, ◌≤◌, FitsSigned, List, Some, reverse}
use Rattle.std.specs.Int.{w32}
use Rattle.lang_base.specs.declared.outcome.Limits.{Limits}
use Rattle.lang_base.specs.declared.outcome.Outcome.{Outcome as Declared}
use Rattle.lang_typed.specs.Plain.{PlainProgram}
use Rattle.lang_typed.specs.Resolved.{Resolved, HasMain}
use Rattle.lang_typed.specs.WellTyped.{WellTyped}
use Rattle.code_instrs.specs.Plain.{plain_code}
use Rattle.code_scheme.specs.Whole.{compiled}
use Rattle.exec_machine.specs.Keeping.{Played, IsReplayed}
use Rattle.runs_reduction.specs.Laws.{IsGathered}
use Rattle.runs_theory.specs.Blocks.{Legal}
use Rattle.runs_theory.specs.Order.{Outcome}
use Rattle.runs_theory.specs.Runs.{Run}
use Rattle.runs_theory.specs.Schedules.{Finished, Ran}
use Rattle.runs_sound.specs.Laws.{main_bounds}
use Rattle.runs_sound.specs.Soundness.{IsSound}
use Rattle.runs_program.specs.Steps.{stepped}
use Rattle.lang_meaning.specs.Reported.{reported}

-- a legal run of the source that is sound: values have their types, each action is in order and answered by what fits, and unordered events
-- that conflict lie in atomic blocks; and with each block's events gathered at its entry it is a legal run that costs the same and
-- comes out the same
pub record IsReduced (P : PlainProgram) (wt : WellTyped P) (argument : ℤ) (R : Run) : Type 0 where
  pub legal : Legal (stepped P argument) R
  pub sound : IsSound P (stepped P argument) (main_bounds P wt) R
  pub gathered : IsGathered (stepped P argument) R

-- on the argument and within the limits a schedule has finished as a run of the source with this outcome; and each run that a
-- schedule records, this one with all its beginnings, is reduced
pub record ComesOutReduced (P : PlainProgram) (wt : WellTyped P) (L : Limits) (argument : ℤ) (schedule : List ℕ) (o : Declared) : Type 0 where
  pub outcome : Outcome
  pub finished : Finished (stepped P argument) L (reverse schedule) outcome
  pub is_reported : o ≡ reported outcome
  pub runs : (ks : List ℕ) (R : Run) → Ran (stepped P argument) L ks R → IsReduced P wt argument R

abbrev pub MachinesAreReduced : Type 0
MachinesAreReduced =
    (P : PlainProgram) (wt : WellTyped P) (p : Played) (o : Declared) → Resolved P → HasMain P → plain_code p.code ≡ compiled P → p.limits.steps ≤ 20000000
    → FitsSigned w32 p.argument → IsReplayed p → p.outcome ≡ Some o → ComesOutReduced P wt p.limits p.argument p.schedule o
