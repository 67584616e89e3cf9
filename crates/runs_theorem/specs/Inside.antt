-- What a machine's run of a well-typed program is inside nd constructs: the deterministic constructs in them can stand in sequence.
use Rattle.std.specs.Prelude.{ℕ, ℤ, ◌≡◌, ◌≤◌, ◌⊎◌, FitsSigned, List, Some, reverse}
use Rattle.std.specs.Int.{w32}
use Rattle.lang_base.specs.declared.outcome.Ending.TheVariants as came
use Rattle.lang_base.specs.declared.outcome.Limits.{Limits}
use Rattle.lang_base.specs.declared.outcome.Outcome.{Outcome as Declared}
use Rattle.lang_typed.specs.Plain.{PlainProgram}
use Rattle.lang_typed.specs.Resolved.{Resolved, HasMain}
use Rattle.lang_typed.specs.WellTyped.{WellTyped}
use Rattle.code_instrs.specs.Plain.{plain_code}
use Rattle.runs_theorem.specs.Laws.{stepped_inside}
use Rattle.code_scheme.specs.Whole.{compiled}
use Rattle.exec_machine.specs.Keeping.{Played, IsReplayed}
use Rattle.runs_reduction.specs.Laws.{IsArranged, IsMoved}
use Rattle.runs_reduction.specs.Gathered.{gather}
use Rattle.runs_reduction.specs.Moved.{move}
use Rattle.runs_theory.specs.Order.{Comes, Outcome}
use Rattle.runs_theory.specs.Runs.{Run}
use Rattle.runs_theory.specs.Schedules.{Ran}
use Rattle.runs_program.specs.Steps.{stepped}
use Rattle.lang_meaning.specs.Reported.{reported}

-- the run of the source that a schedule records, its outcome, and the run with deterministic constructs moved: a legal run, in
-- which blocks don't wait for each other for effects on local regions alone, with the same events of each task, the same cost and
-- the same outcome. So is the run that is first gathered and then moved, in which each block's events stand together too
pub record ElidedInside (P : PlainProgram) (L : Limits) (argument : ℤ) (schedule : List ℕ) (o : Declared) : Type 0 where
  pub run : Run
  pub ran : Ran (stepped P argument) L (reverse schedule) run
  pub outcome : Outcome
  pub comes : Comes (stepped P argument) run outcome
  pub is_reported : o ≡ reported outcome
  pub moved : IsMoved (stepped_inside P argument) run
  pub comes_moved : Comes (stepped_inside P argument) (move run) outcome
  pub arranged : IsArranged (stepped_inside P argument) run
  pub comes_arranged : Comes (stepped_inside P argument) (move (gather run)) outcome

-- there is such a run, unless a limit was met
abbrev pub ComesOutElidedInside : PlainProgram → Limits → ℤ → List ℕ → Declared → Type 0
ComesOutElidedInside P L argument schedule o = (o.ending ≡ came.Limited) ⊎ ElidedInside P L argument schedule o

abbrev pub MachinesElideInside : Type 0
MachinesElideInside =
    (P : PlainProgram) (p : Played) (o : Declared) → WellTyped P → Resolved P → HasMain P → plain_code p.code ≡ compiled P → p.limits.steps ≤ 20000000
    → FitsSigned w32 p.argument → IsReplayed p → p.outcome ≡ Some o → ComesOutElidedInside P p.limits p.argument p.schedule o
