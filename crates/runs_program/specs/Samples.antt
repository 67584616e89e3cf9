-- Runs of small programs, in an order that isn't the sequential one, that come out and cost as in sequence.
use Rattle.std.specs.Prelude.{ℕ, ℤ, pos, ◌≡◌, List, []}
use Rattle.lang_base.specs.Types.{int, boolean}
use Rattle.lang_base.specs.declared.value.Trap.TheVariants.{Divide}
use Rattle.lang_base.specs.declared.op.BinaryOp.TheVariants as op
use Rattle.lang_typed.specs.declared.stmt.Forking.TheVariants.{Deterministic}
use Rattle.lang_typed.specs.Plain.{PlainProgram, typed, more_stmts, no_branches, more_branches}
use Rattle.lang_typed.specs.Plain.{ExprForm as expr}
use Rattle.lang_typed.specs.Plain.{StmtForm as form}
use Rattle.lang_typed.specs.Samples.{here, this, number, does, then_zero, program_of, two_fields, writes_field}
use Rattle.lang_meaning.specs.Samples.{divides, fills_and_reads}
use Rattle.lang_meaning.specs.Values.{Int}
use Rattle.runs_theory.specs.Actions.{Ending, Returned, Trapped}
use Rattle.runs_theory.specs.Blocks.{Legal}
use Rattle.runs_theory.specs.Order.{Outcome}
use Rattle.runs_theory.specs.Runs.{Run, Ended, steps_of, cells_of}
use Rattle.runs_theory.specs.Schedules.{Finished, Limits}
use Rattle.runs_program.specs.Steps.{stepped}

-- there is a legal run whose root ends so, at this cost
pub record SomeRun (P : PlainProgram) (arg : ℤ) (x : Ending) (steps cells : ℕ) : Type 0 where
  pub run : Run
  pub legal : Legal (stepped P arg) run
  pub ended : Ended run [] x
  pub steps_are : steps_of run ≡ steps
  pub cells_are : cells_of (stepped P arg) run ≡ cells

-- the second branch prints before the first one traps; or it prints first
pub record DividesRuns : Type 0 where
  pub traps : SomeRun divides (pos 0) (Trapped Divide here) 6 3
  pub prints : SomeRun divides (pos 1) (Returned (Int (pos 0))) 7 5

-- the branches write one after the other, the last first
abbrev pub FillsRun : Type 0
FillsRun = SomeRun fills_and_reads (pos 3) (Returned (Int (pos 2))) 11 5

-- `cobegin { this.x = 1; this.x = 2; } if (this.x == 1) print(1); return 0;`, which isn't well typed
abbrev pub races : PlainProgram
races = program_of two_fields [] 2
    (more_stmts (does (form.cobegin Deterministic (more_branches [] (writes_field 0 1) (more_branches [] (writes_field 0 2) no_branches))))
    (more_stmts (does (form.choice (typed here boolean (expr.binary op.Equal (typed here int (expr.field this 0 0)) (number 1))) (does (form.print_int (number 1)))))
    then_zero))

-- where branches conflict, two finished schedules may come out in two ways
abbrev pub SchedulesNeedFree : Type 0
SchedulesNeedFree = (L : Limits) × (ks : List ℕ) × (js : List ℕ) × (o : Outcome) × (q : Outcome) × Finished (stepped races (pos 0)) L ks o
    × Finished (stepped races (pos 0)) L js q × (o ≡ q → ⊥)
