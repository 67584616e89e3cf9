-- That a machine is ready for the tasks that are ready in the run of the source.
use Rattle.std.specs.Prelude.{◌≡◌, ◌≤◌, ◌↔◌, ℕ, None, reverse}
use Rattle.lang_base.specs.declared.outcome.Limits.{Limits}
use Rattle.lang_typed.specs.Plain.{PlainProgram}
use Rattle.lang_typed.specs.Resolved.{Resolved, HasMain}
use Rattle.code_instrs.specs.Plain.{plain_code}
use Rattle.code_scheme.specs.Whole.{compiled}
use Rattle.exec_machine.specs.Keeping.{Played, IsReplayed}
use Rattle.exec_world.specs.Ready.{IsReady}
use Rattle.runs_program.specs.Steps.{stepped}
use Rattle.runs_theory.specs.Actions.{Program}
use Rattle.runs_theory.specs.Runs.{Event, Run}
use Rattle.runs_theory.specs.Schedules.{Ran, Ready}

-- the schedule of a machine records a run, and the machine is ready for exactly the tasks that have a next event there
pub record IsReadyAsItsRun (Q : Program) (L : Limits) (p : Played) : Type 0 where
  pub run : Run
  pub ran : Ran Q L (reverse p.schedule) run
  pub ready : (k : ℕ) → IsReady p.world k ↔ ((e : Event) × Ready Q run k e)

-- so each machine on the code of a resolved program with a `main`, until its run has come out. So a round, which is of the tasks
-- that are ready in its machine, is of those that are ready in the run
abbrev pub MachinesAreReadyAsTheirRuns : Type 0
MachinesAreReadyAsTheirRuns =
    (P : PlainProgram) (p : Played) → Resolved P → HasMain P → plain_code p.code ≡ compiled P → p.limits.steps ≤ 20000000 → IsReplayed p → p.outcome ≡ None
    → IsReadyAsItsRun (stepped P p.argument) p.limits p
