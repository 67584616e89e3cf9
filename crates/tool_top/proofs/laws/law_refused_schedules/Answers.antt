use Rattle.std.proofs.Common.{ℕ, ℤ, List}
use Rattle.lang_base.specs.declared.outcome.Limits.{Limits}
use Rattle.lang_typed.specs.Plain.{PlainProgram}
use Rattle.runs_program.specs.Laws.{EachKeeps}
use Rattle.runs_program.specs.Steps.{stepped}
use Rattle.runs_simulation.specs.Laws.{ReadyTasksAreReady}
use Rattle.exec_progress.specs.Progress.{CodeMakesProgress}
use Rattle.exec_run.specs.Replays.{IsFollowed}
use Rattle.exec_run.specs.Replays.{unfit}
use Rattle.exec_run.specs.declared.replaying.Replayed.TheVariants.{Unfit}
use Rattle.sound_text.specs.Laws.{Keeps}
use Rattle.tool_trace.specs.Reading.{AreLimits}
use Rattle.tool_top.specs.Refusing.{CannotGoOn}
use Rattle.tool_top.proofs.Following.{cannot_go_on}
use Rattle.tool_top.proofs.laws.law_refused_schedules.Goals as goal

by_followed : EachKeeps → CodeMakesProgress → ReadyTasksAreReady → (typed : PlainProgram) → Keeps typed → (limits : Limits) (argument : ℤ) (schedule : List ℕ) (at : ℕ)
    → AreLimits limits → IsFollowed typed limits argument schedule (Unfit at) → CannotGoOn (stepped typed argument) limits schedule at
by_followed keeps going all_ready typed kept limits argument schedule at allowed (unfit _ p f wrong) =
    cannot_go_on keeps going typed limits argument kept.resolved kept.has_main allowed.steps_most all_ready schedule at p f wrong

pub returns : goal.returns
returns c = record {
  right = λ text place typed limits argument schedule at accepted allowed fits followed.
      by_followed c.law_steps.ensures.keeps c.law_code_progress.ensures.goes c.law_lively.ensures.all_ready typed
      (c.law_passed.ensures.keeps text place typed accepted.0 accepted.1) limits argument schedule at allowed followed;
}
