use Rattle.std.proofs.Common.{◌∙◌, ◌≤◌, Some, ap, refl, sym, subst}
use Rattle.std.proofs.Math.Facts.{to_z-of_z}
use mir.Val.{SFits}
use Rattle.std.specs.Int.{w32}
use Rattle.lang_base.specs.declared.outcome.Limits.{Limits}
use Rattle.lang_typed.specs.Names.{names_of}
use Rattle.lang_typed.specs.Plain.{plain_program}
use Rattle.lang_typed.specs.Resolved.{Resolved, HasMain}
use Rattle.tool_front.specs.Judging.{names_of_passed, typed_of}
use Rattle.tool_words.specs.declared.verdict.Verdict.TheVariants.{Shown}
use Rattle.tool_top.specs.Answer.{IsRunBy, limits_of}
use Rattle.exec_run.specs.Events.{AreEvents}
use Rattle.exec_run.specs.declared.showing.Shown.TheVariants.{Made}
use Rattle.tool_top.proofs.Verdicts.{events-as, shown-as, shown-made, shown-so}
use Rattle.tool_top.proofs.carrying.shown.Goals as goal

pub made-requires-clause-resolved : goal.made-requires-clause-resolved
made-requires-clause-resolved g c κs within =
    let keeps = c.law_passed.ensures.keeps c.args.text.now c.args.passed.place (typed_of c.args.passed) c.requires.accepted.0 c.requires.accepted.1 in
    subst Resolved (sym c.in_ok-typed.ensures.typed) keeps.resolved

pub made-requires-clause-main : goal.made-requires-clause-main
made-requires-clause-main g c κs within =
    let keeps = c.law_passed.ensures.keeps c.args.text.now c.args.passed.place (typed_of c.args.passed) c.requires.accepted.0 c.requires.accepted.1 in
    subst HasMain (sym c.in_ok-typed.ensures.typed) keeps.has_main

pub unreachable-requires : goal.unreachable-requires
unreachable-requires g c =
    let job = c.args.job.now in
    let goes = c.promise.ensures.goes_on job c.args.text.now c.args.passed.place (typed_of c.args.passed) (c.requires.in_range, c.made.ensures.fits) c.requires.accepted in
    let runs = subst (λ P. IsRunBy job.mode P (limits_of job) job.arg job.workers c.in_ok-run.field-0) c.in_ok-typed.ensures.typed c.in_ok-run.ensures.run in
    goes.runs (subst (λ r. IsRunBy job.mode (typed_of c.args.passed) (limits_of job) job.arg job.workers r) c.in_default.is runs)

pub events-requires-clause-resolved : goal.events-requires-clause-resolved
events-requires-clause-resolved g c =
    let keeps = c.law_passed.ensures.keeps c.args.text.now c.args.passed.place (typed_of c.args.passed) c.requires.accepted.0 c.requires.accepted.1 in
    subst Resolved (sym c.in_ok-typed.ensures.typed) keeps.resolved

pub events-requires-clause-main : goal.events-requires-clause-main
events-requires-clause-main g c =
    let keeps = c.law_passed.ensures.keeps c.args.text.now c.args.passed.place (typed_of c.args.passed) c.requires.accepted.0 c.requires.accepted.1 in
    subst HasMain (sym c.in_ok-typed.ensures.typed) keeps.has_main

pub events-requires-clause-steps : goal.events-requires-clause-steps
events-requires-clause-steps g c = subst (λ (k : Limits). k.steps ≤ 20000000) (sym c.limits.ensures) c.requires.in_range.steps_most

pub events-requires-clause-cells : goal.events-requires-clause-cells
events-requires-clause-cells g c = subst (λ (k : Limits). k.cells ≤ 16777216) (sym c.limits.ensures) c.requires.in_range.cells_most

pub unreachable-requires-in_default-2 : goal.unreachable-requires-in_default-2
unreachable-requires-in_default-2 g c =
    let job = c.args.job.now in
    let L = limits_of job in
    let fits : SFits w32 job.arg = c.made.ensures.fits in
    let run = c.in-Some.run' in
    let runs : IsRunBy job.mode (typed_of c.args.passed) L job.arg job.workers (Some run) =
    subst (λ r. IsRunBy job.mode (typed_of c.args.passed) L job.arg job.workers r) c.in-Some.is
    (subst (λ P. IsRunBy job.mode P L job.arg job.workers c.in_ok-run.field-0) c.in_ok-typed.ensures.typed c.in_ok-run.ensures.run) in
    let are : AreEvents (typed_of c.args.passed) L job.arg run.record.machine.schedule c.in_ok-made_events.field-0 =
    shown-as (plain_program c.in_ok-typed.typed) (typed_of c.args.passed) c.limits.result L _ job.arg c.as_slice-schedule.result.now run.record.machine.schedule c.in_ok-made_events.field-0 c.in_ok-typed.ensures.typed
    c.limits.ensures (to_z-of_z fits) (c.as_slice-schedule.ensures ∙ c.in_ok-tasks.ensures ∙ c.schedule.ensures.schedule) c.in_ok-made_events.ensures in
    shown-made c.in_ok-made_events.field-0 (c.promise.ensures.shows job c.args.text.now c.args.passed.place (typed_of c.args.passed) run c.in_ok-made_events.field-0 (c.requires.in_range, fits) c.requires.accepted runs are)
    c.in_default-2.not-Made

pub returns : goal.returns
returns g c =
    let job = c.args.job.now in
    let L = limits_of job in
    let fits : SFits w32 job.arg = c.made.ensures.fits in
    let run = c.in-Some.run' in
    let runs : IsRunBy job.mode (typed_of c.args.passed) L job.arg job.workers (Some run) =
    subst (λ r. IsRunBy job.mode (typed_of c.args.passed) L job.arg job.workers r) c.in-Some.is
    (subst (λ P. IsRunBy job.mode P L job.arg job.workers c.in_ok-run.field-0) c.in_ok-typed.ensures.typed c.in_ok-run.ensures.run) in
    let are : AreEvents (typed_of c.args.passed) L job.arg c.as_slice-schedule.result.now (Made c.in-Made.made_events) =
    subst (λ s. AreEvents (typed_of c.args.passed) L job.arg c.as_slice-schedule.result.now s) c.in-Made.is
    (shown-as (plain_program c.in_ok-typed.typed) (typed_of c.args.passed) c.limits.result L _ job.arg c.as_slice-schedule.result.now c.as_slice-schedule.result.now c.in_ok-made_events.field-0 c.in_ok-typed.ensures.typed
    c.limits.ensures (to_z-of_z fits) refl c.in_ok-made_events.ensures) in
    let reported = ap (Shown run.outcome) (c.in_ok-text.ensures
    ∙ events-as (plain_program c.in_ok-typed.typed) (names_of c.in_ok-typed.typed) _ job.arg c.limits-2.result L c.as_slice.result.now c.in_ok-typed.fields c.as_slice-2.result.now c.in-Made.made_events
    run.outcome.ending (to_z-of_z fits) c.limits-2.ensures c.as_slice.ensures c.as_slice-2.ensures) in
    shown-so job c.args.text.now (plain_program c.in_ok-typed.typed) (typed_of c.args.passed) (names_of c.in_ok-typed.typed) (names_of_passed c.args.passed) c.in_ok-typed.fields c.args.passed.fields
    run c.as_slice-schedule.result.now c.in-Made.made_events _ c.in_ok-typed.ensures.typed c.in_ok-typed.ensures.named c.requires.named c.in_ok-typed.ensures.fields c.requires.fields runs (c.as_slice-schedule.ensures ∙ c.in_ok-tasks.ensures ∙ c.schedule.ensures.schedule) are reported
