use Rattle.std.proofs.Common.{rules, ◌∙◌, ap, refl, subst, sym}
use Rattle.std.proofs.Math.Facts.{to_z-of_z}
use mir.Val.{SFits}
use Rattle.std.specs.Int.{w32}
use Rattle.lang_typed.specs.Plain.{plain_program}
use Rattle.lang_typed.specs.Resolved.{Resolved, HasMain}
use Rattle.tool_front.specs.Judging.{typed_of}
use Rattle.exec_run.specs.Replays.{IsFollowed}
use Rattle.lang_base.specs.declared.refusal.Kind.TheVariants.{Schedule}
use Rattle.tool_trace.specs.Runs.{line_of}
use Rattle.tool_top.specs.Answer.{only, refused_at}
use Rattle.tool_top.specs.Replaying.{ran, unfit}
use Rattle.tool_top.proofs.Traces.{followed_as}
use Rattle.tool_top.proofs.replays.follow.Goals as goal

pub replay-requires-clause-resolved : goal.replay-requires-clause-resolved
replay-requires-clause-resolved c =
    let keeps = c.law_passed.ensures.keeps c.args.text.now c.args.passed.place (typed_of c.args.passed) c.requires.accepted.0 c.requires.accepted.1 in
    subst Resolved (sym c.in_ok-typed.ensures.typed) keeps.resolved

pub replay-requires-clause-main : goal.replay-requires-clause-main
replay-requires-clause-main c =
    let keeps = c.law_passed.ensures.keeps c.args.text.now c.args.passed.place (typed_of c.args.passed) c.requires.accepted.0 c.requires.accepted.1 in
    subst HasMain (sym c.in_ok-typed.ensures.typed) keeps.has_main

pub unreachable-requires : goal.unreachable-requires
unreachable-requires c =
    let trace = c.args.trace.now in
    let fits : SFits w32 trace.arg = search rules in
    let f =
    followed_as (plain_program c.in_ok-typed.typed) (typed_of c.args.passed) trace.limits _ trace.arg c.as_slice-schedule.result.now trace.schedule c.in_ok-run.field-0 c.in_ok-typed.ensures.typed
    (to_z-of_z fits) c.as_slice-schedule.ensures c.in_ok-run.ensures in
    c.promise.ensures.follows c.args.text.now c.args.passed.place (typed_of c.args.passed) trace.limits trace.arg trace.schedule c.requires.accepted c.requires.limits fits
    (subst (λ r. IsFollowed (typed_of c.args.passed) trace.limits trace.arg trace.schedule r) c.in-Halted.is f)

pub returns-in-Ran : goal.returns-in-Ran
returns-in-Ran c =
    let trace = c.args.trace.now in
    let fits : SFits w32 trace.arg = search rules in
    let f =
    followed_as (plain_program c.in_ok-typed.typed) (typed_of c.args.passed) trace.limits _ trace.arg c.as_slice-schedule.result.now trace.schedule c.in_ok-run.field-0 c.in_ok-typed.ensures.typed
    (to_z-of_z fits) c.as_slice-schedule.ensures c.in_ok-run.ensures in
    ran c.in-Ran.run' (subst (λ r. IsFollowed (typed_of c.args.passed) trace.limits trace.arg trace.schedule r) c.in-Ran.is f) refl

pub returns-in-Unfit : goal.returns-in-Unfit
returns-in-Unfit c =
    let trace = c.args.trace.now in
    let fits : SFits w32 trace.arg = search rules in
    let f =
    followed_as (plain_program c.in_ok-typed.typed) (typed_of c.args.passed) trace.limits _ trace.arg c.as_slice-schedule.result.now trace.schedule c.in_ok-run.field-0 c.in_ok-typed.ensures.typed
    (to_z-of_z fits) c.as_slice-schedule.ensures c.in_ok-run.ensures in
    unfit c.in-Unfit.at (subst (λ r. IsFollowed (typed_of c.args.passed) trace.limits trace.arg trace.schedule r) c.in-Unfit.is f)
    (c.refused_at.ensures ∙ ap (λ n. only (refused_at Schedule n)) (c.trace_line-line.ensures ∙ ap (λ ks. line_of ks c.in-Unfit.at) c.as_slice-schedule.ensures))
