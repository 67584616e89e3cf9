use Rattle.std.proofs.Common.{sym, subst}
use Rattle.lang_typed.specs.Resolved.{Resolved, HasMain}
use Rattle.tool_front.specs.Judging.{typed_of}
use Rattle.tool_top.specs.Answer.{IsRunBy, limits_of}
use Rattle.tool_top.proofs.Verdicts.{ran-so}
use Rattle.tool_top.proofs.carrying.ran.Goals as goal

pub made-requires-clause-resolved : goal.made-requires-clause-resolved
made-requires-clause-resolved g c κs within =
    let keeps = c.law_passed.ensures.keeps c.args.text.now c.args.passed.place (typed_of c.args.passed) c.requires.accepted.0 c.requires.accepted.1 in
    subst Resolved (sym c.in_ok-typed.ensures.typed) keeps.resolved

pub made-requires-clause-main : goal.made-requires-clause-main
made-requires-clause-main g c κs within =
    let keeps = c.law_passed.ensures.keeps c.args.text.now c.args.passed.place (typed_of c.args.passed) c.requires.accepted.0 c.requires.accepted.1 in
    subst HasMain (sym c.in_ok-typed.ensures.typed) keeps.has_main

pub returns : goal.returns
returns g c =
    let job = c.args.job.now in
    let runs = subst (λ P. IsRunBy job.mode P (limits_of job) job.arg job.workers c.in_ok-run.field-0) c.in_ok-typed.ensures.typed c.in_ok-run.ensures.run in
    ran-so job c.args.text.now (typed_of c.args.passed) c.in-Some.run' c.schedule.result.now c.in_ok-verdict.verdict
    (subst (λ r. IsRunBy job.mode (typed_of c.args.passed) (limits_of job) job.arg job.workers r) c.in-Some.is runs) c.schedule.ensures.schedule
    c.in_ok-verdict.ensures

pub unreachable-requires : goal.unreachable-requires
unreachable-requires g c =
    let job = c.args.job.now in
    let goes = c.promise.ensures.goes_on job c.args.text.now c.args.passed.place (typed_of c.args.passed) (c.requires.in_range, c.made.ensures.fits) c.requires.accepted in
    let runs = subst (λ P. IsRunBy job.mode P (limits_of job) job.arg job.workers c.in_ok-run.field-0) c.in_ok-typed.ensures.typed c.in_ok-run.ensures.run in
    goes.runs (subst (λ r. IsRunBy job.mode (typed_of c.args.passed) (limits_of job) job.arg job.workers r) c.in_default.is runs)
