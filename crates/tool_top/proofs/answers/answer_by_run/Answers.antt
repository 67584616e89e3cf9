use Rattle.std.proofs.Common.{sym}
use Rattle.tool_front.specs.Judging.{typed_of}
use Rattle.tool_top.proofs.Verdicts.{faulty-answer, makes-asked, ran-answer, shown-answer}
use Rattle.tool_top.proofs.answers.answer_by_run.Goals as goal

pub returns-in-Err-Refused : goal.returns-in-Err-Refused
returns-in-Err-Refused g c =
    let fault = rw c.in-Err-Refused.field-0-is at c.in-Err-Refused.ensures.fault in
    faulty-answer c.args.job.now c.args.text.now c.in-Err-Refused.refusal _ c.refused.result (sym c.in-Err-Refused.refusal-is) c.refused.ensures c.requires.short fault

pub returns-in-Events : goal.returns-in-Events
returns-in-Events g c =
    shown-answer c.args.job.now c.args.text.now c.in-Ok.passed.place (typed_of c.in-Ok.passed) c.shown.result (c.requires.short, c.in-Ok.ensures.accepted) c.in-Events.is c.shown.ensures

pub returns-in_default : goal.returns-in_default
returns-in_default g c =
    ran-answer c.args.job.now c.args.text.now c.in-Ok.passed.place (typed_of c.in-Ok.passed) c.ran.result (c.requires.short, c.in-Ok.ensures.accepted)
    (makes-asked c.args.job.now.command c.requires.run c.in_default.not-Events) c.ran.ensures
