use Rattle.std.proofs.Common.{sym}
use Rattle.tool_top.proofs.Verdicts.{faulty-answer}
use Rattle.tool_top.proofs.answers.answer_without_run.Goals as goal

pub returns-in-Err-Refused : goal.returns-in-Err-Refused
returns-in-Err-Refused c =
    let fault = rw c.in-Err-Refused.field-0-is at c.in-Err-Refused.ensures.fault in
    faulty-answer c.args.job.now c.args.text.now c.in-Err-Refused.refusal _ c.refused.result (sym c.in-Err-Refused.refusal-is) c.refused.ensures c.requires.short fault
