use Rattle.std.proofs.Common.{arith, sym}
use Rattle.tool_front.specs.Judging.{typed_of}
use Rattle.tool_io.proofs.Reported.{rest_of}
use Rattle.tool_top.proofs.Traces.{fault-answer, follow-answer}
use Rattle.tool_top.proofs.replays.on_trace.Goals as goal

pub returns-in-Ok : goal.returns-in-Ok
returns-in-Ok c =
    follow-answer c.args.bytes.now _ c.args.trace.now c.in-Ok.passed.place (typed_of c.in-Ok.passed) c.follow.result (rest_of c.args.trace.now.from c.args.bytes.now)
    (omega (arith, c.if-text-gt-MAX_TEXT.false)) c.in-Ok.ensures.accepted c.follow.ensures

pub returns-in-Err-Refused : goal.returns-in-Err-Refused
returns-in-Err-Refused c =
    let fault = rw c.in-Err-Refused.field-0-is at c.in-Err-Refused.ensures.fault in
    fault-answer c.args.bytes.now _ c.args.trace.now c.in-Err-Refused.refusal _ c.refused.result (rest_of c.args.trace.now.from c.args.bytes.now)
    (sym c.in-Err-Refused.refusal-is) c.refused.ensures (omega (arith, c.if-text-gt-MAX_TEXT.false)) fault
