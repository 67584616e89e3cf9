use Rattle.std.proofs.Common.{sym}
use Rattle.tool_top.proofs.Traces.{misfit-answer, trace-answer}
use Rattle.tool_top.proofs.replays.replayed.Goals as goal

pub returns-in-Ok : goal.returns-in-Ok
returns-in-Ok c = trace-answer c.args.bytes.now c.in-Ok.trace c.on_trace.result c.requires.short c.in-Ok.ensures.trace c.on_trace.ensures

pub returns-in-Err-Bad : goal.returns-in-Err-Bad
returns-in-Err-Bad c =
    let why = rw c.in-Err-Bad.field-0-is at c.in-Err-Bad.ensures.why in
    misfit-answer c.args.bytes.now c.in-Err-Bad.line _ c.refused_at.result (sym c.in-Err-Bad.line-is) c.refused_at.ensures c.requires.short why
