use Rattle.std.proofs.Common.{arith}
use Rattle.tool_trace.proofs.Valuing.{negative-none, minus-cut}
use Rattle.tool_trace.proofs.numbers.argument.Goals as goal

pub returns-in_err-number-in-45 : goal.returns-in_err-number-in-45
returns-in_err-number-in-45 c =
    rw c.from_residual.ensures
    (negative-none c.args.text.now _ (minus-cut c.args.text.now c.in-45.len_at_least (omega arith)) c.in_err-number-in-45.ensures)
