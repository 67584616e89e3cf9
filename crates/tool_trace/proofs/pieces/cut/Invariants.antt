use Rattle.std.proofs.Common.{take}
use Rattle.tool_trace.proofs.Cutting.{Without}
use Rattle.tool_trace.proofs.pieces.cut.Given as goal

abbrev pub invariant-loop-at : goal.invariant-loop-at
invariant-loop-at l = Without l.byte (take l.at l.text)
