use Rattle.std.proofs.Common.{subst}
use Rattle.std.proofs.lemmas.List.{take_all}
use Rattle.tool_trace.proofs.Cutting.{Without, uncut}
use Rattle.tool_trace.proofs.pieces.cut.Goals as goal

pub returns : goal.returns
returns c = λ front rest.
    uncut c.args.byte c.args.text.now front rest (subst (Without c.args.byte) (take_all c.loop-at.at c.args.text.now c.loop-at-test.false) c.loop-at.invariant)
