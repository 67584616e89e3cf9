use Rattle.std.proofs.Common.{◌∙◌}
use Rattle.std.proofs.lemmas.Result.{IfOk-weaker}
use Rattle.tool_trace.proofs.Lines.{run-written}
use Rattle.tool_trace.proofs.writing.run_line.Goals as goal

pub returns : goal.returns
returns c = IfOk-weaker c.format.result _ _ (λ s h. h ∙ run-written c.args.run) c.format.ensures.ok
