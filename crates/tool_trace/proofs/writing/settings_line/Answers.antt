use Rattle.std.proofs.Common.{◌∙◌}
use Rattle.std.proofs.Math.Facts.{to_z-of_z}
use Rattle.std.proofs.lemmas.Result.{IfOk-weaker}
use Rattle.tool_trace.proofs.Lines.{settings-written}
use Rattle.tool_trace.proofs.writing.settings_line.Goals as goal

pub returns : goal.returns
returns c = IfOk-weaker c.format.result _ _ (λ s h. h ∙ settings-written _ c.args.arg c.args.limits (to_z-of_z c.ranges.arg)) c.format.ensures.ok
