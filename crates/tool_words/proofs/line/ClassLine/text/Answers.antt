use Rattle.std.proofs.Common.{◌∙◌}
use Rattle.std.proofs.lemmas.Result.{IfOk-weaker}
use Rattle.tool_words.proofs.Lines.{declared-pieces, run-pieces, made-pieces}
use Rattle.tool_words.proofs.line.ClassLine.text.Goals as goal

pub returns-in-Made : goal.returns-in-Made
returns-in-Made c = rw c.in-Made.is (IfOk-weaker c.format-in-Made.result _ _ (λ s h. h ∙ made-pieces c.args.class) c.format-in-Made.ensures.ok)

pub returns-in-Run : goal.returns-in-Run
returns-in-Run c = rw c.in-Run.is (IfOk-weaker c.format-in-Run.result _ _ (λ s h. h ∙ run-pieces c.args.class) c.format-in-Run.ensures.ok)

pub returns-in-Declared : goal.returns-in-Declared
returns-in-Declared c = rw c.in-Declared.is (IfOk-weaker c.format.result _ _ (λ s h. h ∙ declared-pieces c.args.class) c.format.ensures.ok)
