use Rattle.std.proofs.Common.{◌∙◌}
use Rattle.std.specs.Fmt.{decimal}
use Rattle.std.proofs.lemmas.Result.{IfOk-weaker}
use Rattle.tool_trace.proofs.events.Putting.{line_put}
use Rattle.tool_trace.proofs.events.event_lines.line.Goals as goal

pub returns : goal.returns
returns c =
    IfOk-weaker c.extend-2.result _ _
    (λ _ put. line_put c.args.out.now (decimal c.args.number) (decimal c.args.made.now.event.task) _ _ _ _ c.extend.new.self c.act.new.out c.answer.new.out c.place.new.out _
    (c.as_bytes.ensures.value ∙ c.in_ok-format.ensures.ok) c.in_ok-extend.ensures.ok c.in_ok-act.ensures c.in_ok-answer.ensures c.in_ok-place.ensures put)
    c.extend-2.ensures.ok
