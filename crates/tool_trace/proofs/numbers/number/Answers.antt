use Rattle.std.proofs.Common.{arith}
use Rattle.tool_trace.proofs.Valuing.{unspelled, spelled, misspelled}
use Rattle.tool_trace.proofs.numbers.number.Goals.{else-least-value-via-then-least-value+else-value-most, else-least-value-via-else-least-value}
use Rattle.tool_trace.proofs.numbers.number.Goals as goal

pub returns-in_err-value : goal.returns-in_err-value
returns-in_err-value c = rw c.from_residual.ensures (unspelled c.args.text.now c.args.least c.args.most c.requires.small c.in_err-value.ensures)

pub returns-then-value-most : goal.returns-then-value-most
returns-then-value-most c = (
  c.if-least-value.true,
  c.if-value-most.true,
  spelled c.args.text.now c.args.most c.in_ok-value.value c.requires.small c.in_ok-value.ensures.0 c.in_ok-value.ensures.1 c.if-value-most.true,
)

pub returns-else-least-value : goal.returns-else-least-value
returns-else-least-value c =
    misspelled c.args.text.now c.args.least c.args.most c.in_ok-value.value c.requires.small c.in_ok-value.ensures.1
    (λ low high. elim c.else-least-value.branch [
      | else-least-value-via-then-least-value+else-value-most w ↦ omega (arith, high, w.if-value-most.false)
      | else-least-value-via-else-least-value w ↦ omega (arith, low, w.if-least-value.false)
    ])
