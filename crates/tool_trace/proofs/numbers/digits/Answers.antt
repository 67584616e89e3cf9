use Rattle.std.proofs.Common.{refl, ◌∙◌, arith}
use Rattle.tool_trace.proofs.Spelling.{digits-none, digits-next, value-next}
use Rattle.tool_trace.proofs.numbers.digits.Goals as goal

pub returns-then-not-is_ascii_digit : goal.returns-then-not-is_ascii_digit
returns-then-not-is_ascii_digit c =
    let h = c.if-not-is_ascii_digit.ensures.cases in
    digits-none c.args.text.now c.loop-byte.byte-index _ c.loop-byte-test.true refl (λ low high. omega (arith, h))

pub loop-byte-preserved : goal.loop-byte-preserved
loop-byte-preserved c =
    let h = c.if-not-is_ascii_digit.ensures.cases in
    record {
      digits = digits-next c.args.text.now c.loop-byte.byte-index _ c.loop-byte-test.true refl h.0 h.1 c.loop-byte.invariant.digits;
      number = c.min-number.ensures ∙ value-next c.args.text.now c.loop-byte.byte-index _ c.loop-byte-test.true refl h.0 h.1 c.loop-byte.number c.from.result c.from.ensures c.loop-byte.invariant.number;
    }
