use Rattle.std.proofs.Common.{arith}
use Rattle.syntax_tokens.proofs.Numbers.{next-within}
use Rattle.syntax_tokens.proofs.spelling.number.Goals as goal

pub overflow_mul-value : goal.overflow_mul-value
overflow_mul-value c =
    let next = next-within c.loop-digit.value c.loop-digit.digit-index 2147483647 c.args.digits.now (omega arith) (omega (arith, c.loop-digit.invariant, c.requires)) in
    omega (arith, next)

pub overflow_add-value : goal.overflow_add-value
overflow_add-value c =
    let next = next-within c.loop-digit.value c.loop-digit.digit-index 2147483647 c.args.digits.now (omega arith) (omega (arith, c.loop-digit.invariant, c.requires)) in
    omega (arith, next, c.saturating_sub.ensures, c.from.ensures)
