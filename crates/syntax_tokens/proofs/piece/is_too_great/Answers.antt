use Rattle.std.proofs.Common.{arith, rules, ◌+◌, ◌*◌}
use Rattle.syntax_tokens.proofs.Found.{too-great}
use Rattle.syntax_tokens.proofs.piece.is_too_great.Goals as goal

pub returns-then-value-gt-GREATEST : goal.returns-then-value-gt-GREATEST
returns-then-value-gt-GREATEST c = (λ _. too-great c.args.digits.now c.loop-digit.digit-index c.loop-digit.value (10 * c.loop-digit.value + c.from.result) (omega arith) c.loop-digit.invariant.1 (search rules) (omega arith), λ _. search rules)
