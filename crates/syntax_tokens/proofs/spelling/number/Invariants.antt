use Rattle.std.proofs.Common.{◌≡◌, ◌+◌, ◌-◌, ◌*◌, drop}
use Rattle.std.specs.List.{fold}
use Rattle.lang_base.specs.Lexical.{decimal_value}
use Rattle.syntax_tokens.proofs.spelling.number.Given as goal

abbrev pub invariant-loop-digit : goal.invariant-loop-digit
invariant-loop-digit l = fold (λ n b. 10 * n + (b - 48)) l.value (drop l.digit-index l.digits) ≡ decimal_value l.digits
