use Rattle.std.proofs.Common.{◌≡◌, ◌++◌, length}
use Rattle.syntax_tokens.specs.Says.{unescaped_bytes}
use Rattle.syntax_tokens.proofs.spelling.unescaped.Given as goal

abbrev pub invariant-loop-byte : goal.invariant-loop-byte
invariant-loop-byte l = l.bytes ++ unescaped_bytes l.rest ≡ unescaped_bytes l.inside

abbrev pub decreases-loop-byte : goal.decreases-loop-byte
decreases-loop-byte l = length l.rest
