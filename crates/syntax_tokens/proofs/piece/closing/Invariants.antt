use Rattle.std.proofs.Common.{◌<◌, ◌+◌, ℕ}
use Rattle.syntax_tokens.specs.Piece.{ClosesAt}
use Rattle.syntax_tokens.proofs.piece.closing.Given as goal

abbrev pub invariant-loop-slash : goal.invariant-loop-slash
invariant-loop-slash l = (k : ℕ) → k + 1 < l.slash → ¬ (ClosesAt l.bytes k)
