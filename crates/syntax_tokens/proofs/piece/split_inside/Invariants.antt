use Rattle.std.proofs.Common.{ℕ, ◌≤◌, ◌-◌, ◌++◌, List, length, take}
use Rattle.syntax_tokens.specs.Piece.{IsInside}
use Rattle.syntax_tokens.proofs.piece.split_inside.Given as goal

-- whatever completes the inside from here, completes it from the start
abbrev pub invariant-loop-at : goal.invariant-loop-at
invariant-loop-at l = (l.at ≤ length l.bytes) × ((tail : List ℕ) → IsInside tail → IsInside (take l.at l.bytes ++ tail))

abbrev pub decreases-loop-at : goal.decreases-loop-at
decreases-loop-at l = length l.bytes - l.at
