use Rattle.std.proofs.Common.{◌≤◌, ◌+◌, ◌-◌, length}
use Rattle.syntax_tokens.proofs.Steps.{ReadsTo}
use Rattle.syntax_tokens.proofs.cut.tokens.Given as goal

abbrev pub invariant-loop-at : goal.invariant-loop-at
invariant-loop-at l = record {
  within : l.at ≤ length l.bytes;
  column : 1 ≤ l.place.col;
  room : l.place.line + l.place.col ≤ l.at + 2;
  read : ReadsTo l.bytes l.at l.list l.place;
}

abbrev pub decreases-loop-at : goal.decreases-loop-at
decreases-loop-at l = length l.bytes - l.at
