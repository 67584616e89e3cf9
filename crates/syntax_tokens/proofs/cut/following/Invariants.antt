use Rattle.std.proofs.Common.{◌≡◌, ◌≤◌, ◌+◌, drop}
use Rattle.std.specs.List.{fold}
use Rattle.syntax_tokens.specs.Place.{next_place}
use Rattle.syntax_tokens.proofs.cut.following.Given as goal

abbrev pub invariant-loop-byte : goal.invariant-loop-byte
invariant-loop-byte l = record {
  place : fold next_place l.place (drop l.byte-index l.bytes) ≡ fold next_place l.fn.place l.bytes;
  column : 1 ≤ l.place.col;
  room : l.place.line + l.place.col ≤ l.fn.place.line + l.fn.place.col + l.byte-index;
}
