use Rattle.std.proofs.Common.{◌≡◌, take, map}
use Rattle.decl_headers.proofs.header.Headers.way.Given as goal

abbrev pub invariant-loop-row : goal.invariant-loop-row
invariant-loop-row l = l.parents ≡ map (λ row. row.parent) (take l.row-index l.row-items)
