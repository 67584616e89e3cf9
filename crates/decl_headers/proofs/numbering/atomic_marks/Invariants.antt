use Rattle.std.proofs.Common.{◌≡◌, take, map}
use Rattle.decl_headers.proofs.numbering.atomic_marks.Given as goal

abbrev pub invariant-loop-row : goal.invariant-loop-row
invariant-loop-row l = l.marks ≡ map (λ row. row.is_atomic) (take l.row-index l.regions)
