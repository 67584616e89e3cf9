use Rattle.std.proofs.Common.{◌≡◌, ◌++◌, drop, slice_index_or}
use Rattle.decl_headers.specs.Gathered.{header_rows}
use Rattle.decl_headers.proofs.gather.rows.Given as goal

abbrev pub invariant-loop-at : goal.invariant-loop-at
invariant-loop-at l = l.rows ++ header_rows l.parents (λ at. slice_index_or l.counts at 0) l.at (drop l.at l.classes) ≡ header_rows l.parents (λ at. slice_index_or l.counts at 0) 0 l.classes
