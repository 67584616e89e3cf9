use Rattle.std.proofs.Common.{◌≡◌, ◌++◌, drop}
use Rattle.decl_headers.specs.Gathered.{region_rows}
use Rattle.decl_headers.proofs.regions.add_names.Given as goal

abbrev pub invariant-loop-named : goal.invariant-loop-named
invariant-loop-named l = l.rows ++ region_rows l.owner l.is_atomic (drop l.named-index l.names) ≡ l.initial.rows ++ region_rows l.owner l.is_atomic l.names
