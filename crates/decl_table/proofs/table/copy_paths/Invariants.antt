use Rattle.std.proofs.Common.{◌≡◌, take}
use Rattle.decl_table.proofs.table.copy_paths.Given as goal

abbrev pub invariant-loop-path : goal.invariant-loop-path
invariant-loop-path l = l.copies ≡ take l.path-index l.paths
