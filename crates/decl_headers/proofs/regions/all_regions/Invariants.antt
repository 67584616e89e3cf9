use Rattle.std.proofs.Common.{◌≡◌, ◌++◌, drop}
use Rattle.decl_headers.specs.Gathered.{all_regions}
use Rattle.decl_headers.proofs.regions.all_regions.Given as goal

abbrev pub invariant-loop-at : goal.invariant-loop-at
invariant-loop-at l = l.rows ++ all_regions l.at (drop l.at l.classes) ≡ all_regions 0 l.classes
