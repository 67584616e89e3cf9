use Rattle.std.proofs.Common.{◌≡◌, [], replicate, drop}
use Rattle.decl_table.specs.Visible.{all_own}
use Rattle.decl_table.proofs.overridden.own_methods.Given as goal

abbrev pub invariant-loop-at : goal.invariant-loop-at
invariant-loop-at l = all_own l.lists.items l.at (drop l.at l.methods) ≡ all_own (replicate l.classes []) 0 l.methods
