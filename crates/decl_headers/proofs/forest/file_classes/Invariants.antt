use Rattle.std.proofs.Common.{◌≡◌, drop}
use Rattle.decl_headers.specs.Way.{filed}
use Rattle.decl_headers.proofs.forest.file_classes.Given as goal

abbrev pub invariant-loop-at : goal.invariant-loop-at
invariant-loop-at l = filed l.lists.items l.at (drop l.at l.parents) ≡ filed l.initial.lists.items 0 l.parents
