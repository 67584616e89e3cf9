use Rattle.std.proofs.Common.{◌≡◌, ◌++◌, drop}
use Rattle.body_assembly.proofs.texts.copies.Given as goal

abbrev pub invariant-loop-item : goal.invariant-loop-item
invariant-loop-item g l = l.made ++ drop l.item-index l.all ≡ l.all
