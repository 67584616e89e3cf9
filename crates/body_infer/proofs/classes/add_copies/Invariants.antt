use Rattle.std.proofs.Common.{◌≡◌, ◌++◌, drop}
use Rattle.body_infer.proofs.classes.add_copies.Given as goal

abbrev pub invariant-loop-path : goal.invariant-loop-path
invariant-loop-path l = l.all ++ drop l.path-index l.path-items ≡ l.initial.all ++ l.path-items
