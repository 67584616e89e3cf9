use Rattle.std.proofs.Common.{◌≡◌, ◌++◌}
use Rattle.decl_classes.specs.Overriding.{params_from}
use Rattle.decl_classes.proofs.overriding.add_params.Given as goal

abbrev pub invariant-loop-at : goal.invariant-loop-at
invariant-loop-at l = l.paths ≡ l.initial.paths ++ params_from l.from l.at
