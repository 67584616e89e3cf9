use Rattle.std.proofs.Common.{◌≡◌, drop}
use Rattle.decl_resolve.specs.Constraints.{all_hold}
use Rattle.decl_resolve.proofs.constraints.constraints_hold.Given as goal

abbrev pub invariant-loop-constraint : goal.invariant-loop-constraint
invariant-loop-constraint l =
    all_hold l.given l.args (drop l.constraint-index l.constraints) ≡ all_hold l.given l.args l.constraints
