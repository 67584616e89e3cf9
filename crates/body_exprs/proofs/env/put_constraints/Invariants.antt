use Rattle.std.proofs.Common.{◌≡◌, ◌++◌, take}
use Rattle.body_exprs.proofs.env.put_constraints.Given as goal

abbrev pub invariant-loop-constraint : goal.invariant-loop-constraint
invariant-loop-constraint l = l.given ≡ l.initial.given ++ take l.constraint-index l.more
