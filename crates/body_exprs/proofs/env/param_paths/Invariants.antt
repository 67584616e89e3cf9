use Rattle.std.proofs.Common.{◌≡◌}
use Rattle.body_exprs.specs.Env.{param_paths}
use Rattle.body_exprs.proofs.env.param_paths.Given as goal

abbrev pub invariant-loop-number : goal.invariant-loop-number
invariant-loop-number l = l.paths ≡ param_paths l.number
