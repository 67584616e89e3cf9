use Rattle.std.proofs.Common.{◌≡◌, drop}
use Rattle.lang_base.specs.Types.{plain_type}
use Rattle.body_exprs.specs.Partial.{rigid_in_partial}
use Rattle.body_exprs.proofs.fitting.rigid_in_partial.Given as goal

abbrev pub invariant-loop-number : goal.invariant-loop-number
invariant-loop-number l =
    rigid_in_partial (plain_type l.t) l.number (drop l.number l.args) ≡ rigid_in_partial (plain_type l.t) 0 l.args
