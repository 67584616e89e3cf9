use Rattle.body_exprs.proofs.Targets.{of_none}
use Rattle.body_exprs.proofs.assigned.no_target.Goals as goal

pub returns : goal.returns
returns c = of_none c.args.e.now c.refused.result c.requires c.refused.ensures
