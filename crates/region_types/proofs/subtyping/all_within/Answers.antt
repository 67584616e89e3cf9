use Rattle.region_types.proofs.Equal.{within-unequal}
use Rattle.region_types.proofs.subtyping.all_within.Goals as goal

pub returns-then-inner-outer : goal.returns-then-inner-outer
returns-then-inner-outer c = within-unequal c.args.inner.now c.args.outer.now c.if-inner-outer.true
