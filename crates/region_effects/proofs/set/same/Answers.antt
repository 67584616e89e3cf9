use Rattle.std.proofs.Common.{◌∙◌}
use Rattle.region_effects.proofs.Sets.{eq-same}
use Rattle.region_effects.proofs.set.same.Goals as goal

pub returns : goal.returns
returns c = c.eq.ensures ∙ eq-same c.args.e.now c.args.f.now
