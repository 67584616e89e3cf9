use Rattle.region_types.proofs.Equal.{same_path-reported}
use Rattle.region_types.proofs.same.same_path.Goals as goal

pub returns : goal.returns
returns c = same_path-reported c.same.result c.args.a.now c.args.b.now c.same.ensures
