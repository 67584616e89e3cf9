use Rattle.region_types.proofs.Equal.{same_paths-reported}
use Rattle.region_types.proofs.same.same_paths.Goals as goal

pub returns : goal.returns
returns c = same_paths-reported c.same.result c.args.left.now c.args.right.now c.same.ensures
