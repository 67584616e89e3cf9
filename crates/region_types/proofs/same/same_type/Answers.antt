use Rattle.lang_base.specs.Types.{plain_type}
use Rattle.region_types.proofs.Equal.{same_type-means}
use Rattle.region_types.proofs.same.same_type.Goals as goal

pub returns-clause-means : goal.returns-clause-means
returns-clause-means c = same_type-means c.same_structure.result (plain_type c.args.a.now) (plain_type c.args.b.now) c.same_structure.ensures
