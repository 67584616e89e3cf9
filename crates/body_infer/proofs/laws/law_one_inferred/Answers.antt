use Rattle.body_infer.proofs.Alone.{one_inferred}
use Rattle.body_infer.proofs.laws.law_one_inferred.Goals as goal

pub returns : goal.returns
returns c = one_inferred
