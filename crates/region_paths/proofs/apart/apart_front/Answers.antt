use Rattle.std.proofs.Common.{◌∙◌, arith}
use Rattle.region_paths.proofs.Walks.{apart_front-end}
use Rattle.region_paths.proofs.apart.apart_front.Goals as goal

pub returns : goal.returns
returns c = apart_front-end c.args.a.now c.args.b.now c.loop-i.i (omega arith) ∙ c.loop-i.invariant
