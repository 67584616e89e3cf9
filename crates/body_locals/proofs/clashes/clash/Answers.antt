use Rattle.std.proofs.Common.{arith}
use Rattle.lang_base.proofs.PairSteps.{none_before-more, none_before-all}
use Rattle.body_locals.specs.Clash.{Clash}
use Rattle.body_locals.proofs.clashes.clash.Goals as goal

pub loop-i-preserved : goal.loop-i-preserved
loop-i-preserved c = none_before-more Clash c.args.branches.now c.loop-i.i c.in_default.ensures c.loop-i.invariant

pub returns : goal.returns
returns c = none_before-all Clash c.args.branches.now c.loop-i.i (omega arith) c.loop-i.invariant
