use Rattle.std.proofs.Common.{arith}
use Rattle.std.proofs.lemmas.Bool.{iff_false}
use Rattle.lang_base.proofs.PairSteps.{at_read, none_between-more, none_between-all}
use Rattle.body_locals.specs.Clash.{Clash}
use Rattle.body_locals.proofs.clashes.clash_after.Goals as goal

pub returns-then-clashes : goal.returns-then-clashes
returns-then-clashes c = record {
  in_order = omega arith;
  within = omega arith;
  holds = at_read Clash c.args.branches.now c.args.i c.loop-j.j _ _ (omega arith) (omega arith) c.index-branches-i.is c.index-branches-j.is (c.clashes.ensures.0 c.if-clashes.true);
  none_between = c.loop-j.invariant;
}

pub loop-j-preserved : goal.loop-j-preserved
loop-j-preserved c =
    none_between-more Clash c.args.branches.now c.args.i c.loop-j.j _ _ (omega arith) (omega arith) c.index-branches-i.is c.index-branches-j.is (iff_false c.clashes.ensures c.if-clashes.false) c.loop-j.invariant

pub returns : goal.returns
returns c = none_between-all Clash c.args.branches.now c.args.i c.loop-j.j (omega arith) c.loop-j.invariant
