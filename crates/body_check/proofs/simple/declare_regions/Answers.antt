use Rattle.std.proofs.lemmas.List.{drop_all}
use Rattle.body_check.specs.Simple.{declare_regions}
use Rattle.body_check.specs.Walks.{walk_of}
use Rattle.body_check.proofs.Passing.{anyhow, judged_so}
use Rattle.body_check.proofs.Regions.{regions_are}
use Rattle.body_check.proofs.simple.declare_regions.Goals as goal

pub returns-clause-home : goal.returns-clause-home
returns-clause-home c = anyhow c.judge.result c.loop-named.invariant.home

pub returns-clause-checks : goal.returns-clause-checks
returns-clause-checks c found =
    judged_so (declare_regions c.args.node c.args.names.now (walk_of c.args.env.now found)) _ _ _ c.judge.result _
    (regions_are c.args.node c.loop-named.node c.args.env.now c.loop-named.env c.args.names.now _ c.loop-named.regions found
    (drop_all c.loop-named.named-index c.args.names.now c.loop-named-test.false) c.loop-named.invariant.noted c.loop-named.invariant.scope
    c.loop-named.invariant.made)
    (c.judge.ensures.checks (walk_of c.loop-named.env found))
