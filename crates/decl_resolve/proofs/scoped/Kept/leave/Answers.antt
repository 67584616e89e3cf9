use Rattle.std.proofs.Common.{◌∙◌, arith}
use Rattle.decl_resolve.specs.Names.{plain_names}
use Rattle.decl_resolve.proofs.Naming.{take-same, way-ends, plain-length}
use Rattle.decl_resolve.proofs.scoped.Kept.leave.Goals as goal

pub returns-clause-names : goal.returns-clause-names
returns-clause-names g c =
    c.loop.invariant.names
    ∙ take-same _ _ (plain_names c.args.self.now.names)
    (way-ends _ _ _ _ c.loop.auto.counter c.loop-test.false c.loop.invariant.over (omega (arith, c.len-end.ensures, c.args.self.now.valued, plain-length c.args.self.now.names)))

pub returns-clause-values : goal.returns-clause-values
returns-clause-values g c =
    c.loop.invariant.values ∙ take-same _ _ c.args.self.now.values (way-ends _ _ _ _ c.loop.auto.counter c.loop-test.false c.loop.invariant.over c.len-end.ensures)
