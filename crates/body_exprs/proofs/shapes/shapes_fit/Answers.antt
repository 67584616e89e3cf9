use Rattle.std.proofs.Common.{sym}
use Rattle.body_exprs.proofs.Shaping.{unfit}
use Rattle.body_exprs.proofs.shapes.shapes_fit.Goals as goal

pub returns-then-actuals-declared : goal.returns-then-actuals-declared
returns-then-actuals-declared c = sym (unfit c.args.headers.now c.args.actuals.now c.args.declared.now c.if-actuals-declared.true)
