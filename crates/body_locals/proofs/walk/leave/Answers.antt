use Rattle.std.proofs.Common.{arith}
use Rattle.std.proofs.lemmas.Grind.{common_steps}
use Rattle.body_locals.proofs.Steps.{leave_step}
use Rattle.body_locals.proofs.walk.leave.Goals as goal

pub loop-name-preserved : goal.loop-name-preserved
loop-name-preserved c = λ x. grind (arith, common_steps, leave_step, c.drop_name.ensures x, c.loop-name.invariant x)
