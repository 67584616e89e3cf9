use Rattle.std.proofs.Common.{arith}
use Rattle.std.proofs.lemmas.Grind.{common_steps}
use Rattle.body_locals.proofs.Earlier.{or_step}
use Rattle.body_locals.proofs.meeting.add_all.Goals as goal

pub loop-local-preserved : goal.loop-local-preserved
loop-local-preserved c = λ x. grind (arith, common_steps, or_step, c.in_ok-add.ensures x, c.loop-local.invariant x)
