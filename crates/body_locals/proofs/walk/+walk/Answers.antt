use Rattle.std.proofs.Common.{arith}
use Rattle.std.proofs.lemmas.Grind.{common_steps}
use Rattle.body_locals.proofs.Steps.{block_step}
use Rattle.body_locals.proofs.walk.+walk.Goals as goal

pub block-loop-stmt-preserved : goal.block-loop-stmt-preserved
block-loop-stmt-preserved t c = record {
  scope = λ x. grind (arith, common_steps, c.in_ok-statement.ensures.inside x, c.in_ok-enter.ensures.scope x, c.loop-stmt.invariant.scope x);
  reads = λ x. grind (arith, common_steps, block_step, c.in_ok-statement.ensures.inside x, c.in_ok-statement.ensures.reads x, c.in_ok-enter.ensures.inside x, c.loop-stmt.invariant.reads x);
  writes = λ x. grind (arith, common_steps, block_step, c.in_ok-statement.ensures.inside x, c.in_ok-statement.ensures.writes x, c.in_ok-enter.ensures.inside x, c.loop-stmt.invariant.writes x);
}
