use Rattle.std.proofs.Common.{map}
use Rattle.body_assembly.specs.Assembled.{plain_body}
use Rattle.body_check.proofs.Methodic.{ClassesSoFar}
use Rattle.body_check.proofs.bodies.check_classes.Given as goal

abbrev pub invariant-loop-number : goal.invariant-loop-number
invariant-loop-number l = record {
  so_far : ClassesSoFar l.fn.env l.env l.number l.methods l.classes (map plain_body l.bodies);
}
