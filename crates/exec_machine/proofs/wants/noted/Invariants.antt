use Rattle.std.proofs.Common.{◌≡◌, ◌++◌, map, drop}
use Rattle.exec_task.specs.Names.{plain_part}
use Rattle.exec_machine.specs.Wants.{noted_part}
use Rattle.exec_machine.proofs.wants.noted.Given as goal

abbrev pub invariant-loop-elem : goal.invariant-loop-elem
invariant-loop-elem l = l.elems ++ map noted_part (map plain_part (drop l.elem-index l.elem-items)) ≡ map noted_part (map plain_part l.effect.rpl.elems)
