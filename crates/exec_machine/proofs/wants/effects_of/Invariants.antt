use Rattle.std.proofs.Common.{◌≡◌, ◌++◌, map, drop}
use Rattle.lang_meaning.specs.Regions.{around, concrete_effect}
use Rattle.exec_task.specs.Names.{names_of}
use Rattle.exec_task.specs.Tasks.{plain_frame}
use Rattle.exec_machine.specs.Wants.{noted}
use Rattle.exec_machine.proofs.wants.effects_of.Given as goal

abbrev pub invariant-loop-access : goal.invariant-loop-access
invariant-loop-access l =
    l.effects ++ map noted (map (concrete_effect (names_of 0) (around (plain_frame l.frame))) (drop l.access-index l.access-items))
    ≡ map noted (map (concrete_effect (names_of 0) (around (plain_frame l.frame))) l.accesses)
