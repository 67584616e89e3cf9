use Rattle.std.proofs.Common.{◌≡◌, map, take}
use Rattle.lang_meaning.specs.Regions.{around, concrete_effect}
use Rattle.exec_task.specs.Names.{names_of, plain_effect}
use Rattle.exec_task.specs.Tasks.{plain_frame}
use Rattle.exec_task.proofs.regions.concrete_effects.Given as goal

abbrev pub invariant-loop-access : goal.invariant-loop-access
invariant-loop-access l =
    map plain_effect l.effects ≡ map (concrete_effect (names_of 0) (around (plain_frame l.frame))) (take l.access-index l.access-items)
