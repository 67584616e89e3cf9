use Rattle.std.proofs.Common.{◌≡◌, ◌++◌, map, take}
use Rattle.lang_meaning.specs.Regions.{around, concrete}
use Rattle.exec_task.specs.Names.{names_of, plain_region}
use Rattle.exec_task.specs.Tasks.{plain_frame}
use Rattle.exec_frames.specs.Names.{Of_task}
use Rattle.exec_task.proofs.calls.with_own.Given as goal

abbrev pub invariant-loop-path : goal.invariant-loop-path
invariant-loop-path l =
    map plain_region l.regions ≡ map plain_region l.fn.regions ++ map (concrete (names_of 0) (around (plain_frame l.frame))) (take l.path-index l.path-items)

abbrev pub ghost-concrete : goal.ghost-concrete
ghost-concrete a = Of_task 0
