use Rattle.std.proofs.Common.{◌≡◌, ◌++◌, map, drop}
use Rattle.lang_meaning.specs.Counts.{assigned}
use Rattle.exec_frames.specs.Names.{plain_value}
use Rattle.exec_task.specs.Tasks.{plain_slot}
use Rattle.exec_task.proofs.joins.assigned.Given as goal

abbrev pub invariant-loop-at : goal.invariant-loop-at
invariant-loop-at l =
    map plain_slot l.assigned ++ assigned (drop l.at-index l.slots) (map plain_value l.values) ≡ assigned l.slots (map plain_value l.values)
