use Rattle.std.proofs.Common.{◌≡◌, drop, map}
use Rattle.lang_meaning.specs.Counts.{copied}
use Rattle.code_instrs.specs.Machine.{all_copied}
use Rattle.exec_frames.specs.Names.{plain_value}
use Rattle.exec_task.specs.Tasks.{plain_slot}
use Rattle.exec_task.proofs.copying.copy_back.Given as goal

abbrev pub invariant-loop-copied : goal.invariant-loop-copied
invariant-loop-copied l =
    copied (all_copied (map (λ c. c.slots) l.copies)) (map plain_slot (drop l.copied-index l.slots)) (map plain_value l.values)
    ≡ copied (all_copied (map (λ c. c.slots) l.copies)) (map plain_slot l.slots) (map plain_value l.fn.values)
