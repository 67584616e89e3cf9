use Rattle.std.proofs.Common.{◌≡◌, ◌==◌, drop, map}
use Rattle.std.specs.List.{list_any}
use Rattle.code_instrs.specs.Machine.{all_copied}
use Rattle.exec_task.proofs.copying.is_copied.Given as goal

abbrev pub invariant-loop-copied : goal.invariant-loop-copied
invariant-loop-copied l =
    list_any (λ y. l.slot == y) (all_copied (map (λ c. c.slots) (drop l.copied-index l.copies)))
    ≡ list_any (λ y. l.slot == y) (all_copied (map (λ c. c.slots) l.copies))
