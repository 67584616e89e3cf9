use Rattle.std.proofs.Common.{◌≡◌, ◌==◌, drop}
use Rattle.std.specs.List.{list_any}
use Rattle.exec_task.proofs.copying.is_among.Given as goal

abbrev pub invariant-loop-other : goal.invariant-loop-other
invariant-loop-other l = list_any (λ y. l.slot == y) (drop l.other-index l.slots) ≡ list_any (λ y. l.slot == y) l.slots
