use Rattle.std.proofs.Common.{◌≡◌, ◌==◌, drop, map}
use Rattle.std.specs.List.{list_any}
use Rattle.exec_walker.proofs.copies.is_among.Given as goal

abbrev pub invariant-loop-other : goal.invariant-loop-other
invariant-loop-other l =
    list_any (λ y. l.slot == y) (map (λ s. s.number) (drop l.other-index l.slots)) ≡ list_any (λ y. l.slot == y) (map (λ s. s.number) l.slots)
