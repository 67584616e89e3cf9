use Rattle.std.proofs.Common.{◌≡◌, ◌++◌, map, drop}
use Rattle.code_compile.proofs.forks.slots.Given as goal

abbrev pub invariant-loop-slot : goal.invariant-loop-slot
invariant-loop-slot l = l.made ++ map (λ slot. slot.number) (drop l.slot-index l.slot-items) ≡ map (λ slot. slot.number) l.slot-items
