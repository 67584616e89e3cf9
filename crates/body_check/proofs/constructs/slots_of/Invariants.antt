use Rattle.std.proofs.Common.{◌≡◌, ◌++◌, drop, map}
use Rattle.body_check.specs.Checking.{slots_of}
use Rattle.body_check.proofs.constructs.slots_of.Given as goal

abbrev pub invariant-loop-name : goal.invariant-loop-name
invariant-loop-name l = map (λ slot. slot.number) l.slots ++ slots_of l.env (drop l.name-index l.names) ≡ slots_of l.env l.names
