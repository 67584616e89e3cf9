use Rattle.std.proofs.Common.{◌≡◌, take}
use Rattle.region_interfere.proofs.meeting.copied.Given as goal

abbrev pub invariant-loop-e : goal.invariant-loop-e
invariant-loop-e l = l.copies ≡ take l.e-index l.effects
