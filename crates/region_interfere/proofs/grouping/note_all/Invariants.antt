use Rattle.std.proofs.Common.{take}
use Rattle.region_interfere.specs.Groups.{Shows}
use Rattle.region_interfere.proofs.grouping.note_all.Given as goal

abbrev pub invariant-loop-e : goal.invariant-loop-e
invariant-loop-e l = Shows l.initial.groups l.groups l.branch (take l.e-index l.effects)
