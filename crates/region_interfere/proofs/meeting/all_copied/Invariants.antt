use Rattle.std.proofs.Common.{◌≡◌, take}
use Rattle.region_interfere.proofs.meeting.all_copied.Given as goal

abbrev pub invariant-loop-branch : goal.invariant-loop-branch
invariant-loop-branch l = l.copies ≡ take l.branch-index l.branches
