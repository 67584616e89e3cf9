use Rattle.std.proofs.Common.{◌≡◌, ◌++◌, take}
use Rattle.exec_walker.proofs.calls.appended.Given as goal

abbrev pub invariant-loop-region : goal.invariant-loop-region
invariant-loop-region l = l.all ≡ l.fn.front ++ take l.region-index l.region-items
