use Rattle.std.proofs.Common.{◌≡◌, take}
use Rattle.decl_headers.proofs.rounds.copied.Given as goal

abbrev pub invariant-loop-parent : goal.invariant-loop-parent
invariant-loop-parent l = l.jumps ≡ take l.parent-index l.parents
