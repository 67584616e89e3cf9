use Rattle.std.proofs.Common.{◌+◌, ◌-◌, ◌≤◌, vec_len}
use Rattle.tool_io.proofs.Reported.{Took}
use Rattle.tool_io.proofs.read.read_all.Given as goal

abbrev pub invariant-loop-piece : goal.invariant-loop-piece
invariant-loop-piece g l = record {
  bound : vec_len l.all ≤ l.max + 1;
  never_falls : g.S.Source.faults l.initial.source ≤ g.S.Source.faults l.source;
  took : Took (g.S.Source.left l.initial.source) l.all.items (g.S.Source.left l.source);
}

abbrev pub decreases-loop-piece : goal.decreases-loop-piece
decreases-loop-piece g l = l.max + 1 - vec_len l.all
