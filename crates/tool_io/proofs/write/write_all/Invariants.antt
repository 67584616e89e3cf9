use Rattle.std.proofs.Common.{◌≡◌, ◌-◌, ◌≤◌, length, IfSome}
use Rattle.tool_io.proofs.Reported.{Wrote, UsedRoom}
use Rattle.tool_io.proofs.write.write_all.Given as goal

abbrev pub invariant-loop-done : goal.invariant-loop-done
invariant-loop-done g l = record {
  within : l.done ≤ length l.bytes;
  never_falls : g.K.Sink.faults l.initial.sink ≤ g.K.Sink.faults l.sink;
  held : Wrote (g.K.Sink.held l.initial.sink) l.done l.bytes (g.K.Sink.held l.sink);
  room : UsedRoom (g.K.Sink.room l.initial.sink) l.done (g.K.Sink.room l.sink);
  untroubled : IfSome (g.K.Sink.room l.initial.sink) (λ _. g.K.Sink.faults l.sink ≡ g.K.Sink.faults l.initial.sink);
}

abbrev pub decreases-loop-done : goal.decreases-loop-done
decreases-loop-done g l = length l.bytes - l.done
