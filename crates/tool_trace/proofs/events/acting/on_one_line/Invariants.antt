use Rattle.std.proofs.Common.{◌≡◌, ◌++◌, drop}
use Rattle.std.specs.Prelude.{flat_map}
use Rattle.tool_trace.specs.events.Text.{byte_text}
use Rattle.tool_trace.proofs.events.acting.on_one_line.Given as goal

abbrev pub invariant-loop-byte : goal.invariant-loop-byte
invariant-loop-byte l = l.out ++ flat_map byte_text (drop l.byte-index l.bytes) ≡ l.fn.out ++ flat_map byte_text l.bytes
