use Rattle.std.proofs.Common.{◌≡◌, ◌++◌, take, vec_capacity}
use Rattle.tool_io.proofs.memory.append_reserved.Given as goal

abbrev pub invariant-loop-byte : goal.invariant-loop-byte
invariant-loop-byte l = (l.held.items ≡ l.initial.held.items ++ take l.byte-index l.bytes) × (vec_capacity l.held ≡ vec_capacity l.initial.held)
