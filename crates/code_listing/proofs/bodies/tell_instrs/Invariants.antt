use Rattle.std.proofs.Common.{◌≡◌, ◌++◌, drop}
use Rattle.code_listing.specs.Listing.{instr_lines}
use Rattle.code_listing.proofs.bodies.tell_instrs.Given as goal

abbrev pub invariant-loop-at : goal.invariant-loop-at
invariant-loop-at l = l.text ++ instr_lines l.at (drop l.at l.instrs) ≡ l.fn.text ++ instr_lines 0 l.instrs
