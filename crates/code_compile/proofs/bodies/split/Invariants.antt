use Rattle.std.proofs.Common.{drop}
use Rattle.code_compile.proofs.Generating.{Split}
use Rattle.code_compile.proofs.bodies.split.Given as goal

abbrev pub invariant-loop-line : goal.invariant-loop-line
invariant-loop-line l = Split l.instrs l.places (drop l.line-index l.line-items) l.line-items
