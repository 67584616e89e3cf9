use Rattle.std.proofs.Common.{drop}
use Rattle.code_compile.specs.Emitted.{emitted_of}
use Rattle.code_compile.proofs.Members.{SoFar}
use Rattle.code_compile.proofs.Titling.{TitledSoFar}
use Rattle.code_compile.proofs.whole.members.Given as goal

abbrev pub invariant-loop-m : goal.invariant-loop-m
invariant-loop-m l = record {
  output : SoFar (emitted_of l.out) l.bodies l.made l.m-index l.m-items;
  titled : TitledSoFar l.classes l.fn.bodies l.bodies (drop l.m-index l.m-items) l.m-items;
}
