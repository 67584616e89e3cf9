use Rattle.std.proofs.Common.{◌≡◌, drop}
use Rattle.decl_reach.specs.Marking.{all_marked, all_added}
use Rattle.decl_reach.proofs.reach.mark_all.Given as goal

abbrev pub invariant-loop-at : goal.invariant-loop-at
invariant-loop-at l = record {
  marks : all_marked l.marks (drop l.at-index l.all) ≡ all_marked l.initial.marks l.all;
  pending : all_added l.marks l.pending (drop l.at-index l.all) ≡ all_added l.initial.marks l.initial.pending l.all;
}
