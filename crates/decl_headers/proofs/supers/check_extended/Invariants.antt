use Rattle.std.proofs.Common.{◌≡◌, drop}
use Rattle.decl_headers.specs.Faults.{all_noted}
use Rattle.decl_headers.specs.Passes.{closed_parents}
use Rattle.decl_headers.proofs.supers.check_extended.Given as goal

abbrev pub invariant-loop-at : goal.invariant-loop-at
invariant-loop-at l =
    all_noted l.faults (closed_parents l.closed (drop l.at l.classes) (drop l.at l.parents)) ≡ all_noted l.initial.faults (closed_parents l.closed l.classes l.parents)
