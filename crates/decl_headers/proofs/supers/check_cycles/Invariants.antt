use Rattle.std.proofs.Common.{◌≡◌, false, drop, get_or}
use Rattle.decl_headers.specs.Faults.{all_noted}
use Rattle.decl_headers.specs.Passes.{cycles}
use Rattle.decl_headers.proofs.supers.check_cycles.Given as goal

abbrev pub invariant-loop-at : goal.invariant-loop-at
invariant-loop-at l =
    all_noted l.faults (cycles (λ at. get_or l.rounds at false) l.at (drop l.at l.classes)) ≡ all_noted l.initial.faults (cycles (λ at. get_or l.rounds at false) 0 l.classes)
