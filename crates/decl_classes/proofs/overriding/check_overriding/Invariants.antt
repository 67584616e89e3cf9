use Rattle.std.proofs.Common.{◌≡◌, drop}
use Rattle.decl_headers.specs.Faults.{all_noted}
use Rattle.decl_classes.specs.Overriding.{override_faults}
use Rattle.decl_classes.proofs.overriding.check_overriding.Given as goal

abbrev pub invariant-loop-row : goal.invariant-loop-row
invariant-loop-row l =
    all_noted l.faults (override_faults l.table (drop l.row-index l.row-items)) ≡ all_noted l.initial.faults (override_faults l.table l.row-items)
