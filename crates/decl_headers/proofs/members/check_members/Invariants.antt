use Rattle.std.proofs.Common.{◌≡◌, drop}
use Rattle.decl_headers.specs.Around.{around, way_faults}
use Rattle.decl_headers.specs.Faults.{all_noted}
use Rattle.decl_headers.proofs.members.check_members.Given as goal

abbrev pub invariant-loop-step : goal.invariant-loop-step
invariant-loop-step l =
    all_noted l.faults (way_faults l.classes (around l.visible) (drop l.step-index l.steps)) ≡ all_noted l.initial.faults (way_faults l.classes (around l.initial.visible) l.steps)
