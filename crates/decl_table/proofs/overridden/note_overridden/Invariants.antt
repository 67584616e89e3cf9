use Rattle.std.proofs.Common.{◌≡◌, drop}
use Rattle.decl_table.specs.Visible.{all_overriding}
use Rattle.decl_table.proofs.overridden.note_overridden.Given as goal

abbrev pub invariant-loop-method : goal.invariant-loop-method
invariant-loop-method l =
    all_overriding l.visible l.overridden (drop l.method-index l.own) ≡ all_overriding l.visible l.initial.overridden l.own
