use Rattle.std.proofs.Common.{◌≡◌, drop}
use Rattle.decl_table.specs.Visible.{all_after}
use Rattle.decl_table.proofs.overridden.put_back.Given as goal

abbrev pub invariant-loop-method : goal.invariant-loop-method
invariant-loop-method l = all_after l.overridden l.visible (drop l.method-index l.own) ≡ all_after l.overridden l.initial.visible l.own
