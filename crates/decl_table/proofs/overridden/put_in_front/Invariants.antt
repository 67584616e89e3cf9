use Rattle.std.proofs.Common.{◌≡◌, drop}
use Rattle.decl_table.specs.Visible.{all_in_front}
use Rattle.decl_table.proofs.overridden.put_in_front.Given as goal

abbrev pub invariant-loop-method : goal.invariant-loop-method
invariant-loop-method l = all_in_front l.visible (drop l.method-index l.own) ≡ all_in_front l.initial.visible l.own
