use Rattle.std.proofs.Common.{◌≡◌, [], replicate}
use Rattle.decl_table.proofs.class_fields.no_fields.Given as goal

abbrev pub invariant-loop-class : goal.invariant-loop-class
invariant-loop-class l = l.lists.items ≡ replicate l._class []
