use Rattle.std.proofs.Common.{◌≡◌, [], replicate}
use Rattle.decl_table.proofs.class_rows.no_rows.Given as goal

abbrev pub invariant-loop-class : goal.invariant-loop-class
invariant-loop-class l = l.lists.items ≡ replicate l._class []
