use Rattle.std.proofs.Common.{◌≡◌, map, fold, drop}
use Rattle.decl_table.specs.Inherited.{with_member}
use Rattle.decl_table.proofs.class_rows.add_members.Given as goal

abbrev pub invariant-loop-method : goal.invariant-loop-method
invariant-loop-method l =
    fold (with_member l.table) l.rows (map (λ method. method.id) (drop l.method-index l.own)) ≡ fold (with_member l.table) l.initial.rows (map (λ method. method.id) l.own)
