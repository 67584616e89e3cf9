use Rattle.std.proofs.Common.{◌<◌, subst, sym, arith}
use Rattle.decl_table.specs.declared.rows.MethodRow.{MethodRow}
use Rattle.decl_table.proofs.places.constructors.Goals as goal

pub put_constructor-requires : goal.put_constructor-requires
put_constructor-requires c =
    let within : c.row-item.result.owner < c.args.classes =
    subst (λ (row : MethodRow). row.owner < c.args.classes) (sym c.row-item.is) (c.requires c.loop-row.row-index c.row-item.result c.loop-row-test.true) in
    omega (arith, within, c.as_mut_slice.ensures.len, c.loop-row.invariant.as_many)
