use Rattle.std.proofs.Common.{◌<◌, subst, sym, arith}
use Rattle.lang_base.specs.declared.ty.Super.{Super}
use Rattle.decl_table.proofs.places.super_places.Goals as goal

pub enter-requires : goal.enter-requires
enter-requires c =
    let within : c.index-supers-at.result.class < c.args.classes =
    subst (λ (row : Super). row.class < c.args.classes) (sym c.index-supers-at.is) (c.requires c.loop-at.at c.index-supers-at.result c.loop-at-test.true) in
    omega (arith, within, c.as_mut_slice.ensures.len, c.loop-at.invariant.as_many)
