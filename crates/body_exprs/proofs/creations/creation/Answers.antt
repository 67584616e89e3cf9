use Rattle.std.proofs.Common.{◌∙◌, map, ap}
use Rattle.decl_table.specs.Table.{headers_of}
use Rattle.body_exprs.specs.Typed.{plain_typed}
use Rattle.body_exprs.proofs.Creating.{class_for, of_class, of_no_class}
use Rattle.body_exprs.proofs.creations.creation.Goals as goal

pub returns-in-Some : goal.returns-in-Some
returns-in-Some c =
    of_class c.args.env.now c.args.class c.in-Some.number c.args.regions (map plain_typed c.args.actuals) c.args.place c.args.found.now
    c.creation_of.new.found c.creation_of.result
    (class_for c.headers.result.now _ c.args.class.name c.class.result _ c.class.ensures (c.headers.ensures ∙ ap headers_of c.table.ensures) c.in-Some.is)
    c.creation_of.ensures

pub returns-in-None : goal.returns-in-None
returns-in-None c =
    of_no_class c.args.env.now c.args.class c.args.regions (map plain_typed c.args.actuals) c.args.place c.args.found.now c.refused.result
    (class_for c.headers.result.now _ c.args.class.name c.class.result _ c.class.ensures (c.headers.ensures ∙ ap headers_of c.table.ensures) c.in-None.is)
    c.refused.ensures
