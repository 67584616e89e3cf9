use Rattle.std.proofs.Common.{Some, None, ◌++◌, codes, refl, ap, ◌∙◌, append_assoc}
use Rattle.std.specs.Fmt.{signed_decimal}
use Rattle.std.proofs.Math.Facts.{to_z-of_z}
use Rattle.std.proofs.lemmas.Option.{slice_get_past, slice_get_read}
use Rattle.std.proofs.lemmas.Result.{IfOk-weaker, on_ok_weaker}
use Rattle.tool_trace.specs.declared.events.thing.Thing.TheVariants.{Array, Object}
use Rattle.tool_trace.specs.events.Names.{field_at, spelling_of}
use Rattle.tool_trace.proofs.events.Putting.{part_put}
use Rattle.tool_trace.proofs.events.naming.spot.Goals as goal

pub returns-in_ok-extend-in-Some-Object : goal.returns-in_ok-extend-in-Some-Object
returns-in_ok-extend-in-Some-Object c =
    let things = c.args.things.now in
    let look = c.in-Some-Object.ensures.lookup in
    let there = slice_get_read things _ c.args.number c.in-Some-Object.field-0.now refl look.3.0 look.1 ∙ ap Some c.in-Some-Object.field-0-is in
    let s = spelling_of c.args.program.now c.args.fields.now in
    let class = c.in-Some-Object.class in
    on_ok_weaker c.field_at.result
    (λ put. part_put s things c.args.number c.args.index (Some (Object class)) c.args.out.now c.name.new.out _ c.in_ok-name.ensures there
    (put ∙ ap (λ z. c.extend.new.self ++ field_at s class z) (to_z-of_z c.ranges.index)
    ∙ ap (λ out. out ++ field_at s class c.args.index) c.in_ok-extend-in-Some-Object.ensures.ok
    ∙ append_assoc c.name.new.out (codes ".") (field_at s class c.args.index)))
    c.field_at.ensures

pub returns-in-Some-Array : goal.returns-in-Some-Array
returns-in-Some-Array c =
    let things = c.args.things.now in
    let look = c.in-Some-Array.ensures.lookup in
    let there = slice_get_read things _ c.args.number c.in-Some-Array.field-0.now refl look.3.0 look.1 ∙ ap Some c.in-Some-Array.field-0-is in
    let fits = ap (λ z. c.name.new.out ++ (codes "[" ++ signed_decimal z ++ codes "]")) (to_z-of_z c.ranges.index) in
    IfOk-weaker c.element.result _ _
    (λ _ put. part_put (spelling_of c.args.program.now c.args.fields.now) things c.args.number c.args.index (Some (Array c.in-Some-Array.field-0-0))
    c.args.out.now c.name.new.out _ c.in_ok-name.ensures there (put ∙ fits))
    c.element.ensures

pub returns-in-None : goal.returns-in-None
returns-in-None c =
    let things = c.args.things.now in
    let look = c.in-None.ensures.lookup in
    let fits = ap (λ z. c.name.new.out ++ (codes "[" ++ signed_decimal z ++ codes "]")) (to_z-of_z c.ranges.index) in
    IfOk-weaker c.element-in-None.result _ _
    (λ _ put. part_put (spelling_of c.args.program.now c.args.fields.now) things c.args.number c.args.index None c.args.out.now c.name.new.out _
    c.in_ok-name.ensures (slice_get_past things c.args.number look.3) (put ∙ fits))
    c.element-in-None.ensures
