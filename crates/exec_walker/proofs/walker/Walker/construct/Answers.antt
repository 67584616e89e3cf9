use Rattle.std.proofs.Common.{◌∙◌, ◌∷◌, ◌<◌, ◌-◌, ap, subst, map, take, reverse, arith, true}
use Rattle.std.proofs.lemmas.Result.{err_from_is_err_and}
use Rattle.lang_base.specs.declared.value.Value.{Value as Constant}
use Rattle.lang_base.specs.FirstValues.{constant_of}
use Rattle.lang_typed.specs.Plain.{plain_program, plain_member}
use Rattle.lang_typed.specs.Scope.{member_at}
use Rattle.lang_meaning.specs.Actions.{New}
use Rattle.lang_meaning.specs.Elision.{in_order, after}
use Rattle.lang_meaning.specs.Expressions.{entered}
use Rattle.lang_meaning.specs.Values.{An_object}
use Rattle.exec_frames.specs.Names.{plain_region, plain_value}
use Rattle.exec_walker.specs.Stores.{Holds}
use Rattle.exec_walker.specs.Walk.{At, beginning, for_object, pushed, without}
use Rattle.exec_walker.specs.declared.level.Level.{Level}
use Rattle.exec_walker.specs.States.{ComesTo, IsOverAt, plain_level, plain_waiting}
use Rattle.exec_walker.proofs.Calling.{made_with, constructs_over, constructed_is, unconstructed_is}
use Rattle.exec_walker.proofs.Halting.{refused}
use Rattle.exec_walker.proofs.Programs.{member_is, no_member}
use Rattle.exec_frames.proofs.Dropped.{map_drop}
use Rattle.exec_walker.proofs.walker.Walker.construct.Goals as goal

pub returns-in_err-object : goal.returns-in_err-object
returns-in_err-object c = λ L w h.
    let P = plain_program c.args.program.now in
    let g = plain_level c.args.self.now.level in
    let ws = map plain_waiting c.args.self.now.waiting in
    let own = map plain_region c.args.own in
    let some : 0 < g.frame.left = omega arith in
    let x = An_object c.args.class own (map plain_value (map constant_of c.as_slice.result.now)) in
    let thing = ap (An_object c.args.class own) (ap (λ held. map plain_value (map constant_of held)) c.as_slice.ensures ∙ c.in_ok-fields.ensures) in
    let out = err_from_is_err_and c.from_residual-in_err-object.result c.from_residual-in_err-object.ensures.1 in
    rw (out.1, out.2) (refused Constant L c.in_err-object.field-0.0 _ _ (Holds L c.make_object.new.self) (after (New x true) w) (c.in_err-object.ensures.store L w h) (λ over.
    subst (λ s. IsOverAt L s)
    (made_with P g.left c.args.place c.args.class c.args.constructor own (reverse (take c.args.actuals g.operands)) (without c.args.actuals g) ws w x some thing)
    (constructs_over P L _ _ own _ _ _ ws (after (New x true) w) over)))

pub returns-in_default : goal.returns-in_default
returns-in_default c = λ L w h.
    let P = plain_program c.args.program.now in
    let level = c.args.self.now.level in
    let g = plain_level level in
    let ws = map plain_waiting c.args.self.now.waiting in
    let own = map plain_region c.args.own in
    let some : 0 < g.frame.left = omega arith in
    let x = An_object c.args.class own (map plain_value (map constant_of c.as_slice.result.now)) in
    let thing = ap (An_object c.args.class own) (ap (λ held. map plain_value (map constant_of held)) c.as_slice.ensures ∙ c.in_ok-fields.ensures) in
    let operands = ap (map plain_value) c.drop_top.ensures ∙ map_drop plain_value c.args.actuals level.operands in
    subst (λ s. ComesTo L c.give.result c.give.new.self s)
    (ap (λ vs. At (pushed (plain_value c.in_ok-object.object) (record g { operands = vs })) ws (after (New x true) w)) operands
    ∙ unconstructed_is P (g.left - 1) (member_at P c.args.constructor) own _ (plain_value c.in_ok-object.object) (reverse (take c.args.actuals g.operands)) (without c.args.actuals g) ws
    (after (New x true) w) (no_member c.args.program.now c.args.constructor c.in_default.ensures.value) (c.in_ok-object.ensures.name L w h)
    ∙ made_with P g.left c.args.place c.args.class c.args.constructor own (reverse (take c.args.actuals g.operands)) (without c.args.actuals g) ws w x some thing)
    (c.give.ensures L (after (New x true) w) (c.in_ok-object.ensures.store L w h))

pub returns : goal.returns
returns c = λ L w h.
    let P = plain_program c.args.program.now in
    let level = c.args.self.now.level in
    let g = plain_level level in
    let ws = map plain_waiting c.args.self.now.waiting in
    let own = map plain_region c.args.own in
    let some : 0 < g.frame.left = omega arith in
    let x = An_object c.args.class own (map plain_value (map constant_of c.as_slice.result.now)) in
    let thing = ap (An_object c.args.class own) (ap (λ held. map plain_value (map constant_of held)) c.as_slice.ensures ∙ c.in_ok-fields.ensures) in
    let operands = ap (map plain_value) c.drop_top.ensures ∙ map_drop plain_value c.args.actuals level.operands in
    let m = plain_member c.in-Some.member.now in
    let u = plain_value c.in_ok-object.object in
    let body = ap plain_level c.replace-creator.ensures.after ∙ c.in_ok-level.ensures
    ∙ ap (λ rs. beginning m.body (entered in_order m (map plain_value c.in_ok-values.values) (map plain_region rs) (g.frame.left - 1)) (g.frame.left - 1)) c.in_ok-regions.ensures in
    subst (λ s. ComesTo L c.wait.result c.wait.new.self s)
    (ap (λ (k : Level). At (plain_level c.replace-creator.new.dest) (for_object u (plain_level k) ∷ ws) (after (New x true) w)) c.replace-creator.ensures.value
    ∙ ap (λ vs. At (plain_level c.replace-creator.new.dest) (for_object u (record g { operands = vs }) ∷ ws) (after (New x true) w)) operands
    ∙ constructed_is P (g.left - 1) m (member_at P c.args.constructor) own _ u (reverse (take c.args.actuals g.operands)) (map plain_value c.in_ok-values.values)
    (without c.args.actuals g) (plain_level c.replace-creator.new.dest) ws (after (New x true) w)
    (member_is c.args.program.now c.args.constructor c.in-Some.member.now c.in-Some.ensures.value) (c.in_ok-object.ensures.name L w h) c.in_ok-values.ensures body
    ∙ made_with P g.left c.args.place c.args.class c.args.constructor own (reverse (take c.args.actuals g.operands)) (without c.args.actuals g) ws w x some thing)
    (c.wait.ensures L (after (New x true) w) (c.in_ok-object.ensures.store L w h))
