use Rattle.std.proofs.Common.{◌≡◌, ◌∙◌, sym, ap, refl, subst, map, take, reverse, false}
use Rattle.std.proofs.lemmas.Result.{err_from_is_err_and}
use Rattle.lang_base.specs.declared.value.Value.{Value as Constant}
use Rattle.lang_base.specs.FirstValues.{constant_of}
use Rattle.lang_base.specs.Types.{plain_type}
use Rattle.lang_typed.specs.Plain.{plain_program}
use Rattle.lang_typed.specs.Scope.{constructor_of}
use Rattle.lang_meaning.specs.Actions.{New}
use Rattle.lang_meaning.specs.Counts.{name_made}
use Rattle.lang_meaning.specs.Elision.{LocalRegion, in_order, after, answer}
use Rattle.lang_meaning.specs.Expressions.{class_in, new_object}
use Rattle.lang_meaning.specs.Regions.{around, concrete, some_long}
use Rattle.lang_meaning.specs.Values.{An_object}
use Rattle.exec_frames.specs.Names.{plain_region, plain_value}
use Rattle.exec_walker.specs.Stores.{Holds}
use Rattle.exec_walker.specs.Walk.{without}
use Rattle.exec_walker.specs.States.{ComesTo, IsOverAt, plain_level, plain_waiting}
use Rattle.exec_walker.proofs.Calling.{made_without}
use Rattle.exec_walker.proofs.Halting.{refused}
use Rattle.exec_walker.proofs.walker.Walker.create.Goals as goal

pub returns-in_err-object-in-None : goal.returns-in_err-object-in-None
returns-in_err-object-in-None c = λ L w h.
    let P = plain_program c.args.program.now in
    let g = plain_level c.args.self.now.level in
    let ws = map plain_waiting c.args.self.now.waiting in
    let k = (class_in (plain_type c.args.ty.now)).0 in
    let own = map (concrete in_order (around g.frame)) (class_in (plain_type c.args.ty.now)).1 in
    let class = c.in_ok-class.ensures.class in
    let regions = c.in_ok-class.ensures.own in
    let short : some_long own ≡ false = sym (c.some_long.ensures ∙ ap some_long regions) ∙ c.if-some_long.false in
    let x = An_object c.in_ok-class.class (map plain_region c.in_ok-class.own) (map plain_value (map constant_of c.as_slice.result.now)) in
    let thing = ap (An_object c.in_ok-class.class (map plain_region c.in_ok-class.own)) (ap (λ held. map plain_value (map constant_of held)) c.as_slice.ensures ∙ c.in_ok-fields-in-None.ensures)
    ∙ ap (λ n. new_object P n (map plain_region c.in_ok-class.own)) class ∙ ap (new_object P k) regions in
    let out = err_from_is_err_and c.from_residual-in_err-object-in-None.result c.from_residual-in_err-object-in-None.ensures.1 in
    rw (out.1, out.2) (refused Constant L c.in_err-object-in-None.field-0.0 _ _ (Holds L c.make_object.new.self) (after (New x false) w)
    (c.in_err-object-in-None.ensures.store L w h) (λ over.
    subst (λ s. IsOverAt L s)
    (made_without P g.left c.args.place k (constructor_of P k) own (reverse (take c.args.actuals g.operands)) (name_made {M = LocalRegion} (answer w.heap (New x false)))
    (without c.args.actuals g) ws w x (c.in-None.ensures ∙ ap (constructor_of P) class) short thing refl)
    over))

pub returns-in_ok-object-in-None : goal.returns-in_ok-object-in-None
returns-in_ok-object-in-None c = λ L w h.
    let P = plain_program c.args.program.now in
    let g = plain_level c.args.self.now.level in
    let ws = map plain_waiting c.args.self.now.waiting in
    let k = (class_in (plain_type c.args.ty.now)).0 in
    let own = map (concrete in_order (around g.frame)) (class_in (plain_type c.args.ty.now)).1 in
    let class = c.in_ok-class.ensures.class in
    let regions = c.in_ok-class.ensures.own in
    let short : some_long own ≡ false = sym (c.some_long.ensures ∙ ap some_long regions) ∙ c.if-some_long.false in
    let x = An_object c.in_ok-class.class (map plain_region c.in_ok-class.own) (map plain_value (map constant_of c.as_slice.result.now)) in
    let thing = ap (An_object c.in_ok-class.class (map plain_region c.in_ok-class.own)) (ap (λ held. map plain_value (map constant_of held)) c.as_slice.ensures ∙ c.in_ok-fields-in-None.ensures)
    ∙ ap (λ n. new_object P n (map plain_region c.in_ok-class.own)) class ∙ ap (new_object P k) regions in
    subst (λ s. ComesTo L c.give.result c.give.new.self s)
    (made_without P g.left c.args.place k (constructor_of P k) own (reverse (take c.args.actuals g.operands)) (plain_value c.in_ok-object-in-None.object)
    (without c.args.actuals g) ws w x (c.in-None.ensures ∙ ap (constructor_of P) class) short thing (c.in_ok-object-in-None.ensures.name L w h))
    (c.give.ensures L (after (New x false) w) (c.in_ok-object-in-None.ensures.store L w h))
