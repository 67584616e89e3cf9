use Rattle.std.proofs.Common.{◌∙◌, suc, ap, sym, subst, map, take, reverse, cond}
use Rattle.lang_base.specs.declared.value.Trap.TheVariants as trap
use Rattle.lang_base.specs.Types.{plain_type}
use Rattle.lang_typed.specs.Plain.{plain_program}
use Rattle.lang_typed.specs.Scope.{constructor_of}
use Rattle.lang_meaning.specs.Counts.{reference, slot_value}
use Rattle.lang_meaning.specs.Elision.{in_order}
use Rattle.lang_meaning.specs.Expressions.{class_in}
use Rattle.lang_meaning.specs.Regions.{around, concrete, some_long}
use Rattle.exec_walker.specs.Walk.{calls, creates, falls, operates, or_null, without}
use Rattle.exec_walker.specs.States.{ComesTo, plain_level, plain_waiting}
use Rattle.exec_walker.proofs.Forms.{at_Call, at_Element, at_New, count_exprs}
use Rattle.exec_walker.proofs.walker.Walker.operate.Goals as goal

pub returns-in-Element : goal.returns-in-Element
returns-in-Element c = λ L w h.
    let P = plain_program c.args.program.now in
    let e = c.args.e.now in
    let g = plain_level c.args.self.now.level in
    let ws = map plain_waiting c.args.self.now.waiting in
    subst (λ s. ComesTo L c.read_element.result c.read_element.new.self s)
    (ap (λ x. operates P x g ws w) (sym (at_Element e c.in-Element.array c.in-Element.index c.in-Element.is))) (c.read_element.ensures L w h)

pub returns-in-Call : goal.returns-in-Call
returns-in-Call c = λ L w h.
    let P = plain_program c.args.program.now in
    let e = c.args.e.now in
    let g = plain_level c.args.self.now.level in
    let ws = map plain_waiting c.args.self.now.waiting in
    let own = map (concrete in_order (around g.frame)) c.in-Call.regions in
    subst (λ s. ComesTo L c.call.result c.call.new.self s)
    (ap (λ k. or_null e.place (reference (slot_value g.operands k)) ws w (λ n. calls P g.left e.place c.in-Call.class.number c.in-Call.row.number own n (reverse (take k g.operands))
    (without (suc k) g) ws w))
    (c.len.ensures ∙ sym (count_exprs c.in-Call.actuals))
    ∙ ap (λ x. operates P x g ws w) (sym (at_Call e c.in-Call.of c.in-Call.class c.in-Call.row c.in-Call.regions c.in-Call.actuals c.in-Call.is)))
    (c.call.ensures L w h)

pub returns-in-New : goal.returns-in-New
returns-in-New c = λ L w h.
    let P = plain_program c.args.program.now in
    let e = c.args.e.now in
    let g = plain_level c.args.self.now.level in
    let ws = map plain_waiting c.args.self.now.waiting in
    let k = (class_in (plain_type e.ty)).0 in
    let own = map (concrete in_order (around g.frame)) (class_in (plain_type e.ty)).1 in
    subst (λ s. ComesTo L c.create.result c.create.new.self s)
    (ap (λ n. cond (some_long own) (falls ws trap.Stack e.place w) (creates P g.left e.place k (constructor_of P k) own (reverse (take n g.operands)) (without n g) ws w))
    (c.len-in-New.ensures ∙ sym (count_exprs c.in-New.actuals))
    ∙ ap (λ x. operates P x g ws w) (sym (at_New e c.in-New.actuals c.in-New.is)))
    (c.create.ensures L w h)
