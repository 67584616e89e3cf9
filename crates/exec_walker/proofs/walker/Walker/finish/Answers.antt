use Rattle.std.proofs.Common.{◌∙◌, List, [], ap, sym, subst, map, option_map, None, Option}
use Rattle.std.specs.Option.{option_copied}
use Rattle.lang_typed.specs.declared.stmt.Stmt.{Stmt}
use Rattle.lang_typed.specs.Plain.{choice_form, plain_expr, plain_stmt, statement, stmts_of}
use Rattle.lang_typed.specs.Plain.{StmtForm as form}
use Rattle.lang_meaning.specs.Counts.{how_many, number, slot_value}
use Rattle.lang_meaning.specs.Statements.{iterations}
use Rattle.exec_walker.specs.Walk.{finishes, forks_at, without}
use Rattle.exec_walker.specs.States.{ComesTo, plain_level, plain_waiting}
use Rattle.exec_walker.proofs.Forms.{at_Atomic, at_Choice, at_Foreach, at_Parts, at_StoreElement}
use Rattle.exec_walker.proofs.walker.Walker.finish.Goals as goal

pub returns-in-StoreElement : goal.returns-in-StoreElement
returns-in-StoreElement c = λ P L w h.
    let s = c.args.s.now in
    let g = plain_level c.args.self.now.level in
    let ws = map plain_waiting c.args.self.now.waiting in
    subst (λ s. ComesTo L c.write_element.result c.write_element.new.self s)
    (ap (λ x. finishes P x g ws w) (sym (at_StoreElement s c.in-StoreElement.array c.in-StoreElement.index c.in-StoreElement.value c.in-StoreElement.is)))
    (c.write_element.ensures L w h)

pub returns-in-If : goal.returns-in-If
returns-in-If c = λ P L w h.
    let s = c.args.s.now in
    let arm = c.in-If in
    let e = plain_expr arm.test in
    let g = plain_level c.args.self.now.level in
    let ws = map plain_waiting c.args.self.now.waiting in
    subst (λ x. ComesTo L c.choose.result c.choose.new.self x)
    (ap (λ (b : Stmt). finishes P (statement s.place (choice_form e (plain_stmt b) (option_map plain_stmt (option_copied c.as_ref.result)))) g ws w) c.get.ensures
    ∙ ap (λ (o : Option Stmt). finishes P (statement s.place (choice_form e (plain_stmt arm.then) (option_map plain_stmt o))) g ws w) c.as_ref.ensures.value
    ∙ ap (λ x. finishes P x g ws w) (sym (at_Choice s arm.test arm.then arm.other arm.is)))
    (c.choose.ensures P s.place e L w h)

pub returns-in-Atomic : goal.returns-in-Atomic
returns-in-Atomic c = λ P L w h.
    let s = c.args.s.now in
    let arm = c.in-Atomic in
    let g = plain_level c.args.self.now.level in
    let ws = map plain_waiting c.args.self.now.waiting in
    subst (λ x. ComesTo L c.enter.result c.enter.new.self x)
    (ap (λ (ss : List Stmt). finishes P (statement s.place (form.atomic arm.effects (stmts_of (map plain_stmt ss)))) g ws w) c.as_slice-in-Atomic.ensures
    ∙ ap (λ x. finishes P x g ws w) (sym (at_Atomic s arm.effects arm.body arm.is)))
    (c.enter.ensures P s.place arm.effects L w h)

pub returns-in-Foreach : goal.returns-in-Foreach
returns-in-Foreach c = λ P L w h.
    let s = c.args.s.now in
    let g = plain_level c.args.self.now.level in
    let ws = map plain_waiting c.args.self.now.waiting in
    subst (λ y. ComesTo L c.iterate.result c.iterate.new.self y)
    (ap (λ (b : Stmt). forks_at g.left s.place (without 2 g) [] (iterations None c.in-Foreach.slot.number (plain_stmt b) g.frame (number (slot_value g.operands 1)) 0
    (how_many (number (slot_value g.operands 0)))) ws w) c.get-in-Foreach.ensures
    ∙ ap (λ y. finishes P y g ws w) (sym (at_Foreach s c.in-Foreach.forking c.in-Foreach.slot c.in-Foreach.start c.in-Foreach.count c.in-Foreach.body c.in-Foreach.is)))
    (c.iterate.ensures L w h)

pub returns-in-ForeachParts : goal.returns-in-ForeachParts
returns-in-ForeachParts c = λ P L w h.
    let s = c.args.s.now in
    let arm = c.in-ForeachParts in
    let g = plain_level c.args.self.now.level in
    let ws = map plain_waiting c.args.self.now.waiting in
    subst (λ y. ComesTo L c.begin_parts.result c.begin_parts.new.self y)
    (ap (λ y. finishes P y g ws w) (sym (at_Parts s arm.part arm.source arm.count arm.body arm.is)))
    (c.begin_parts.ensures P L w h)
