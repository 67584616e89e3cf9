use mir.Val.{SFits}
use Rattle.std.proofs.Common.{◌∙◌, ap, subst, map, drop, rules, w32, w64}
use Rattle.std.proofs.lemmas.Int.{to_z-of_z}
use Rattle.lang_meaning.specs.Core.{run}
use Rattle.lang_meaning.specs.Counts.{number, slot_value}
use Rattle.lang_meaning.specs.Elision.{sequential}
use Rattle.lang_meaning.specs.Expressions.{unless_null}
use Rattle.lang_meaning.specs.Statements.{write_cell}
use Rattle.exec_frames.specs.Names.{plain_value}
use Rattle.exec_walker.specs.Walk.{lands}
use Rattle.exec_walker.specs.States.{ComesTo, plain_level, plain_waiting}
use Rattle.exec_walker.proofs.walker.Walker.write_element.Goals as goal

pub returns : goal.returns
returns c = λ L w h.
    let place = c.args.place in
    let g = plain_level c.args.self.now.level in
    let ws = map plain_waiting c.args.self.now.waiting in
    let i = number (slot_value g.operands 1) in
    let narrow : SFits w32 c.number-index.result = search rules in
    let wide : SFits w64 c.from.result = search rules in
    let index = to_z-of_z w64 c.from.result wide ∙ c.from.ensures ∙ to_z-of_z w32 c.number-index.result narrow ∙ c.number-index.ensures ∙ ap number c.operand.ensures in
    subst (λ s. ComesTo L c.write.result c.write.new.self s)
    (ap (λ k. lands g (λ v. drop 3 g.operands) ws (run sequential (unless_null place (plain_value c.operand-array.result)
    (λ n. write_cell place n k (plain_value c.operand-value.result) g.frame)) w)) index
    ∙ ap (λ v. lands g (λ v. drop 3 g.operands) ws (run sequential (unless_null place (plain_value c.operand-array.result) (λ n. write_cell place n i v g.frame)) w)) c.operand-value.ensures
    ∙ ap (λ a. lands g (λ v. drop 3 g.operands) ws (run sequential (unless_null place a (λ n. write_cell place n i (slot_value g.operands 0) g.frame)) w)) c.operand-array.ensures)
    (c.write.ensures L w h)
