use mir.Val.{SFits}
use Rattle.std.proofs.Common.{◌∙◌, ◌∷◌, ap, subst, map, drop, rules, w32, w64}
use Rattle.std.proofs.lemmas.Int.{to_z-of_z}
use Rattle.lang_meaning.specs.Core.{run}
use Rattle.lang_meaning.specs.Counts.{number, slot_value}
use Rattle.lang_meaning.specs.Elision.{sequential}
use Rattle.lang_meaning.specs.Expressions.{read_cell, unless_null}
use Rattle.exec_frames.specs.Names.{plain_value}
use Rattle.exec_walker.specs.Walk.{lands}
use Rattle.exec_walker.specs.States.{ComesTo, plain_level, plain_waiting}
use Rattle.exec_walker.proofs.walker.Walker.read_element.Goals as goal

pub returns : goal.returns
returns c = λ L w h.
    let place = c.args.place in
    let g = plain_level c.args.self.now.level in
    let ws = map plain_waiting c.args.self.now.waiting in
    let narrow : SFits w32 c.number-index.result = search rules in
    let wide : SFits w64 c.from.result = search rules in
    let index = to_z-of_z w64 c.from.result wide ∙ c.from.ensures ∙ to_z-of_z w32 c.number-index.result narrow ∙ c.number-index.ensures ∙ ap number c.operand.ensures in
    subst (λ s. ComesTo L c.read.result c.read.new.self s)
    (ap (λ i. lands g (λ v. v ∷ drop 2 g.operands) ws (run sequential (unless_null place (plain_value c.operand-array.result) (λ n. read_cell place n i g.frame)) w)) index
    ∙ ap (λ v. lands g (λ v. v ∷ drop 2 g.operands) ws (run sequential (unless_null place v (λ n. read_cell place n (number (slot_value g.operands 0)) g.frame)) w)) c.operand-array.ensures)
    (c.read.ensures L w h)
