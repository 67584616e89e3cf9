use mir.Val.{SFits}
use Rattle.std.proofs.Common.{◌∙◌, [], ap, subst, map, rules, w32, to_z, of_z, None}
use Rattle.std.proofs.lemmas.Int.{to_z-of_z}
use Rattle.lang_typed.specs.Plain.{plain_stmt}
use Rattle.lang_meaning.specs.Counts.{how_many, number, slot_value}
use Rattle.lang_meaning.specs.Statements.{iterations}
use Rattle.exec_frames.specs.Names.{plain_value}
use Rattle.exec_walker.specs.Walk.{forks_at, without}
use Rattle.exec_walker.specs.States.{ComesTo, plain_level, plain_waiting}
use Rattle.exec_frames.proofs.Dropped.{map_drop}
use Rattle.exec_walker.proofs.walker.Walker.iterate.Goals as goal

pub returns : goal.returns
returns c = λ L w h.
    let place = c.args.place in
    let level = c.args.self.now.level in
    let g = plain_level level in
    let ws = map plain_waiting c.args.self.now.waiting in
    let x = c.args.slot.number in
    let body = plain_stmt c.args.body.now in
    let many_fits : SFits w32 c.number-count.result = search rules in
    let start_fits : SFits w32 c.number-start.result = search rules in
    let many = to_z-of_z w32 c.number-count.result many_fits ∙ c.number-count.ensures ∙ ap number c.operand.ensures in
    let first = to_z-of_z w32 c.number-start.result start_fits ∙ c.number-start.ensures ∙ ap number c.operand-2.ensures in
    let operands = ap (map plain_value) c.drop_top.ensures ∙ map_drop plain_value 2 level.operands in
    subst (λ s. ComesTo L c.numbers.result c.numbers.new.self s)
    (ap (λ vs. forks_at g.left place (record g { operands = vs }) [] (iterations None x body g.frame (to_z w32 (of_z w32 c.number-start.result)) 0
    (how_many (to_z w32 (of_z w32 c.number-count.result)))) ws w) operands
    ∙ ap (λ i. forks_at g.left place (without 2 g) [] (iterations None x body g.frame i 0 (how_many (to_z w32 (of_z w32 c.number-count.result)))) ws w) first
    ∙ ap (λ k. forks_at g.left place (without 2 g) [] (iterations None x body g.frame (number (slot_value g.operands 1)) 0 (how_many k)) ws w) many)
    (c.numbers.ensures L w h)
