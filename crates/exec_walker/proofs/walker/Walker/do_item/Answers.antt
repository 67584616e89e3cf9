use Rattle.std.proofs.Common.{◌∙◌, ap, refl, sym, subst, map}
use Rattle.lang_typed.specs.Plain.{plain_program}
use Rattle.exec_walker.specs.Walk.{does_item}
use Rattle.exec_walker.specs.States.{ComesTo, StandsAt, plain_item, plain_level, plain_waiting}
use Rattle.exec_walker.proofs.walker.Walker.do_item.Goals as goal

pub returns-in_ok-go_on-in-GoesOn : goal.returns-in_ok-go_on-in-GoesOn
returns-in_ok-go_on-in-GoesOn c = λ L w h.
    let P = plain_program c.args.program.now in
    let g = plain_level c.args.self.now.level in
    let ws = map plain_waiting c.args.self.now.waiting in
    subst (λ s. StandsAt L (record c.args.self.now { level = c.go_on.new.self }) s)
    (c.in_ok-go_on-in-GoesOn.ensures P ws w ∙ ap (λ i. does_item P i g ws w) (sym (ap plain_item c.in-GoesOn.is))) (refl, refl, h)

pub returns-in-Counted : goal.returns-in-Counted
returns-in-Counted c = λ L w h.
    let P = plain_program c.args.program.now in
    let g = plain_level c.args.self.now.level in
    let ws = map plain_waiting c.args.self.now.waiting in
    subst (λ i. ComesTo L c.counted.result c.counted.new.self (does_item P (plain_item i) g ws w)) (sym c.in-Counted.is) (c.counted.ensures P L w h)
