use Rattle.std.proofs.Common.{◌∙◌, sym, subst, Ok}
use Rattle.exec_walker.specs.States.{ComesTo}
use Rattle.exec_walker.proofs.walker.Walker.fall.Goals as goal

pub loop-trap-preserved : goal.loop-trap-preserved
loop-trap-preserved c = λ L w h.
    let before = c.loop-trap.invariant L w h in
    let fell = rw c.in-On.is at (c.in_ok-trap.ensures.falls L before.0 before.2) in
    (fell.0, before.1 ∙ fell.1, fell.2)

pub returns-in-Comes : goal.returns-in-Comes
returns-in-Comes c = λ L w h.
    let before = c.loop-trap.invariant L w h in
    let came = rw c.in-Comes.is at (c.in_ok-trap.ensures.falls L before.0 before.2) in
    subst (λ s. ComesTo L (Ok c.in-Comes.over) c.fall_once.new.self s) (sym before.1) came
