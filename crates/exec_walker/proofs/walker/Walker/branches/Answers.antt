use Rattle.std.proofs.Common.{◌∙◌, sym, ap, subst, map}
use Rattle.std.proofs.lemmas.Result.{err_from_is_err_and}
use Rattle.lang_meaning.specs.Counts.{brought}
use Rattle.lang_meaning.specs.Elision.{LocalRegion, one_step}
use Rattle.lang_meaning.specs.Outcomes.{joined_or}
use Rattle.exec_walker.specs.Walk.{branches, rejoins}
use Rattle.exec_walker.specs.States.{ComesTo, construct, plain_level, plain_waiting, rest_of}
use Rattle.exec_walker.proofs.OverLimit.{branches_over}
use Rattle.exec_walker.proofs.Falling.{begun_is}
use Rattle.exec_walker.proofs.Halting.{refused}
use Rattle.exec_walker.proofs.walker.Walker.branches.Goals as goal

pub returns-in_err-count : goal.returns-in_err-count
returns-in_err-count c = λ L w h.
    let out = err_from_is_err_and c.from_residual.result c.from_residual.ensures.1 in
    rw (out.1, out.2) (refused (Unit {0}) L c.in_err-count.field-0.0 _ _ _ (one_step w) (c.in_err-count.ensures L w h)
    (branches_over L (construct c.args.fork (plain_level c.args.outer)) (rest_of c.args.fork (plain_level c.args.outer)) (map plain_waiting c.args.self.now.waiting) w))

pub returns-in-Some : goal.returns-in-Some
returns-in-Some c = λ L w h.
    let o = construct c.args.fork (plain_level c.args.outer) in
    let ws = map plain_waiting c.args.self.now.waiting in
    let next = rw c.in-Some.is at c.in_ok-level.ensures in
    subst (λ s. ComesTo L c.start.result c.start.new.self s)
    (begun_is _ _ _ _ next.task _ ws w next.level next.work next.kept ∙ ap (λ ts. branches o ts ws w) (sym next.first))
    (c.start.ensures L (one_step w) (c.in_ok-count.ensures L w h))

pub returns-in-None : goal.returns-in-None
returns-in-None c = λ L w h.
    let o = construct c.args.fork (plain_level c.args.outer) in
    let ws = map plain_waiting c.args.self.now.waiting in
    let none = rw c.in-None.is at c.in_ok-level.ensures in
    subst (λ s. ComesTo L c.join.result c.join.new.self s)
    (ap (λ k. rejoins k ws (brought {M = LocalRegion} (joined_or k.fell k.back)) (one_step w)) none.1 ∙ ap (λ ts. branches o ts ws w) (sym none.0))
    (c.join.ensures L (one_step w) (c.in_ok-count.ensures L w h))
