use Rattle.std.proofs.Common.{◌∙◌, sym, ap, subst, map, Ok, Err, Some}
use Rattle.std.proofs.lemmas.Result.{err_from_is_err_and}
use Rattle.lang_meaning.specs.Elision.{one_step}
use Rattle.exec_walker.specs.Walk.{begins, falls, fallen}
use Rattle.exec_walker.specs.States.{ComesTo, construct, plain_level, plain_waiting, rest_of, work_of}
use Rattle.exec_walker.proofs.Falling.{earlier_is, falls_last, falls_next, begun_is}
use Rattle.exec_walker.proofs.OverLimit.{branch_over}
use Rattle.exec_walker.proofs.Halting.{refused}
use Rattle.exec_walker.proofs.walker.Walker.branch_falls.Goals as goal

pub returns-in-None-clause-falls : goal.returns-in-None-clause-falls
returns-in-None-clause-falls c = λ L w h.
    let t = c.args.trap in
    let p = c.args.place in
    let noted = c.note.ensures L w h in
    let now = rw c.in-None.is at c.in_ok-level.ensures in (
      one_step (fallen t p w),
      falls_last (construct c.args.fork (plain_level c.args.outer)) (work_of c.args.fork.running.now) (rest_of c.args.fork (plain_level c.args.outer))
          (map plain_waiting c.args.self.now.waiting) t p w now.0
          ∙ ap (λ x. falls (map plain_waiting c.args.self.now.waiting) x.0 x.1 (one_step (fallen t p w))) (sym (c.unwrap_or-fell.ensures ∙ earlier_is c.args.fork.fell (t, p))),
      c.in_ok-count.ensures L (fallen t p w) noted,
    )

pub returns-in_err-count-clause-falls : goal.returns-in_err-count-clause-falls
returns-in_err-count-clause-falls c = λ L w h.
    let t = c.args.trap in
    let p = c.args.place in
    let out = err_from_is_err_and c.from_residual.result c.from_residual.ensures.1 in
    let over = c.in_err-count.ensures L (fallen t p w) (c.note.ensures L w h) in
    rw (out.1, out.2) (refused (Unit {0}) L c.in_err-count.field-0.0 _ _ _ (one_step (fallen t p w)) over
    (branch_over L (construct c.args.fork (plain_level c.args.outer)) (work_of c.args.fork.running.now) (rest_of c.args.fork (plain_level c.args.outer))
    (map plain_waiting c.args.self.now.waiting) t p w))

pub returns-in_ok-start-in-Some-clause-falls : goal.returns-in_ok-start-in-Some-clause-falls
returns-in_ok-start-in-Some-clause-falls c = λ L w h.
    let t = c.args.trap in
    let p = c.args.place in
    let o = construct c.args.fork (plain_level c.args.outer) in
    let ws = map plain_waiting c.args.self.now.waiting in
    let next = rw c.in-Some.is at c.in_ok-level.ensures in
    let fell = c.unwrap_or-fell.ensures ∙ earlier_is c.args.fork.fell (t, p) in
    let came = c.in_ok-start-in-Some.ensures L (one_step (fallen t p w)) (c.in_ok-count.ensures L (fallen t p w) (c.note.ensures L w h)) in
    subst (λ s. ComesTo L (Ok c.in_ok-start-in-Some.field-0) c.start.new.self s)
    (begun_is _ _ _ _ next.task _ ws (fallen t p w) next.level next.work next.kept
    ∙ ap (λ x. begins (record o { fell = Some x }) next.task (rest_of c.begin.new.self (plain_level c.args.outer)) ws (fallen t p w)) fell
    ∙ sym (falls_next o (work_of c.args.fork.running.now) next.task (rest_of c.args.fork (plain_level c.args.outer)) _ ws t p w next.first))
    came

pub returns-in_err-start-in-Some-clause-falls : goal.returns-in_err-start-in-Some-clause-falls
returns-in_err-start-in-Some-clause-falls c = λ L w h.
    let t = c.args.trap in
    let p = c.args.place in
    let o = construct c.args.fork (plain_level c.args.outer) in
    let ws = map plain_waiting c.args.self.now.waiting in
    let next = rw c.in-Some.is at c.in_ok-level.ensures in
    let fell = c.unwrap_or-fell.ensures ∙ earlier_is c.args.fork.fell (t, p) in
    let came = c.in_err-start-in-Some.ensures L (one_step (fallen t p w)) (c.in_ok-count.ensures L (fallen t p w) (c.note.ensures L w h)) in
    let out = err_from_is_err_and c.from_residual-in_err-start-in-Some.result c.from_residual-in_err-start-in-Some.ensures.1 in
    rw (out.1, out.2) (subst (λ s. ComesTo L (Err c.in_err-start-in-Some.field-0.0) c.start.new.self s)
    (begun_is _ _ _ _ next.task _ ws (fallen t p w) next.level next.work next.kept
    ∙ ap (λ x. begins (record o { fell = Some x }) next.task (rest_of c.begin.new.self (plain_level c.args.outer)) ws (fallen t p w)) fell
    ∙ sym (falls_next o (work_of c.args.fork.running.now) next.task (rest_of c.args.fork (plain_level c.args.outer)) _ ws t p w next.first))
    came)
