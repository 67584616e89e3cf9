-- A machine makes a step, or is as it was.
use Rattle.std.proofs.Common.{ap, sym, subst, ◌∙◌}
use Rattle.std.proofs.lemmas.Result.{err_from_is_err_and}
use Rattle.exec_world.specs.Ready.{IsReady}
use Rattle.exec_machine.specs.Keeping.{Played, IsAfter, WhyHaltedAt}
use Rattle.exec_machine.proofs.Playing.{played, can_step, plays_on, plays_still, is_after, is_same, why_at, on_err}
use Rattle.exec_machine.proofs.machine.Machine.step.Goals as goal

pub step-requires-clause-can : goal.step-requires-clause-can
step-requires-clause-can c =
    let p = c.self.invariant in
    let can = can_step c.self.inside.code c.self.inside.limits c.self.inside.argument c.self.inside.run p c.args.task
    (ap (λ (q : Played). q.outcome) c.self.view_is ∙ c.requires.unfinished) (subst (λ w. IsReady w c.args.task) (sym (ap (λ (q : Played). q.world) c.self.view_is)) c.requires.ready) in
    (p.moment, can)

pub invariant_of-self : goal.invariant_of-self
invariant_of-self c =
    let p = c.self.invariant in
    let can = can_step c.self.inside.code c.self.inside.limits c.self.inside.argument c.self.inside.run p c.args.task
    (ap (λ (q : Played). q.outcome) c.self.view_is ∙ c.requires.unfinished) (subst (λ w. IsReady w c.args.task) (sym (ap (λ (q : Played). q.world) c.self.view_is)) c.requires.ready) in
    plays_still c.self.inside.code c.self.inside.limits c.self.inside.argument c.self.inside.run c.step.new.self p
    (c.in_err-step.ensures.kept p.moment can) c.in_err-step.ensures.err

pub returns-in_err-step-clause-why : goal.returns-in_err-step-clause-why
returns-in_err-step-clause-why c =
    let p = c.self.invariant in
    let can = can_step c.self.inside.code c.self.inside.limits c.self.inside.argument c.self.inside.run p c.args.task
    (ap (λ (q : Played). q.outcome) c.self.view_is ∙ c.requires.unfinished) (subst (λ w. IsReady w c.args.task) (sym (ap (λ (q : Played). q.world) c.self.view_is)) c.requires.ready) in
    let q = err_from_is_err_and c.from_residual.result c.from_residual.ensures.1 in
    rw (q.1, q.2)
    (subst (λ (m : Played). WhyHaltedAt m c.args.task c.in_err-step.field-0.0) c.self.view_is
    (why_at c.self.inside.code c.self.inside.limits c.self.inside.argument c.self.inside.run p c.args.task c.in_err-step.field-0.0 (c.in_err-step.ensures.why p.moment can)))

pub returns-in_err-step-clause-err : goal.returns-in_err-step-clause-err
returns-in_err-step-clause-err c =
    let p = c.self.invariant in
    let can = can_step c.self.inside.code c.self.inside.limits c.self.inside.argument c.self.inside.run p c.args.task
    (ap (λ (q : Played). q.outcome) c.self.view_is ∙ c.requires.unfinished) (subst (λ w. IsReady w c.args.task) (sym (ap (λ (q : Played). q.world) c.self.view_is)) c.requires.ready) in
    on_err c.from_residual.result _
    (is_same c.self.inside.code c.self.inside.limits c.self.inside.argument c.self.inside.run c.step.new.self p (c.in_err-step.ensures.kept p.moment can)
    c.in_err-step.ensures.err ∙ c.self.view_is)

pub invariant_of-self-2 : goal.invariant_of-self-2
invariant_of-self-2 c =
    let p = c.self.invariant in
    let can = can_step c.self.inside.code c.self.inside.limits c.self.inside.argument c.self.inside.run p c.args.task
    (ap (λ (q : Played). q.outcome) c.self.view_is ∙ c.requires.unfinished) (subst (λ w. IsReady w c.args.task) (sym (ap (λ (q : Played). q.world) c.self.view_is)) c.requires.ready) in
    let went = c.in_ok-step.ensures.moves p.moment can in
    plays_on c.self.inside.code c.self.inside.limits c.self.inside.argument c.self.inside.run c.step.new.self p c.args.task went.0 went.1 went.2 c.in_ok-step.ensures.noted

pub returns-clause-stepped : goal.returns-clause-stepped
returns-clause-stepped c =
    let p = c.self.invariant in
    let can = can_step c.self.inside.code c.self.inside.limits c.self.inside.argument c.self.inside.run p c.args.task
    (ap (λ (q : Played). q.outcome) c.self.view_is ∙ c.requires.unfinished) (subst (λ w. IsReady w c.args.task) (sym (ap (λ (q : Played). q.world) c.self.view_is)) c.requires.ready) in
    let went = c.in_ok-step.ensures.moves p.moment can in
    subst (λ (m : Played). IsAfter m c.args.task (played c.self.inside.code c.self.inside.limits c.self.inside.argument c.step.new.self)) c.self.view_is
    (is_after c.self.inside.code c.self.inside.limits c.self.inside.argument c.self.inside.run c.step.new.self p c.args.task went.0 went.1 went.2 c.in_ok-step.ensures.noted)
