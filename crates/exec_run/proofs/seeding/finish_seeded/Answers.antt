-- Each step is that of the task which the next state draws.
use Rattle.std.proofs.Common.{arith, ◌≡◌, ℕ, sym, subst, ◌∙◌}
use Rattle.std.proofs.lemmas.Result.{err_from_is_err_and}
use Rattle.exec_machine.specs.Keeping.{Played, IsAfter, WhyHaltedAt}
use Rattle.exec_run.specs.Seeding.{here, WasSeeded}
use Rattle.exec_run.proofs.Seeded.{one_more, breaks_off, longer}
use Rattle.exec_run.proofs.seeding.finish_seeded.Goals as goal

stepped : (m same n : Played) (task : ℕ) → same ≡ m → IsAfter same task n → IsAfter m task n
stepped m same n task is after = subst (λ (p : Played). IsAfter p task n) is after

pub loop-step-init : goal.loop-step-init
loop-step-init c = (here, omega (arith))

pub loop-step-preserved : goal.loop-step-preserved
loop-step-preserved c = (
  one_more c.args.machine.now c.loop-step.machine c.args.seed c.loop-step.state c.next_state-next.result c.in-Some.task c.loop-step.invariant.0 c.next_state-next.ensures
      c.in-Some.ensures.drawn c.step.new.self (stepped c.loop-step.machine c.drawn.new.machine c.step.new.self c.in-Some.task c.in-Some.ensures.same c.in_ok-step.ensures.stepped),
  longer c.loop-step.machine c.step.new.self c.in-Some.task c.loop-step._step
      (stepped c.loop-step.machine c.drawn.new.machine c.step.new.self c.in-Some.task c.in-Some.ensures.same c.in_ok-step.ensures.stepped) c.loop-step.invariant.1,
)

pub returns-then-finished-clause-seeded : goal.returns-then-finished-clause-seeded
returns-then-finished-clause-seeded c = record { state = c.loop-step.state; steps = c.loop-step.invariant.0 }

pub returns-in_default-clause-seeded : goal.returns-in_default-clause-seeded
returns-in_default-clause-seeded c = subst (WasSeeded c.args.machine.now c.args.seed) (sym c.in_default.ensures.same) (record { state = c.loop-step.state; steps = c.loop-step.invariant.0 })

pub returns-clause-seeded : goal.returns-clause-seeded
returns-clause-seeded c = record { state = c.loop-step.state; steps = c.loop-step.invariant.0 }

pub returns-in_err-step-clause-why : goal.returns-in_err-step-clause-why
returns-in_err-step-clause-why c =
    let q = err_from_is_err_and c.from_residual.result c.from_residual.ensures.1 in
    rw (q.1, q.2)
    (breaks_off c.args.machine.now c.loop-step.machine c.args.seed c.loop-step.state c.next_state-next.result c.in-Some.task c.loop-step.invariant.0 c.next_state-next.ensures
    c.in-Some.ensures.drawn c.step.new.self c.in_err-step.field-0.0 (c.in_err-step.ensures.err ∙ c.in-Some.ensures.same)
    (subst (λ (m : Played). WhyHaltedAt m c.in-Some.task c.in_err-step.field-0.0) c.in-Some.ensures.same c.in_err-step.ensures.why))
