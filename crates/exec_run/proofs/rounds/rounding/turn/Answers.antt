-- A task is left out, or makes its next event.
use Rattle.std.proofs.Common.{sym, subst}
use Rattle.std.proofs.lemmas.Bool.{iff_false}
use Rattle.exec_machine.specs.Keeping.{Played, IsAfter}
use Rattle.exec_run.specs.rounds.Rounds.{IsTurn, finished, not_ready, made}
use Rattle.exec_run.proofs.rounds.Turning.{not_some}
use Rattle.exec_run.proofs.rounds.rounding.turn.Goals as goal

pub returns-then-finished-clause-turn : goal.returns-then-finished-clause-turn
returns-then-finished-clause-turn c = finished (c.finished.ensures.0 c.if-finished.true)

pub returns-then-not-still_ready-clause-turn : goal.returns-then-not-still_ready-clause-turn
returns-then-not-still_ready-clause-turn c =
    subst (IsTurn c.args.machine.now c.args.task) (sym c.still_ready.ensures.same) (not_ready (c.still_ready.ensures.no c.if-not-still_ready.true))

pub returns-clause-turn : goal.returns-clause-turn
returns-clause-turn c =
    made c.step.new.self (not_some c.args.machine.now.outcome (iff_false c.finished.ensures c.if-finished.false)) (c.still_ready.ensures.yes c.if-not-still_ready.false)
    (subst (λ (m : Played). IsAfter m c.args.task c.step.new.self) c.still_ready.ensures.same c.in_ok-step.ensures.stepped)
