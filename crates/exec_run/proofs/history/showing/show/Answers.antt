use Rattle.std.proofs.Common.{length, ap, subst, sym, ◌∙◌}
use Rattle.std.proofs.lemmas.Bool.{iff_false}
use Rattle.exec_machine.specs.Keeping.{Played, IsReplayed}
use Rattle.exec_run.specs.history.Replaying.{HasMade, WhyStopped}
use Rattle.exec_run.proofs.history.Continuing.{handed-on, ends-early, not-some, replay-is, shows-is}
use Rattle.exec_run.proofs.history.showing.show.Goals as goal

pub follow-requires-clause-nothing : goal.follow-requires-clause-nothing
follow-requires-clause-nothing c = ap (λ (p : Played). p.schedule) c.with_events.ensures.played ∙ c.requires.nothing

pub follow-requires-clause-replayed : goal.follow-requires-clause-replayed
follow-requires-clause-replayed c = subst IsReplayed (sym c.with_events.ensures.played) c.requires.replayed

pub returns-in_err-machine-clause-why : goal.returns-in_err-machine-clause-why
returns-in_err-machine-clause-why c =
    let first = c.args.machine in
    let why = WhyStopped first.code first.limits first.argument c.args.schedule.now in
    handed-on c.from_residual.result c.in_err-machine.field-0.0 why c.from_residual.ensures.1
    (subst (λ (p : Played). WhyStopped p.code p.limits p.argument c.args.schedule.now c.in_err-machine.field-0.0) c.with_events.ensures.played
    c.in_err-machine.ensures.why)

pub returns-then-finished-clause-shows : goal.returns-then-finished-clause-shows
returns-then-finished-clause-shows c =
    let first = c.args.machine in
    let last = c.in_ok-machine.machine.played in
    let made =
    subst (λ (p : Played). HasMade p.code p.limits p.argument c.args.schedule.now (length c.args.schedule.now) last) c.with_events.ensures.played
    c.in_ok-machine.ensures.made in
    shows-is first.code first.limits first.argument c.args.schedule.now last c.into_made.result
    (replay-is first.code first.limits first.argument c.args.schedule.now last made (c.finished.ensures.0 c.if-finished.true)) c.into_made.ensures.all

pub returns-else-finished-clause-why : goal.returns-else-finished-clause-why
returns-else-finished-clause-why c =
    let first = c.args.machine in
    let last = c.in_ok-machine.machine.played in
    let made =
    subst (λ (p : Played). HasMade p.code p.limits p.argument c.args.schedule.now (length c.args.schedule.now) last) c.with_events.ensures.played
    c.in_ok-machine.ensures.made in
    ends-early first.code first.limits first.argument c.args.schedule.now last made (not-some last.outcome (iff_false c.finished.ensures c.if-finished.false))
