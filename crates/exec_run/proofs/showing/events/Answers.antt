use Rattle.std.proofs.Common.{rules, subst, sym}
use mir.Val.{SFits}
use Rattle.std.specs.Int.{w32}
use Rattle.std.proofs.Math.Facts.{to_z-of_z}
use Rattle.lang_typed.specs.Plain.{plain_program}
use Rattle.exec_run.specs.Events.{AreEvents}
use Rattle.exec_run.specs.Run.{IsOpened}
use Rattle.exec_run.specs.declared.showing.Shown.TheVariants.{Unfit}
use Rattle.exec_run.proofs.Coming.{opened_run}
use Rattle.exec_run.proofs.Happening.{never_shown, shown, shown_halted, shown_unfit}
use Rattle.exec_run.proofs.showing.events.Goals as goal

pub returns-in_default : goal.returns-in_default
returns-in_default c =
    let P = plain_program c.args.program.now in
    let fits : SFits w32 c.args.argument = search rules in
    never_shown P c.args.limits c.args.argument c.args.schedule.now
    (subst (λ m. IsOpened P c.args.limits c.args.argument m) c.in_default.is
    (subst (λ a. IsOpened P c.args.limits a c.in_ok-machine.field-0) (to_z-of_z fits) c.in_ok-machine.ensures))

pub show-requires-clause-nothing : goal.show-requires-clause-nothing
show-requires-clause-nothing c =
    let P = plain_program c.args.program.now in
    let fits : SFits w32 c.args.argument = search rules in
    (opened_run P c.args.limits c.args.argument c.in-Some.machine
    (subst (λ m. IsOpened P c.args.limits c.args.argument m) c.in-Some.is
    (subst (λ a. IsOpened P c.args.limits a c.in_ok-machine.field-0) (to_z-of_z fits) c.in_ok-machine.ensures))).1

pub show-requires-clause-replayed : goal.show-requires-clause-replayed
show-requires-clause-replayed c =
    let P = plain_program c.args.program.now in
    let fits : SFits w32 c.args.argument = search rules in
    (opened_run P c.args.limits c.args.argument c.in-Some.machine
    (subst (λ m. IsOpened P c.args.limits c.args.argument m) c.in-Some.is
    (subst (λ a. IsOpened P c.args.limits a c.in_ok-machine.field-0) (to_z-of_z fits) c.in_ok-machine.ensures))).0.replayed

pub returns-in-Ok : goal.returns-in-Ok
returns-in-Ok c =
    let P = plain_program c.args.program.now in
    let fits : SFits w32 c.args.argument = search rules in
    let is = (opened_run P c.args.limits c.args.argument c.in-Some.machine
    (subst (λ m. IsOpened P c.args.limits c.args.argument m) c.in-Some.is
    (subst (λ a. IsOpened P c.args.limits a c.in_ok-machine.field-0) (to_z-of_z fits) c.in_ok-machine.ensures))).0 in
    shown P c.args.limits c.args.argument c.args.schedule.now c.in-Some.machine is c.in-Ok.made c.in-Ok.ensures.shows

pub returns-in-Err-Bad : goal.returns-in-Err-Bad
returns-in-Err-Bad c =
    let P = plain_program c.args.program.now in
    let fits : SFits w32 c.args.argument = search rules in
    let is = (opened_run P c.args.limits c.args.argument c.in-Some.machine
    (subst (λ m. IsOpened P c.args.limits c.args.argument m) c.in-Some.is
    (subst (λ a. IsOpened P c.args.limits a c.in_ok-machine.field-0) (to_z-of_z fits) c.in_ok-machine.ensures))).0 in
    let why = rw c.in-Err-Bad.field-0-is at c.in-Err-Bad.ensures.why in
    subst (λ at. AreEvents P c.args.limits c.args.argument c.args.schedule.now (Unfit at)) (sym c.in-Err-Bad.at-is)
    (shown_unfit P c.args.limits c.args.argument c.args.schedule.now c.in-Some.machine is c.in-Err-Bad.at why)

pub returns-in-Err-Stuck : goal.returns-in-Err-Stuck
returns-in-Err-Stuck c =
    let P = plain_program c.args.program.now in
    let fits : SFits w32 c.args.argument = search rules in
    let is = (opened_run P c.args.limits c.args.argument c.in-Some.machine
    (subst (λ m. IsOpened P c.args.limits c.args.argument m) c.in-Some.is
    (subst (λ a. IsOpened P c.args.limits a c.in_ok-machine.field-0) (to_z-of_z fits) c.in_ok-machine.ensures))).0 in
    let why = rw c.in-Err-Stuck.field-0-is at c.in-Err-Stuck.ensures.why in
    shown_halted P c.args.limits c.args.argument c.args.schedule.now c.in-Some.machine is _ why
