use Rattle.std.proofs.Common.{rules, subst}
use mir.Val.{SFits}
use Rattle.std.specs.Int.{w32}
use Rattle.std.proofs.Math.Facts.{to_z-of_z}
use Rattle.exec_machine.specs.declared.halted.Halted.TheVariants.{Stuck}
use Rattle.exec_run.specs.rounds.Rounds.{RoundsBreakOff}
use Rattle.lang_typed.specs.Plain.{plain_program}
use Rattle.exec_run.specs.Run.{IsOpened}
use Rattle.exec_run.proofs.Coming.{opened_run}
use Rattle.exec_run.proofs.Rounded.{none_opened, came_by_rounds, came_to_nothing}
use Rattle.exec_run.proofs.rounding.run_rounds.Goals as goal

pub returns-in_default : goal.returns-in_default
returns-in_default g c =
    let P = plain_program c.args.program.now in
    let fits : SFits w32 c.args.argument = search rules in
    none_opened P c.args.limits c.args.argument c.args.workers
    (subst (λ m. IsOpened P c.args.limits c.args.argument m) c.in_default.is
    (subst (λ a. IsOpened P c.args.limits a c.in_ok-machine.field-0) (to_z-of_z fits) c.in_ok-machine.ensures))

pub returns-in-Ok : goal.returns-in-Ok
returns-in-Ok g c =
    let P = plain_program c.args.program.now in
    let fits : SFits w32 c.args.argument = search rules in
    let o = opened_run P c.args.limits c.args.argument c.in-Some.machine
    (subst (λ m. IsOpened P c.args.limits c.args.argument m) c.in-Some.is
    (subst (λ a. IsOpened P c.args.limits a c.in_ok-machine.field-0) (to_z-of_z fits) c.in_ok-machine.ensures)) in
    came_by_rounds P c.args.limits c.args.argument c.args.workers c.in-Some.machine c.run_rounds-made.new.machine o.0 o.1 c.schedule.ensures.replayed
    c.in-Ok.rounds c.in-Ok.ensures.rounds c.in-Ok.ensures.done c.made_alone.result c.made_alone.ensures

pub returns-in-Err-Stuck : goal.returns-in-Err-Stuck
returns-in-Err-Stuck g c =
    let P = plain_program c.args.program.now in
    let fits : SFits w32 c.args.argument = search rules in
    let o = opened_run P c.args.limits c.args.argument c.in-Some.machine
    (subst (λ m. IsOpened P c.args.limits c.args.argument m) c.in-Some.is
    (subst (λ a. IsOpened P c.args.limits a c.in_ok-machine.field-0) (to_z-of_z fits) c.in_ok-machine.ensures)) in
    let why : RoundsBreakOff c.in-Some.machine c.run_rounds-made.new.machine Stuck = search rules in
    came_to_nothing P c.args.limits c.args.argument c.args.workers c.in-Some.machine c.run_rounds-made.new.machine o.0 o.1 c.schedule.ensures.replayed why
