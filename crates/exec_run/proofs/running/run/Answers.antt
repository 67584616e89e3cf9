use Rattle.std.proofs.Common.{rules, subst}
use mir.Val.{SFits}
use Rattle.std.specs.Int.{w32}
use Rattle.std.proofs.Math.Facts.{to_z-of_z}
use Rattle.lang_typed.specs.Plain.{plain_program}
use Rattle.exec_run.specs.Run.{IsOpened, no_record}
use Rattle.exec_run.proofs.Coming.{opened_run, opened_none, recorded}
use Rattle.exec_run.proofs.running.run.Goals as goal

pub work-requires-clause-unstarted : goal.work-requires-clause-unstarted
work-requires-clause-unstarted g c κs within =
    let P = plain_program c.args.program.now in
    let fits : SFits w32 c.args.argument = search rules in
    (opened_run P c.args.limits c.args.argument c.in-Some.machine (subst (λ m. IsOpened P c.args.limits c.args.argument m) c.in-Some.is (subst (λ a. IsOpened P c.args.limits a c.in_ok-machine.field-0) (to_z-of_z fits) c.in_ok-machine.ensures))).1

pub returns-in_ok-work-in-Some : goal.returns-in_ok-work-in-Some
returns-in_ok-work-in-Some g c =
    let P = plain_program c.args.program.now in
    let fits : SFits w32 c.args.argument = search rules in
    let o = opened_run P c.args.limits c.args.argument c.in-Some.machine (subst (λ m. IsOpened P c.args.limits c.args.argument m) c.in-Some.is (subst (λ a. IsOpened P c.args.limits a c.in_ok-machine.field-0) (to_z-of_z fits) c.in_ok-machine.ensures)) in
    recorded P c.args.limits c.args.argument c.args.workers c.in-Some.machine c.in_ok-work-in-Some.field-0 o.0 c.in_ok-work-in-Some.ensures.code
    c.in_ok-work-in-Some.ensures.limits c.in_ok-work-in-Some.ensures.argument c.in_ok-work-in-Some.ensures.replayed c.in_ok-work-in-Some.ensures.len
    c.finished.result c.finished.ensures

pub returns-in-None : goal.returns-in-None
returns-in-None g c =
    let P = plain_program c.args.program.now in
    let fits : SFits w32 c.args.argument = search rules in
    no_record (opened_none P c.args.limits c.args.argument (subst (λ m. IsOpened P c.args.limits c.args.argument m) c.in-None.is (subst (λ a. IsOpened P c.args.limits a c.in_ok-machine.field-0) (to_z-of_z fits) c.in_ok-machine.ensures)))
