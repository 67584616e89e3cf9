-- An event is made, or doesn't fit.
use Rattle.std.proofs.Common.{refl}
use Rattle.std.specs.FinMap.{get}
use Rattle.exec_machine.proofs.Acting.{ordinary}
use Rattle.exec_machine.proofs.Stepping.{stuck_unfit, moved_end, moved_on, noted_on, no_fit}
use Rattle.exec_machine.proofs.run.Run.make.Goals as goal

pub returns-then-not-fits-clause-why : goal.returns-then-not-fits-clause-why
returns-then-not-fits-clause-why c = λ m can.
    stuck_unfit c.args.code.now c.args.limits c.args.self.now m c.args.event (get c.args.self.now.slots c.args.event.task) refl can c.requires.at
    (no_fit c.fits.result _ c.fits.ensures c.if-not-fits.true)

pub returns-in_ok-end-in-End-clause-makes : goal.returns-in_ok-end-in-End-clause-makes
returns-in_ok-end-in-End-clause-makes c = λ m can.
    moved_end c.args.code.now c.args.limits c.args.self.now c.end.new.self m c.args.event (get c.args.self.now.slots c.args.event.task) refl can c.requires.at
    (c.fits.ensures.0 c.if-not-fits.false) c.in-End.field-0 c.in-End.is c.in_ok-end-in-End.ensures.ok

pub returns-in_ok-go_on-in_default : goal.returns-in_ok-go_on-in_default
returns-in_ok-go_on-in_default c = record {
  makes = λ m can.
      moved_on c.args.code.now c.args.limits c.args.self.now c.go_on.new.self m c.args.event (get c.args.self.now.slots c.args.event.task) refl can c.requires.at
      (c.fits.ensures.0 c.if-not-fits.false) (ordinary c.args.event.action c.in_default.not-Begin c.in_default.not-End) c.in_ok-go_on-in_default.ensures.ok;
  noted = noted_on c.args.code.now c.args.limits c.args.self.now c.go_on.new.self c.args.event (get c.args.self.now.slots c.args.event.task) c.requires.at
      c.in_ok-go_on-in_default.ensures.ok;
  why = λ m can. tt;
  err = tt;
}
