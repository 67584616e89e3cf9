use Rattle.std.proofs.Common.{sym, ap, arith, ◌∙◌, Some}
use Rattle.std.proofs.lemmas.List.{length-map}
use Rattle.std.proofs.lemmas.Result.{IfOk-weaker}
use Rattle.code_instrs.specs.Plain.{plain_code}
use Rattle.exec_frames.specs.Names.{plain_value}
use Rattle.exec_task.proofs.BySite.{create_short, create_makes}
use Rattle.exec_task.proofs.task.Level.create.Goals as goal

pub returns-then-len-formals : goal.returns-then-len-formals
returns-then-len-formals c =
    create_short (plain_code c.args.code.now) c.args.place c.args.code.now.sites c.args.site c.args.self.now c.in-Some-New.class c.in-Some-New.formals
    c.in-Some-New.regions (sym c.in-Some-New.ensures.value ∙ ap Some c.in-Some-New.field-0-is) (omega (arith, length-map c.args.self.now.stack plain_value))

pub returns : goal.returns
returns c =
    IfOk-weaker c.make.result _ _ (λ s m. create_makes (plain_code c.args.code.now) c.args.place c.args.code.now.sites c.args.site c.args.self.now
    c.in-Some-New.class c.in-Some-New.formals c.in-Some-New.regions s (sym c.in-Some-New.ensures.value ∙ ap Some c.in-Some-New.field-0-is)
    (omega (arith, length-map c.args.self.now.stack plain_value)) m) c.make.ensures
