use Rattle.std.proofs.Common.{sym, ap, ◌∙◌, Some}
use Rattle.std.proofs.lemmas.Result.{IfOk-weaker}
use Rattle.code_instrs.specs.Plain.{plain_code}
use Rattle.exec_task.proofs.BySite.{call_short, call_looks}
use Rattle.exec_task.proofs.task.Level.call.Goals as goal

pub returns-in_default-get : goal.returns-in_default-get
returns-in_default-get c =
    call_short (plain_code c.args.code.now) c.args.place c.args.code.now.sites c.args.site c.args.self.now c.in-Some-Call.field-0-0 c.in-Some-Call.field-0-1
    c.in-Some-Call.formals c.in-Some-Call.regions (sym c.in-Some-Call.ensures.value ∙ ap Some c.in-Some-Call.field-0-is) (sym c.in_default-get.ensures)

pub returns : goal.returns
returns c =
    IfOk-weaker c.look.result _ _ (λ s l. call_looks (plain_code c.args.code.now) c.args.place c.args.code.now.sites c.args.site c.args.self.now
    c.in-Some-Call.field-0-0 c.in-Some-Call.field-0-1 c.in-Some-Call.formals c.in-Some-Call.regions c.in-Some.receiver.now s
    (sym c.in-Some-Call.ensures.value ∙ ap Some c.in-Some-Call.field-0-is) (sym c.in-Some.ensures) l) c.look.ensures
