use Rattle.std.proofs.lemmas.Result.{IfOk-weaker}
use Rattle.code_instrs.specs.Plain.{plain_code}
use Rattle.exec_task.proofs.exec.exec.Goals as goal

pub returns-in-InPart-clause-ok : goal.returns-in-InPart-clause-ok
returns-in-InPart-clause-ok c = IfOk-weaker c.in_part.result _ _ (λ s l task. rw c.in-InPart.is (l (plain_code c.args.code.now) c.args.callers.now)) c.in_part.ensures.ok

pub returns-in-InParts-clause-ok : goal.returns-in-InParts-clause-ok
returns-in-InParts-clause-ok c = IfOk-weaker c.in_parts.result _ _ (λ s l task. rw c.in-InParts.is (l (plain_code c.args.code.now) c.args.callers.now)) c.in_parts.ensures.ok

pub returns-in-Print-clause-ok : goal.returns-in-Print-clause-ok
returns-in-Print-clause-ok c = IfOk-weaker c.print.result _ _ (λ s l task. rw c.in-Print.is (l (plain_code c.args.code.now) c.args.callers.now)) c.print.ensures

pub returns-in-Text-clause-ok : goal.returns-in-Text-clause-ok
returns-in-Text-clause-ok c = IfOk-weaker c.print_text.result _ _ (λ s l task. rw c.in-Text.is (l (plain_code c.args.code.now) c.args.callers.now)) c.print_text.ensures

pub returns-in-Array-clause-ok : goal.returns-in-Array-clause-ok
returns-in-Array-clause-ok c = IfOk-weaker c.create_array.result _ _ (λ s l task. rw c.in-Array.is (l task c.args.callers.now)) c.create_array.ensures

pub returns-in-Return-clause-ok : goal.returns-in-Return-clause-ok
returns-in-Return-clause-ok c = IfOk-weaker c.return_value.result _ _ (λ s l task. rw c.in-Return.is (l (plain_code c.args.code.now))) c.return_value.ensures.ok

pub returns-in-Get-clause-ok : goal.returns-in-Get-clause-ok
returns-in-Get-clause-ok c = λ task. rw c.in-Get.is (c.get.ensures (plain_code c.args.code.now) c.args.callers.now)

pub returns-in-Put-clause-ok : goal.returns-in-Put-clause-ok
returns-in-Put-clause-ok c = λ task. rw c.in-Put.is (c.put.ensures (plain_code c.args.code.now) c.args.callers.now)

pub returns-in-Elem-clause-ok : goal.returns-in-Elem-clause-ok
returns-in-Elem-clause-ok c = λ task. rw c.in-Elem.is (c.element.ensures (plain_code c.args.code.now) c.args.callers.now)

pub returns-in-PutElem-clause-ok : goal.returns-in-PutElem-clause-ok
returns-in-PutElem-clause-ok c = λ task. rw c.in-PutElem.is (c.put_element.ensures (plain_code c.args.code.now) c.args.callers.now)

pub returns-in-Length-clause-ok : goal.returns-in-Length-clause-ok
returns-in-Length-clause-ok c = λ task. rw c.in-Length.is (c.length.ensures (plain_code c.args.code.now) c.args.callers.now)

pub returns-in-Fork-clause-ok : goal.returns-in-Fork-clause-ok
returns-in-Fork-clause-ok c = λ task. rw c.in-Fork.is (c.fork.ensures task c.args.callers.now)

pub returns-in-Spread-clause-ok : goal.returns-in-Spread-clause-ok
returns-in-Spread-clause-ok c = λ task. rw c.in-Spread.is (c.spread.ensures task c.args.callers.now)

pub returns-in-Join-clause-ok : goal.returns-in-Join-clause-ok
returns-in-Join-clause-ok c = λ task. rw c.in-Join.is (c.join.ensures task c.args.callers.now)
