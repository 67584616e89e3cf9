use Rattle.std.proofs.Common.{map}
use Rattle.std.proofs.lemmas.Result.{IfOk-weaker}
use Rattle.code_instrs.specs.Machine.{Nowhere}
use Rattle.exec_task.proofs.Idle.{idle}
use Rattle.code_instrs.specs.Plain.{plain_code}
use Rattle.exec_frames.specs.Names.{plain_value}
use Rattle.exec_task.specs.Tasks.{plain_level, plain_answer, state_in}
use Rattle.exec_task.proofs.Leading.{get_leads, element_leads, put_leads, put_element_leads, length_leads, print_leads}
use Rattle.exec_task.proofs.resume.resume.Goals as goal

pub returns-in-Get-clause-ok : goal.returns-in-Get-clause-ok
returns-in-Get-clause-ok c =
    IfOk-weaker c.after_read.result _ _ (λ s l task. rw c.in-Get.is (get_leads (plain_answer c.args.answer) (state_in s c.after_read.new.self c.args.callers.now)
    c.args.line.1 (plain_level c.args.level.now) (map plain_level c.args.callers.now) (map plain_value c.args.level.now.stack) _ (l c.args.callers.now))) c.after_read.ensures.ok

pub returns-in-Elem-clause-ok : goal.returns-in-Elem-clause-ok
returns-in-Elem-clause-ok c =
    IfOk-weaker c.after_read-in-Elem.result _ _ (λ s l task. rw c.in-Elem.is (element_leads (plain_answer c.args.answer) (state_in s c.after_read-in-Elem.new.self c.args.callers.now)
    c.args.line.1 (plain_level c.args.level.now) (map plain_level c.args.callers.now) (map plain_value c.args.level.now.stack) (l c.args.callers.now))) c.after_read-in-Elem.ensures.ok

pub returns-in-Length-clause-ok : goal.returns-in-Length-clause-ok
returns-in-Length-clause-ok c =
    IfOk-weaker c.after_length.result _ _ (λ s l task. rw c.in-Length.is (length_leads (plain_answer c.args.answer) (state_in s c.after_length.new.self c.args.callers.now)
    c.args.line.1 (plain_level c.args.level.now) (map plain_level c.args.callers.now) (map plain_value c.args.level.now.stack) (l c.args.callers.now))) c.after_length.ensures.ok

pub returns-in-Put-clause-ok : goal.returns-in-Put-clause-ok
returns-in-Put-clause-ok c = λ task. rw c.in-Put.is (put_leads (plain_answer c.args.answer) (state_in c.after_write.result c.after_write.new.self c.args.callers.now)
    c.args.line.1 (plain_level c.args.level.now) (map plain_level c.args.callers.now) (map plain_value c.args.level.now.stack) _ (c.after_write.ensures c.args.callers.now))

pub returns-in-PutElem-clause-ok : goal.returns-in-PutElem-clause-ok
returns-in-PutElem-clause-ok c = λ task. rw c.in-PutElem.is (put_element_leads (plain_answer c.args.answer) (state_in c.after_write-in-PutElem.result c.after_write-in-PutElem.new.self c.args.callers.now)
    c.args.line.1 (plain_level c.args.level.now) (map plain_level c.args.callers.now) (map plain_value c.args.level.now.stack) (c.after_write-in-PutElem.ensures c.args.callers.now))

pub returns-in-Print-clause-ok : goal.returns-in-Print-clause-ok
returns-in-Print-clause-ok c = λ task. rw c.in-Print.is (print_leads (plain_answer c.args.answer) (state_in c.after_print.result c.after_print.new.self c.args.callers.now)
    c.args.line.1 (plain_level c.args.level.now) (map plain_level c.args.callers.now) (map plain_value c.args.level.now.stack) _ (c.after_print.ensures c.args.callers.now))

pub returns-in-Call-clause-ok : goal.returns-in-Call-clause-ok
returns-in-Call-clause-ok c = IfOk-weaker c.after_call_of.result _ _ (λ s l task. rw c.in-Call.is (l task c.args.line.1)) c.after_call_of.ensures.ok

pub returns-in-New-clause-ok : goal.returns-in-New-clause-ok
returns-in-New-clause-ok c = IfOk-weaker c.after_new.result _ _ (λ s l task. rw c.in-New.is (l task c.args.line.1)) c.after_new.ensures.ok

pub returns-in-Array-clause-ok : goal.returns-in-Array-clause-ok
returns-in-Array-clause-ok c = IfOk-weaker c.after_array.result _ _ (λ s l task. rw c.in-Array.is (l task c.args.line.1 c.args.callers.now)) c.after_array.ensures.ok

pub returns-in-Fork-clause-ok : goal.returns-in-Fork-clause-ok
returns-in-Fork-clause-ok c = IfOk-weaker c.after_fork_of.result _ _ (λ s l task. rw c.in-Fork.is (l c.args.line.1 (plain_answer c.args.answer) c.args.callers.now)) c.after_fork_of.ensures.ok

pub returns-in-Spread-clause-ok : goal.returns-in-Spread-clause-ok
returns-in-Spread-clause-ok c = IfOk-weaker c.after_spread_of.result _ _ (λ s l task. rw c.in-Spread.is (l c.args.line.1 (plain_answer c.args.answer) c.args.callers.now)) c.after_spread_of.ensures.ok

pub returns-in-Join-clause-ok : goal.returns-in-Join-clause-ok
returns-in-Join-clause-ok c = λ task. rw c.in-Join.is (c.after_join.ensures c.args.callers.now)

pub returns-in_default : goal.returns-in_default
returns-in_default c = record {
  ok = λ task. idle (plain_answer c.args.answer) Nowhere (plain_code c.args.code.now) task c.args.line.1 (plain_level c.args.level.now) (map plain_level c.args.callers.now) c.args.line.0
      c.in_default.not-Get c.in_default.not-Put c.in_default.not-Elem c.in_default.not-PutElem c.in_default.not-Length c.in_default.not-Call c.in_default.not-New c.in_default.not-Array c.in_default.not-Print c.in_default.not-Text c.in_default.not-Fork c.in_default.not-Spread c.in_default.not-Join c.in_default.not-Enter c.in_default.not-Exit;
  err = tt;
}
