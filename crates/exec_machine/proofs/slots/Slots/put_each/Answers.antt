-- The last that is left comes back first.
use Rattle.std.proofs.Common.{sym, ap, ◌∙◌}
use Rattle.std.specs.FinMap.{FinMap}
use Rattle.std.specs.Ordering.{nat_cmp}
use Rattle.exec_machine.specs.declared.slot.Slot.{Slot}
use Rattle.exec_machine.specs.Away.{put_back}
use Rattle.exec_machine.proofs.Aways.{put_last}
use Rattle.exec_machine.proofs.slots.Slots.put_each.Goals as goal

pub loop-task-preserved : goal.loop-task-preserved
loop-task-preserved c =
    ap (λ (slots : FinMap nat_cmp Slot). put_back slots c.pop.new.self.items) c.put_in.ensures
    ∙ sym (put_last c.loop-task.self c.pop.new.self.items c.in-Some.task)
    ∙ sym (ap (put_back c.loop-task.self) c.in-Some.ensures.items) ∙ c.loop-task.invariant
