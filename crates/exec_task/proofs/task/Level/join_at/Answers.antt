use Rattle.std.proofs.Common.{map}
use Rattle.code_instrs.specs.Machine.{all_copied}
use Rattle.exec_task.proofs.task.Level.join_at.Goals as goal

pub returns-in-Fork : goal.returns-in-Fork
returns-in-Fork c = λ C task fs.
    let j = rw c.len.ensures at c.join_fork.ensures in rw c.in-Fork.is (j C (all_copied (map (λ k. k.slots) c.in-Fork.copies)) fs)

pub returns-in-Spread : goal.returns-in-Spread
returns-in-Spread c = λ C task fs. rw c.in-Spread.is (c.join_spread.ensures C fs)
