use Rattle.std.proofs.Common.{ap, suc, ◌∙◌, map}
use Rattle.code_instrs.specs.Machine.{On}
use Rattle.code_instrs.specs.Plain.{plain_code}
use Rattle.exec_task.specs.declared.task.Standing.TheVariants as standing
use Rattle.exec_task.specs.Steps.{with_local}
use Rattle.exec_task.specs.Tasks.{plain_level}
use Rattle.exec_task.proofs.Stepping.{by_going, by_making, made_here}
use Rattle.exec_task.proofs.task.Task.advance.Goals as goal

pub returns-in-Goes-clause-ok : goal.returns-in-Goes-clause-ok
returns-in-Goes-clause-ok c =
    let s = rw c.in-Goes.is at c.in_ok-step.ensures.ok in
    by_going (plain_code c.args.code.now) c.args.self.now c.step.new.self c.requires.going s c.step.ensures.kept.number c.step.ensures.kept.ticks
    c.step.ensures.kept.made

pub returns-in-Makes-clause-ok : goal.returns-in-Makes-clause-ok
returns-in-Makes-clause-ok c =
    let s = rw c.in-Makes.is at c.in_ok-step.ensures.ok in
    by_making (plain_code c.args.code.now) c.args.self.now c.make_region.new.self
    (λ m. On (with_local c.in-Makes.declaration m (plain_level c.step.new.self.level)) (map plain_level c.step.new.self.callers)) c.requires.going s.0
    (c.make_region.ensures.number ∙ c.step.ensures.kept.number) (c.make_region.ensures.ticks ∙ ap suc c.step.ensures.kept.ticks)
    (c.make_region.ensures.made ∙ ap suc c.step.ensures.kept.made)
    (made_here (plain_code c.args.code.now) c.step.new.self c.make_region.new.self c.in-Makes.declaration c.args.self.now.number c.args.self.now.made s.2
    c.make_region.ensures.standing c.make_region.ensures.callers c.make_region.ensures.level c.step.ensures.kept.number c.step.ensures.kept.made)

pub returns-in-Ends-clause-ok : goal.returns-in-Ends-clause-ok
returns-in-Ends-clause-ok c =
    let s = rw c.in-Ends.is at c.in_ok-step.ensures.ok in
    by_going (plain_code c.args.code.now) c.args.self.now (record c.step.new.self { standing = standing.Ended c.in-Ends.ending }) c.requires.going s
    c.step.ensures.kept.number c.step.ensures.kept.ticks c.step.ensures.kept.made
