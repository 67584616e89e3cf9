use Rattle.std.proofs.Common.{arith, ◌≡◌, Some, IfSome, refl, subst, sum}
use Rattle.exec_run.specs.Run.{finished_so, unfinished_so}
use Rattle.exec_run.proofs.Coming.{grows, made_more, own_counted, same_run}
use Rattle.exec_run.proofs.running.finished.Goals as goal

pub returns-in_default : goal.returns-in_default
returns-in_default c =
    unfinished_so c.finish.new.machine (same_run c.args.worked.machine c.finish.new.machine c.finish.ensures.greedily c.finish.ensures.replayed)
    (c.in_ok-outcome.ensures.stopped search)

pub overflow_sub-own : goal.overflow_sub-own
overflow_sub-own c =
    omega (
      arith,
      c.len-made.ensures,
      c.len.ensures,
      made_more c.args.worked.machine.schedule c.finish.new.machine.schedule c.schedule.result.now c.schedule-2.result.now c.schedule.ensures.schedule
          c.schedule-2.ensures.schedule (grows c.args.worked.machine c.finish.new.machine c.finish.ensures.greedily),
    )

pub returns : goal.returns
returns c =
    finished_so _ (same_run c.args.worked.machine c.finish.new.machine c.finish.ensures.greedily c.finish.ensures.replayed)
    (subst (λ o. IfSome o (λ outcome. c.finish.new.machine.outcome ≡ Some outcome)) c.in-Some.is c.in_ok-outcome.ensures.came) refl
    (rw (c.len.ensures, c.len-made.ensures)
    (own_counted c.args.worked.machine.schedule c.finish.new.machine.schedule c.schedule.result.now c.schedule-2.result.now (sum c.args.worked.shares)
    c.schedule.ensures.schedule c.schedule-2.ensures.schedule c.requires.counted (grows c.args.worked.machine c.finish.new.machine c.finish.ensures.greedily)))
