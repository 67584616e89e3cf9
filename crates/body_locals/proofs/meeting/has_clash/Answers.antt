use Rattle.std.proofs.Common.{arith, sym, ◌∙◌}
use Rattle.body_locals.proofs.Earlier.{none-more, some-pair, tells-more}
use Rattle.body_locals.proofs.meeting.has_clash.Goals as goal

pub returns-then-meets-clause-some : goal.returns-then-meets-clause-some
returns-then-meets-clause-some c =
    λ e. some-pair c.loop-branch.used c.loop-branch.assigned c.args.branches.now c.loop-branch.branch-index c.branch-item.result c.loop-branch.invariant.tells (omega arith) c.branch-item.is (sym c.meets.ensures ∙ c.if-meets.true)

pub loop-branch-preserved : goal.loop-branch-preserved
loop-branch-preserved c = record {
  tells = tells-more c.loop-branch.used c.loop-branch.assigned c.add_used.new.set c.add_assigned.new.set c.args.branches.now c.loop-branch.branch-index c.branch-item.result c.loop-branch.invariant.tells (omega arith) c.branch-item.is c.in_ok-add_used.ensures c.in_ok-add_assigned.ensures;
  apart = none-more c.loop-branch.used c.loop-branch.assigned c.args.branches.now c.loop-branch.branch-index c.branch-item.result c.loop-branch.invariant.tells (omega arith) c.branch-item.is (sym c.meets.ensures ∙ c.if-meets.false) c.loop-branch.invariant.apart;
}

pub returns-clause-none : goal.returns-clause-none
returns-clause-none c = λ e i j d ij below. c.loop-branch.invariant.apart i j d ij (omega arith)
