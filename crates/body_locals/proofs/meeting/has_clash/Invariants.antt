use Rattle.body_locals.proofs.Earlier.{NoneAmong, Tells}
use Rattle.body_locals.proofs.meeting.has_clash.Given as goal

abbrev pub invariant-loop-branch : goal.invariant-loop-branch
invariant-loop-branch l = record {
  tells : Tells l.used l.assigned l.branches l.branch-index;
  apart : NoneAmong l.branches l.branch-index;
}
