use Rattle.std.proofs.Common.{◌≡◌, ◌++◌}
use Rattle.body_infer.specs.Kept.{summary_kept}
use Rattle.body_infer.proofs.walk.summary_kept.Given as goal

abbrev pub invariant-loop-item : goal.invariant-loop-item
invariant-loop-item l = l.all ++ summary_kept l.item-iterator.b.rest.now l.item-iterator.a.rest.now ≡ summary_kept l.fn.kept l.fn.items
