use Rattle.std.proofs.Common.{◌≡◌, ◌++◌}
use Rattle.lang_typed.specs.Effects.{summary_with}
use Rattle.body_infer.specs.Kept.{summary_kept}
use Rattle.body_infer.specs.Walked.{all_done, summary_in}
use Rattle.body_infer.proofs.walk.add_summary.Given as goal

abbrev pub invariant-loop-item : goal.invariant-loop-item
invariant-loop-item l =
    all_done l.out ++ summary_with l.args (summary_kept l.item-iterator.b.rest.now l.item-iterator.a.rest.now)
    ≡ all_done l.fn.out ++ summary_in l.fn.walk.kept.now l.fn.number.number l.fn.member.summary l.fn.args
