use Rattle.std.proofs.Common.{◌∙◌, ap, map}
use Rattle.std.proofs.lemmas.List.{drop_all}
use Rattle.code_compile.specs.Emitted.{plain_line}
use Rattle.code_compile.proofs.Operands.{next_at}
use Rattle.code_compile.proofs.Generating.{split_one, split_all}
use Rattle.code_compile.proofs.bodies.split.Goals as goal

pub loop-line-preserved : goal.loop-line-preserved
loop-line-preserved c =
    split_one _ _ _ _ _ _ _ _ (next_at _ c.loop-line.line-index _ c.loop-line-test.true) c.in_ok-push.ensures.ok c.in_ok-push-2.ensures.ok c.loop-line.invariant

pub returns-clause-lines : goal.returns-clause-lines
returns-clause-lines c = split_all _ _ _ _ (drop_all c.loop-line.line-index _ c.loop-line-test.false) c.loop-line.invariant ∙ ap (map plain_line) c.as_slice-line-items.ensures

pub returns-clause-even : goal.returns-clause-even
returns-clause-even c = c.loop-line.invariant.even
