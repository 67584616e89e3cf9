use Rattle.std.proofs.Common.{◌∙◌, ap, sym, map}
use Rattle.std.proofs.lemmas.List.{drop_all}
use Rattle.lang_typed.specs.Plain.{branches_of}
use Rattle.code_compile.specs.Emitted.{emitted_of, after}
use Rattle.code_compile.specs.Walked.{plain_branch, queued_piece}
use Rattle.code_compile.proofs.Operands.{next_is}
use Rattle.code_compile.proofs.Statements.{one_queued, none_queued}
use Rattle.code_compile.proofs.forks.queue.Goals as goal

pub loop-number-preserved : goal.loop-number-preserved
loop-number-preserved c =
    one_queued (emitted_of c.loop-number.out) (emitted_of c.branch-out.new.self) c.branch-item.result _ _ c.loop-number.number
    (next_is _ c.loop-number.number c.branch-item.result c.loop-number-test.true c.branch-item.is) c.in_ok-branch.ensures
    ∙ c.loop-number.invariant

pub returns : goal.returns
returns c =
    record {
      is = sym (none_queued (emitted_of c.loop-number.out) _ c.loop-number.number (drop_all c.loop-number.number _ c.loop-number-test.false)) ∙ c.loop-number.invariant
          ∙ ap (λ xs. after (emitted_of c.args.out.now) (λ k p. queued_piece k.site 0 (branches_of (map plain_branch xs)))) c.as_slice-branch-items.ensures;
    }
