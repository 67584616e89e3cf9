use Rattle.std.proofs.Common.{map}
use Rattle.lang_typed.specs.Plain.{branches_of}
use Rattle.code_compile.specs.Walked.{plain_branch}
use Rattle.code_compile.proofs.Emits.{on_ok}
use Rattle.code_compile.proofs.Statements.{fork_emitted}
use Rattle.code_compile.proofs.forks.forked.Goals as goal

pub returns : goal.returns
returns c =
    on_ok c.line.result (λ h. fork_emitted _ _ _ _ c.args.place c.args.forking c.in_ok-first.first c.in_ok-bodies.bodies _ (branches_of (map plain_branch c.args.branches.now))
    c.in_ok-first.ensures c.in_ok-bodies.ensures c.in_ok-copies.ensures c.in_ok-queue.ensures c.in_ok-sited.ensures h) c.line.ensures
