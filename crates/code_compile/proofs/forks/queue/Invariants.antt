use Rattle.std.proofs.Common.{◌≡◌, map, drop}
use Rattle.lang_typed.specs.Plain.{branches_of}
use Rattle.code_compile.specs.Emitted.{emitted_of, after}
use Rattle.code_compile.specs.Walked.{plain_branch, queued_piece}
use Rattle.code_compile.proofs.forks.queue.Given as goal

abbrev pub invariant-loop-number : goal.invariant-loop-number
invariant-loop-number l =
    after (emitted_of l.out) (λ k p. queued_piece k.site l.number (branches_of (map plain_branch (drop l.number l.branch-items))))
    ≡ after (emitted_of l.fn.out) (λ k p. queued_piece k.site 0 (branches_of (map plain_branch l.branch-items)))
