use Rattle.std.proofs.Common.{◌≡◌, ◌++◌, map, drop}
use Rattle.lang_typed.specs.Plain.{branches_of}
use Rattle.code_scheme.specs.Scheme.{numbers}
use Rattle.code_compile.specs.Walked.{plain_branch}
use Rattle.code_compile.proofs.forks.numbers.Given as goal

abbrev pub invariant-loop-branch : goal.invariant-loop-branch
invariant-loop-branch l =
    l.made ++ numbers l.next (branches_of (map plain_branch (drop l._branch-index l._branch-items)))
    ≡ numbers l.fn.first (branches_of (map plain_branch l._branch-items))
