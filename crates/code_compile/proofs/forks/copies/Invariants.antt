use Rattle.std.proofs.Common.{◌≡◌, ◌++◌, map, drop}
use Rattle.lang_typed.specs.Plain.{branches_of}
use Rattle.code_scheme.specs.Scheme.{copy_lists}
use Rattle.code_compile.specs.Walked.{plain_branch}
use Rattle.code_compile.proofs.forks.copies.Given as goal

abbrev pub invariant-loop-branch : goal.invariant-loop-branch
invariant-loop-branch l =
    map (λ c. c.slots) l.made ++ copy_lists (branches_of (map plain_branch (drop l.branch-index l.branch-items)))
    ≡ copy_lists (branches_of (map plain_branch l.branch-items))
