use Rattle.std.proofs.Common.{◌≡◌, ◌==◌, drop, map}
use Rattle.std.specs.List.{list_any}
use Rattle.lang_typed.specs.Plain.{branches_of}
use Rattle.lang_meaning.specs.Statements.{all_copies}
use Rattle.exec_walker.specs.States.{plain_branch}
use Rattle.exec_walker.proofs.copies.is_copied.Given as goal

abbrev pub invariant-loop-branch : goal.invariant-loop-branch
invariant-loop-branch l =
    list_any (λ y. l.slot == y) (all_copies (branches_of (map plain_branch (drop l.branch-index l.branches))))
    ≡ list_any (λ y. l.slot == y) (all_copies (branches_of (map plain_branch l.branches)))
