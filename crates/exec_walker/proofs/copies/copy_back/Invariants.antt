use Rattle.std.proofs.Common.{◌≡◌, drop, map}
use Rattle.lang_typed.specs.Plain.{branches_of}
use Rattle.lang_meaning.specs.Counts.{copied}
use Rattle.lang_meaning.specs.Statements.{all_copies}
use Rattle.exec_frames.specs.Names.{plain_value}
use Rattle.exec_walker.specs.States.{plain_branch, plain_given}
use Rattle.exec_walker.proofs.copies.copy_back.Given as goal

abbrev pub invariant-loop-given : goal.invariant-loop-given
invariant-loop-given l =
    copied (all_copies (branches_of (map plain_branch l.branches))) (map plain_given (drop l.given-index l.back)) (map plain_value l.values)
    ≡ copied (all_copies (branches_of (map plain_branch l.branches))) (map plain_given l.back) (map plain_value l.fn.values)
