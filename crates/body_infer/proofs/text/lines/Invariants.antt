use Rattle.std.proofs.Common.{◌≡◌, ◌++◌, map}
use Rattle.lang_typed.specs.Names.{named_member, names_of}
use Rattle.lang_typed.specs.Plain.{plain_member, plain_program}
use Rattle.body_infer.specs.Kept.{members_kept, program_kept}
use Rattle.body_infer.specs.Lines.{lines_from, lines_of}
use Rattle.body_infer.proofs.text.lines.Given as goal

abbrev pub invariant-loop-member : goal.invariant-loop-member
invariant-loop-member l =
    l.out
    ++ lines_from (names_of l.fn.program) (members_kept l.member-iterator.b.rest.now (map plain_member l.member-iterator.a.rest.now))
    (map named_member l.member-iterator.a.rest.now)
    ≡ lines_of (program_kept l.fn.kept (plain_program l.fn.program)) (names_of l.fn.program)
