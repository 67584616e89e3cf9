use Rattle.std.proofs.Common.{◌∙◌, ◌++◌, [], map, ap}
use Rattle.lang_typed.specs.Plain.{plain_program, plain_stmt, plain_member, stmts_of}
use Rattle.body_infer.specs.Kept.{program_kept}
use Rattle.body_infer.specs.Doing.{effects_of_all}
use Rattle.body_infer.specs.Walked.{all_done, scope_of}
use Rattle.body_infer.proofs.Blocks.{body_agrees}
use Rattle.body_infer.proofs.asking.done_by.Goals as goal

pub returns : goal.returns
returns c = λ k.
    let P = program_kept c.args.walk.kept.now (plain_program c.args.walk.program.now) in
    let m = plain_member c.args.member.now in
    c.in_ok-block.ensures.done
    ∙ ap (λ os. all_done os ++ effects_of_all P (scope_of c.new-scope.result) (stmts_of (map plain_stmt c.as_slice.result.now))) c.new-out.ensures
    ∙ ap (λ ps. effects_of_all P (scope_of ps) (stmts_of (map plain_stmt c.as_slice.result.now))) c.new-scope.ensures
    ∙ ap (λ ss. effects_of_all P (scope_of []) (stmts_of (map plain_stmt ss))) c.as_slice.ensures
    ∙ body_agrees P k m m.body
