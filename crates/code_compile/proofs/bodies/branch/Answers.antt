use Rattle.std.proofs.Common.{◌∙◌, ap, map, ◌++◌, ◌∷◌, []}
use Rattle.std.proofs.lemmas.List.{map-append}
use Rattle.lang_typed.specs.Plain.{plain_member}
use Rattle.code_instrs.specs.Plain.{plain_body, of_branch}
use Rattle.code_scheme.specs.Whole.{branch_piece}
use Rattle.code_compile.specs.Emitted.{emitted_of, plain_pending, without_lines}
use Rattle.code_compile.specs.Bodies.{body_from}
use Rattle.code_compile.proofs.Emits.{on_ok_of}
use Rattle.code_compile.proofs.Generating.{fresh_lines, waiting_at}
use Rattle.code_compile.proofs.Titling.{follows_one}
use Rattle.code_compile.proofs.bodies.branch.Goals as goal

pub returns-clause-made : goal.returns-clause-made
returns-clause-made c =
    on_ok_of c.push.result c.push.ensures.ok (λ pushed. record {
      branch = plain_pending c.index-as_slice-at.result;
      there = waiting_at c.args.out.now.branches _ c.args.at c.index-as_slice-at.result c.as_slice.ensures c.requires.there c.index-as_slice-at.is;
      emitted = c.take_lines.ensures.taken ∙ ap without_lines c.in_ok-branch_lines.ensures.is;
      body = ap (map plain_body) pushed ∙ map-append plain_body _ _
          ∙ ap (λ b. map plain_body c.args.bodies.now ++ b ∷ [])
          (c.in_ok-body.ensures.made
          ∙ ap (λ lines. body_from (of_branch c.index-as_slice-at.result.site c.index-as_slice-at.result.number) lines (plain_member c.args.member.now))
          (c.take_lines.ensures.lines ∙ fresh_lines (emitted_of c.args.out.now) _ (λ k. branch_piece k (plain_pending c.index-as_slice-at.result)) c.requires.lines c.in_ok-branch_lines.ensures));
    })

pub returns-clause-titled : goal.returns-clause-titled
returns-clause-titled c =
    on_ok_of c.push.result c.push.ensures.ok
    (λ pushed. follows_one c.args.bodies.now c.push.new.self c.in_ok-body.field-0 _ pushed c.in_ok-body.ensures.titled c.in_ok-body.ensures.placed)
