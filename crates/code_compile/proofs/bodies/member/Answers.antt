use Rattle.std.proofs.Common.{◌≡◌, ◌∙◌, ap, map, ◌++◌, ◌∷◌, [], subst}
use Rattle.std.proofs.lemmas.List.{map-append}
use Rattle.lang_typed.specs.Plain.{plain_member}
use Rattle.code_instrs.specs.Plain.{plain_body, plain_title, of_member}
use Rattle.code_compile.specs.Emitted.{emitted_of, plain_line}
use Rattle.code_compile.specs.Bodies.{body_from}
use Rattle.code_compile.proofs.Generating.{member_done, branch_done, fewer, all_done, none_waits}
use Rattle.code_compile.proofs.Titling.{follows_one, follow_on}
use Rattle.code_compile.proofs.bodies.member.Goals as goal

pub loop-next-init : goal.loop-next-init
loop-next-init c =
    record {
      output = member_done (emitted_of c.args.out.now) c.args.bodies.now (plain_member c.args.member.now) (emitted_of c.begin_member.new.self) (emitted_of c.member_lines.new.out)
          (emitted_of c.take_lines.new.self) c.push.new.self c.requires
          (subst (λ n. emitted_of c.begin_member.new.self ≡ Rattle.code_compile.specs.Emitted.member_begun (emitted_of c.args.out.now) n) c.len.ensures c.in_ok-begin_member.ensures)
          c.in_ok-member_lines.ensures c.take_lines.ensures.taken
          (ap (map plain_body) c.in_ok-push.ensures.ok ∙ map-append plain_body _ _
          ∙ ap (λ b. map plain_body c.args.bodies.now ++ b ∷ [])
          (c.in_ok-body.ensures.made ∙ ap (λ t. body_from (plain_title t) (map plain_line c.take_lines.result) (plain_member c.args.member.now)) c.in_ok-title.ensures ∙ ap (λ lines. body_from of_member lines (plain_member c.args.member.now)) c.take_lines.ensures.lines));
      titled = follows_one c.args.bodies.now c.push.new.self c.in_ok-body.field-0 _ c.in_ok-push.ensures.ok (c.in_ok-body.ensures.titled ∙ c.in_ok-title.ensures) c.in_ok-body.ensures.placed;
    }

pub loop-next-preserved : goal.loop-next-preserved
loop-next-preserved c =
    record {
      output = branch_done (emitted_of c.args.out.now) c.args.bodies.now (plain_member c.args.member.now) c.loop-next.next (emitted_of c.loop-next.out) c.loop-next.bodies
          (emitted_of c.branch-alloc.new.out) c.branch-alloc.new.bodies c.in_ok-branch.ensures.made c.loop-next.invariant.output;
      titled = follow_on c.args.bodies.now c.loop-next.bodies c.branch-alloc.new.bodies _ [] c.loop-next.invariant.titled c.in_ok-branch.ensures.titled;
    }

pub loop-next-smaller : goal.loop-next-smaller
loop-next-smaller c =
    fewer c.loop-next.bodies (plain_member c.args.member.now) c.loop-next.next (emitted_of c.loop-next.out) (emitted_of c.branch-alloc.new.out) c.branch-alloc.new.bodies c.in_ok-branch.ensures.made

pub returns-clause-lines : goal.returns-clause-lines
returns-clause-lines c = c.loop-next.invariant.output.empty

pub returns-clause-made : goal.returns-clause-made
returns-clause-made c =
    all_done (emitted_of c.args.out.now) c.args.bodies.now (plain_member c.args.member.now) c.loop-next.next (emitted_of c.loop-next.out) c.loop-next.bodies
    (none_waits c.loop-next.out.branches c.loop-next.next _ c.len-in-loop-next.ensures c.loop-next-test.false) c.loop-next.invariant.output
