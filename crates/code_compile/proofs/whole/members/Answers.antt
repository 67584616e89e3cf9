use Rattle.std.proofs.Common.{◌∙◌, ap, map, subst}
use Rattle.std.proofs.lemmas.List.{drop_all}
use Rattle.lang_typed.specs.Plain.{plain_member}
use Rattle.code_scheme.specs.Whole.{first, members_output, member_numbers}
use Rattle.code_compile.specs.Emitted.{emitted_of}
use Rattle.code_compile.proofs.Operands.{next_is}
use Rattle.code_compile.proofs.Members.{none_yet, one_more, all_output, all_owners, all_numbers}
use Rattle.code_compile.specs.Titles.{Follow}
use Rattle.code_compile.proofs.Titling.{titled_none, titled_one, titled_all, title_in}
use Rattle.code_compile.proofs.whole.members.Goals as goal

pub loop-m-init : goal.loop-m-init
loop-m-init c = record { output = none_yet _ _ c.new-made.result _ c.new-made.ensures c.requires; titled = titled_none _ _ _ }

pub member-requires : goal.member-requires
member-requires c = c.loop-m.invariant.output.lines

pub loop-m-preserved : goal.loop-m-preserved
loop-m-preserved c =
    let left = next_is _ c.loop-m.m-index c.m-item.result c.loop-m-test.true c.m-item.is in
    record {
      output = one_more (emitted_of c.loop-m.out) (emitted_of c.member.new.out) c.loop-m.bodies c.member.new.bodies c.loop-m.made c.push.new.self c.len.result c.loop-m.m-index _ c.m-item.result
          left c.len.ensures c.in_ok-push.ensures.ok c.in_ok-member.ensures.lines c.in_ok-member.ensures.made c.loop-m.invariant.output;
      titled = titled_one c.args.classes.now c.args.bodies.now c.loop-m.bodies c.member.new.bodies c.m-item.result _ _ _ _ left c.get-owner.ensures.value c.in_ok-member.ensures.titled
          c.loop-m.invariant.titled;
    }

pub returns-clause-owners : goal.returns-clause-owners
returns-clause-owners c =
    all_owners (emitted_of c.loop-m.out) c.loop-m.bodies c.loop-m.made c.loop-m.m-index _ (drop_all c.loop-m.m-index _ c.loop-m-test.false) c.loop-m.invariant.output
    ∙ ap (map (λ m. m.class.number)) c.as_slice-m-items.ensures

pub returns-clause-numbers : goal.returns-clause-numbers
returns-clause-numbers c =
    all_numbers (emitted_of c.loop-m.out) c.loop-m.bodies c.loop-m.made c.loop-m.m-index _ (drop_all c.loop-m.m-index _ c.loop-m-test.false) c.loop-m.invariant.output
    ∙ ap (λ xs. member_numbers first (map plain_member xs)) c.as_slice-m-items.ensures

pub returns-clause-output : goal.returns-clause-output
returns-clause-output c =
    all_output (emitted_of c.loop-m.out) c.loop-m.bodies c.loop-m.made c.loop-m.m-index _ (drop_all c.loop-m.m-index _ c.loop-m-test.false) c.loop-m.invariant.output
    ∙ ap (λ xs. members_output first (map plain_member xs)) c.as_slice-m-items.ensures

pub returns-clause-titled : goal.returns-clause-titled
returns-clause-titled c =
    subst (λ ms. Follow c.args.bodies.now c.loop-m.bodies (map (title_in c.args.classes.now) ms)) c.as_slice-m-items.ensures
    (titled_all c.args.classes.now c.args.bodies.now c.loop-m.bodies _ _ (drop_all c.loop-m.m-index _ c.loop-m-test.false) c.loop-m.invariant.titled)
