use Rattle.std.proofs.Common.{◌∙◌, ◌++◌, ap, sym}
use Rattle.std.proofs.lemmas.List.{append-nil}
use Rattle.lang_base.specs.Types.{plain_type}
use Rattle.lang_typed.specs.Plain.{plain_program, plain_member}
use Rattle.body_infer.specs.Walked.{all_done, summary_in}
use Rattle.body_infer.proofs.Calling.{on_ok, made_none, made_some}
use Rattle.body_infer.proofs.walk.add_construction.Goals as goal

pub returns-in_default-member_at : goal.returns-in_default-member_at
returns-in_default-member_at c =
    sym (append-nil (all_done c.args.out.now))
    ∙ ap (λ E. all_done c.args.out.now ++ E)
    (sym (made_none c.args.walk.kept.now (plain_program c.args.walk.program.now) (plain_type c.args.ty.now) c.in-Some-constructor_of.number.number c.in-Some.class c.in-Some.args.now
    (sym c.in-Some.ensures) (sym c.in-Some-constructor_of.ensures) (sym c.in_default-member_at.ensures)))

pub returns : goal.returns
returns c =
    let S = c.args.walk.kept.now in
    let n = c.in-Some-constructor_of.number.number in
    let m = plain_member c.in-Some-member_at.member.now in
    on_ok c.add_summary.result (λ h. h ∙ ap (λ all. all_done c.args.out.now ++ summary_in S n m.summary all) c.as_slice.ensures
    ∙ ap (λ E. all_done c.args.out.now ++ E)
    (sym (made_some S (plain_program c.args.walk.program.now) (plain_type c.args.ty.now) n c.in-Some.class m c.in-Some.args.now
    (sym c.in-Some.ensures) (sym c.in-Some-constructor_of.ensures) (sym c.in-Some-member_at.ensures))))
    c.add_summary.ensures
