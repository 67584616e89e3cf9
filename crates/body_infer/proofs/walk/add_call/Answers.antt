use Rattle.std.proofs.Common.{◌∙◌, ◌++◌, ap, sym}
use Rattle.std.proofs.lemmas.List.{append-nil}
use Rattle.lang_base.specs.Types.{plain_type}
use Rattle.lang_typed.specs.Plain.{plain_program, plain_member}
use Rattle.lang_typed.specs.Scope.{row_at}
use Rattle.body_infer.specs.Doing.{seen_as}
use Rattle.body_infer.specs.Walked.{all_done, summary_in}
use Rattle.body_infer.proofs.Calling.{on_ok, callee_none, callee_some}
use Rattle.body_infer.proofs.walk.add_call.Goals as goal

pub returns-in_default-member_at : goal.returns-in_default-member_at
returns-in_default-member_at c =
    let P = plain_program c.args.walk.program.now in
    sym (append-nil (all_done c.args.out.now))
    ∙ ap (λ E. all_done c.args.out.now ++ E)
    (sym (callee_none c.args.walk.kept.now P (plain_type c.args.of.now) c.in-Some.number.number (row_at P c.args.class.number c.args.row.number) c.args.regions.now (sym c.in-Some.ensures) (sym c.in_default-member_at.ensures)))

pub returns : goal.returns
returns c =
    let P = plain_program c.args.walk.program.now in
    let S = c.args.walk.kept.now in
    let n = c.in-Some.number.number in
    let m = plain_member c.in-Some-member_at.member.now in
    let k = c.in-Some-args_of.static_class in
    let args = c.as_slice.ensures ∙ c.in_ok-add_copies.ensures ∙ ap (λ all. all ++ c.args.regions.now) (c.in_ok-all.ensures ∙ ap (λ own. seen_as P k own m.class) c.in_ok-copy.ensures) in
    on_ok c.add_summary.result (λ h. h ∙ ap (λ all. all_done c.args.out.now ++ summary_in S n m.summary all) args
    ∙ ap (λ E. all_done c.args.out.now ++ E)
    (sym (callee_some S P (plain_type c.args.of.now) n k (row_at P c.args.class.number c.args.row.number) m c.in-Some-args_of.args.now c.args.regions.now (sym c.in-Some.ensures) (sym c.in-Some-member_at.ensures) (sym c.in-Some-args_of.ensures))))
    c.add_summary.ensures
