use Rattle.std.proofs.Common.{◌≡◌, ◌∙◌, ◌∷◌, ◌++◌, [], ap, subst, map, w32, to_z, of_z}
use Rattle.std.specs.Prelude.{IfOk}
use Rattle.std.proofs.lemmas.Int.{to_z-of_z}
use Rattle.lang_base.specs.declared.value.Value.TheVariants as constant
use Rattle.lang_typed.specs.Plain.{plain_member, plain_program, plain_stmt, stmts_of}
use Rattle.lang_typed.specs.Scope.{member_at}
use Rattle.lang_meaning.specs.Elision.{in_order}
use Rattle.lang_meaning.specs.Expressions.{entered}
use Rattle.lang_meaning.specs.Values.{Int, Object}
use Rattle.exec_frames.specs.Names.{plain_frame, plain_region, plain_value}
use Rattle.exec_walker.specs.States.{plain_level}
use Rattle.exec_walker.proofs.Programs.{member_is, no_member}
use Rattle.exec_walker.proofs.Starting.{main_is, no_main}
use Rattle.exec_walker.proofs.whole.main_level.Goals as goal

pub returns : goal.returns
returns c =
    let program = c.args.program.now in
    let P = plain_program program in
    let member = c.in-Some.member.now in
    let m = plain_member member in
    let n = program.main_member.number in
    let values : map plain_value c.push-2.new.self ≡ Object 0 ∷ Int c.args.argument ∷ [] =
    ap (map plain_value) (c.in_ok-push-2.ensures.ok
    ∙ ap (λ l. l ++ constant.Int (to_z w32 (of_z w32 c.args.argument)) ∷ []) (c.in_ok-push.ensures.ok ∙ ap (λ l. l ++ constant.Obj 0 ∷ []) c.new-values.ensures))
    ∙ ap (λ k. Object 0 ∷ Int k ∷ []) (to_z-of_z w32 c.args.argument c.ranges.argument) in
    let frame = c.in_ok-frame.ensures ∙ ap (λ vs. entered in_order m vs (map plain_region c.new.result) 499) values
    ∙ ap (λ rs. entered in_order m (Object 0 ∷ Int c.args.argument ∷ []) (map plain_region rs) 499) c.new.ensures in
    subst (λ b. IfOk c.beginning-2.result (λ g. plain_level g ≡ b))
    (main_is P c.args.argument (member_at P n) m (stmts_of (map plain_stmt c.as_slice.result.now)) (plain_frame c.in_ok-frame.frame)
    (member_is program n member c.in-Some.ensures.value) (ap (λ ss. stmts_of (map plain_stmt ss)) c.as_slice.ensures) frame)
    c.beginning-2.ensures

pub returns-in_default : goal.returns-in_default
returns-in_default c =
    let program = c.args.program.now in
    let P = plain_program program in
    let n = program.main_member.number in
    subst (λ b. IfOk c.beginning.result (λ g. plain_level g ≡ b))
    (no_main P c.args.argument (member_at P n) (plain_frame c.empty_frame.result) (no_member program n c.in_default.ensures.value) c.empty_frame.ensures)
    c.beginning.ensures
