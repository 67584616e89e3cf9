use Rattle.std.proofs.Common.{arith, ◌≡◌, ◌∷◌, ◌-◌, suc, map, reverse, take, drop, refl, sym, ap, ◌∙◌}
use Rattle.std.proofs.lemmas.Result.{IfOk-weaker}
use Rattle.lang_meaning.specs.Actions.{Frame}
use Rattle.lang_meaning.specs.Counts.{name_made}
use Rattle.lang_meaning.specs.Regions.{around, concrete}
use Rattle.code_instrs.specs.Machine.{On}
use Rattle.code_instrs.specs.Plain.{plain_code}
use Rattle.exec_task.specs.Answers.{first_at}
use Rattle.exec_task.specs.Frames.{frame_of}
use Rattle.exec_frames.specs.Names.{plain_value}
use Rattle.exec_task.specs.Names.{names_of, plain_region}
use Rattle.exec_task.specs.Tasks.{plain_level, plain_frame, plain_answer, state_in}
use Rattle.exec_task.proofs.Leading.{make_leads, construct_leads}
use Rattle.exec_task.proofs.calls.after_creation.Goals as goal

pub returns-in_default-clause-ok : goal.returns-in_default-clause-ok
returns-in_default-clause-ok c =
    IfOk-weaker c.after_making.result _ _ (λ s l task place. make_leads (plain_code c.args.code.now) task (plain_answer c.args.answer.now)
    (state_in s c.after_making.new.self c.args.callers.now) place c.args.class c.args.formals c.args.regions.now (plain_level c.args.level.now)
    (map plain_level c.args.callers.now) (sym c.constructor_of.ensures ∙ c.in_default.is) (l c.args.callers.now)) c.after_making.ensures.ok

pub returns-clause-ok : goal.returns-clause-ok
returns-clause-ok c = λ task place.
    let left : c.saturating_sub-left.result ≡ c.args.level.now.frame.left - 1 = omega arith in
    let own = map (concrete (names_of 0) (around (plain_frame c.args.level.now.frame))) c.args.regions.now in
    let given = reverse (take c.args.formals (map plain_value c.args.level.now.stack)) in
    construct_leads (plain_code c.args.code.now) task (plain_answer c.args.answer.now)
    (On (plain_level c.enter_constructor.new.level) (map plain_level c.enter_constructor.new.callers)) place c.args.class c.args.formals c.in-Some.body
    c.args.regions.now (plain_level c.args.level.now) (plain_level c.enter_constructor.new.level) (map plain_level c.args.callers.now)
    (map plain_level c.enter_constructor.new.callers) (sym c.constructor_of.ensures ∙ c.in-Some.is)
    (c.in_ok-enter_constructor.ensures.ok.0
    ∙ ap (λ (f : Frame _ _). first_at (record { body = c.in-Some.body; frame = f })) (c.in_ok-frame.ensures
    ∙ ap (λ vs. frame_of (names_of 0) (plain_code c.args.code.now) c.in-Some.body vs (map plain_region c.in_ok-regions.regions) c.saturating_sub-left.result)
    (c.in_ok-values.ensures ∙ ap (λ v. v ∷ given) c.name_made-made.ensures)
    ∙ ap (λ rs. frame_of (names_of 0) (plain_code c.args.code.now) c.in-Some.body (name_made (plain_answer c.args.answer.now) ∷ given) rs c.saturating_sub-left.result) c.in_ok-regions.ensures
    ∙ ap (frame_of (names_of 0) (plain_code c.args.code.now) c.in-Some.body (name_made (plain_answer c.args.answer.now) ∷ given) own) left))
    (c.in_ok-enter_constructor.ensures.ok.1
    ∙ ap (λ v. record (plain_level c.args.level.now) { at = suc c.args.level.now.at; stack = v ∷ drop c.args.formals (map plain_value c.args.level.now.stack) } ∷ map plain_level c.args.callers.now) c.name_made-made.ensures)
    refl
