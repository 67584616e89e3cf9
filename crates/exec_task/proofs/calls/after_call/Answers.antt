use Rattle.std.proofs.Common.{◌≡◌, ◌∷◌, length, map, reverse, take, refl, sym, ap, ◌∙◌}
use Rattle.std.specs.Prelude.{option_map}
use Rattle.std.proofs.lemmas.List.{length-map}
use Rattle.lang_meaning.specs.Counts.{class_entered, class_seen}
use Rattle.code_instrs.specs.Machine.{Nowhere, On}
use Rattle.code_instrs.specs.Plain.{plain_class, plain_code, plain_method, parent_of, method_at}
use Rattle.exec_task.specs.Answers.{first_at, method_start}
use Rattle.exec_frames.specs.Names.{plain_value}
use Rattle.exec_task.specs.Tasks.{plain_level, plain_frame, plain_seen, plain_answer}
use Rattle.exec_task.proofs.Leading.{call_short, call_leads, no_row, enters_row}
use Rattle.exec_task.proofs.calls.after_call.Goals as goal

pub returns-in_default-clause-ok : goal.returns-in_default-clause-ok
returns-in_default-clause-ok c = λ task place.
    call_short (plain_code c.args.code.now) task (plain_answer c.args.answer) Nowhere place c.args.call.now.class c.args.call.now.row c.args.call.now.formals
    c.args.call.now.regions.now c.args.level.now.stack (plain_level c.args.level.now) (map plain_level c.args.callers.now) refl (sym c.in_default.ensures)

pub returns-in_default-method_at-clause-ok : goal.returns-in_default-method_at-clause-ok
returns-in_default-method_at-clause-ok c = λ task place.
    let seen : plain_seen c.class_entered-seen.result ≡ class_entered (parent_of (plain_code c.args.code.now)) (length (map (plain_class c.args.code.now.members) c.args.code.now.classes)) c.args.call.now.class (class_seen (plain_answer c.args.answer)) =
    c.class_entered-seen.ensures
    ∙ ap (λ k. class_entered (parent_of (plain_code c.args.code.now)) (length c.args.code.now.classes) c.args.call.now.class k) c.class_seen.ensures
    ∙ ap (λ n. class_entered (parent_of (plain_code c.args.code.now)) n c.args.call.now.class (class_seen (plain_answer c.args.answer))) (sym (length-map c.args.code.now.classes (plain_class c.args.code.now.members))) in
    call_leads (plain_code c.args.code.now) task (plain_answer c.args.answer) Nowhere place c.args.call.now.class c.args.call.now.row c.args.call.now.formals
    c.args.call.now.regions.now c.args.level.now.stack (plain_level c.args.level.now) (map plain_level c.args.callers.now) refl c.in-Some.receiver.now (sym c.in-Some.ensures)
    (no_row (plain_code c.args.code.now) task c.args.call.now.row
    (class_entered (parent_of (plain_code c.args.code.now)) (length (map (plain_class c.args.code.now.members) c.args.code.now.classes)) c.args.call.now.class (class_seen (plain_answer c.args.answer))) _ _ _ _
    (ap (option_map plain_method) (sym c.in_default-method_at.is) ∙ c.method_at.ensures
    ∙ ap (λ q. method_at (plain_code c.args.code.now) q.0 c.args.call.now.row) seen))

pub returns-clause-ok : goal.returns-clause-ok
returns-clause-ok c = λ task place.
    let seen : plain_seen c.class_entered-seen.result ≡ class_entered (parent_of (plain_code c.args.code.now)) (length (map (plain_class c.args.code.now.members) c.args.code.now.classes)) c.args.call.now.class (class_seen (plain_answer c.args.answer)) =
    c.class_entered-seen.ensures
    ∙ ap (λ k. class_entered (parent_of (plain_code c.args.code.now)) (length c.args.code.now.classes) c.args.call.now.class k) c.class_seen.ensures
    ∙ ap (λ n. class_entered (parent_of (plain_code c.args.code.now)) n c.args.call.now.class (class_seen (plain_answer c.args.answer))) (sym (length-map c.args.code.now.classes (plain_class c.args.code.now.members))) in
    call_leads (plain_code c.args.code.now) task (plain_answer c.args.answer)
    (On (plain_level c.enter_body.new.level) (map plain_level c.enter_body.new.callers)) place c.args.call.now.class c.args.call.now.row c.args.call.now.formals
    c.args.call.now.regions.now c.args.level.now.stack (plain_level c.args.level.now) (map plain_level c.args.callers.now) refl c.in-Some.receiver.now (sym c.in-Some.ensures)
    (enters_row (plain_code c.args.code.now) task c.args.call.now.row
    (class_entered (parent_of (plain_code c.args.code.now)) (length (map (plain_class c.args.code.now.members) c.args.code.now.classes)) c.args.call.now.class (class_seen (plain_answer c.args.answer)))
    (plain_method c.in-Some-method_at.method)
    (plain_value c.in-Some.receiver.now ∷ reverse (take c.args.call.now.formals (map plain_value c.args.level.now.stack))) c.args.call.now.regions.now _
    (plain_level c.enter_body.new.level) (map plain_level c.args.callers.now) (map plain_level c.enter_body.new.callers)
    (ap (option_map plain_method) (sym c.in-Some-method_at.is) ∙ c.method_at.ensures
    ∙ ap (λ q. method_at (plain_code c.args.code.now) q.0 c.args.call.now.row) seen)
    (c.in_ok-enter_body.ensures.ok.0
    ∙ ap first_at (c.in_ok-start.ensures
    ∙ ap (λ q. method_start (plain_code c.args.code.now) (plain_method c.in-Some-method_at.method) q (map plain_value c.in_ok-values.values) (plain_frame c.args.level.now.frame) c.args.call.now.regions.now) seen
    ∙ ap (λ vs. method_start (plain_code c.args.code.now) (plain_method c.in-Some-method_at.method)
    (class_entered (parent_of (plain_code c.args.code.now)) (length (map (plain_class c.args.code.now.members) c.args.code.now.classes)) c.args.call.now.class (class_seen (plain_answer c.args.answer)))
    vs (plain_frame c.args.level.now.frame) c.args.call.now.regions.now) c.in_ok-values.ensures))
    c.in_ok-enter_body.ensures.ok.1)
