use Rattle.std.proofs.Common.{◌∙◌, ◌+◌, ap, subst, map}
use Rattle.std.specs.Prelude.{slice_set}
use Rattle.std.proofs.lemmas.Result.{err_from_is_err_and}
use Rattle.lang_base.specs.declared.value.Value.{Value as Constant}
use Rattle.lang_typed.specs.Plain.{plain_stmt}
use Rattle.lang_meaning.specs.Actions.{Look}
use Rattle.lang_meaning.specs.Counts.{reference}
use Rattle.lang_meaning.specs.Elision.{after}
use Rattle.exec_walker.specs.Stores.{Holds}
use Rattle.exec_walker.specs.Walk.{or_null, parts_at, with_length}
use Rattle.exec_walker.specs.States.{ComesTo, IsOverAt, plain_level, plain_waiting}
use Rattle.exec_walker.proofs.OverLimit.{parts_over}
use Rattle.exec_walker.proofs.Halting.{refused}
use Rattle.exec_walker.proofs.walker.Walker.parts_of_array.Goals as goal

pub returns-in_err-len : goal.returns-in_err-len
returns-in_err-len c = λ L w h.
    let g = plain_level c.args.self.now.level in
    let ws = map plain_waiting c.args.self.now.waiting in
    let k = c.args.part.number in
    let s = plain_stmt c.args.body.now in
    let out = err_from_is_err_and c.from_residual.result c.from_residual.ensures.1 in
    rw (out.1, out.2) (refused Constant L c.in_err-len.field-0.0 _ _ (Holds L c.look_length.new.self) (after (Look c.in-Some.array) w) (c.in_err-len.ensures.store L w h) (λ over.
    subst (λ o. IsOverAt L (or_null c.args.place o ws w (λ n. parts_at c.args.place k s (with_length k n w g) ws (after (Look n) w))))
    (c.in-Some.ensures ∙ ap reference c.slot.ensures)
    (parts_over L c.args.place k s (with_length k c.in-Some.array w g) ws (after (Look c.in-Some.array) w) over)))

pub returns : goal.returns
returns c = λ L w h.
    let g = plain_level c.args.self.now.level in
    let ws = map plain_waiting c.args.self.now.waiting in
    let k = c.args.part.number in
    let s = plain_stmt c.args.body.now in
    let n = c.in-Some.array in
    subst (λ s. ComesTo L c.parts.result c.parts.new.self s)
    (ap (λ us. parts_at c.args.place k s (record g { frame = record g.frame { values = us } }) ws (after (Look n) w))
    (c.set_slot_after.ensures ∙ ap (slice_set g.frame.values (k + 2)) (c.in_ok-len.ensures.len L w h))
    ∙ ap (λ o. or_null c.args.place o ws w (λ n. parts_at c.args.place k s (with_length k n w g) ws (after (Look n) w))) (c.in-Some.ensures ∙ ap reference c.slot.ensures))
    (c.parts.ensures L (after (Look n) w) (c.in_ok-len.ensures.store L w h))
