use Rattle.std.proofs.Common.{◌≡◌, ◌∙◌, ◌∷◌, ◌<◌, ◌-◌, suc, sym, ap, subst, map, drop, take, reverse, length, arith, Option, false}
use Rattle.std.specs.Prelude.{option_map}
use Rattle.std.proofs.lemmas.List.{length-map}
use Rattle.std.proofs.lemmas.Result.{err_from_is_err_and}
use Rattle.lang_typed.specs.Plain.{plain_program, plain_class}
use Rattle.lang_typed.specs.Scope.{parent_of}
use Rattle.lang_meaning.specs.Actions.{Look}
use Rattle.lang_meaning.specs.Counts.{class_entered, reference, slot_value}
use Rattle.lang_meaning.specs.Elision.{in_order, after}
use Rattle.lang_meaning.specs.Regions.{around, concrete, some_long}
use Rattle.exec_frames.specs.declared.classes.Seen.{Seen}
use Rattle.exec_frames.specs.Classes.{plain_seen}
use Rattle.exec_frames.specs.Names.{plain_value}
use Rattle.exec_walker.specs.Stores.{Holds}
use Rattle.exec_walker.specs.States.{ComesTo, IsOverAt, plain_level, plain_waiting}
use Rattle.exec_walker.proofs.Calling.{object_of, drop_more, called_is, enters_over, enters_same}
use Rattle.exec_walker.proofs.Halting.{refused}
use Rattle.exec_frames.proofs.Dropped.{map_drop}
use Rattle.exec_walker.proofs.walker.Walker.call.Goals as goal

pub returns-in_err-seen : goal.returns-in_err-seen
returns-in_err-seen c = λ L w h.
    let P = plain_program c.args.program.now in
    let call = c.args.call in
    let g = plain_level c.args.self.now.level in
    let ws = map plain_waiting c.args.self.now.waiting in
    let own = map (concrete in_order (around g.frame)) call.regions.now in
    let n = c.in-Some.object in
    let some : 0 < g.frame.left = omega arith in
    let short : some_long own ≡ false = sym (c.some_long.ensures ∙ ap some_long c.in_ok-own.ensures) ∙ c.if-some_long.false in
    let out = err_from_is_err_and c.from_residual-in_err-seen.result c.from_residual-in_err-seen.ensures.1 in
    rw (out.1, out.2) (refused (Option Seen) L c.in_err-seen.field-0.0 _ _ (Holds L c.look_class.new.self) (after (Look n) w) (c.in_err-seen.ensures.store L w h) (λ over.
    subst (λ s. IsOverAt L s)
    (called_is P g.left call.place call.class call.row own (reference (slot_value g.operands call.actuals)) n (reverse (take call.actuals g.operands)) _ ws w some short
    (c.in-Some.ensures ∙ ap reference c.operand-receiver.ensures))
    (enters_over P L _ _ _ _ own _ ws (after (Look n) w) over)))

pub returns : goal.returns
returns c = λ L w h.
    let program = c.args.program.now in
    let P = plain_program program in
    let call = c.args.call in
    let level = c.args.self.now.level in
    let g = plain_level level in
    let ws = map plain_waiting c.args.self.now.waiting in
    let own = map (concrete in_order (around g.frame)) call.regions.now in
    let n = c.in-Some.object in
    let some : 0 < g.frame.left = omega arith in
    let short : some_long own ≡ false = sym (c.some_long.ensures ∙ ap some_long c.in_ok-own.ensures) ∙ c.if-some_long.false in
    let seen = c.class_entered-seen.ensures
    ∙ ap (λ k. class_entered (parent_of P) k call.class (option_map plain_seen c.in_ok-seen.seen)) (sym (length-map program.classes (plain_class program.classes)))
    ∙ ap (class_entered (parent_of P) (length P.classes) call.class) (c.in_ok-seen.ensures.seen L w h) in
    let values = c.in_ok-values.ensures ∙ ap (λ v. v ∷ reverse (take call.actuals g.operands)) (object_of (plain_value c.operand-receiver.result) n c.in-Some.ensures) in
    let operands = ap (map plain_value) (c.drop_top-2.ensures ∙ ap (drop 1) c.drop_top.ensures ∙ drop_more call.actuals level.operands)
    ∙ map_drop plain_value (suc call.actuals) level.operands in
    subst (λ s. ComesTo L c.enter_row.result c.enter_row.new.self s)
    (enters_same P (g.frame.left - 1) call.row _ _ _ _ _ _ _ _ ws (after (Look n) w) seen values c.in_ok-own.ensures (ap (λ vs. record g { operands = vs }) operands)
    ∙ called_is P g.left call.place call.class call.row own (reference (slot_value g.operands call.actuals)) n (reverse (take call.actuals g.operands)) _ ws w some short
    (c.in-Some.ensures ∙ ap reference c.operand-receiver.ensures))
    (c.enter_row.ensures L (after (Look n) w) (c.in_ok-seen.ensures.store L w h))
