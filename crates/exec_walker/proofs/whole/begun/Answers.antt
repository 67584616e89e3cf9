use Rattle.std.proofs.Common.{◌≡◌, ◌∙◌, [], ap, subst, map, suc, false, w32}
use Rattle.std.proofs.lemmas.Int.{to_z-of_z}
use Rattle.std.proofs.lemmas.Result.{err_from_is_err_and}
use Rattle.lang_base.specs.declared.value.Value.{Value as Constant}
use Rattle.lang_base.specs.FirstValues.{constant_of}
use Rattle.lang_typed.specs.Plain.{plain_program}
use Rattle.lang_meaning.specs.Actions.{New}
use Rattle.lang_meaning.specs.Elision.{after, in_order, root_task}
use Rattle.lang_meaning.specs.Values.{An_object}
use Rattle.exec_frames.specs.Names.{plain_region, plain_value}
use Rattle.exec_walker.specs.Stores.{Holds}
use Rattle.exec_walker.specs.Walk.{root_level}
use Rattle.exec_walker.specs.Outcome.{nothing}
use Rattle.exec_walker.specs.States.{plain_level, plain_waiting}
use Rattle.exec_walker.proofs.Starting.{first_made, start_refused}
use Rattle.exec_walker.proofs.whole.begun.Goals as goal

pub returns-in_err-make_object : goal.returns-in_err-make_object
returns-in_err-make_object c =
    let P = plain_program c.args.program.now in
    let n = suc c.args.limits.steps in
    let class = c.args.program.now.main_class.number in
    let x = An_object class (map plain_region c.new.result) (map plain_value (map constant_of c.as_slice.result.now)) in
    let thing = ap (λ rs. An_object class (map plain_region rs) (map plain_value (map constant_of c.as_slice.result.now))) c.new.ensures
    ∙ ap (An_object class []) (ap (λ held. map plain_value (map constant_of held)) c.as_slice.ensures ∙ c.in_ok-fields.ensures) in
    let out = err_from_is_err_and c.from_residual-in_err-make_object.result c.from_residual-in_err-make_object.ensures.1 in
    rw (out.1, out.2) (start_refused P Constant c.args.argument c.args.limits c.in_err-make_object.field-0.0 (Holds c.args.limits c.make_object.new.self)
    (after (New x false) (nothing n)) (first_made P n x thing) (c.in_err-make_object.ensures.store c.args.limits (nothing n) c.empty_store-store.ensures))

pub returns : goal.returns
returns c =
    let P = plain_program c.args.program.now in
    let n = suc c.args.limits.steps in
    let class = c.args.program.now.main_class.number in
    let x = An_object class (map plain_region c.new.result) (map plain_value (map constant_of c.as_slice.result.now)) in
    let thing = ap (λ rs. An_object class (map plain_region rs) (map plain_value (map constant_of c.as_slice.result.now))) c.new.ensures
    ∙ ap (An_object class []) (ap (λ held. map plain_value (map constant_of held)) c.as_slice.ensures ∙ c.in_ok-fields.ensures) in
    let level : plain_level c.in_ok-main_level.field-0 ≡ root_level (root_task in_order P 0 c.args.argument) =
    c.in_ok-main_level.ensures ∙ ap (λ a. root_level (root_task in_order P 0 a)) (to_z-of_z w32 c.args.argument c.ranges.argument) in (
      level,
      ap (map plain_waiting) c.new-2.ensures,
      subst (Holds c.args.limits c.make_object.new.self) (first_made P n x thing)
          (c.in_ok-make_object.ensures.store c.args.limits (nothing n) c.empty_store-store.ensures),
    )
