use Rattle.std.proofs.Common.{◌∙◌, ◌++◌, ap, map, sym, append_assoc}
use Rattle.std.specs.Option.{option_map_or}
use Rattle.std.specs.Prelude.{[], slice_get}
use Rattle.std.proofs.lemmas.List.{append-nil}
use Rattle.lang_typed.specs.declared.program.Class.{Class}
use Rattle.lang_typed.proofs.FirstValues.{own_along, along_last, along_none, value_of, values_are}
use Rattle.lang_typed.proofs.inherited.first_values.Goals as goal

pub loop-at-preserved : goal.loop-at-preserved
loop-at-preserved c =
    let classes = c.args.program.now.classes in
    let before = c.loop-at.values in
    let left = c.pop.new.self in
    let own = option_map_or (λ (c : Class). map value_of c.fields) (slice_get classes c.in-Some.at) [] in
    ap (λ vs. vs ++ own_along value_of classes left) c.in_ok-add_own.ensures
    ∙ append_assoc before own (own_along value_of classes left)
    ∙ ap (λ vs. before ++ vs) (sym (along_last value_of classes left c.in-Some.at))
    ∙ ap (λ l. before ++ own_along value_of classes l) (sym c.in-Some.ensures) ∙ c.loop-at.invariant

pub returns : goal.returns
returns c =
    let classes = c.args.program.now.classes in
    let own = map value_of c.args.class.now.fields in
    c.in_ok-add_values.ensures
    ∙ ap (λ fs. c.loop-at.values ++ map value_of fs) c.as_slice.ensures
    ∙ ap (λ vs. vs ++ own) (sym (append-nil c.loop-at.values)
    ∙ ap (λ vs. c.loop-at.values ++ vs) (sym (along_none value_of classes))
    ∙ ap (λ l. c.loop-at.values ++ own_along value_of classes l) (sym c.in_default.ensures.0)
    ∙ c.loop-at.invariant)
    ∙ values_are classes c.args.class.now
