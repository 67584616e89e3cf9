use Rattle.std.proofs.Common.{◌≡◌, ◌++◌, map, drop}
use Rattle.lang_base.specs.Types.{plain_type}
use Rattle.lang_base.specs.FirstValues.{first_value}
use Rattle.lang_typed.proofs.inherited.add_values.Given as goal

abbrev pub invariant-loop-field : goal.invariant-loop-field
invariant-loop-field l =
    l.values ++ map (λ f. first_value (plain_type f.ty)) (drop l.field-index l.fields) ≡ l.initial.values ++ map (λ f. first_value (plain_type f.ty)) l.fields
