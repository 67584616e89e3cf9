use Rattle.std.proofs.Common.{◌≡◌, map, drop}
use Rattle.std.specs.List.{list_all}
use Rattle.body_exprs.specs.Typed.{value_type, may_be, is_value}
use Rattle.body_exprs.proofs.calls.all_values.Given as goal

abbrev pub invariant-loop-actual : goal.invariant-loop-actual
invariant-loop-actual l =
    list_all (may_be is_value) (map value_type (drop l.actual-index l.actuals)) ≡ list_all (may_be is_value) (map value_type l.actuals)
