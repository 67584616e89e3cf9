use Rattle.std.proofs.Common.{◌≡◌, map, drop}
use Rattle.body_exprs.specs.Shapes.{shapes_fit}
use Rattle.body_exprs.specs.Typed.{value_type}
use Rattle.body_exprs.proofs.shapes.shapes_fit.Given as goal

abbrev pub invariant-loop-i : goal.invariant-loop-i
invariant-loop-i l =
    shapes_fit l.headers (map value_type (drop l.i l.actuals)) (drop l.i l.declared) ≡ shapes_fit l.headers (map value_type l.actuals) l.declared
