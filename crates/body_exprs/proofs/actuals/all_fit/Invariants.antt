use Rattle.std.proofs.Common.{◌≡◌, map, length, drop}
use Rattle.body_exprs.specs.Env.{supers_of}
use Rattle.body_exprs.specs.Fits.{all_fit}
use Rattle.body_exprs.specs.Typed.{value_type}
use Rattle.body_exprs.proofs.actuals.all_fit.Given as goal

abbrev pub invariant-loop-i : goal.invariant-loop-i
invariant-loop-i l = record {
  same : length l.actuals ≡ length l.declared;
  rest : all_fit (supers_of l.env) l.args (map value_type (drop l.i l.actuals)) (drop l.i l.declared)
      ≡ all_fit (supers_of l.env) l.args (map value_type l.actuals) l.declared;
}
