use Rattle.std.proofs.Common.{◌≡◌, map, drop}
use Rattle.lang_base.specs.Effects.{gathered}
use Rattle.body_exprs.specs.Found.{effect_with}
use Rattle.body_exprs.proofs.found.Found.summary.Given as goal

abbrev pub invariant-loop-effect : goal.invariant-loop-effect
invariant-loop-effect l =
    (gathered l.self.effects (map (effect_with l.args) (drop l.effect-index l.effect-items)) ≡ gathered l.initial.self.effects (map (effect_with l.args) l.effect-items))
    × (l.self.uses ≡ l.initial.self.uses)
    × (l.self.reaches_nd ≡ l.initial.self.reaches_nd)
