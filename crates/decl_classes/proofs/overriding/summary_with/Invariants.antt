use Rattle.std.proofs.Common.{◌≡◌, [], drop, map}
use Rattle.lang_base.specs.Effects.{gathered}
use Rattle.decl_classes.specs.Overriding.{effect_with}
use Rattle.decl_classes.proofs.overriding.summary_with.Given as goal

abbrev pub invariant-loop-effect : goal.invariant-loop-effect
invariant-loop-effect l =
    gathered l.made (map (effect_with l.args) (drop l.effect-index l.effect-items)) ≡ gathered [] (map (effect_with l.args) l.summary)
