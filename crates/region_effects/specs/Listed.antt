-- The effects of a set, however they are kept.
use Rattle.std.specs.Prelude.{Bool, List}
use Rattle.lang_base.specs.declared.effect.Effect.{Effect}
use Rattle.lang_base.specs.contracts.effect.EffectPartialEq.TheImpl as compared
use Rattle.region_effects.specs.declared.set.Effects.{Effects}
use Rattle.region_effects.specs.declared.set.Effects.TheVariants.{Few, Many}

abbrev pub listed : Effects → List Effect
listed (Few effects) = effects
listed (Many set) = set.keys

-- `==` of effects
abbrev pub effect_eq : Effect → Effect → Bool
effect_eq = (compared.ghosts).eq
