use Rattle.std.proofs.Common.{sym, subst}
use Rattle.std.specs.List.{IsDistinct}
use Rattle.region_effects.specs.Listed.{effect_eq}
use Rattle.region_effects.proofs.Sets.{distinct-nil}
use Rattle.region_effects.proofs.set.EffectSet.new.Goals as goal

pub invariant_of-result : goal.invariant_of-result
invariant_of-result c = subst (IsDistinct effect_eq) (sym c.new.ensures) distinct-nil
