use Rattle.std.proofs.lemmas.Slice.Eq.{slice_eq-Decides}
use Rattle.lang_base.proofs.Equal.{effect_decides}
use Rattle.region_effects.proofs.set.EffectSetPlain.same.Goals as goal

pub returns : goal.returns
returns c = rw (← c.as_slice.ensures, ← c.as_slice-2.ensures) (slice_eq-Decides effect_decides _ _ _ c.eq.ensures)
