use Rattle.sound_infer.proofs.Chains.{ranks_fall}
use Rattle.sound_infer.proofs.Effects.{all_is}
use Rattle.sound_infer.proofs.WellTyped.{kept_well_typed}
use Rattle.sound_infer.proofs.laws.law_inferred.Goals as goal

pub returns : goal.returns
returns c = record { effects = λ P wt L ss E p. all_is P wt.rank (ranks_fall P wt) p; post_fixpoints = kept_well_typed; well_typed = λ P S wt i. kept_well_typed P S wt i.says i.post_fixpoint }
