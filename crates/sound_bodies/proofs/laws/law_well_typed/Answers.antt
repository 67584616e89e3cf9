use Rattle.sound_bodies.proofs.WellTyped.{well_typed}
use Rattle.sound_bodies.proofs.laws.law_well_typed.Goals as goal

pub returns : goal.returns
returns c = record { well_typed = well_typed c.law_declared.ensures.declared c.law_inherits.ensures.inherits c.law_main.ensures.main }
