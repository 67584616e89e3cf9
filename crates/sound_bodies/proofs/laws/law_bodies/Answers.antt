use Rattle.sound_bodies.proofs.WellTyped.{all_bodies_pass}
use Rattle.sound_bodies.proofs.laws.law_bodies.Goals as goal

pub returns : goal.returns
returns c = record { bodies = all_bodies_pass }
