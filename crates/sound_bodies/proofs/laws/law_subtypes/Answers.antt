use Rattle.sound_bodies.proofs.table.Subtypes.{fits_subtype}
use Rattle.sound_bodies.proofs.laws.law_subtypes.Goals as goal

pub returns : goal.returns
returns c = record { subtypes = λ P supers agree t u stands fits. fits_subtype P supers agree t u stands fits }
