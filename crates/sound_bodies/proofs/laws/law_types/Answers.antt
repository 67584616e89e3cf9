use Rattle.sound_bodies.proofs.scope.Meant.{declared_good}
use Rattle.sound_bodies.proofs.laws.law_types.Goals as goal

pub returns : goal.returns
returns c = record { types = λ P L env reads assigns tells sees tree few unreported. declared_good P L env reads assigns tells sees tree few unreported }
