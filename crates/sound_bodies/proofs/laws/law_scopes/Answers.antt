use Rattle.sound_bodies.proofs.scope.InScopeStatements.{all_names}
use Rattle.sound_bodies.proofs.laws.law_scopes.Goals as goal

pub returns : goal.returns
returns c = record { scopes = λ P signed L locals ss effects d. all_names P signed locals d }
