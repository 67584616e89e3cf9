use Rattle.sound_bodies.proofs.statements.Expressions.{expression_agrees}
use Rattle.sound_bodies.proofs.laws.law_expressions.Goals as goal

pub returns : goal.returns
returns c = record { expressions = λ P L env may_read may_assign tells sees e f g made fits all d. expression_agrees P L env may_read may_assign tells sees e f g made fits all d }
