use Rattle.sound_decls.proofs.classes.Inheriting.{accepted_inherits}
use Rattle.sound_decls.proofs.laws.law_inherits.Goals as goal

pub returns : goal.returns
returns c = record { inherits = accepted_inherits }
