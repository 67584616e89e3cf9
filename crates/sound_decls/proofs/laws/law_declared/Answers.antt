use Rattle.sound_decls.proofs.classes.Members.{accepted_declared}
use Rattle.sound_decls.proofs.laws.law_declared.Goals as goal

pub returns : goal.returns
returns c = record { declared = accepted_declared }
