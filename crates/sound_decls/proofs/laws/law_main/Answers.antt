use Rattle.sound_decls.proofs.classes.Beginning.{accepted_main}
use Rattle.sound_decls.proofs.laws.law_main.Goals as goal

pub returns : goal.returns
returns c = record { main = accepted_main }
