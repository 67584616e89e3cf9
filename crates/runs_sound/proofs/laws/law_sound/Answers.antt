use Rattle.runs_sound.proofs.moments.Keeping.{runs_are_sound}
use Rattle.runs_sound.proofs.laws.law_sound.Goals as goal

pub returns : goal.returns
returns c = runs_are_sound
