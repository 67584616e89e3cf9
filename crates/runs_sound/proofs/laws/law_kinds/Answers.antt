use Rattle.runs_sound.proofs.kinds.Agreeing.{runs_meet_no_wrong_kind}
use Rattle.runs_sound.proofs.kinds.Meaning.{kinds_are_looked_at_alone}
use Rattle.runs_sound.proofs.laws.law_kinds.Goals as goal

pub returns : goal.returns
returns c = record { runs = runs_meet_no_wrong_kind; meaning = kinds_are_looked_at_alone }
