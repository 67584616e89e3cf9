use Rattle.sound_text.proofs.Bodies.{accepted_narrow}
use Rattle.sound_text.proofs.laws.law_width.Goals as goal

pub returns : goal.returns
returns c = record { narrow = λ program table bodies small accepted code is. accepted_narrow program table bodies small accepted code is }
