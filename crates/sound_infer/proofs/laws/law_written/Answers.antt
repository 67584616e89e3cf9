use Rattle.sound_infer.proofs.written.Choosing.{kept_can_be_written}
use Rattle.sound_infer.proofs.written.Programs.{kept_is_accepted, kept_means}
use Rattle.sound_infer.proofs.laws.law_written.Goals as goal

pub returns : goal.returns
returns c = record { written = kept_can_be_written; means = λ tree new P S says kept m. kept_means tree new P S says kept m; accepted = kept_is_accepted }
