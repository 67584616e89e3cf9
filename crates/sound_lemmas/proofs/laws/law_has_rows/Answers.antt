use Rattle.sound_lemmas.proofs.Rows.{small_has_rows}
use Rattle.sound_lemmas.proofs.laws.law_has_rows.Goals as goal

pub returns : goal.returns
returns c = record { has_rows = small_has_rows }
