use Rattle.lang_meaning.proofs.Samples.{prints_sum_asks, counts_asks, branches_ask}
use Rattle.lang_meaning.proofs.laws.law_samples.Goals as goal

pub returns : goal.returns
returns c = record { prints = prints_sum_asks; rests = counts_asks; begins = branches_ask }
