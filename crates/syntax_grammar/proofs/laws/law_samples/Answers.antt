use Rattle.syntax_grammar.proofs.Sampled.{samples}
use Rattle.syntax_grammar.proofs.laws.law_samples.Goals as goal

pub returns : goal.returns
returns c = samples
