use Rattle.syntax_grammar.proofs.written.Readings.{each_reading}
use Rattle.syntax_grammar.proofs.texts.law_each_reading.Goals as goal

pub returns : goal.returns
returns c = record { some = each_reading c.one_refusal.ensures }
