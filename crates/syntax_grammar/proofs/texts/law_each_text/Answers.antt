use Rattle.syntax_grammar.proofs.written.Cut.{each_text}
use Rattle.syntax_grammar.proofs.texts.law_each_text.Goals as goal

pub returns : goal.returns
returns c = record { some = each_text }
