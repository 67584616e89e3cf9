use Rattle.syntax_grammar.proofs.written.Texts.{text_written}
use Rattle.syntax_grammar.proofs.texts.law_written.Goals as goal

pub returns : goal.returns
returns c = record { written = λ text tokens end program short cut p. text_written text tokens end program short cut p }
