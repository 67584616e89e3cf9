use Rattle.syntax_grammar.proofs.once.OnceText.{text_once}
use Rattle.syntax_grammar.proofs.laws.one_program.Goals as goal

pub returns : goal.returns
returns c = text_once
