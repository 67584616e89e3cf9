use Rattle.syntax_grammar.proofs.once.OnceClasses.{one_program}
use Rattle.syntax_grammar.proofs.laws.one_tree.Goals as goal

pub returns : goal.returns
returns c = one_program
