use Rattle.syntax_grammar.proofs.Decided.{decided}
use Rattle.syntax_grammar.proofs.OneFault.{one_place, no_place}
use Rattle.syntax_grammar.proofs.laws.one_fault.Goals as goal

pub returns : goal.returns
returns c = record { some = decided; one = one_place; none = no_place }
