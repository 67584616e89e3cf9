use Rattle.syntax_grammar.proofs.expected.ExpectedClasses.{program_read}
use Rattle.syntax_grammar.proofs.Viability.{read_program}
use Rattle.syntax_grammar.proofs.Decided.{fault_at}
use Rattle.syntax_grammar.proofs.laws.expected_text.Goals as goal

pub returns : goal.returns
returns c = record {
  read = λ list classes d. program_read d;
  derives = λ list s. read_program s;
  fault = λ read here to s lost. fault_at read here s lost;
}
