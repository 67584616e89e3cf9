use Rattle.tool_words.proofs.Texts.{numbers_law, arguments_law}
use Rattle.tool_words.proofs.laws.law_values.Goals as goal

pub returns : goal.returns
returns c = record { numbers = numbers_law; arguments = arguments_law }
