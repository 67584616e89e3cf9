use Rattle.syntax_tokens.proofs.Faults.{fault-no_piece}
use Rattle.syntax_tokens.proofs.piece.symbol.Goals as goal

pub returns-in-None : goal.returns-in-None
returns-in-None c = fault-no_piece _ c.args.bytes.now _ c.syntax.ensures.kind c.syntax.ensures.at c.requires.other c.in-None.ensures.none
