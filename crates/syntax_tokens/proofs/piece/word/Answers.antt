use Rattle.syntax_tokens.proofs.Found.{found-name, found-keyword}
use Rattle.syntax_tokens.proofs.piece.word.Goals as goal

pub returns-in-Some : goal.returns-in-Some
returns-in-Some c = found-keyword c.args.bytes.now c.name_bytes-len.result c.in-Some.keyword c.requires c.name_bytes-len.ensures.run c.in-Some.ensures.found

pub returns-in-None : goal.returns-in-None
returns-in-None c = found-name c.args.bytes.now c.name_bytes-len.result c.requires c.name_bytes-len.ensures.run c.in-None.ensures.none
