use Rattle.syntax_tokens.proofs.Comments.{comment-block}
use Rattle.syntax_tokens.proofs.Faults.{fault-open_comment}
use Rattle.syntax_tokens.proofs.piece.block_comment.Goals as goal

pub comment-requires-clause-comment : goal.comment-requires-clause-comment
comment-requires-clause-comment c = comment-block c.args.bytes.now c.args.following.now c.in-Some.at c.requires c.in-Some.ensures.some

pub returns-in-None : goal.returns-in-None
returns-in-None c = fault-open_comment _ c.args.bytes.now c.args.following.now _ c.syntax.ensures.kind c.syntax.ensures.at c.requires c.in-None.ensures.none
