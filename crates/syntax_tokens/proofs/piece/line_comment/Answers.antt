use Rattle.std.proofs.Common.{ap, ◌+◌}
use Rattle.syntax_tokens.proofs.Comments.{comment-line}
use Rattle.syntax_tokens.proofs.piece.line_comment.Goals as goal

pub comment-requires-clause-comment : goal.comment-requires-clause-comment
comment-requires-clause-comment c = comment-line c.args.bytes.now c.args.following.now _ c.requires (ap (λ n. 2 + n) c.line_len.ensures.run)
