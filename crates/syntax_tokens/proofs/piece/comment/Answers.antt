use Rattle.std.proofs.Common.{◌∙◌}
use Rattle.syntax_tokens.proofs.Faults.{fault-comment}
use Rattle.syntax_tokens.proofs.piece.comment.Goals as goal

pub returns-in-Some : goal.returns-in-Some
returns-in-Some c = fault-comment _ c.args.bytes.now c.args.len _ c.syntax.ensures.kind (c.syntax.ensures.at ∙ c.in-Some.ensures.some.1) c.requires.comment c.in-Some.ensures.some.0
