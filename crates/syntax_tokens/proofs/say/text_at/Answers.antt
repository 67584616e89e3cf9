use Rattle.syntax_tokens.proofs.Order.{can_say}
use Rattle.syntax_tokens.proofs.say.text_at.Goals as goal

pub returns-clause-known : goal.returns-clause-known
returns-clause-known c = can_say c.args.token.kind _ _ c.requires.is
