use Rattle.syntax_tokens.proofs.Spans.{cuts-stand}
use Rattle.syntax_tokens.proofs.cut.tokens_stand.Goals as goal

pub returns : goal.returns
returns c = cuts-stand
