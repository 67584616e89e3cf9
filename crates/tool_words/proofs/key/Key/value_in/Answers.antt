use Rattle.std.proofs.Common.{ap, ◌∙◌}
use Rattle.tool_words.specs.Words.{following}
use Rattle.tool_words.proofs.Prefixes.{after_stripped}
use Rattle.tool_words.proofs.key.Key.value_in.Goals as goal

pub returns : goal.returns
returns c = after_stripped c.prefix.result.now c.args.word.now _ c.strip_prefix.ensures.cases ∙ ap (λ p. following p c.args.word.now) c.prefix.ensures
