use Rattle.std.proofs.Common.{sym, ap, ◌∙◌, is_some}
use Rattle.tool_words.proofs.Prefixes.{is_some-option_map}
use Rattle.tool_words.proofs.key.Key.is_set_in.Goals as goal

pub returns : goal.returns
returns c = c.is_some.ensures ∙ sym (is_some-option_map _ c.value_in.result) ∙ ap is_some c.value_in.ensures
