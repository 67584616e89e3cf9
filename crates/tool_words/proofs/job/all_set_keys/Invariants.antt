use Rattle.std.proofs.Common.{◌≡◌, take, true}
use Rattle.std.specs.String.{string_bytes}
use Rattle.std.specs.List.{list_all}
use Rattle.tool_words.specs.Words.{sets_key_of}
use Rattle.tool_words.proofs.job.all_set_keys.Given as goal

abbrev pub invariant-loop-word : goal.invariant-loop-word
invariant-loop-word l = list_all (λ word. sets_key_of l.command (string_bytes word)) (take l.word-index l.settings) ≡ true
