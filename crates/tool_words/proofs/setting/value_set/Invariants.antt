use Rattle.std.proofs.Common.{◌≡◌, map, take}
use Rattle.std.specs.String.{string_bytes}
use Rattle.tool_words.specs.Words.{values_for}
use Rattle.tool_words.proofs.Values.{texts}
use Rattle.tool_words.proofs.setting.value_set.Given as goal

abbrev pub invariant-loop-word : goal.invariant-loop-word
invariant-loop-word l = values_for l.key (map string_bytes (take l.word-index l.settings)) ≡ texts l.value
