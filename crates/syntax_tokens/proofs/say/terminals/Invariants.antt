use Rattle.std.proofs.Common.{◌≡◌, ◌≤◌, length, take, drop}
use Rattle.syntax_tokens.specs.Says.{MeanAll, names_with, distinct_names}
use Rattle.syntax_tokens.proofs.say.terminals.Given as goal

abbrev pub invariant-loop-token : goal.invariant-loop-token
invariant-loop-token l = record {
  named : length l.names ≤ l.token-index;
  counted : length l.list ≡ l.token-index;
  noted : names_with l.bytes l.names (drop l.token-index l.token-items) ≡ distinct_names l.bytes l.token-items;
  said : MeanAll l.names l.bytes (take l.token-index l.token-items) l.list;
}
