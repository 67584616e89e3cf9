use Rattle.std.proofs.Common.{◌≡◌, map, take}
use Rattle.syntax_tokens.proofs.names.Names.into_items.Given as goal

abbrev pub invariant-loop-name : goal.invariant-loop-name
invariant-loop-name l = l.names ≡ map (λ name. name.now) (take l.name-index l.name-items)
