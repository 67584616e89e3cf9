-- What was taken is what came next.
use Rattle.std.proofs.Common.{◌≤◌, ◌-◌, List, [], ◌∷◌, length, take, drop, arith}
use Rattle.std.proofs.lemmas.Grind.{common_steps}
use Rattle.lang_base.specs.declared.place.Place.{Place}
use Rattle.syntax_tokens.specs.declared.terminal.Placed.{Placed}
use Rattle.syntax_tokens.specs.declared.terminal.Terminal.{Terminal}
use Rattle.syntax_grammar.specs.Taking.{Takes, TakesNext, Next, place_of}

pub next-takes : {wanted : Terminal} {before after : List Placed} {place : Place} → TakesNext before after place → Next wanted before → Takes wanted before after place
next-takes t n = grind (arith, t.takes.first, n.takes.takes.first)

-- the list after the first of some terminals
pub takes-first : (before : List Placed) (end : Place) → 1 ≤ length before → TakesNext before (take (length before - 1) (drop 1 before)) (place_of before end)
takes-first [] end h = absurd (omega arith)
takes-first (next ∷ after) end h = record {
  terminal = next.terminal;
  takes = record { first = grind (arith, common_steps) };
}
