-- A list grows by an item at its end, as a loop reads it.
use Rattle.std.proofs.Common.{◌<◌, ◌≤◌, List, [], ◌∷◌, ◌++◌, length, length-append, arith}
use Rattle.syntax_tokens.specs.declared.token.Symbol.TheVariants as symbol
use Rattle.syntax_tokens.specs.declared.terminal.Placed.{Placed}
use Rattle.syntax_tokens.specs.declared.terminal.Terminal.TheVariants as terminal
use Rattle.syntax_grammar.specs.Taking.{TakesOne, Listed, last, more, Many, none, some}

pub many_more : {A : Type 0} {Derives : List Placed → List Placed → A → Type 0} {start here after : List Placed} {items : List A} {item : A} →
    Many Derives start here items → Derives here after item → Many Derives start after (items ++ item ∷ [])
many_more none d = some d none
many_more (some e m) d = some e (many_more m d)

pub listed_more : {A : Type 0} {Derives : List Placed → List Placed → A → Type 0} {start here one after : List Placed} {items : List A} {item : A} →
    Listed Derives start here items → TakesOne (terminal.Symbol symbol.Comma) here one → Derives one after item → Listed Derives start after (items ++ item ∷ [])
listed_more (last e) comma d = more e comma.takes (last d)
listed_more (more e first l) comma d = more e first (listed_more l comma d)

pub many_one : {A : Type 0} {Derives : List Placed → List Placed → A → Type 0} {before after : List Placed} {item : A} → Derives before after item → Many Derives before after (item ∷ [])
many_one d = some d none

pub few_more : {A : Type 0} (items : List A) (item : A) → length items < 32 → length (items ++ item ∷ []) ≤ 32
few_more items item h = omega (arith, length-append items (item ∷ []))
