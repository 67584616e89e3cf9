-- The productions of region paths, as their functions read them.
use Rattle.std.proofs.Common.{ℤ, List, Some}
use Rattle.lang_base.specs.declared.place.Place.{Place}
use Rattle.syntax_tokens.specs.declared.token.Symbol.TheVariants as symbol
use Rattle.syntax_tokens.specs.declared.token.Keyword.TheVariants as keyword
use Rattle.syntax_tokens.specs.declared.terminal.Placed.{Placed}
use Rattle.syntax_tokens.specs.declared.terminal.Terminal.TheVariants as terminal
use Rattle.syntax_tree.specs.declared.region.ElemTree.{ElemTree}
use Rattle.syntax_tree.specs.declared.region.ElemTree.TheVariants as elem
use Rattle.syntax_tree.specs.declared.region.Named.{Named}
use Rattle.syntax_tree.specs.declared.region.RName.{RName}
use Rattle.syntax_tree.specs.declared.region.RplHead.TheVariants as head
use Rattle.syntax_grammar.specs.Taking.{TakesOne, TakesNext, TakesName, TakesSymbol, Next}
use Rattle.syntax_grammar.specs.Paths.{DerivesRName, two_names, DerivesHead, DerivesWithin, number, any, DerivesElem, within, DerivesNext, next}
use Rattle.syntax_exprs.proofs.Taken.{next-takes}

pub second_name : {before one two after : List Placed} {first second : Named} →
    TakesName before one first → TakesOne (terminal.Symbol symbol.Dot) one two → TakesName two after second →
    DerivesRName before after (record { first = first; second = Some second })
second_name f dot s = two_names f dot.takes s

pub head_root : {before after : List Placed} → TakesOne (terminal.Keyword keyword.Root) before after → DerivesHead before after head.Root
head_root t = DerivesHead.root t.takes

pub head_name : {before after : List Placed} {name : RName} → DerivesRName before after name → DerivesHead before after (head.Name name)
head_name d = DerivesHead.name d

pub elem_name : {before after : List Placed} {name : RName} → DerivesRName before after name → DerivesElem before after (elem.Name name)
elem_name d = DerivesElem.name d

pub elem_star : {before after : List Placed} {place : Place} → Next (terminal.Symbol symbol.Star) before → TakesNext before after place → DerivesElem before after elem.Star
elem_star n t = DerivesElem.star (next-takes t n)

pub next_elem : {before one after : List Placed} {tree : ElemTree} → TakesOne (terminal.Symbol symbol.Colon) before one → DerivesElem one after tree → DerivesNext before after tree
next_elem colon d = next colon.takes d

pub within_number : {before after : List Placed} {n : ℤ} {at : Place} → Next (terminal.Int n) before → TakesNext before after at → DerivesWithin before after (elem.Lit n)
within_number n t = number (next-takes t n)

pub within_any : {before after : List Placed} {at : Place} → Next (terminal.Symbol symbol.Question) before → TakesNext before after at → DerivesWithin before after elem.Any
within_any n t = any (next-takes t n)

pub elem_within : {before one two after : List Placed} {tree : ElemTree} {open_at : Place} →
    TakesSymbol symbol.OpenBracket before one open_at → DerivesWithin one two tree → TakesOne (terminal.Symbol symbol.CloseBracket) two after →
    DerivesElem before after tree
elem_within o d c = within o d c.takes
