-- The grammar of region paths, with their trees.
use Rattle.std.specs.Prelude.{ℤ, List, [], Some, None}
use Rattle.lang_base.specs.declared.place.Place.{Place}
use Rattle.syntax_tokens.specs.declared.token.Symbol.{Symbol}
use Rattle.syntax_tokens.specs.declared.token.Keyword.{Keyword}
use Rattle.syntax_tokens.specs.declared.terminal.Placed.{Placed}
use Rattle.syntax_tokens.specs.declared.terminal.Terminal.TheVariants as terminal
use Rattle.syntax_tree.specs.declared.region.Named.{Named}
use Rattle.syntax_tree.specs.declared.region.RName.{RName}
use Rattle.syntax_tree.specs.declared.region.RplHead.{RplHead}
use Rattle.syntax_tree.specs.declared.region.RplHead.TheVariants as head
use Rattle.syntax_tree.specs.declared.region.ElemTree.{ElemTree}
use Rattle.syntax_tree.specs.declared.region.ElemTree.TheVariants as elem
use Rattle.syntax_tree.specs.declared.region.RplTree.{RplTree}
use Rattle.syntax_grammar.specs.Taking.{Takes, TakesSymbol, TakesKeyword, TakesName, StandsAt, Listed, Many}

-- RName = Name [ "." Name ]
pub data DerivesRName : List Placed → List Placed → RName → Type 0 where
  one_name : {before after : List Placed} {first : Named} →
      TakesName before after first → DerivesRName before after (record { first = first; second = None })
  two_names : {before one two after : List Placed} {first second : Named} {dot : Place} →
      TakesName before one first → TakesSymbol Symbol.Dot one two dot → TakesName two after second →
      DerivesRName before after (record { first = first; second = Some second })

-- "Root" | RName
pub data DerivesHead : List Placed → List Placed → RplHead → Type 0 where
  root : {before after : List Placed} {place : Place} → TakesKeyword Keyword.Root before after place → DerivesHead before after head.Root
  name : {before after : List Placed} {name : RName} → DerivesRName before after name → DerivesHead before after (head.Name name)

-- Int | Name | "?"
pub data DerivesWithin : List Placed → List Placed → ElemTree → Type 0 where
  number : {before after : List Placed} {n : ℤ} {at : Place} → Takes (terminal.Int n) before after at → DerivesWithin before after (elem.Lit n)
  index : {before after : List Placed} {named : Named} → TakesName before after named → DerivesWithin before after (elem.Index named)
  any : {before after : List Placed} {at : Place} → TakesSymbol Symbol.Question before after at → DerivesWithin before after elem.Any

-- Elem = RName | "*" | "[" ( Int | Name | "?" ) "]"
pub data DerivesElem : List Placed → List Placed → ElemTree → Type 0 where
  name : {before after : List Placed} {name : RName} → DerivesRName before after name → DerivesElem before after (elem.Name name)
  star : {before after : List Placed} {place : Place} → TakesSymbol Symbol.Star before after place → DerivesElem before after elem.Star
  within : {before one two after : List Placed} {tree : ElemTree} {open_at close_at : Place} →
      TakesSymbol Symbol.OpenBracket before one open_at → DerivesWithin one two tree → TakesSymbol Symbol.CloseBracket two after close_at →
      DerivesElem before after tree

-- ":" Elem
pub data DerivesNext : List Placed → List Placed → ElemTree → Type 0 where
  next : {before one after : List Placed} {tree : ElemTree} {colon : Place} →
      TakesSymbol Symbol.Colon before one colon → DerivesElem one after tree → DerivesNext before after tree

-- Rpl = ( "Root" | RName ) { ":" Elem }, at its first terminal
pub data DerivesRpl : List Placed → List Placed → RplTree → Type 0 where
  path : {before one after : List Placed} {start : RplHead} {elems : List ElemTree} {place : Place} →
      StandsAt before place → DerivesHead before one start → Many DerivesNext one after elems →
      DerivesRpl before after (record { place = place; head = start; elems = elems })

-- [ Args ], where Args = "<" Rpl { "," Rpl } ">"
pub data DerivesArgs : List Placed → List Placed → List RplTree → Type 0 where
  no_args : {here : List Placed} → DerivesArgs here here []
  args : {before one two after : List Placed} {paths : List RplTree} {open_at close_at : Place} →
      TakesSymbol Symbol.Less before one open_at → Listed DerivesRpl one two paths → TakesSymbol Symbol.Greater two after close_at →
      DerivesArgs before after paths
