-- The grammar of types, with their trees.
use Rattle.std.specs.Prelude.{List, Option, Some, None}
use Rattle.lang_base.specs.declared.place.Place.{Place}
use Rattle.syntax_tokens.specs.declared.token.Symbol.{Symbol}
use Rattle.syntax_tokens.specs.declared.token.Keyword.{Keyword}
use Rattle.syntax_tokens.specs.declared.terminal.Placed.{Placed}
use Rattle.syntax_tokens.specs.declared.terminal.Terminal.TheVariants as terminal
use Rattle.syntax_tree.specs.declared.region.Named.{Named}
use Rattle.syntax_tree.specs.declared.region.RplTree.{RplTree}
use Rattle.syntax_tree.specs.declared.region.BaseTree.{BaseTree}
use Rattle.syntax_tree.specs.declared.region.BaseTree.TheVariants as base
use Rattle.syntax_tree.specs.declared.region.Suffix.{Suffix}
use Rattle.syntax_tree.specs.declared.region.TypeTree.{TypeTree}
use Rattle.syntax_grammar.specs.Taking.{TakesSymbol, TakesKeyword, TakesName, NoNext, StandsAt, Many}
use Rattle.syntax_grammar.specs.Paths.{DerivesRpl, DerivesArgs}

-- Base = "int" | "boolean" | Name [ Args ]
pub data DerivesBase : List Placed → List Placed → BaseTree → Type 0 where
  int : {before after : List Placed} {place : Place} → TakesKeyword Keyword.Int before after place → DerivesBase before after base.Int
  boolean : {before after : List Placed} {place : Place} → TakesKeyword Keyword.Boolean before after place → DerivesBase before after base.Bool
  class : {before one after : List Placed} {named : Named} {paths : List RplTree} →
      TakesName before one named → DerivesArgs one after paths → DerivesBase before after (base.Class named paths)

-- [ "<" Rpl ">" ]: a `<` that stands here begins it
pub data DerivesRegion : List Placed → List Placed → Option RplTree → Type 0 where
  no_region : {here : List Placed} → NoNext (terminal.Symbol Symbol.Less) here → DerivesRegion here here None
  region : {before one two after : List Placed} {path : RplTree} {open_at close_at : Place} →
      TakesSymbol Symbol.Less before one open_at → DerivesRpl one two path → TakesSymbol Symbol.Greater two after close_at →
      DerivesRegion before after (Some path)

-- [ "#" Name ]: a `#` that stands here begins it
pub data DerivesIndex : List Placed → List Placed → Option Named → Type 0 where
  no_index : {here : List Placed} → NoNext (terminal.Symbol Symbol.Hash) here → DerivesIndex here here None
  index : {before one after : List Placed} {named : Named} {hash : Place} →
      TakesSymbol Symbol.Hash before one hash → TakesName one after named → DerivesIndex before after (Some named)

-- [ "<" Rpl ">" ] [ "#" Name ]
pub data DerivesAfter : List Placed → List Placed → Suffix → Type 0 where
  following : {before one after : List Placed} {region : Option RplTree} {index : Option Named} →
      DerivesRegion before one region → DerivesIndex one after index → DerivesAfter before after (record { rpl = region; index = index })

-- "[" "]" [ "<" Rpl ">" ] [ "#" Name ]
pub data DerivesSuffix : List Placed → List Placed → Suffix → Type 0 where
  suffix : {before one two after : List Placed} {tree : Suffix} {open_at close_at : Place} →
      TakesSymbol Symbol.OpenBracket before one open_at → TakesSymbol Symbol.CloseBracket one two close_at → DerivesAfter two after tree →
      DerivesSuffix before after tree

-- Type = Base { "[" "]" [ "<" Rpl ">" ] [ "#" Name ] }, at its first terminal
pub data DerivesType : List Placed → List Placed → TypeTree → Type 0 where
  type_of : {before one after : List Placed} {start : BaseTree} {suffixes : List Suffix} {place : Place} →
      StandsAt before place → DerivesBase before one start → Many DerivesSuffix one after suffixes →
      DerivesType before after (record { place = place; base = start; suffixes = suffixes })
