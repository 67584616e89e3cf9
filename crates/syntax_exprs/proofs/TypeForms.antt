-- The productions of types, as their functions read them.
use Rattle.std.proofs.Common.{List, Some, None}
use Rattle.lang_base.specs.declared.place.Place.{Place}
use Rattle.syntax_tokens.specs.declared.token.Symbol.TheVariants as symbol
use Rattle.syntax_tokens.specs.declared.token.Keyword.TheVariants as keyword
use Rattle.syntax_tokens.specs.declared.terminal.Placed.{Placed}
use Rattle.syntax_tokens.specs.declared.terminal.Terminal.TheVariants as terminal
use Rattle.syntax_tree.specs.declared.region.BaseTree.TheVariants as base
use Rattle.syntax_tree.specs.declared.region.Named.{Named}
use Rattle.syntax_tree.specs.declared.region.RplTree.{RplTree}
use Rattle.syntax_tree.specs.declared.region.Suffix.{Suffix}
use Rattle.syntax_grammar.specs.Taking.{TakesOne, TakesName, TakesNext, TakesSymbol, Next, NoNext}
use Rattle.syntax_grammar.specs.Paths.{DerivesRpl}
use Rattle.syntax_grammar.specs.Types.{DerivesBase, DerivesRegion, no_region, region, DerivesIndex, no_index, index, DerivesAfter, DerivesSuffix, suffix}
use Rattle.syntax_exprs.proofs.Taken.{next-takes}

pub base_int : {before after : List Placed} {place : Place} → Next (terminal.Keyword keyword.Int) before → TakesNext before after place → DerivesBase before after base.Int
base_int n t = DerivesBase.int (next-takes t n)

pub base_boolean : {before after : List Placed} {place : Place} → Next (terminal.Keyword keyword.Boolean) before → TakesNext before after place → DerivesBase before after base.Bool
base_boolean n t = DerivesBase.boolean (next-takes t n)

pub suffix_of : {before one two after : List Placed} {tree : Suffix} {open_at : Place} →
    TakesSymbol symbol.OpenBracket before one open_at → TakesOne (terminal.Symbol symbol.CloseBracket) one two → DerivesAfter two after tree →
    DerivesSuffix before after tree
suffix_of o c d = suffix o c.takes d

pub region_none : {here : List Placed} → NoNext (terminal.Symbol symbol.Less) here → DerivesRegion here here None
region_none n = no_region n

pub region_some : {before one two after : List Placed} {path : RplTree} {close_at : Place} →
    TakesOne (terminal.Symbol symbol.Less) before one → DerivesRpl one two path → TakesSymbol symbol.Greater two after close_at →
    DerivesRegion before after (Some path)
region_some o d c = region o.takes d c

pub index_none : {here : List Placed} → NoNext (terminal.Symbol symbol.Hash) here → DerivesIndex here here None
index_none n = no_index n

pub index_some : {before one after : List Placed} {named : Named} → TakesOne (terminal.Symbol symbol.Hash) before one → TakesName one after named → DerivesIndex before after (Some named)
index_some h n = index h.takes n
