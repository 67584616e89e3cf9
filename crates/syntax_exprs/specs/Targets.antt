-- A statement that begins with an expression: whatever ends it is read after the expression.
use Rattle.std.specs.Prelude.{◌≡◌, ◌⊎◌, List, [], ◌∷◌, Bool, true, false, ◌||◌, ◌&&◌, Some, None}
use Rattle.lang_base.specs.declared.refusal.Kind.{Kind}
use Rattle.lang_base.specs.declared.refusal.Kind.TheVariants as kind
use Rattle.syntax_tokens.specs.declared.token.Symbol.{Symbol}
use Rattle.syntax_tokens.specs.declared.token.Keyword.{Keyword}
use Rattle.syntax_tokens.specs.declared.terminal.Placed.{Placed}
use Rattle.syntax_tokens.specs.declared.terminal.Terminal.{Terminal}
use Rattle.syntax_tokens.specs.declared.terminal.Terminal.TheVariants as terminal
use Rattle.syntax_grammar.specs.Words.{is_assign, is_name, is_less, is_open_bracket, is_close_bracket}
use Rattle.syntax_grammar.specs.Expressions.{Ending}
use Rattle.syntax_grammar.specs.Expecting.{Expected, part, performed, next_of, next_is, with_next, stmt_parts, ending_parts}
use Rattle.syntax_grammar.specs.Limits.{Counts, Within, Stops}

abbrev pub rest_of : List Placed → List Placed
rest_of [] = []
rest_of (next ∷ after) = after

-- what follows a name in a declaration: a name, `<`, or `[` and `]`
abbrev pub follows_a_type : List Placed → Bool
follows_a_type here =
    next_is is_name (next_of here) || next_is is_less (next_of here) || (next_is is_open_bracket (next_of here) && next_is is_close_bracket (next_of (rest_of here)))

abbrev pub opens_declaration : Terminal → List Placed → Bool
opens_declaration (terminal.Keyword Keyword.Int) after = true
opens_declaration (terminal.Keyword Keyword.Boolean) after = true
opens_declaration (terminal.Keyword Keyword.Final) after = true
opens_declaration (terminal.Name name) after = follows_a_type after
opens_declaration _ after = false

-- whether a statement is a declaration
abbrev pub begins_declaration : List Placed → Bool
begins_declaration [] = false
begins_declaration (next ∷ after) = opens_declaration next.terminal after

-- whether it is an assignment to a local
abbrev pub begins_assignment : List Placed → Bool
begins_assignment here = next_is is_name (next_of here) && next_is is_assign (next_of (rest_of here))

-- a statement that holds other ones begins with a brace or with one of these words
abbrev pub holds_others : Terminal → Bool
holds_others (terminal.Symbol Symbol.OpenBrace) = true
holds_others (terminal.Keyword Keyword.If) = true
holds_others (terminal.Keyword Keyword.While) = true
holds_others (terminal.Keyword Keyword.Cobegin) = true
holds_others (terminal.Keyword Keyword.CobeginNd) = true
holds_others (terminal.Keyword Keyword.Foreach) = true
holds_others (terminal.Keyword Keyword.ForeachNd) = true
holds_others (terminal.Keyword Keyword.ForeachParts) = true
holds_others (terminal.Keyword Keyword.Atomic) = true
holds_others _ = false

-- what a statement begins with
abbrev pub stmt_begins : List Placed → List Expected
stmt_begins here = with_next (part performed ∷ []) stmt_parts (next_of here)

-- an expression that begins a statement was read: what ends the statement comes next
pub record Leads (c : Counts) (before : List Placed) (ending : Ending) (d : Counts) (between : List Placed) : Type 0 where
  pub reads : (xs : List Expected) (e : Counts) (after : List Placed) → ending_parts ending ≡ Some xs → Within d xs between e after → Within c (stmt_begins before) before e after
  pub stops : (xs : List Expected) (k : Kind) (here : List Placed) → ending_parts ending ≡ Some xs → Stops d xs between k here → Stops c (stmt_begins before) before k here
  pub lost : ending_parts ending ≡ None → Stops c (stmt_begins before) before kind.Syntax between

-- a statement that begins with an expression, or with a name that no declaration begins with
pub record IsTarget (here : List Placed) : Type 0 where
  pub other : begins_declaration here ≡ false
  pub begins : (stmt_begins here ≡ part performed ∷ []) ⊎ (next_is is_name (next_of here) ≡ true)
