-- Tests of single terminals: whether one is a name, a number, a text, a symbol or a keyword.
use Rattle.std.specs.Prelude.{Bool, true, false, Option, Some, None}
use Rattle.lang_base.specs.declared.op.BinaryOp.TheVariants as binary_op
use Rattle.lang_base.specs.declared.op.LogicOp.TheVariants as logic_op
use Rattle.syntax_tokens.specs.declared.token.Symbol.{Symbol}
use Rattle.syntax_tokens.specs.declared.token.Keyword.{Keyword}
use Rattle.syntax_tokens.specs.declared.terminal.Terminal.{Terminal}
use Rattle.syntax_tokens.specs.declared.terminal.Terminal.TheVariants as terminal
use Rattle.syntax_tree.specs.declared.expr.InfixOp.{InfixOp}
use Rattle.syntax_tree.specs.declared.expr.InfixOp.TheVariants.{Logic, Binary}

-- any terminal at all
abbrev pub is_any : Terminal → Bool
is_any t = true

abbrev pub is_name : Terminal → Bool
is_name (terminal.Name n) = true
is_name _ = false

abbrev pub is_number : Terminal → Bool
is_number (terminal.Int n) = true
is_number _ = false

abbrev pub is_text : Terminal → Bool
is_text (terminal.Text text) = true
is_text _ = false

abbrev pub is_at_most : Terminal → Bool
is_at_most (terminal.Symbol Symbol.AtMost) = true
is_at_most _ = false

abbrev pub is_at_least : Terminal → Bool
is_at_least (terminal.Symbol Symbol.AtLeast) = true
is_at_least _ = false

abbrev pub is_equal : Terminal → Bool
is_equal (terminal.Symbol Symbol.Equal) = true
is_equal _ = false

abbrev pub is_not_equal : Terminal → Bool
is_not_equal (terminal.Symbol Symbol.NotEqual) = true
is_not_equal _ = false

abbrev pub is_and : Terminal → Bool
is_and (terminal.Symbol Symbol.And) = true
is_and _ = false

abbrev pub is_or : Terminal → Bool
is_or (terminal.Symbol Symbol.Or) = true
is_or _ = false

abbrev pub is_open_brace : Terminal → Bool
is_open_brace (terminal.Symbol Symbol.OpenBrace) = true
is_open_brace _ = false

abbrev pub is_close_brace : Terminal → Bool
is_close_brace (terminal.Symbol Symbol.CloseBrace) = true
is_close_brace _ = false

abbrev pub is_open_paren : Terminal → Bool
is_open_paren (terminal.Symbol Symbol.OpenParen) = true
is_open_paren _ = false

abbrev pub is_close_paren : Terminal → Bool
is_close_paren (terminal.Symbol Symbol.CloseParen) = true
is_close_paren _ = false

abbrev pub is_open_bracket : Terminal → Bool
is_open_bracket (terminal.Symbol Symbol.OpenBracket) = true
is_open_bracket _ = false

abbrev pub is_close_bracket : Terminal → Bool
is_close_bracket (terminal.Symbol Symbol.CloseBracket) = true
is_close_bracket _ = false

abbrev pub is_less : Terminal → Bool
is_less (terminal.Symbol Symbol.Less) = true
is_less _ = false

abbrev pub is_greater : Terminal → Bool
is_greater (terminal.Symbol Symbol.Greater) = true
is_greater _ = false

abbrev pub is_assign : Terminal → Bool
is_assign (terminal.Symbol Symbol.Assign) = true
is_assign _ = false

abbrev pub is_plus : Terminal → Bool
is_plus (terminal.Symbol Symbol.Plus) = true
is_plus _ = false

abbrev pub is_minus : Terminal → Bool
is_minus (terminal.Symbol Symbol.Minus) = true
is_minus _ = false

abbrev pub is_star : Terminal → Bool
is_star (terminal.Symbol Symbol.Star) = true
is_star _ = false

abbrev pub is_slash : Terminal → Bool
is_slash (terminal.Symbol Symbol.Slash) = true
is_slash _ = false

abbrev pub is_percent : Terminal → Bool
is_percent (terminal.Symbol Symbol.Percent) = true
is_percent _ = false

abbrev pub is_not : Terminal → Bool
is_not (terminal.Symbol Symbol.Not) = true
is_not _ = false

abbrev pub is_semicolon : Terminal → Bool
is_semicolon (terminal.Symbol Symbol.Semicolon) = true
is_semicolon _ = false

abbrev pub is_comma : Terminal → Bool
is_comma (terminal.Symbol Symbol.Comma) = true
is_comma _ = false

abbrev pub is_dot : Terminal → Bool
is_dot (terminal.Symbol Symbol.Dot) = true
is_dot _ = false

abbrev pub is_colon : Terminal → Bool
is_colon (terminal.Symbol Symbol.Colon) = true
is_colon _ = false

abbrev pub is_hash : Terminal → Bool
is_hash (terminal.Symbol Symbol.Hash) = true
is_hash _ = false

abbrev pub is_bar : Terminal → Bool
is_bar (terminal.Symbol Symbol.Bar) = true
is_bar _ = false

abbrev pub is_question : Terminal → Bool
is_question (terminal.Symbol Symbol.Question) = true
is_question _ = false

abbrev pub is_class : Terminal → Bool
is_class (terminal.Keyword Keyword.Class) = true
is_class _ = false

abbrev pub is_extends : Terminal → Bool
is_extends (terminal.Keyword Keyword.Extends) = true
is_extends _ = false

abbrev pub is_region : Terminal → Bool
is_region (terminal.Keyword Keyword.Region) = true
is_region _ = false

abbrev pub is_atomic : Terminal → Bool
is_atomic (terminal.Keyword Keyword.Atomic) = true
is_atomic _ = false

abbrev pub is_in : Terminal → Bool
is_in (terminal.Keyword Keyword.In) = true
is_in _ = false

abbrev pub is_reads : Terminal → Bool
is_reads (terminal.Keyword Keyword.Reads) = true
is_reads _ = false

abbrev pub is_writes : Terminal → Bool
is_writes (terminal.Keyword Keyword.Writes) = true
is_writes _ = false

abbrev pub is_pure : Terminal → Bool
is_pure (terminal.Keyword Keyword.Pure) = true
is_pure _ = false

abbrev pub is_int : Terminal → Bool
is_int (terminal.Keyword Keyword.Int) = true
is_int _ = false

abbrev pub is_boolean : Terminal → Bool
is_boolean (terminal.Keyword Keyword.Boolean) = true
is_boolean _ = false

abbrev pub is_void : Terminal → Bool
is_void (terminal.Keyword Keyword.Void) = true
is_void _ = false

abbrev pub is_final : Terminal → Bool
is_final (terminal.Keyword Keyword.Final) = true
is_final _ = false

abbrev pub is_if : Terminal → Bool
is_if (terminal.Keyword Keyword.If) = true
is_if _ = false

abbrev pub is_else : Terminal → Bool
is_else (terminal.Keyword Keyword.Else) = true
is_else _ = false

abbrev pub is_while : Terminal → Bool
is_while (terminal.Keyword Keyword.While) = true
is_while _ = false

abbrev pub is_return : Terminal → Bool
is_return (terminal.Keyword Keyword.Return) = true
is_return _ = false

abbrev pub is_print : Terminal → Bool
is_print (terminal.Keyword Keyword.Print) = true
is_print _ = false

abbrev pub is_cobegin : Terminal → Bool
is_cobegin (terminal.Keyword Keyword.Cobegin) = true
is_cobegin _ = false

abbrev pub is_cobegin_nd : Terminal → Bool
is_cobegin_nd (terminal.Keyword Keyword.CobeginNd) = true
is_cobegin_nd _ = false

abbrev pub is_foreach : Terminal → Bool
is_foreach (terminal.Keyword Keyword.Foreach) = true
is_foreach _ = false

abbrev pub is_foreach_nd : Terminal → Bool
is_foreach_nd (terminal.Keyword Keyword.ForeachNd) = true
is_foreach_nd _ = false

abbrev pub is_foreach_parts : Terminal → Bool
is_foreach_parts (terminal.Keyword Keyword.ForeachParts) = true
is_foreach_parts _ = false

abbrev pub is_new : Terminal → Bool
is_new (terminal.Keyword Keyword.New) = true
is_new _ = false

abbrev pub is_this : Terminal → Bool
is_this (terminal.Keyword Keyword.This) = true
is_this _ = false

abbrev pub is_true : Terminal → Bool
is_true (terminal.Keyword Keyword.True) = true
is_true _ = false

abbrev pub is_false : Terminal → Bool
is_false (terminal.Keyword Keyword.False) = true
is_false _ = false

abbrev pub is_null : Terminal → Bool
is_null (terminal.Keyword Keyword.Null) = true
is_null _ = false

abbrev pub is_root : Terminal → Bool
is_root (terminal.Keyword Keyword.Root) = true
is_root _ = false

-- this symbol
abbrev pub sign : Symbol → Terminal → Bool
sign Symbol.AtMost = is_at_most
sign Symbol.AtLeast = is_at_least
sign Symbol.Equal = is_equal
sign Symbol.NotEqual = is_not_equal
sign Symbol.And = is_and
sign Symbol.Or = is_or
sign Symbol.OpenBrace = is_open_brace
sign Symbol.CloseBrace = is_close_brace
sign Symbol.OpenParen = is_open_paren
sign Symbol.CloseParen = is_close_paren
sign Symbol.OpenBracket = is_open_bracket
sign Symbol.CloseBracket = is_close_bracket
sign Symbol.Less = is_less
sign Symbol.Greater = is_greater
sign Symbol.Assign = is_assign
sign Symbol.Plus = is_plus
sign Symbol.Minus = is_minus
sign Symbol.Star = is_star
sign Symbol.Slash = is_slash
sign Symbol.Percent = is_percent
sign Symbol.Not = is_not
sign Symbol.Semicolon = is_semicolon
sign Symbol.Comma = is_comma
sign Symbol.Dot = is_dot
sign Symbol.Colon = is_colon
sign Symbol.Hash = is_hash
sign Symbol.Bar = is_bar
sign Symbol.Question = is_question

-- this keyword
abbrev pub word : Keyword → Terminal → Bool
word Keyword.Class = is_class
word Keyword.Extends = is_extends
word Keyword.Region = is_region
word Keyword.Atomic = is_atomic
word Keyword.In = is_in
word Keyword.Reads = is_reads
word Keyword.Writes = is_writes
word Keyword.Pure = is_pure
word Keyword.Int = is_int
word Keyword.Boolean = is_boolean
word Keyword.Void = is_void
word Keyword.Final = is_final
word Keyword.If = is_if
word Keyword.Else = is_else
word Keyword.While = is_while
word Keyword.Return = is_return
word Keyword.Print = is_print
word Keyword.Cobegin = is_cobegin
word Keyword.CobeginNd = is_cobegin_nd
word Keyword.Foreach = is_foreach
word Keyword.ForeachNd = is_foreach_nd
word Keyword.ForeachParts = is_foreach_parts
word Keyword.New = is_new
word Keyword.This = is_this
word Keyword.True = is_true
word Keyword.False = is_false
word Keyword.Null = is_null
word Keyword.Root = is_root

-- the operator between two expressions that a terminal is
abbrev pub op_at : Terminal → Option InfixOp
op_at (terminal.Symbol Symbol.Or) = Some (Logic logic_op.Or)
op_at (terminal.Symbol Symbol.And) = Some (Logic logic_op.And)
op_at (terminal.Symbol Symbol.Equal) = Some (Binary binary_op.Equal)
op_at (terminal.Symbol Symbol.NotEqual) = Some (Binary binary_op.NotEqual)
op_at (terminal.Symbol Symbol.Less) = Some (Binary binary_op.Less)
op_at (terminal.Symbol Symbol.AtMost) = Some (Binary binary_op.AtMost)
op_at (terminal.Symbol Symbol.Greater) = Some (Binary binary_op.Greater)
op_at (terminal.Symbol Symbol.AtLeast) = Some (Binary binary_op.AtLeast)
op_at (terminal.Symbol Symbol.Plus) = Some (Binary binary_op.Add)
op_at (terminal.Symbol Symbol.Minus) = Some (Binary binary_op.Subtract)
op_at (terminal.Symbol Symbol.Star) = Some (Binary binary_op.Multiply)
op_at (terminal.Symbol Symbol.Slash) = Some (Binary binary_op.Divide)
op_at (terminal.Symbol Symbol.Percent) = Some (Binary binary_op.Remainder)
op_at _ = None
