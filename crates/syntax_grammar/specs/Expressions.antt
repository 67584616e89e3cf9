-- The grammar of expressions, with their trees.
use Rattle.std.specs.Prelude.{ℕ, suc, ◌≤◌, ℤ, List, true, false, cond, ◌==◌}
use Rattle.lang_base.specs.declared.op.BinaryOp.TheVariants as binary_op
use Rattle.lang_base.specs.declared.op.LogicOp.TheVariants as logic_op
use Rattle.lang_base.specs.declared.op.UnaryOp.{UnaryOp}
use Rattle.lang_base.specs.declared.op.UnaryOp.TheVariants as unary_op
use Rattle.lang_base.specs.declared.place.Place.{Place}
use Rattle.lang_base.specs.Operators.{logic_level}
use Rattle.lang_base.specs.Operators.{level_of as binary_level}
use Rattle.syntax_tokens.specs.declared.token.Symbol.{Symbol}
use Rattle.syntax_tokens.specs.declared.token.Keyword.{Keyword}
use Rattle.syntax_tokens.specs.declared.terminal.Placed.{Placed}
use Rattle.syntax_tokens.specs.declared.terminal.Terminal.TheVariants as terminal
use Rattle.syntax_tree.specs.declared.region.Named.{Named}
use Rattle.syntax_tree.specs.declared.region.RplTree.{RplTree}
use Rattle.syntax_tree.specs.declared.region.BaseTree.{BaseTree}
use Rattle.syntax_tree.specs.declared.region.Suffix.{Suffix}
use Rattle.syntax_tree.specs.declared.expr.InfixOp.{InfixOp}
use Rattle.syntax_tree.specs.declared.expr.InfixOp.TheVariants.{Logic, Binary}
use Rattle.syntax_tree.specs.Plain.{PlainExpr, expression, int, boolean, null, this, local, field, element, call, create, create_array, unary, binary, PlainExprs, no_exprs, more_exprs}
use Rattle.syntax_grammar.specs.Taking.{Takes, TakesSymbol, TakesKeyword, TakesName, Many}
use Rattle.syntax_grammar.specs.Paths.{DerivesArgs}
use Rattle.syntax_grammar.specs.Types.{DerivesBase, DerivesAfter, DerivesSuffix}

-- the symbol of an operator
abbrev pub symbol_of : InfixOp → Symbol
symbol_of (Logic logic_op.Or) = Symbol.Or
symbol_of (Logic logic_op.And) = Symbol.And
symbol_of (Binary binary_op.Equal) = Symbol.Equal
symbol_of (Binary binary_op.NotEqual) = Symbol.NotEqual
symbol_of (Binary binary_op.Less) = Symbol.Less
symbol_of (Binary binary_op.AtMost) = Symbol.AtMost
symbol_of (Binary binary_op.Greater) = Symbol.Greater
symbol_of (Binary binary_op.AtLeast) = Symbol.AtLeast
symbol_of (Binary binary_op.Add) = Symbol.Plus
symbol_of (Binary binary_op.Subtract) = Symbol.Minus
symbol_of (Binary binary_op.Multiply) = Symbol.Star
symbol_of (Binary binary_op.Divide) = Symbol.Slash
symbol_of (Binary binary_op.Remainder) = Symbol.Percent

abbrev pub unary_symbol : UnaryOp → Symbol
unary_symbol unary_op.Negate = Symbol.Minus
unary_symbol unary_op.Not = Symbol.Not

abbrev pub level_of : InfixOp → ℕ
level_of (Logic op) = logic_level op
level_of (Binary op) = binary_level op

-- the level of its left operand: operators of one level group to the left, and no comparison compares another
abbrev pub left_level : InfixOp → ℕ
left_level op = cond (level_of op == 3) (suc (level_of op)) (level_of op)

-- what a Postfix ends as
pub data Ending : Type 0 where
  as_value : Ending
  as_name : Ending
  as_field : Ending
  as_element : Ending
  as_call : Ending
  as_creation : Ending

mutual
  -- Expr, And, Equal, Compare, Sum and Product, by their levels
  pub data DerivesLevel : ℕ → List Placed → List Placed → PlainExpr → Type 0 where
    operand : {level : ℕ} {before after : List Placed} {e : PlainExpr} → DerivesUnary before after e → DerivesLevel level before after e
    operation : {level : ℕ} {op : InfixOp} {before one two after : List Placed} {left right : PlainExpr} {place : Place} →
        level ≤ level_of op →
        DerivesLevel (left_level op) before one left → TakesSymbol (symbol_of op) one two place → DerivesLevel (suc (level_of op)) two after right →
        DerivesLevel level before after (expression place (binary op left right))

  -- Unary = ( "-" | "!" ) Unary | Postfix | NewArray
  pub data DerivesUnary : List Placed → List Placed → PlainExpr → Type 0 where
    operator : {op : UnaryOp} {before one after : List Placed} {arg : PlainExpr} {place : Place} →
        TakesSymbol (unary_symbol op) before one place → DerivesUnary one after arg → DerivesUnary before after (expression place (unary op arg))
    postfix : {ending : Ending} {before after : List Placed} {e : PlainExpr} → DerivesPostfix ending before after e → DerivesUnary before after e
    new_array : {before after : List Placed} {e : PlainExpr} → DerivesNewArray before after e → DerivesUnary before after e

  -- Postfix = Primary { "." Name | "." [ Args ] Name "(" [ Actuals ] ")" | "[" Expr "]" }
  pub data DerivesPostfix : Ending → List Placed → List Placed → PlainExpr → Type 0 where
    primary : {ending : Ending} {before after : List Placed} {e : PlainExpr} → DerivesPrimary ending before after e → DerivesPostfix ending before after e
    after_dot : {ending : Ending} {before one two after : List Placed} {of : PlainExpr} {named : Named} {dot : Place} →
        DerivesPostfix ending before one of → TakesSymbol Symbol.Dot one two dot → TakesName two after named →
        DerivesPostfix as_field before after (expression named.place (field of named.name))
    called : {ending : Ending} {before one two three four after : List Placed} {of : PlainExpr} {regions : List RplTree} {named : Named} {actuals : PlainExprs} {dot : Place} →
        DerivesPostfix ending before one of → TakesSymbol Symbol.Dot one two dot → DerivesArgs two three regions → TakesName three four named → DerivesActuals four after actuals →
        DerivesPostfix as_call before after (expression named.place (call of regions named.name actuals))
    indexed : {ending : Ending} {before one two three after : List Placed} {array at : PlainExpr} {place close_at : Place} →
        DerivesPostfix ending before one array → TakesSymbol Symbol.OpenBracket one two place → DerivesLevel 0 two three at → TakesSymbol Symbol.CloseBracket three after close_at →
        DerivesPostfix as_element before after (expression place (element array at))

  -- what stands in parentheses ends as a value, so that it is neither assigned to nor a statement
  -- Primary = Int | "true" | "false" | "null" | "this" | Name | "(" Expr ")" | "new" Name [ Args ] "(" [ Actuals ] ")"
  pub data DerivesPrimary : Ending → List Placed → List Placed → PlainExpr → Type 0 where
    number : {before after : List Placed} {n : ℤ} {place : Place} →
        Takes (terminal.Int n) before after place → DerivesPrimary as_value before after (expression place (int n))
    yes : {before after : List Placed} {place : Place} →
        TakesKeyword Keyword.True before after place → DerivesPrimary as_value before after (expression place (boolean true))
    no : {before after : List Placed} {place : Place} →
        TakesKeyword Keyword.False before after place → DerivesPrimary as_value before after (expression place (boolean false))
    nothing : {before after : List Placed} {place : Place} →
        TakesKeyword Keyword.Null before after place → DerivesPrimary as_value before after (expression place null)
    receiver : {before after : List Placed} {place : Place} →
        TakesKeyword Keyword.This before after place → DerivesPrimary as_value before after (expression place this)
    name : {before after : List Placed} {named : Named} →
        TakesName before after named → DerivesPrimary as_name before after (expression named.place (local named.name))
    parenthesised : {before one two after : List Placed} {e : PlainExpr} {open_at close_at : Place} →
        TakesSymbol Symbol.OpenParen before one open_at → DerivesLevel 0 one two e → TakesSymbol Symbol.CloseParen two after close_at →
        DerivesPrimary as_value before after e
    creation : {before one two three after : List Placed} {class : Named} {regions : List RplTree} {actuals : PlainExprs} {place : Place} →
        TakesKeyword Keyword.New before one place → TakesName one two class → DerivesArgs two three regions → DerivesActuals three after actuals →
        DerivesPrimary as_creation before after (expression place (create class regions actuals))

  -- NewArray = "new" Base { "[" "]" [ "<" Rpl ">" ] [ "#" Name ] } "[" Expr "]" [ "<" Rpl ">" ] [ "#" Name ]
  pub data DerivesNewArray : List Placed → List Placed → PlainExpr → Type 0 where
    array : {before one two three four five six after : List Placed} {start : BaseTree} {suffixes : List Suffix} {len : PlainExpr} {own : Suffix} {place open_at close_at : Place} →
        TakesKeyword Keyword.New before one place → DerivesBase one two start → Many DerivesSuffix two three suffixes →
        TakesSymbol Symbol.OpenBracket three four open_at → DerivesLevel 0 four five len → TakesSymbol Symbol.CloseBracket five six close_at → DerivesAfter six after own →
        DerivesNewArray before after (expression place (create_array start suffixes len own.rpl own.index))

  -- "(" [ Actuals ] ")", where Actuals = Expr { "," Expr }
  pub data DerivesActuals : List Placed → List Placed → PlainExprs → Type 0 where
    no_actuals : {before one after : List Placed} {open_at close_at : Place} →
        TakesSymbol Symbol.OpenParen before one open_at → TakesSymbol Symbol.CloseParen one after close_at → DerivesActuals before after no_exprs
    actuals : {before one two three after : List Placed} {e : PlainExpr} {es : PlainExprs} {open_at close_at : Place} →
        TakesSymbol Symbol.OpenParen before one open_at → DerivesLevel 0 one two e → DerivesFurther two three es → TakesSymbol Symbol.CloseParen three after close_at →
        DerivesActuals before after (more_exprs e es)

  -- { "," Expr }
  pub data DerivesFurther : List Placed → List Placed → PlainExprs → Type 0 where
    end : {here : List Placed} → DerivesFurther here here no_exprs
    further : {before one two after : List Placed} {e : PlainExpr} {es : PlainExprs} {comma : Place} →
        TakesSymbol Symbol.Comma before one comma → DerivesLevel 0 one two e → DerivesFurther two after es → DerivesFurther before after (more_exprs e es)

-- Expr
abbrev pub DerivesExpr : List Placed → List Placed → PlainExpr → Type 0
DerivesExpr before after e = DerivesLevel 0 before after e
