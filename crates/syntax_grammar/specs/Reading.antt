-- Parts of the grammar of expressions and statements as they are read, one after another.
use Rattle.std.specs.Prelude.{ℕ, ℤ, List, true, false}
use Rattle.lang_base.specs.declared.place.Place.{Place}
use Rattle.syntax_tokens.specs.declared.token.Symbol.{Symbol}
use Rattle.syntax_tokens.specs.declared.token.Keyword.{Keyword}
use Rattle.syntax_tokens.specs.declared.terminal.Placed.{Placed}
use Rattle.syntax_tokens.specs.declared.terminal.Terminal.{Terminal}
use Rattle.syntax_tokens.specs.declared.terminal.Terminal.TheVariants as terminal
use Rattle.syntax_tree.specs.declared.region.Named.{Named}
use Rattle.syntax_tree.specs.declared.region.RplTree.{RplTree}
use Rattle.syntax_tree.specs.declared.region.BaseTree.{BaseTree}
use Rattle.syntax_tree.specs.declared.region.Suffix.{Suffix}
use Rattle.syntax_tree.specs.declared.expr.Expr.{Expr}
use Rattle.syntax_tree.specs.declared.expr.ExprKind.{ExprKind, fold-ExprKind}
use Rattle.syntax_tree.specs.declared.stmt.Stmt.{Stmt}
use Rattle.syntax_tree.specs.declared.stmt.StmtKind.{StmtKind, fold-StmtKind}
use Rattle.syntax_tree.specs.Plain.{PlainExpr, expression, ExprForm, int, boolean, null, this, local, field, element, call, create, create_array, unary, binary, PlainExprs, expr_form, expr_node, PlainStmt, StmtForm, print, print_text, stmt_form, stmt_node, plain_expr, plain_stmt}
use Rattle.syntax_grammar.specs.Taking.{Takes, TakesSymbol, TakesName, Next, Many}
use Rattle.syntax_grammar.specs.Paths.{DerivesArgs}
use Rattle.syntax_grammar.specs.Types.{DerivesAfter, DerivesSuffix}
use Rattle.syntax_grammar.specs.Expressions.{DerivesExpr, DerivesActuals, Ending, as_value, as_name, as_field, as_element, as_call, as_creation}
use Rattle.syntax_grammar.specs.Statements.{DerivesStmt}

-- the form of an expression whose children are those of the code's tree
abbrev pub plain_kind : ExprKind → ExprForm
plain_kind = fold-ExprKind ExprForm PlainExpr expr_form expr_node

abbrev pub plain_stmt_kind : StmtKind → StmtForm
plain_stmt_kind = fold-StmtKind StmtForm PlainStmt stmt_form stmt_node

-- an expression and a statement of the code's tree
abbrev pub DerivesExprTree : List Placed → List Placed → Expr → Type 0
DerivesExprTree before after e = DerivesExpr before after (plain_expr e)

abbrev pub DerivesStmtTree : List Placed → List Placed → Stmt → Type 0
DerivesStmtTree before after s = DerivesStmt before after (plain_stmt s)

-- what a Postfix ends as that doesn't stand in parentheses
abbrev pub form_ending : ExprForm → Ending
form_ending (int n) = as_value
form_ending (boolean b) = as_value
form_ending null = as_value
form_ending this = as_value
form_ending (local name) = as_name
form_ending (field of name) = as_field
form_ending (element array index) = as_element
form_ending (call of regions name actuals) = as_call
form_ending (create class regions actuals) = as_creation
form_ending (create_array base suffixes len rpl index) = as_value
form_ending (unary op arg) = as_value
form_ending (binary op left right) = as_value

abbrev pub ending_of : PlainExpr → Ending
ending_of (expression place form) = form_ending form

-- the form of an expression of one terminal
pub data Spells : Terminal → ExprForm → Type 0 where
  number : {n : ℤ} → Spells (terminal.Int n) (int n)
  name : {name : ℕ} → Spells (terminal.Name name) (local name)
  yes : Spells (terminal.Keyword Keyword.True) (boolean true)
  no : Spells (terminal.Keyword Keyword.False) (boolean false)
  nothing : Spells (terminal.Keyword Keyword.Null) null
  receiver : Spells (terminal.Keyword Keyword.This) this

-- the next terminal is an expression of this form
pub record NextSpells (before : List Placed) (form : ExprForm) : Type 0 where
  pub terminal : Terminal
  pub next : Next terminal before
  pub spells : Spells terminal form

-- "." Name | "." [ Args ] Name "(" [ Actuals ] ")" | "[" Expr "]", after an expression
pub data DerivesSelection : PlainExpr → List Placed → List Placed → PlainExpr → Type 0 where
  after_dot : {of : PlainExpr} {before one after : List Placed} {named : Named} {dot : Place} →
      TakesSymbol Symbol.Dot before one dot → TakesName one after named →
      DerivesSelection of before after (expression named.place (field of named.name))
  called : {of : PlainExpr} {before one two three after : List Placed} {regions : List RplTree} {named : Named} {actuals : PlainExprs} {dot : Place} →
      TakesSymbol Symbol.Dot before one dot → DerivesArgs one two regions → TakesName two three named → DerivesActuals three after actuals →
      DerivesSelection of before after (expression named.place (call of regions named.name actuals))
  indexed : {of : PlainExpr} {before one two after : List Placed} {at : PlainExpr} {place close_at : Place} →
      TakesSymbol Symbol.OpenBracket before one place → DerivesExpr one two at → TakesSymbol Symbol.CloseBracket two after close_at →
      DerivesSelection of before after (expression place (element of at))

-- any number of them
pub data DerivesSelections : PlainExpr → List Placed → List Placed → PlainExpr → Type 0 where
  none : {first : PlainExpr} {here : List Placed} → DerivesSelections first here here first
  more : {first of found : PlainExpr} {before one after : List Placed} →
      DerivesSelections first before one of → DerivesSelection of one after found → DerivesSelections first before after found

-- "(" Expr ")"
pub data DerivesInner : List Placed → List Placed → PlainExpr → Type 0 where
  inner : {before one two after : List Placed} {e : PlainExpr} {open_at close_at : Place} →
      TakesSymbol Symbol.OpenParen before one open_at → DerivesExpr one two e → TakesSymbol Symbol.CloseParen two after close_at →
      DerivesInner before after e

-- the suffixes in front of the length of a new array, and the `[` after them
pub data DerivesOpenSuffixes : List Placed → List Placed → List Suffix → Type 0 where
  opened : {before one after : List Placed} {suffixes : List Suffix} {open_at : Place} →
      Many DerivesSuffix before one suffixes → TakesSymbol Symbol.OpenBracket one after open_at → DerivesOpenSuffixes before after suffixes

-- what stands after the base of a new array
pub data DerivesLengths : BaseTree → Place → List Placed → List Placed → PlainExpr → Type 0 where
  lengths : {base : BaseTree} {before one two three after : List Placed} {suffixes : List Suffix} {len : PlainExpr} {own : Suffix} {place close_at : Place} →
      DerivesOpenSuffixes before one suffixes → DerivesExpr one two len → TakesSymbol Symbol.CloseBracket two three close_at → DerivesAfter three after own →
      DerivesLengths base place before after (expression place (create_array base suffixes len own.rpl own.index))

-- Expr | Text, as what is printed
pub data DerivesPrinted : List Placed → List Placed → StmtForm → Type 0 where
  value : {before after : List Placed} {e : PlainExpr} → DerivesExpr before after e → DerivesPrinted before after (print e)
  text : {before after : List Placed} {bytes : List ℕ} {at : Place} → Takes (terminal.Text bytes) before after at → DerivesPrinted before after (print_text bytes)
