-- The grammar of statements, with their trees. A statement that begins with a name is a declaration exactly where
-- a name, `<`, or `[` and `]` follow, since nothing else can go on so.
use Rattle.std.specs.Prelude.{◌≡◌, ◌⊎◌, ℕ, List, Bool, true, false}
use Rattle.lang_base.specs.declared.place.Place.{Place}
use Rattle.syntax_tokens.specs.declared.token.Symbol.{Symbol}
use Rattle.syntax_tokens.specs.declared.token.Keyword.{Keyword}
use Rattle.syntax_tokens.specs.declared.terminal.Placed.{Placed}
use Rattle.syntax_tokens.specs.declared.terminal.Terminal.TheVariants as terminal
use Rattle.syntax_tree.specs.declared.region.Named.{Named}
use Rattle.syntax_tree.specs.declared.region.TypeTree.{TypeTree}
use Rattle.syntax_tree.specs.Plain.{PlainExpr, expression, ExprForm, PlainStmt, statement, StmtForm, block, declare, assign_local, assign_field, assign_element, perform, choice, choice_else, while_loop, return_nothing, return_value, print, print_text, cobegin, foreach, foreach_parts, atomic, local_regions, PlainStmts, no_stmts, more_stmts}
use Rattle.syntax_grammar.specs.Taking.{Takes, TakesSymbol, TakesKeyword, TakesName, NoNext, StandsAt, Listed}
use Rattle.syntax_grammar.specs.Types.{DerivesType}
use Rattle.syntax_grammar.specs.Expressions.{DerivesExpr, DerivesPostfix, Ending, as_field, as_element, as_call, as_creation}

-- [ "final" ]
pub data DerivesFinal : List Placed → List Placed → Bool → Type 0 where
  not_final : {here : List Placed} → DerivesFinal here here false
  final : {before after : List Placed} {place : Place} → TakesKeyword Keyword.Final before after place → DerivesFinal before after true

-- a call or an object creation
abbrev pub IsPerformed : Ending → Type 0
IsPerformed ending = (ending ≡ as_call) ⊎ (ending ≡ as_creation)

-- "(" Expr ")"
pub data DerivesCondition : List Placed → List Placed → PlainExpr → Type 0 where
  condition : {before one two after : List Placed} {test : PlainExpr} {open_at close_at : Place} →
      TakesSymbol Symbol.OpenParen before one open_at → DerivesExpr one two test → TakesSymbol Symbol.CloseParen two after close_at →
      DerivesCondition before after test

-- Expr ";"
pub data DerivesValue : List Placed → List Placed → PlainExpr → Type 0 where
  value : {before one after : List Placed} {e : PlainExpr} {ends_at : Place} →
      DerivesExpr before one e → TakesSymbol Symbol.Semicolon one after ends_at → DerivesValue before after e

-- "cobegin" or "cobegin_nd"
abbrev pub cobegin_word : Bool → Keyword
cobegin_word false = Keyword.Cobegin
cobegin_word true = Keyword.CobeginNd

-- "foreach" or "foreach_nd"
abbrev pub foreach_word : Bool → Keyword
foreach_word false = Keyword.Foreach
foreach_word true = Keyword.ForeachNd

-- "int" Name "in" Expr "," Expr ")"
pub data DerivesRange : List Placed → List Placed → Named → PlainExpr → PlainExpr → Type 0 where
  range : {before one two three four five six after : List Placed} {var : Named} {first second : PlainExpr} {int_at in_at comma close_at : Place} →
      TakesKeyword Keyword.Int before one int_at → TakesName one two var → TakesKeyword Keyword.In two three in_at →
      DerivesExpr three four first → TakesSymbol Symbol.Comma four five comma → DerivesExpr five six second → TakesSymbol Symbol.CloseParen six after close_at →
      DerivesRange before after var first second

mutual
  -- Block = "{" { Stmt } "}"
  pub data DerivesBlock : List Placed → List Placed → PlainStmts → Type 0 where
    braces : {before one two after : List Placed} {all : PlainStmts} {open_at close_at : Place} →
        TakesSymbol Symbol.OpenBrace before one open_at → DerivesStmts one two all → TakesSymbol Symbol.CloseBrace two after close_at → DerivesBlock before after all

  -- { Stmt }
  pub data DerivesStmts : List Placed → List Placed → PlainStmts → Type 0 where
    none : {here : List Placed} → DerivesStmts here here no_stmts
    some : {before one after : List Placed} {s : PlainStmt} {ss : PlainStmts} →
        DerivesStmt before one s → DerivesStmts one after ss → DerivesStmts before after (more_stmts s ss)

  pub data DerivesStmt : List Placed → List Placed → PlainStmt → Type 0 where
    -- any but the next five, at its first terminal
    at_first : {before after : List Placed} {form : StmtForm} {place : Place} →
        StandsAt before place → DerivesForm before after form → DerivesStmt before after (statement place form)
    -- [ "final" ] Type Name "=" Expr ";"
    declaration : {before one two three four after : List Placed} {is_final : Bool} {ty : TypeTree} {named : Named} {value : PlainExpr} {equals_at : Place} →
        DerivesFinal before one is_final → DerivesType one two ty → TakesName two three named → TakesSymbol Symbol.Assign three four equals_at → DerivesValue four after value →
        DerivesStmt before after (statement named.place (declare is_final ty named.name value))
    -- Postfix "=" Expr ";", where the Postfix ends as a name, field or element
    local_assignment : {before one two after : List Placed} {target : Named} {value : PlainExpr} {place : Place} →
        TakesName before one target → TakesSymbol Symbol.Assign one two place → DerivesValue two after value →
        DerivesStmt before after (statement place (assign_local target value))
    field_assignment : {before one two after : List Placed} {target value : PlainExpr} {place : Place} →
        DerivesPostfix as_field before one target → TakesSymbol Symbol.Assign one two place → DerivesValue two after value →
        DerivesStmt before after (statement place (assign_field target value))
    element_assignment : {before one two after : List Placed} {target value : PlainExpr} {place : Place} →
        DerivesPostfix as_element before one target → TakesSymbol Symbol.Assign one two place → DerivesValue two after value →
        DerivesStmt before after (statement place (assign_element target value))
    -- Postfix ";", where the Postfix ends as a call or object creation
    performed : {ending : Ending} {before one after : List Placed} {place ends_at : Place} {form : ExprForm} →
        IsPerformed ending → DerivesPostfix ending before one (expression place form) → TakesSymbol Symbol.Semicolon one after ends_at →
        DerivesStmt before after (statement place (perform (expression place form)))

  pub data DerivesForm : List Placed → List Placed → StmtForm → Type 0 where
    -- Block
    blocked : {before after : List Placed} {all : PlainStmts} → DerivesBlock before after all → DerivesForm before after (block all)
    -- "if" "(" Expr ")" Stmt [ "else" Stmt ]; an `else` that stands there belongs to it
    if_alone : {before one two after : List Placed} {test : PlainExpr} {then_part : PlainStmt} {place : Place} →
        TakesKeyword Keyword.If before one place → DerivesCondition one two test → DerivesStmt two after then_part →
        NoNext (terminal.Keyword Keyword.Else) after →
        DerivesForm before after (choice test then_part)
    if_else : {before one two three four after : List Placed} {test : PlainExpr} {then_part else_part : PlainStmt} {place else_at : Place} →
        TakesKeyword Keyword.If before one place → DerivesCondition one two test → DerivesStmt two three then_part →
        TakesKeyword Keyword.Else three four else_at → DerivesStmt four after else_part →
        DerivesForm before after (choice_else test then_part else_part)
    -- "while" "(" Expr ")" Stmt
    turning : {before one two after : List Placed} {test : PlainExpr} {body : PlainStmt} {place : Place} →
        TakesKeyword Keyword.While before one place → DerivesCondition one two test → DerivesStmt two after body →
        DerivesForm before after (while_loop test body)
    -- "return" [ Expr ] ";"
    bare_return : {before one after : List Placed} {place ends_at : Place} →
        TakesKeyword Keyword.Return before one place → TakesSymbol Symbol.Semicolon one after ends_at → DerivesForm before after return_nothing
    return_with : {before one after : List Placed} {value : PlainExpr} {place : Place} →
        TakesKeyword Keyword.Return before one place → DerivesValue one after value → DerivesForm before after (return_value value)
    -- "print" "(" ( Expr | Text ) ")" ";"
    printed : {before one two after : List Placed} {value : PlainExpr} {place ends_at : Place} →
        TakesKeyword Keyword.Print before one place → DerivesCondition one two value → TakesSymbol Symbol.Semicolon two after ends_at →
        DerivesForm before after (print value)
    printed_text : {before one two three four after : List Placed} {text : List ℕ} {place open_at at close_at ends_at : Place} →
        TakesKeyword Keyword.Print before one place → TakesSymbol Symbol.OpenParen one two open_at → Takes (terminal.Text text) two three at →
        TakesSymbol Symbol.CloseParen three four close_at → TakesSymbol Symbol.Semicolon four after ends_at →
        DerivesForm before after (print_text text)
    -- ( "cobegin" | "cobegin_nd" ) Block
    branching : {before one after : List Placed} {nd : Bool} {branches : PlainStmts} {place : Place} →
        TakesKeyword (cobegin_word nd) before one place → DerivesBlock one after branches → DerivesForm before after (cobegin nd branches)
    -- ( "foreach" | "foreach_nd" ) "(" "int" Name "in" Expr "," Expr ")" Stmt
    spreading : {before one two three after : List Placed} {nd : Bool} {var : Named} {start count : PlainExpr} {body : PlainStmt} {place open_at : Place} →
        TakesKeyword (foreach_word nd) before one place → TakesSymbol Symbol.OpenParen one two open_at → DerivesRange two three var start count → DerivesStmt three after body →
        DerivesForm before after (foreach nd var start count body)
    -- "foreach_parts" "(" Name "," "int" Name "in" Expr "," Expr ")" Stmt
    parting : {before one two three four five after : List Placed} {view var : Named} {array count : PlainExpr} {body : PlainStmt} {place open_at comma : Place} →
        TakesKeyword Keyword.ForeachParts before one place → TakesSymbol Symbol.OpenParen one two open_at → TakesName two three view → TakesSymbol Symbol.Comma three four comma →
        DerivesRange four five var array count → DerivesStmt five after body →
        DerivesForm before after (foreach_parts view var array count body)
    -- "atomic" Block
    in_one : {before one after : List Placed} {all : PlainStmts} {place : Place} →
        TakesKeyword Keyword.Atomic before one place → DerivesBlock one after all → DerivesForm before after (atomic all)
    -- "region" Name { "," Name } ";"
    new_regions : {before one two after : List Placed} {names : List Named} {place ends_at : Place} →
        TakesKeyword Keyword.Region before one place → Listed TakesName one two names → TakesSymbol Symbol.Semicolon two after ends_at →
        DerivesForm before after (local_regions names)
