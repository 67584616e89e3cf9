-- What was read makes the statement that it is.
use Rattle.std.proofs.Common.{◌≡◌, ℕ, Bool, true, false, List, [], ◌∷◌, ◌++◌, Some, None, map, ap, subst, ◌∙◌, inl, inr}
use Rattle.lang_base.specs.declared.place.Place.{Place}
use Rattle.syntax_tokens.specs.declared.token.Symbol.{Symbol}
use Rattle.syntax_tokens.specs.declared.token.Keyword.{Keyword}
use Rattle.syntax_tokens.specs.declared.terminal.Placed.{Placed}
use Rattle.syntax_tokens.specs.declared.terminal.Terminal.{Terminal}
use Rattle.syntax_tokens.specs.declared.terminal.Terminal.TheVariants as terminal
use Rattle.syntax_tree.specs.declared.region.Named.{Named}
use Rattle.syntax_tree.specs.declared.region.RplTree.{RplTree}
use Rattle.syntax_tree.specs.declared.region.TypeTree.{TypeTree}
use Rattle.syntax_tree.specs.declared.expr.Expr.{Expr}
use Rattle.syntax_tree.specs.declared.expr.ExprKind.TheVariants as expr_kind
use Rattle.syntax_tree.specs.declared.stmt.Stmt.{Stmt}
use Rattle.syntax_tree.specs.declared.stmt.StmtKind.TheVariants as kind
use Rattle.syntax_tree.specs.Plain.{PlainExpr, expression, PlainStmt, statement, StmtForm, perform, plain_expr, plain_stmt, plain_stmts}
use Rattle.syntax_grammar.specs.Taking.{Takes, TakesSymbol, TakesKeyword, TakesName, TakesOne, TakesNext, TakesIf, Next, NoNext, StandsAt, Many, Listed}
use Rattle.syntax_grammar.specs.Types.{DerivesType}
use Rattle.syntax_grammar.specs.Expressions.{DerivesExpr, DerivesPostfix, as_field, as_element, as_call, as_creation}
use Rattle.syntax_grammar.specs.Statements.{DerivesStmt, DerivesStmts, DerivesBlock, DerivesForm, DerivesCondition, DerivesValue, DerivesRange, DerivesFinal, IsPerformed, cobegin_word, foreach_word}
use Rattle.syntax_grammar.specs.Reading.{plain_kind, plain_stmt_kind, DerivesStmtTree, DerivesPrinted, ending_of, form_ending}
use Rattle.syntax_grammar.proofs.Lists.{many_more}
use Rattle.syntax_exprs.proofs.Taken.{next-takes}
use Rattle.syntax_grammar.proofs.Trees.{plain_node, kind_Field, kind_Element, kind_Call, kind_New}
use Rattle.syntax_grammar.proofs.StmtTrees.{kind_Block, kind_Declare, kind_AssignLocal, kind_AssignField, kind_AssignElement, kind_Do, kind_If_alone, kind_If_else, kind_While, kind_Return_nothing, kind_Return_value, kind_Print, kind_PrintText, kind_Cobegin, kind_Foreach, kind_ForeachParts, kind_Atomic, kind_Region}

pub takes_found : {wanted : Terminal} {before after : List Placed} (found : Bool) → TakesIf wanted found before after → found ≡ true → TakesOne wanted before after
takes_found true takes is = takes
takes_found false takes is = absurd (cc is)

pub takes_none : {wanted : Terminal} {before after : List Placed} (found : Bool) → TakesIf wanted found before after → found ≡ false → NoNext wanted before × (after ≡ before)
takes_none true takes is = absurd (cc is)
takes_none false takes is = takes

stands : {wanted : Terminal} {before after : List Placed} {place : Place} → Takes wanted before after place → StandsAt before place
stands takes = record { first = λ next after is. cc (takes.first, is) }

pub made_block : (all : List Stmt) {before after : List Placed} {s : PlainStmt} {place : Place} →
    StandsAt before place → DerivesBlock before after (plain_stmts (map plain_stmt all)) → s ≡ statement place (plain_stmt_kind (kind.Block all)) → DerivesStmt before after s
made_block all at d is = rw (is, kind_Block all) (DerivesStmt.at_first at (DerivesForm.blocked d))

pub made_if : (test : Expr) (body : Stmt) {found : Bool} {before one two three after : List Placed} {s : PlainStmt} {place : Place} →
    TakesKeyword Keyword.If before one place → DerivesCondition one two (plain_expr test) → DerivesStmt two three (plain_stmt body) →
    TakesIf (terminal.Keyword Keyword.Else) found three after → found ≡ false → s ≡ statement place (plain_stmt_kind (kind.If test body None)) → DerivesStmt before after s
made_if test body {found = found} takes tested d alone none is =
    let left = takes_none found alone none in
    rw (is, kind_If_alone test body, left.1) (DerivesStmt.at_first (stands takes) (DerivesForm.if_alone takes tested d left.0))

pub made_else : (test : Expr) (body other : Stmt) {found : Bool} {before one two three four after : List Placed} {s : PlainStmt} {place : Place} →
    TakesKeyword Keyword.If before one place → DerivesCondition one two (plain_expr test) → DerivesStmt two three (plain_stmt body) →
    TakesIf (terminal.Keyword Keyword.Else) found three four → found ≡ true → DerivesStmt four after (plain_stmt other) →
    s ≡ statement place (plain_stmt_kind (kind.If test body (Some other))) → DerivesStmt before after s
made_else test body other {found = found} takes tested d others there following is =
    rw (is, kind_If_else test body other) (DerivesStmt.at_first (stands takes) (DerivesForm.if_else takes tested d (takes_found found others there).takes following))

pub made_while : (test : Expr) (body : Stmt) {before one two after : List Placed} {s : PlainStmt} {place : Place} →
    TakesKeyword Keyword.While before one place → DerivesCondition one two (plain_expr test) → DerivesStmt two after (plain_stmt body) →
    s ≡ statement place (plain_stmt_kind (kind.While test body)) → DerivesStmt before after s
made_while test body takes tested d is = rw (is, kind_While test body) (DerivesStmt.at_first (stands takes) (DerivesForm.turning takes tested d))

pub made_cobegin : (nd : Bool) (all : List Stmt) {before one after : List Placed} {s : PlainStmt} {place taken : Place} →
    StandsAt before place → Next (terminal.Keyword (cobegin_word nd)) before → TakesNext before one taken → DerivesBlock one after (plain_stmts (map plain_stmt all)) →
    s ≡ statement place (plain_stmt_kind (kind.Cobegin nd all)) → DerivesStmt before after s
made_cobegin nd all at next takes d is = rw (is, kind_Cobegin nd all) (DerivesStmt.at_first at (DerivesForm.branching {nd = nd} (next-takes takes next) d))

pub made_atomic : (all : List Stmt) {before one after : List Placed} {s : PlainStmt} {place : Place} →
    TakesKeyword Keyword.Atomic before one place → DerivesBlock one after (plain_stmts (map plain_stmt all)) → s ≡ statement place (plain_stmt_kind (kind.Atomic all)) → DerivesStmt before after s
made_atomic all takes d is = rw (is, kind_Atomic all) (DerivesStmt.at_first (stands takes) (DerivesForm.in_one takes d))

pub made_foreach : (nd : Bool) (var : Named) (first second : Expr) (body : Stmt) {before one two three after : List Placed} {s : PlainStmt} {place taken open_at : Place} →
    StandsAt before place → Next (terminal.Keyword (foreach_word nd)) before → TakesNext before one taken → TakesSymbol Symbol.OpenParen one two open_at →
    DerivesRange two three var (plain_expr first) (plain_expr second) → DerivesStmt three after (plain_stmt body) →
    s ≡ statement place (plain_stmt_kind (kind.Foreach nd var first second body)) → DerivesStmt before after s
made_foreach nd var first second body at next takes start span d is =
    rw (is, kind_Foreach nd var first second body) (DerivesStmt.at_first at (DerivesForm.spreading {nd = nd} (next-takes takes next) start span d))

pub made_parts : (view var : Named) (first second : Expr) (body : Stmt) {before one two three four five after : List Placed} {s : PlainStmt} {place open_at comma : Place} →
    TakesKeyword Keyword.ForeachParts before one place → TakesSymbol Symbol.OpenParen one two open_at → TakesName two three view → TakesSymbol Symbol.Comma three four comma →
    DerivesRange four five var (plain_expr first) (plain_expr second) → DerivesStmt five after (plain_stmt body) →
    s ≡ statement place (plain_stmt_kind (kind.ForeachParts view var first second body)) → DerivesStmt before after s
made_parts view var first second body takes start name comma span d is =
    rw (is, kind_ForeachParts view var first second body) (DerivesStmt.at_first (stands takes) (DerivesForm.parting takes start name comma span d))

stmts_all : {before after : List Placed} {all : List Stmt} → Many DerivesStmtTree before after all → DerivesStmts before after (plain_stmts (map plain_stmt all))
stmts_all Many.none = DerivesStmts.none
stmts_all (Many.some d many) = DerivesStmts.some d (stmts_all many)

pub block_braces : {before one two after : List Placed} {all : List Stmt} {place : Place} →
    TakesSymbol Symbol.OpenBrace before one place → Many DerivesStmtTree one two all → TakesOne (terminal.Symbol Symbol.CloseBrace) two after →
    DerivesBlock before after (plain_stmts (map plain_stmt all))
block_braces takes many close = DerivesBlock.braces takes (stmts_all many) close.takes

pub first_stmts : {here : List Placed} {all : List Stmt} → all ≡ [] → Many DerivesStmtTree here here all
first_stmts is = rw is Many.none

pub more_stmts : (s : Stmt) {before one after : List Placed} {start all : List Stmt} →
    Many DerivesStmtTree before one start → DerivesStmt one after (plain_stmt s) → all ≡ start ++ s ∷ [] → Many DerivesStmtTree before after all
more_stmts s many d is = rw is (many_more many d)

pub made_condition : {before one two after : List Placed} {e : PlainExpr} {place : Place} →
    TakesSymbol Symbol.OpenParen before one place → DerivesExpr one two e → TakesOne (terminal.Symbol Symbol.CloseParen) two after → DerivesCondition before after e
made_condition takes d close = DerivesCondition.condition takes d close.takes

pub made_value : {before one after : List Placed} {e : PlainExpr} {place : Place} →
    DerivesExpr before one e → TakesSymbol Symbol.Semicolon one after place → DerivesValue before after e
made_value d takes = DerivesValue.value d takes

pub made_range : {before one two three four five six after : List Placed} {var : Named} {first second : PlainExpr} {int_at in_at comma : Place} →
    TakesKeyword Keyword.Int before one int_at → TakesName one two var → TakesKeyword Keyword.In two three in_at →
    DerivesExpr three four first → TakesSymbol Symbol.Comma four five comma → DerivesExpr five six second → TakesOne (terminal.Symbol Symbol.CloseParen) six after →
    DerivesRange before after var first second
made_range int name in_word first comma second close = DerivesRange.range int name in_word first comma second close.takes

pub return_alone : {found : Bool} {before one after : List Placed} {s : PlainStmt} {place : Place} →
    TakesKeyword Keyword.Return before one place → TakesIf (terminal.Symbol Symbol.Semicolon) found one after → found ≡ true →
    s ≡ statement place (plain_stmt_kind (kind.Return None)) → DerivesStmt before after s
return_alone {found = found} takes semicolon found_it is =
    rw (is, kind_Return_nothing) (DerivesStmt.at_first (stands takes) (DerivesForm.bare_return takes (takes_found found semicolon found_it).takes))

pub return_with : (value : Expr) {found : Bool} {before one two after : List Placed} {s : PlainStmt} {place : Place} →
    TakesKeyword Keyword.Return before one place → TakesIf (terminal.Symbol Symbol.Semicolon) found one two → found ≡ false → DerivesValue two after (plain_expr value) →
    s ≡ statement place (plain_stmt_kind (kind.Return (Some value))) → DerivesStmt before after s
return_with value {found = found} {one = one} {after = after} takes semicolon none d is =
    let here : DerivesValue one after (plain_expr value) = rw (takes_none found semicolon none).1 at d in
    rw (is, kind_Return_value value) (DerivesStmt.at_first (stands takes) (DerivesForm.return_with takes here))

pub shown_value : (value : Expr) {before after : List Placed} → DerivesExpr before after (plain_expr value) → DerivesPrinted before after (plain_stmt_kind (kind.Print value))
shown_value value d = rw (kind_Print value) (DerivesPrinted.value d)

pub shown_text : (text bytes : List ℕ) {before after : List Placed} {place : Place} →
    Next (terminal.Text text) before → TakesNext before after place → bytes ≡ text → DerivesPrinted before after (plain_stmt_kind (kind.PrintText bytes))
shown_text text bytes next takes same = rw (kind_PrintText bytes, same) (DerivesPrinted.text (next-takes takes next))

pub made_print : {before one two three four after : List Placed} {form : StmtForm} {s : PlainStmt} {place open_at ends_at : Place} →
    TakesKeyword Keyword.Print before one place → TakesSymbol Symbol.OpenParen one two open_at → DerivesPrinted two three form →
    TakesOne (terminal.Symbol Symbol.CloseParen) three four → TakesSymbol Symbol.Semicolon four after ends_at →
    s ≡ statement place form → DerivesStmt before after s
made_print takes start (DerivesPrinted.value d) close semicolon is =
    rw is (DerivesStmt.at_first (stands takes) (DerivesForm.printed takes (DerivesCondition.condition start d close.takes) semicolon))
made_print takes start (DerivesPrinted.text text) close semicolon is =
    rw is (DerivesStmt.at_first (stands takes) (DerivesForm.printed_text takes start text close.takes semicolon))

pub made_regions : (names : List Named) {before one two after : List Placed} {s : PlainStmt} {place ends_at : Place} →
    TakesKeyword Keyword.Region before one place → Listed TakesName one two names → TakesSymbol Symbol.Semicolon two after ends_at →
    s ≡ statement place (plain_stmt_kind (kind.Region names)) → DerivesStmt before after s
made_regions names takes listed semicolon is =
    rw (is, kind_Region names) (DerivesStmt.at_first (stands takes) (DerivesForm.new_regions takes listed semicolon))

final_if : (found : Bool) {before after : List Placed} → TakesIf (terminal.Keyword Keyword.Final) found before after → DerivesFinal before after found
final_if true takes = DerivesFinal.final takes.takes
final_if false none = rw none.1 DerivesFinal.not_final

pub made_declaration : (is_final : Bool) (ty : TypeTree) (named : Named) (value : Expr) {before one two three four after : List Placed} {s : PlainStmt} {place : Place} →
    TakesIf (terminal.Keyword Keyword.Final) is_final before one → DerivesType one two ty → TakesName two three named → TakesSymbol Symbol.Assign three four place → DerivesValue four after (plain_expr value) →
    s ≡ statement named.place (plain_stmt_kind (kind.Declare is_final ty named.name value)) → DerivesStmt before after s
made_declaration is_final ty named value final type name equals d is =
    rw (is, kind_Declare is_final ty named.name value) (DerivesStmt.declaration (final_if is_final final) type name equals d)

pub made_assignment : (target : Named) (value : Expr) {before one two after : List Placed} {s : PlainStmt} {place : Place} →
    TakesName before one target → TakesSymbol Symbol.Assign one two place → DerivesValue two after (plain_expr value) →
    s ≡ statement place (plain_stmt_kind (kind.AssignLocal target value)) → DerivesStmt before after s
made_assignment target value name equals d is = rw (is, kind_AssignLocal target value) (DerivesStmt.local_assignment name equals d)

pub ending_is : (target : Expr) → ending_of (plain_expr target) ≡ form_ending (plain_kind target.kind)
ending_is target = ap ending_of (plain_node target)

pub field_ending : (target of : Expr) (name : ℕ) → target.kind ≡ expr_kind.Field of name → ending_of (plain_expr target) ≡ as_field
field_ending target of name is = ending_is target ∙ (ap (λ k. form_ending (plain_kind k)) is ∙ ap form_ending (kind_Field of name))

pub element_ending : (target of at : Expr) → target.kind ≡ expr_kind.Element of at → ending_of (plain_expr target) ≡ as_element
element_ending target of at is = ending_is target ∙ (ap (λ k. form_ending (plain_kind k)) is ∙ ap form_ending (kind_Element of at))

pub call_ending : (target of : Expr) (regions : List RplTree) (name : ℕ) (all : List Expr) → target.kind ≡ expr_kind.Call of regions name all → ending_of (plain_expr target) ≡ as_call
call_ending target of regions name all is = ending_is target ∙ (ap (λ k. form_ending (plain_kind k)) is ∙ ap form_ending (kind_Call of regions name all))

pub new_ending : (target : Expr) (name : Named) (regions : List RplTree) (all : List Expr) → target.kind ≡ expr_kind.New name regions all → ending_of (plain_expr target) ≡ as_creation
new_ending target name regions all is = ending_is target ∙ (ap (λ k. form_ending (plain_kind k)) is ∙ ap form_ending (kind_New name regions all))

pub made_field_assignment : (target value of : Expr) (name : ℕ) {before one two after : List Placed} {s : PlainStmt} {place : Place} →
    DerivesPostfix (ending_of (plain_expr target)) before one (plain_expr target) → target.kind ≡ expr_kind.Field of name → TakesSymbol Symbol.Assign one two place → DerivesValue two after (plain_expr value) →
    s ≡ statement place (plain_stmt_kind (kind.AssignField target value)) → DerivesStmt before after s
made_field_assignment target value of name {before = before} {one = one} postfix field equals d is =
    let left = subst (λ e. DerivesPostfix e before one (plain_expr target)) (field_ending target of name field) postfix in
    rw (is, kind_AssignField target value) (DerivesStmt.field_assignment left equals d)

pub made_element_assignment : (target value of at : Expr) {before one two after : List Placed} {s : PlainStmt} {place : Place} →
    DerivesPostfix (ending_of (plain_expr target)) before one (plain_expr target) → target.kind ≡ expr_kind.Element of at → TakesSymbol Symbol.Assign one two place → DerivesValue two after (plain_expr value) →
    s ≡ statement place (plain_stmt_kind (kind.AssignElement target value)) → DerivesStmt before after s
made_element_assignment target value of at {before = before} {one = one} postfix element equals d is =
    let left = subst (λ e. DerivesPostfix e before one (plain_expr target)) (element_ending target of at element) postfix in
    rw (is, kind_AssignElement target value) (DerivesStmt.element_assignment left equals d)

performed : (target : Expr) {before one after : List Placed} {s : PlainStmt} {ends_at : Place} →
    IsPerformed (ending_of (plain_expr target)) → DerivesPostfix (ending_of (plain_expr target)) before one (plain_expr target) → TakesSymbol Symbol.Semicolon one after ends_at →
    s ≡ statement target.place (plain_stmt_kind (kind.Do target)) → DerivesStmt before after s
performed target {before = before} {one = one} ends postfix semicolon is =
    let opened = subst (λ e. DerivesPostfix (ending_of (plain_expr target)) before one e) (plain_node target) postfix in
    let it : plain_stmt_kind (kind.Do target) ≡ perform (expression target.place (plain_kind target.kind)) = kind_Do target ∙ ap perform (plain_node target) in
    rw (is, it) (DerivesStmt.performed ends opened semicolon)

pub call_performed : (target of : Expr) (regions : List RplTree) (name : ℕ) (all : List Expr) {before one after : List Placed} {s : PlainStmt} {ends_at : Place} →
    target.kind ≡ expr_kind.Call of regions name all → DerivesPostfix (ending_of (plain_expr target)) before one (plain_expr target) → TakesSymbol Symbol.Semicolon one after ends_at →
    s ≡ statement target.place (plain_stmt_kind (kind.Do target)) → DerivesStmt before after s
call_performed target of regions name all call postfix semicolon is = performed target (inl (call_ending target of regions name all call)) postfix semicolon is

pub new_performed : (target : Expr) (name : Named) (regions : List RplTree) (all : List Expr) {before one after : List Placed} {s : PlainStmt} {ends_at : Place} →
    target.kind ≡ expr_kind.New name regions all → DerivesPostfix (ending_of (plain_expr target)) before one (plain_expr target) → TakesSymbol Symbol.Semicolon one after ends_at →
    s ≡ statement target.place (plain_stmt_kind (kind.Do target)) → DerivesStmt before after s
new_performed target name regions all new postfix semicolon is = performed target (inr (new_ending target name regions all new)) postfix semicolon is
