-- What was read makes the part of the grammar that it is.
use Rattle.std.proofs.Common.{◌≡◌, List, [], ◌∷◌, ◌++◌, map, refl, subst}
use Rattle.lang_base.specs.declared.op.UnaryOp.{UnaryOp}
use Rattle.lang_base.specs.declared.place.Place.{Place}
use Rattle.syntax_tokens.specs.declared.token.Symbol.{Symbol}
use Rattle.syntax_tokens.specs.declared.token.Keyword.{Keyword}
use Rattle.syntax_tokens.specs.declared.terminal.Placed.{Placed}
use Rattle.syntax_tokens.specs.declared.terminal.Terminal.{Terminal}
use Rattle.syntax_tokens.specs.declared.terminal.Terminal.TheVariants as terminal
use Rattle.syntax_tree.specs.declared.region.Named.{Named}
use Rattle.syntax_tree.specs.declared.region.RplTree.{RplTree}
use Rattle.syntax_tree.specs.declared.region.BaseTree.{BaseTree}
use Rattle.syntax_tree.specs.declared.region.BaseTree.TheVariants as base
use Rattle.syntax_tree.specs.declared.region.Suffix.{Suffix}
use Rattle.syntax_tree.specs.declared.expr.Expr.{Expr}
use Rattle.syntax_tree.specs.declared.expr.ExprKind.TheVariants as kind
use Rattle.syntax_tree.specs.Plain.{PlainExpr, PlainExprs, expression, ExprForm, create, plain_expr, plain_exprs}
use Rattle.syntax_grammar.specs.Taking.{Takes, TakesSymbol, TakesKeyword, TakesName, TakesOne, TakesNext, Next, NoNext, Many, Listed, last, more}
use Rattle.syntax_grammar.specs.Paths.{DerivesArgs, no_args, args}
use Rattle.syntax_grammar.specs.Types.{DerivesBase, class, DerivesAfter, suffix}
use Rattle.syntax_grammar.specs.Expressions.{DerivesExpr, DerivesActuals, no_actuals, actuals, DerivesFurther, end, further, DerivesUnary, operator, new_array, array, DerivesPostfix, primary, DerivesPrimary, parenthesised, creation, Ending}
use Rattle.syntax_grammar.specs.Reading.{plain_kind, DerivesExprTree, ending_of, Spells, NextSpells, DerivesSelection, after_dot, called, indexed, DerivesSelections, DerivesInner, inner, DerivesOpenSuffixes, opened, DerivesLengths, lengths}
use Rattle.syntax_grammar.specs.Expressions.{unary_symbol}
use Rattle.syntax_grammar.proofs.Lists.{many_more, listed_more}
use Rattle.syntax_exprs.proofs.Selecting.{selections_unary, selection_postfix}
use Rattle.syntax_exprs.proofs.Taken.{next-takes}
use Rattle.syntax_grammar.proofs.Trees.{kind_Unary, kind_Field, kind_Call, kind_Element, kind_NewArray}

pub made_operator : (op : UnaryOp) (arg e : Expr) {before one after : List Placed} {place : Place} →
    Next (terminal.Symbol (unary_symbol op)) before → TakesNext before one place → DerivesUnary one after (plain_expr arg) →
    plain_expr e ≡ expression place (plain_kind (kind.Unary op arg)) → DerivesUnary before after (plain_expr e)
made_operator op arg e next takes d is = rw (is, kind_Unary op arg) (operator (next-takes takes next) d)

pub made_object : {before one two three after : List Placed} {name : Named} {regions : List RplTree} {all : PlainExprs} {object found : PlainExpr} {place : Place} →
    TakesKeyword Keyword.New before one place → DerivesBase one two (base.Class name regions) → DerivesActuals two three all →
    object ≡ expression place (create name regions all) → DerivesSelections object three after found → DerivesUnary before after found
made_object {three = three} {after = after} {found = found} takes (class named paths) d is selections =
    selections_unary (primary (creation takes named paths d)) (subst (λ o. DerivesSelections o three after found) is selections)

pub made_array : {before one two after : List Placed} {start : BaseTree} {e : PlainExpr} {place : Place} →
    TakesKeyword Keyword.New before one place → DerivesBase one two start → DerivesLengths start place two after e → DerivesUnary before after e
made_array takes d (lengths (opened suffixes open_at) len close own) = new_array (array takes d suffixes open_at len close own)

pub made_lengths : (start : BaseTree) (suffixes : List Suffix) (len e : Expr) (own : Suffix) {before one two three after : List Placed} {place : Place} →
    DerivesOpenSuffixes before one suffixes → DerivesExpr one two (plain_expr len) → TakesOne (terminal.Symbol Symbol.CloseBracket) two three → DerivesAfter three after own →
    plain_expr e ≡ expression place (plain_kind (kind.NewArray start suffixes len own.rpl own.index)) → DerivesLengths start place before after (plain_expr e)
made_lengths start suffixes len e own opening d close tail is =
    rw (is, kind_NewArray start suffixes len own.rpl own.index) (lengths opening d close.takes tail)

pub first_opened : {before after : List Placed} {place : Place} → TakesSymbol Symbol.OpenBracket before after place → DerivesOpenSuffixes before after []
first_opened takes = opened Many.none takes

pub more_opened : {before one two three after : List Placed} {all : List Suffix} {next : Suffix} {place : Place} →
    DerivesOpenSuffixes before one all → TakesOne (terminal.Symbol Symbol.CloseBracket) one two → DerivesAfter two three next → TakesSymbol Symbol.OpenBracket three after place →
    {longer : List Suffix} → longer ≡ all ++ next ∷ [] → DerivesOpenSuffixes before after longer
more_opened (opened many open_at) close tail takes is = rw is (opened (many_more many (suffix open_at close.takes tail)) takes)

pub made_inner : {before one two after : List Placed} {e : PlainExpr} {place : Place} →
    TakesSymbol Symbol.OpenParen before one place → DerivesExpr one two e → TakesOne (terminal.Symbol Symbol.CloseParen) two after → DerivesInner before after e
made_inner takes d close = inner takes d close.takes

pub inner_selected : {before one after : List Placed} {first found : PlainExpr} →
    DerivesInner before one first → DerivesSelections first one after found → DerivesUnary before after found
inner_selected (inner takes d close) selections = selections_unary (primary (parenthesised takes d close)) selections

pub inner_selection : {before one after : List Placed} {first found : PlainExpr} →
    DerivesInner before one first → DerivesSelection first one after found → DerivesPostfix (ending_of found) before after found
inner_selection (inner takes d close) selection = selection_postfix (primary (parenthesised takes d close)) selection

pub primary_selected : {ending : Ending} {before one after : List Placed} {first found : PlainExpr} →
    DerivesPrimary ending before one first → DerivesSelections first one after found → DerivesUnary before after found
primary_selected d selections = selections_unary (primary d) selections

spelled_primary : {wanted : Terminal} {form : ExprForm} {before after : List Placed} {place : Place} →
    Takes wanted before after place → Spells wanted form → DerivesPrimary (ending_of (expression place form)) before after (expression place form)
spelled_primary takes Spells.number = DerivesPrimary.number takes
spelled_primary takes Spells.name = DerivesPrimary.name takes
spelled_primary takes Spells.yes = DerivesPrimary.yes takes
spelled_primary takes Spells.no = DerivesPrimary.no takes
spelled_primary takes Spells.nothing = DerivesPrimary.nothing takes
spelled_primary takes Spells.receiver = DerivesPrimary.receiver takes

pub made_literal : {before after : List Placed} {form : ExprForm} {e : PlainExpr} {place at : Place} →
    NextSpells before form → TakesNext before after at → place ≡ at → e ≡ expression place form → DerivesPrimary (ending_of e) before after e
made_literal spelled takes same is = rw (is, same) (spelled_primary (next-takes takes spelled.next) spelled.spells)

pub made_element : (of at e : Expr) {before one two after : List Placed} {place : Place} →
    TakesSymbol Symbol.OpenBracket before one place → DerivesExpr one two (plain_expr at) → TakesOne (terminal.Symbol Symbol.CloseBracket) two after →
    plain_expr e ≡ expression place (plain_kind (kind.Element of at)) → DerivesSelection (plain_expr of) before after (plain_expr e)
made_element of at e takes d close is = rw (is, kind_Element of at) (indexed takes d close.takes)

no_args_here : {before after : List Placed} {regions : List RplTree} → DerivesArgs before after regions → NoNext (terminal.Symbol Symbol.Less) before → after ≡ before
no_args_here no_args none = refl
no_args_here (args takes d close) none = absurd (none (record { after = _; takes = record { place = _; takes = takes } }))

pub made_field : (of e : Expr) (named : Named) {before one two after : List Placed} {regions : List RplTree} {place : Place} →
    Next (terminal.Symbol Symbol.Dot) before → TakesNext before one place → DerivesArgs one two regions → NoNext (terminal.Symbol Symbol.Less) one → TakesName two after named →
    plain_expr e ≡ expression named.place (plain_kind (kind.Field of named.name)) → DerivesSelection (plain_expr of) before after (plain_expr e)
made_field of e named {after = after} next takes d none name is =
    let here : TakesName _ after named = rw (no_args_here d none) at name in
    rw (is, kind_Field of named.name) (after_dot (next-takes takes next) here)

pub made_call : (of e : Expr) (named : Named) (regions : List RplTree) (all : List Expr) {before one two three after : List Placed} {place : Place} →
    Next (terminal.Symbol Symbol.Dot) before → TakesNext before one place → DerivesArgs one two regions → TakesName two three named → DerivesActuals three after (plain_exprs (map plain_expr all)) →
    plain_expr e ≡ expression named.place (plain_kind (kind.Call of regions named.name all)) → DerivesSelection (plain_expr of) before after (plain_expr e)
made_call of e named regions all next takes paths name d is =
    rw (is, kind_Call of regions named.name all) (called (next-takes takes next) paths name d)

pub made_no_actuals : {before one after : List Placed} {all : List Expr} {place : Place} →
    TakesSymbol Symbol.OpenParen before one place → TakesOne (terminal.Symbol Symbol.CloseParen) one after → all ≡ [] → DerivesActuals before after (plain_exprs (map plain_expr all))
made_no_actuals takes close is = rw is (no_actuals takes close.takes)

listed_further : {before one after : List Placed} {all : List Expr} {comma : Place} →
    TakesSymbol Symbol.Comma before one comma → Listed DerivesExprTree one after all → DerivesFurther before after (plain_exprs (map plain_expr all))
listed_further takes (last d) = further takes d end
listed_further takes (more d comma listed) = further takes d (listed_further comma listed)

pub made_actuals : {before one two after : List Placed} {all : List Expr} {place : Place} →
    TakesSymbol Symbol.OpenParen before one place → Listed DerivesExprTree one two all → TakesOne (terminal.Symbol Symbol.CloseParen) two after → DerivesActuals before after (plain_exprs (map plain_expr all))
made_actuals takes (last d) close = actuals takes d end close.takes
made_actuals takes (more d comma listed) close = actuals takes d (listed_further comma listed) close.takes

pub made_new : {before one two three after : List Placed} {name : Named} {regions : List RplTree} {all : PlainExprs} {e : PlainExpr} {place : Place} →
    TakesKeyword Keyword.New before one place → TakesName one two name → DerivesArgs two three regions → DerivesActuals three after all →
    e ≡ expression place (create name regions all) → DerivesPostfix (ending_of e) before after e
made_new takes name paths d is = rw is (primary (creation takes name paths d))

pub first_listed : (e : Expr) {before after : List Placed} {start all : List Expr} →
    DerivesExpr before after (plain_expr e) → start ≡ [] → all ≡ start ++ e ∷ [] → Listed DerivesExprTree before after all
first_listed e d empty is = rw (is, empty) (last d)

pub more_listed : (e : Expr) {before one two after : List Placed} {start all : List Expr} →
    Listed DerivesExprTree before one start → TakesOne (terminal.Symbol Symbol.Comma) one two → DerivesExpr two after (plain_expr e) → all ≡ start ++ e ∷ [] → Listed DerivesExprTree before after all
more_listed e listed comma d is = rw is (listed_more listed comma d)

pub primary_target : {ending : Ending} {before after : List Placed} {e : PlainExpr} → DerivesPrimary ending before after e → DerivesPostfix ending before after e
primary_target d = primary d
