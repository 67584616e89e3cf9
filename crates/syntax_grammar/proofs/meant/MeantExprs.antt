-- Expressions derive what their parts derive.
use Rattle.std.proofs.Common.{◌≡◌, ℕ, suc, ◌≤◌, List, [], ◌∷◌, ◌||◌, inl, inr, Option, Some, None, refl, sym, ap, subst}
use Rattle.std.proofs.lemmas.Bool.Decides.{leb_tells}
use Rattle.lang_base.specs.declared.op.UnaryOp.TheVariants as unary_op
use Rattle.syntax_tokens.specs.declared.token.Symbol.{Symbol}
use Rattle.syntax_tokens.specs.declared.token.Keyword.{Keyword}
use Rattle.syntax_tokens.specs.declared.terminal.Placed.{Placed}
use Rattle.syntax_tokens.specs.declared.terminal.Terminal.{Terminal}
use Rattle.syntax_tokens.specs.declared.terminal.Terminal.TheVariants as terminal
use Rattle.syntax_tree.specs.declared.region.BaseTree.TheVariants as base
use Rattle.syntax_tree.specs.declared.expr.InfixOp.{InfixOp}
use Rattle.syntax_tree.specs.Plain.{expression, binary, no_exprs}
use Rattle.syntax_grammar.specs.Taking.{Takes, TakesName, Next, Many}
use Rattle.syntax_grammar.specs.Words.{op_at, is_any, is_name, is_dot, is_open_bracket, is_close_bracket, is_less, is_comma, is_open_paren, is_close_paren}
use Rattle.syntax_grammar.specs.Paths.{no_args}
use Rattle.syntax_grammar.specs.Types.{DerivesBase, suffix}
use Rattle.syntax_grammar.specs.Expressions.{symbol_of, level_of, left_level, as_value, as_field, as_element, as_call, as_creation, DerivesLevel, operand, operation, operator, postfix, new_array, DerivesPostfix, primary, after_dot, called, indexed, DerivesPrimary, array, no_actuals, actuals, DerivesFurther, end, further}
use Rattle.syntax_grammar.specs.Expecting.{one, part, next_of, next_is, op_of, choose, climb_parts, unary_parts, created_parts, literal_parts}
use Rattle.syntax_grammar.specs.Expecting.{Part as p}
use Rattle.syntax_grammar.proofs.Lists.{many_more}
use Rattle.syntax_grammar.proofs.meant.Meant.{One, Meant, All, AllOf, Valued, signed, worded, named, anyhow, either}

-- the operator that comes next
spelled : {read op : InfixOp} → Some read ≡ Some op → terminal.Symbol (symbol_of read) ≡ terminal.Symbol (symbol_of op)
spelled {read} {op} e = let same : read ≡ op = cc in ap (λ (o : InfixOp). terminal.Symbol (symbol_of o)) same

op_at_is : (t : Terminal) (op : InfixOp) → op_at t ≡ Some op → t ≡ terminal.Symbol (symbol_of op)
op_at_is (terminal.Symbol Symbol.Or) op e = spelled e
op_at_is (terminal.Symbol Symbol.And) op e = spelled e
op_at_is (terminal.Symbol Symbol.Equal) op e = spelled e
op_at_is (terminal.Symbol Symbol.NotEqual) op e = spelled e
op_at_is (terminal.Symbol Symbol.Less) op e = spelled e
op_at_is (terminal.Symbol Symbol.AtMost) op e = spelled e
op_at_is (terminal.Symbol Symbol.Greater) op e = spelled e
op_at_is (terminal.Symbol Symbol.AtLeast) op e = spelled e
op_at_is (terminal.Symbol Symbol.Plus) op e = spelled e
op_at_is (terminal.Symbol Symbol.Minus) op e = spelled e
op_at_is (terminal.Symbol Symbol.Star) op e = spelled e
op_at_is (terminal.Symbol Symbol.Slash) op e = spelled e
op_at_is (terminal.Symbol Symbol.Percent) op e = spelled e
op_at_is _ op e = cc

operator_next : (op : InfixOp) (here : List Placed) → Some op ≡ op_of (next_of here) → Next (terminal.Symbol (symbol_of op)) here
operator_next op [] e = cc
operator_next op (next ∷ after) e =
    record { after = after; takes = record { place = next.place; takes = record { first = ap (λ (t : Terminal). record { terminal = t; place = next.place } ∷ after) (op_at_is next.terminal op (sym e)) } } }

pub expr_of : (level : ℕ) {before after : List Placed} → AllOf (choose (p.expr level) (next_of before)) before after → Meant (p.expr level) before after
expr_of level {before} h = h.others before h.first.0 (operand h.first.1) (λ k le. operand h.first.1)

taken_any : {wanted : Terminal} {before m : List Placed} (n : Next wanted before) → One is_any before m → Takes wanted before m n.takes.place
taken_any {wanted} {before} n o =
    let same : n.after ≡ _ = let i = n.takes.takes.first in let j = o.is in cc in
    subst (λ (l : List Placed). Takes wanted before l n.takes.place) same n.takes.takes

climbed : (level top : ℕ) (op : InfixOp) {before after : List Placed} → Next (terminal.Symbol (symbol_of op)) before → level ≤ level_of op → left_level op ≤ top →
    All (one is_any ∷ part (p.expr (suc (level_of op))) ∷ part (p.climb level (level_of op)) ∷ []) before after → Meant (p.climb level top) before after
climbed level top op n low enough h s e d left =
    let right = h.others.first in
    let t = taken_any n h.first in
    h.others.others s (expression n.takes.place (binary op e right.0)) (operation low (left (left_level op) enough) t right.1) (λ k le. operation le (left (left_level op) enough) t right.1)

ended : (level top : ℕ) {before after : List Placed} → before ≡ after → Meant (p.climb level top) before after
ended level top is s e d left = (e, subst (λ (l : List Placed). DerivesLevel level s l e) is d)

climb_by : (level top : ℕ) {before after : List Placed} (o : Option InfixOp) → op_of (next_of before) ≡ o → All (climb_parts level top o) before after → Meant (p.climb level top) before after
climb_by level top None e h = ended level top h
climb_by level top {before} {after} (Some op) e h = elim (leb_tells level (level_of op)) [
  | inl y ↦ elim (leb_tells (left_level op) top) [
    | inl z ↦
        let taken : All (one is_any ∷ part (p.expr (suc (level_of op))) ∷ part (p.climb level (level_of op)) ∷ []) before after = rw (y.0, z.0) at h in
        climbed level top op (operator_next op before (sym e)) y.1 z.1 taken
    | inr n ↦ let is : before ≡ after = rw (y.0, n.0) at h in ended level top is
  ]
  | inr n ↦ let is : before ≡ after = rw n.0 at h in ended level top is
]

pub climb_of : (level top : ℕ) {before after : List Placed} → AllOf (choose (p.climb level top) (next_of before)) before after → Meant (p.climb level top) before after
climb_of level top {before} h = climb_by level top (op_of (next_of before)) refl h

from_literal : {before after : List Placed} → All (part p.literal ∷ part p.selected ∷ []) before after → Valued before after
from_literal {before} h = let r = h.others before h.first.0 h.first.1 (primary h.first.2) in (r.1, postfix r.2)

unary_by : (t : Terminal) (first : Placed) (rest : List Placed) {after : List Placed} → first.terminal ≡ t → All (unary_parts t) (first ∷ rest) after → Valued (first ∷ rest) after
unary_by (terminal.Symbol Symbol.Minus) first rest e h = (_, operator {op = unary_op.Negate} (anyhow first rest (terminal.Symbol Symbol.Minus) e h.first) h.others.1)
unary_by (terminal.Symbol Symbol.Not) first rest e h = (_, operator {op = unary_op.Not} (anyhow first rest (terminal.Symbol Symbol.Not) e h.first) h.others.1)
unary_by (terminal.Keyword Keyword.New) first rest e h = h.others (first ∷ rest) _ (worded Keyword.New h.first)
unary_by (terminal.Symbol Symbol.OpenParen) first rest e h = let r = h.others (first ∷ rest) as_value h.first.0 (primary h.first.1) in (r.1, postfix r.2)
unary_by _ first rest e h = from_literal h

pub unary_of : {before after : List Placed} → AllOf (choose p.unary (next_of before)) before after → Meant p.unary before after
unary_of {before = []} h = from_literal h
unary_of {before = first ∷ rest} h = unary_by first.terminal first rest refl h

of_base : {before after : List Placed} → All (part p.base ∷ part p.array ∷ []) before after → Meant p.created before after
of_base {before} h s place t = h.others s before h.mid place h.first.0 [] t h.first.1 Many.none

of_class : {before after : List Placed} → All (one is_name ∷ part p.args_if ∷ part p.created_rest ∷ []) before after → Meant p.created before after
of_class {before} h s place t = let n = named h.first in h.others.others s before h.mid place n.0 h.others.first.0 t n.1 h.others.first.1

created_by : (t : Terminal) {before after : List Placed} → All (created_parts t) before after → Meant p.created before after
created_by (terminal.Keyword Keyword.Int) h = of_base h
created_by (terminal.Keyword Keyword.Boolean) h = of_base h
created_by _ h = of_class h

pub created_of : {before after : List Placed} → AllOf (choose p.created (next_of before)) before after → Meant p.created before after
created_of {before = []} h = of_class h
created_of {before = first ∷ rest} h = created_by first.terminal h

pub created_rest_of : {before after : List Placed} → AllOf (choose p.created_rest (next_of before)) before after → Meant p.created_rest before after
created_rest_of {before} {after} h =
    either (next_is is_open_paren (next_of before)) (part p.actuals ∷ part p.selected ∷ []) (part p.array ∷ []) before after (Meant p.created_rest before after) h
    (λ h s i j place name paths t n d. let r = h.others s as_creation _ (primary (DerivesPrimary.creation t n d h.first.1)) in (r.1, postfix r.2))
    (λ f h s i j place name paths t n d. h s i before place (base.Class name paths) [] t (DerivesBase.class n d) Many.none)

pub array_of : {before after : List Placed} → AllOf (choose p.array (next_of before)) before after → Meant p.array before after
array_of {before} h s i j place start suffixes t d ss = h.others s i j before place _ start suffixes t d ss (signed Symbol.OpenBracket h.first)

pub array_open_of : {before after : List Placed} → AllOf (choose p.array_open (next_of before)) before after → Meant p.array_open before after
array_open_of {before} {after} h =
    either (next_is is_close_bracket (next_of before)) (one is_close_bracket ∷ part p.brackets_after ∷ part p.array ∷ []) (part (p.expr 0) ∷ one is_close_bracket ∷ part p.brackets_after ∷ []) before after (Meant p.array_open before after) h
    (λ h s i j k place at start suffixes t d ss o. h.others.others s i j place start _ t d (many_more ss (suffix o (signed Symbol.CloseBracket h.first) h.others.first.1)))
    (λ f h s i j k place at start suffixes t d ss o. (_, new_array (array t d ss o h.first.1 (signed Symbol.CloseBracket h.others.first) h.others.others.1)))

pub inner_of : {before after : List Placed} → AllOf (choose p.inner (next_of before)) before after → Meant p.inner before after
inner_of h = (_, DerivesPrimary.parenthesised (signed Symbol.OpenParen h.first) h.others.first.1 (signed Symbol.CloseParen h.others.others))

literal_by : (t : Terminal) (first : Placed) (rest : List Placed) {after : List Placed} → first.terminal ≡ t → AllOf (literal_parts t) (first ∷ rest) after → Meant p.literal (first ∷ rest) after
literal_by (terminal.Int n) first rest e h = (_, _, DerivesPrimary.number (anyhow first rest (terminal.Int n) e h))
literal_by (terminal.Name n) first rest e h = (_, _, DerivesPrimary.name {named = record { name = n; place = first.place }} (anyhow first rest (terminal.Name n) e h))
literal_by (terminal.Keyword Keyword.True) first rest e h = (_, _, DerivesPrimary.yes (anyhow first rest (terminal.Keyword Keyword.True) e h))
literal_by (terminal.Keyword Keyword.False) first rest e h = (_, _, DerivesPrimary.no (anyhow first rest (terminal.Keyword Keyword.False) e h))
literal_by (terminal.Keyword Keyword.Null) first rest e h = (_, _, DerivesPrimary.nothing (anyhow first rest (terminal.Keyword Keyword.Null) e h))
literal_by (terminal.Keyword Keyword.This) first rest e h = (_, _, DerivesPrimary.receiver (anyhow first rest (terminal.Keyword Keyword.This) e h))
literal_by _ first rest e h = absurd h

pub literal_of : {before after : List Placed} → AllOf (choose p.literal (next_of before)) before after → Meant p.literal before after
literal_of {before = []} h = absurd h
literal_of {before = first ∷ rest} h = literal_by first.terminal first rest refl h

pub selected_of : {before after : List Placed} → AllOf (choose p.selected (next_of before)) before after → Meant p.selected before after
selected_of {before} {after} h =
    either (next_is is_dot (next_of before) || next_is is_open_bracket (next_of before)) (part p.selection ∷ part p.selected ∷ []) [] before after (Meant p.selected before after) h
    (λ h s ending e d. let r = h.first s ending e d in h.others s r.0 r.1 r.2)
    (λ f is s ending e d. (ending, e, subst (λ (l : List Placed). DerivesPostfix ending s l e) is d))

pub selection_of : {before after : List Placed} → AllOf (choose p.selection (next_of before)) before after → Meant p.selection before after
selection_of {before} {after} h =
    either (next_is is_dot (next_of before)) (one is_dot ∷ part p.dotted_rest ∷ []) (part p.element ∷ []) before after (Meant p.selection before after) h
    (λ h s ending e d. h.others s before ending e _ d (signed Symbol.Dot h.first))
    (λ f h s ending e d. let r = h s ending e d in (as_element, r.0, r.1))

pub element_of : {before after : List Placed} → AllOf (choose p.element (next_of before)) before after → Meant p.element before after
element_of h s ending e d = (_, indexed d (signed Symbol.OpenBracket h.first) h.others.first.1 (signed Symbol.CloseBracket h.others.others))

pub dotted_rest_of : {before after : List Placed} → AllOf (choose p.dotted_rest (next_of before)) before after → Meant p.dotted_rest before after
dotted_rest_of {before} {after} h =
    either (next_is is_less (next_of before)) (part p.args ∷ one is_name ∷ part p.actuals ∷ []) (one is_name ∷ part p.actuals_if ∷ []) before after (Meant p.dotted_rest before after) h
    (λ h s i ending e dot d t. let n = named h.others.first in (as_call, _, called d t h.first.1 n.1 h.others.others.1))
    (λ f h s i ending e dot d t. let n = named h.first in h.others s i before ending e dot n.0 d t n.1)

pub actuals_if_of : {before after : List Placed} → AllOf (choose p.actuals_if (next_of before)) before after → Meant p.actuals_if before after
actuals_if_of {before} {after} h =
    either (next_is is_open_paren (next_of before)) (part p.actuals ∷ []) [] before after (Meant p.actuals_if before after) h
    (λ h s i j ending e dot name d t n. (as_call, _, called d t no_args n h.1))
    (λ f is s i j ending e dot name d t n. (as_field, _, after_dot d t (subst (λ (l : List Placed). TakesName j l name) is n)))

pub actuals_of : {before after : List Placed} → AllOf (choose p.actuals (next_of before)) before after → Meant p.actuals before after
actuals_of {before} h = h.others before _ (signed Symbol.OpenParen h.first)

pub actuals_rest_of : {before after : List Placed} → AllOf (choose p.actuals_rest (next_of before)) before after → Meant p.actuals_rest before after
actuals_rest_of {before} {after} h =
    either (next_is is_close_paren (next_of before)) (one is_close_paren ∷ []) (part p.listed ∷ one is_close_paren ∷ []) before after (Meant p.actuals_rest before after) h
    (λ h s place o. (no_exprs, no_actuals o (signed Symbol.CloseParen h)))
    (λ f h s place o. (_, actuals o h.first.level h.first.further (signed Symbol.CloseParen h.others)))

pub listed_of : {before after : List Placed} → AllOf (choose p.listed (next_of before)) before after → Meant p.listed before after
listed_of h = record { mid = h.mid; first = h.first.0; others = h.others.0; level = h.first.1; further = h.others.1 }

pub more_listed_of : {before after : List Placed} → AllOf (choose p.more_listed (next_of before)) before after → Meant p.more_listed before after
more_listed_of {before} {after} h =
    either (next_is is_comma (next_of before)) (one is_comma ∷ part (p.expr 0) ∷ part p.more_listed ∷ []) [] before after (Meant p.more_listed before after) h
    (λ h. (_, further (signed Symbol.Comma h.first) h.others.first.1 h.others.others.1))
    (λ f is. (no_exprs, subst (λ (l : List Placed). DerivesFurther before l no_exprs) is end))
