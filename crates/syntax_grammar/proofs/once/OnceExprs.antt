-- The reader of expressions, and what it reads a step at a time.
use Rattle.std.proofs.Common.{◌≡◌, ◌∙◌, ℕ, zero, suc, ◌<◌, ◌≤◌, List, [], ◌∷◌, ◌⊎◌, inl, inr, Bool, true, false, cond, ◌&&◌, leb, Option, Some, None, refl, sym, subst, arith}
use Rattle.std.proofs.lemmas.Bool.{le-leb}
use Rattle.std.proofs.lemmas.Bool.Decides.{leb_tells}
use Rattle.lang_base.specs.declared.op.BinaryOp.TheVariants as binary_op
use Rattle.lang_base.specs.declared.op.LogicOp.TheVariants as logic_op
use Rattle.lang_base.specs.declared.op.UnaryOp.{UnaryOp}
use Rattle.lang_base.specs.declared.op.UnaryOp.TheVariants as unary_op
use Rattle.lang_base.specs.declared.place.Place.{Place}
use Rattle.syntax_tokens.specs.declared.token.Symbol.{Symbol}
use Rattle.syntax_tokens.specs.declared.token.Keyword.{Keyword}
use Rattle.syntax_tokens.specs.declared.terminal.Placed.{Placed}
use Rattle.syntax_tokens.specs.declared.terminal.Terminal.{Terminal}
use Rattle.syntax_tokens.specs.declared.terminal.Terminal.TheVariants as terminal
use Rattle.syntax_tree.specs.declared.region.Named.{Named}
use Rattle.syntax_tree.specs.declared.region.RplTree.{RplTree}
use Rattle.syntax_tree.specs.declared.region.BaseTree.{BaseTree}
use Rattle.syntax_tree.specs.declared.region.Suffix.{Suffix}
use Rattle.syntax_tree.specs.declared.expr.InfixOp.{InfixOp}
use Rattle.syntax_tree.specs.declared.expr.InfixOp.TheVariants.{Logic, Binary}
use Rattle.syntax_tree.specs.Plain.{PlainExpr, expression, int, boolean, null, this, local, field, element, call, create, create_array, unary, binary, PlainExprs, no_exprs, more_exprs}
use Rattle.syntax_grammar.specs.Taking.{Takes, TakesSymbol, TakesKeyword, TakesName, Many}
use Rattle.syntax_grammar.specs.Paths.{DerivesArgs}
use Rattle.syntax_grammar.specs.Types.{DerivesBase, DerivesAfter, DerivesSuffix, suffix}
use Rattle.syntax_grammar.specs.Words.{op_at}
use Rattle.syntax_grammar.specs.Expressions.{symbol_of, unary_symbol, level_of, left_level}
use Rattle.syntax_grammar.proofs.Ops.{op_of_symbol}
use Rattle.syntax_grammar.proofs.once.OnceReader.{Out, into, Comes, at_once, then_reads, later, on, off, starts, tail, place_at, named, many, many_first, is_comma}
use Rattle.syntax_grammar.proofs.once.OncePaths.{is_dot, is_open_bracket, is_close_bracket, args_read, args_once, base_read, base_once, after_read, after_once, begins_suffix, suffix_read, suffixes_once, no_less_after}

-- the terminals that decide
abbrev pub is_open_paren : Terminal → Bool
is_open_paren (terminal.Symbol Symbol.OpenParen) = true
is_open_paren _ = false

abbrev pub is_close_paren : Terminal → Bool
is_close_paren (terminal.Symbol Symbol.CloseParen) = true
is_close_paren _ = false

abbrev pub is_minus : Terminal → Bool
is_minus (terminal.Symbol Symbol.Minus) = true
is_minus _ = false

abbrev pub is_not : Terminal → Bool
is_not (terminal.Symbol Symbol.Not) = true
is_not _ = false

abbrev pub is_new : Terminal → Bool
is_new (terminal.Keyword Keyword.New) = true
is_new _ = false

-- what goes on after a Postfix
abbrev pub is_selector : Terminal → Bool
is_selector (terminal.Symbol Symbol.Dot) = true
is_selector (terminal.Symbol Symbol.OpenBracket) = true
is_selector (terminal.Symbol Symbol.OpenParen) = true
is_selector _ = false

abbrev pub op_next : List Placed → Option InfixOp
op_next [] = None
op_next (here ∷ after) = op_at here.terminal

op_no_selector : (op : InfixOp) → is_selector (terminal.Symbol (symbol_of op)) ≡ false
op_no_selector (Logic logic_op.Or) = refl
op_no_selector (Binary binary_op.Add) = refl
op_no_selector _ = refl

-- The reader. Its parts call each other with a step less; `climb` goes on after a left operand, whose loosest
-- operator has the level `top`, with the operators from `level` on.
pub record Readers : Type 0 where
  pub level : ℕ → List Placed → Out PlainExpr
  pub climb : ℕ → ℕ → PlainExpr → List Placed → Out PlainExpr
  pub unary : List Placed → Out PlainExpr
  pub postfix : List Placed → Out PlainExpr
  pub selectors : PlainExpr → List Placed → Out PlainExpr
  pub actuals : List Placed → Out PlainExprs
  pub further : List Placed → Out PlainExprs

abbrev climb_by : Readers → ℕ → ℕ → PlainExpr → List Placed → Option InfixOp → Out PlainExpr
climb_by r level top left before None = Some (left, before)
climb_by r level top left before (Some op) =
    cond (leb level (level_of op) && leb (left_level op) top)
    (into (r.level (suc (level_of op)) (tail before)) (λ right following. r.climb level (level_of op) (expression (place_at before) (binary op left right)) following))
    (Some (left, before))

abbrev array_by : ℕ → Readers → Place → BaseTree → List Placed → Out PlainExpr
array_by m r place start one =
    into (many begins_suffix suffix_read m one) (λ suffixes two. into (r.level 0 (tail two)) (λ len three.
    into (after_read m (tail three)) (λ own left. Some (expression place (create_array start suffixes len own.rpl own.index), left))))

abbrev unary_by : ℕ → Readers → List Placed → Out PlainExpr
unary_by m r before =
    cond (starts is_minus before) (into (r.unary (tail before)) (λ arg left. Some (expression (place_at before) (unary unary_op.Negate arg), left)))
    (cond (starts is_not before) (into (r.unary (tail before)) (λ arg left. Some (expression (place_at before) (unary unary_op.Not arg), left)))
    (cond (starts is_new before) (into (base_read m (tail before)) (λ start one. cond (starts is_open_paren one) (r.postfix before) (array_by m r (place_at before) start one)))
    (r.postfix before)))

abbrev pub keyword_by : ℕ → Readers → Place → Keyword → List Placed → Out PlainExpr
keyword_by m r place Keyword.True after = Some (expression place (boolean true), after)
keyword_by m r place Keyword.False after = Some (expression place (boolean false), after)
keyword_by m r place Keyword.Null after = Some (expression place null, after)
keyword_by m r place Keyword.This after = Some (expression place this, after)
keyword_by m r place Keyword.New after =
    into (named after) (λ class two. into (args_read m two) (λ regions three. into (r.actuals three) (λ actuals left. Some (expression place (create class regions actuals), left))))
keyword_by m r place _ after = None

abbrev pub primary_at : ℕ → Readers → Terminal → Place → List Placed → Out PlainExpr
primary_at m r (terminal.Int n) place after = Some (expression place (int n), after)
primary_at m r (terminal.Name n) place after = Some (expression place (local n), after)
primary_at m r (terminal.Keyword k) place after = keyword_by m r place k after
primary_at m r (terminal.Symbol s) place after = into (r.level 0 after) (λ e two. Some (e, tail two))
primary_at m r (terminal.Text text) place after = None

abbrev pub primary_by : ℕ → Readers → List Placed → Out PlainExpr
primary_by m r [] = None
primary_by m r (here ∷ after) = primary_at m r here.terminal here.place after

abbrev selectors_by : ℕ → Readers → PlainExpr → List Placed → Out PlainExpr
selectors_by m r e before =
    cond (starts is_dot before)
    (into (args_read m (tail before)) (λ regions two. into (named two) (λ name three.
    cond (starts is_open_paren three)
    (into (r.actuals three) (λ actuals four. r.selectors (expression name.place (call e regions name.name actuals)) four))
    (r.selectors (expression name.place (field e name.name)) three))))
    (cond (starts is_open_bracket before)
    (into (r.level 0 (tail before)) (λ at two. r.selectors (expression (place_at before) (element e at)) (tail two)))
    (Some (e, before)))

abbrev actuals_by : Readers → List Placed → Out PlainExprs
actuals_by r before =
    cond (starts is_close_paren (tail before)) (Some (no_exprs, tail (tail before)))
    (into (r.level 0 (tail before)) (λ e two. into (r.further two) (λ es three. Some (more_exprs e es, tail three))))

abbrev further_by : Readers → List Placed → Out PlainExprs
further_by r before =
    cond (starts is_comma before) (into (r.level 0 (tail before)) (λ e one. into (r.further one) (λ es left. Some (more_exprs e es, left)))) (Some (no_exprs, before))

pub readers : ℕ → Readers
readers zero = record {
  level = λ level before. None;
  climb = λ level top left before. None;
  unary = λ before. None;
  postfix = λ before. None;
  selectors = λ e before. None;
  actuals = λ before. None;
  further = λ before. None;
}
readers (suc m) = record {
  level = λ level before. into ((readers m).unary before) (λ e one. (readers m).climb level 6 e one);
  climb = λ level top left before. climb_by (readers m) level top left before (op_next before);
  unary = λ before. unary_by m (readers m) before;
  postfix = λ before. into (primary_by m (readers m) before) (λ e one. (readers m).selectors e one);
  selectors = λ e before. selectors_by m (readers m) e before;
  actuals = λ before. actuals_by (readers m) before;
  further = λ before. further_by (readers m) before;
}

-- after an expression of a level comes nothing that could go on with it
pub record Ends (level : ℕ) (after : List Placed) : Type 0 where
  pub selector : starts is_selector after ≡ false
  pub operator : (op : InfixOp) → op_next after ≡ Some op → level_of op < level

pub ends_at : {level : ℕ} {wanted : Terminal} {before after : List Placed} {place : Place} → Takes wanted before after place → is_selector wanted ≡ false → op_at wanted ≡ None → Ends level before
ends_at t s o = rw t.first (record { selector = s; operator = λ op e. cc })

pub ends_at_op : (op : InfixOp) {level : ℕ} {before after : List Placed} {place : Place} → TakesSymbol (symbol_of op) before after place → level_of op < level → Ends level before
ends_at_op op {level} t h = rw t.first (record {
  selector = op_no_selector op;
  operator = λ o e. let same : Some op ≡ Some o = sym (op_of_symbol op) ∙ e in let is : op ≡ o = cc in subst (λ (x : InfixOp). level_of x < level) is h;
})

pub ends_looser : {level more : ℕ} {after : List Placed} → Ends level after → level ≤ more → Ends more after
ends_looser e h = record { selector = e.selector; operator = λ op is. let k = e.operator op is in omega arith }

no_dot : (t : Terminal) → is_selector t ≡ false → (is_dot t ≡ false) × (is_open_bracket t ≡ false) × (is_open_paren t ≡ false)
no_dot (terminal.Symbol Symbol.Dot) e = cc
no_dot (terminal.Symbol Symbol.OpenBracket) e = cc
no_dot (terminal.Symbol Symbol.OpenParen) e = cc
no_dot _ e = (refl, refl, refl)

pub no_selector : (after : List Placed) → starts is_selector after ≡ false → (starts is_dot after ≡ false) × (starts is_open_bracket after ≡ false) × (starts is_open_paren after ≡ false)
no_selector [] e = (refl, refl, refl)
no_selector (here ∷ after) e = no_dot here.terminal e

pub not_leb : (a b : ℕ) → b < a → leb a b ≡ false
not_leb a b h = elim (leb_tells a b) [ inl y ↦ absurd (omega (arith, y.1)) | inr n ↦ n.0 ]

climb_stops : (r : Readers) (level top : ℕ) (e : PlainExpr) (after : List Placed) (o : Option InfixOp) → ((op : InfixOp) → o ≡ Some op → level_of op < level) → climb_by r level top e after o ≡ Some (e, after)
climb_stops r level top e after None h = refl
climb_stops r level top e after (Some op) h = rw (not_leb level (level_of op) (h op refl)) refl

pub stops : (level top : ℕ) (e : PlainExpr) {after : List Placed} → Ends level after → Comes (λ m. (readers m).climb level top e after) e after
unfolding readers
stops level top e {after} ends =
    later (λ m. (readers m).climb level top e after) (record { enough = 0; there = λ m h. climb_stops (readers m) level top e after (op_next after) ends.operator })

pub climbs : (level top : ℕ) (op : InfixOp) (left : PlainExpr) {before two after rest : List Placed} {place : Place} {right tree : PlainExpr} →
    level ≤ level_of op → left_level op ≤ top → TakesSymbol (symbol_of op) before two place →
    Comes (λ m. (readers m).level (suc (level_of op)) two) right after →
    Comes (λ m. (readers m).climb level (level_of op) (expression place (binary op left right)) after) tree rest →
    Comes (λ m. (readers m).climb level top left before) tree rest
unfolding readers
climbs level top op left {before} h k t r c =
    later (λ m. (readers m).climb level top left before) (rw t.first (rw (op_of_symbol op) (rw (le-leb level (level_of op) h, le-leb (left_level op) top k) (then_reads _ r c))))

pub level_from : (level : ℕ) (before : List Placed) {one rest : List Placed} {e tree : PlainExpr} →
    Comes (λ m. (readers m).unary before) e one → Comes (λ m. (readers m).climb level 6 e one) tree rest → Comes (λ m. (readers m).level level before) tree rest
unfolding readers
level_from level before u c = later (λ m. (readers m).level level before) (then_reads _ u c)

pub unary_operated : (op : UnaryOp) {before one after : List Placed} {arg : PlainExpr} {place : Place} →
    TakesSymbol (unary_symbol op) before one place → Comes (λ m. (readers m).unary one) arg after → Comes (λ m. (readers m).unary before) (expression place (unary op arg)) after
unfolding readers
unary_operated unary_op.Negate {before} t c = later (λ m. (readers m).unary before) (rw t.first (then_reads _ c (at_once refl)))
unary_operated unary_op.Not {before} t c = later (λ m. (readers m).unary before) (rw t.first (then_reads _ c (at_once refl)))

-- an object creation stands here
pub record Created (before : List Placed) : Type 0 where
  pub start : BaseTree
  pub one : List Placed
  pub comes : Comes (λ m. base_read m (tail before)) start one
  pub paren : starts is_open_paren one ≡ true

-- no operator stands here, and no array creation
pub record BeginsPostfix (before : List Placed) : Type 0 where
  pub minus : starts is_minus before ≡ false
  pub not : starts is_not before ≡ false
  pub new : ((starts is_new before ≡ false) ⊎ ((starts is_new before ≡ true) × Created before))

pub unary_postfix : {before after : List Placed} {e : PlainExpr} → BeginsPostfix before → Comes (λ m. (readers m).postfix before) e after → Comes (λ m. (readers m).unary before) e after
unfolding readers
unary_postfix {before} b c = later (λ m. (readers m).unary before) (off _ b.minus (off _ b.not (elim b.new [
  | inl n ↦ off _ n c
  | inr n ↦ on _ n.0 (then_reads _ n.1.comes (on _ n.1.paren c))
])))

pub suffix_no_paren : (before after : List Placed) (tree : Suffix) → DerivesSuffix before after tree → starts is_open_paren before ≡ false
suffix_no_paren before after tree (suffix o c d) = rw o.first refl

pub unary_array : {before one two three four five six after : List Placed} {start : BaseTree} {suffixes : List Suffix} {len : PlainExpr} {own : Suffix} {place open_at close_at : Place} →
    TakesKeyword Keyword.New before one place → DerivesBase one two start → Many DerivesSuffix two three suffixes → TakesSymbol Symbol.OpenBracket three four open_at →
    starts is_close_bracket four ≡ false → Comes (λ m. (readers m).level 0 four) len five → TakesSymbol Symbol.CloseBracket five six close_at → DerivesAfter six after own →
    Comes (λ m. (readers m).unary before) (expression place (create_array start suffixes len own.rpl own.index)) after
unfolding readers
unary_array {before} t b ss o closed l c d =
    later (λ m. (readers m).unary before) (rw t.first (then_reads _ (base_once b (no_less_after ss (rw o.first refl)))
    (off _ (many_first (λ here. starts is_open_paren here ≡ false) suffix_no_paren ss (rw o.first refl))
    (then_reads _ (suffixes_once ss (rw o.first closed)) (rw o.first (then_reads _ l (rw c.first (then_reads _ (after_once d) (at_once refl)))))))))

pub postfix_from : (before : List Placed) {one rest : List Placed} {e tree : PlainExpr} →
    Comes (λ m. primary_by m (readers m) before) e one → Comes (λ m. (readers m).selectors e one) tree rest → Comes (λ m. (readers m).postfix before) tree rest
unfolding readers
postfix_from before p c = later (λ m. (readers m).postfix before) (then_reads _ p c)

pub selects_field : (e : PlainExpr) {before two after rest : List Placed} {named : Named} {dot : Place} {tree : PlainExpr} →
    TakesSymbol Symbol.Dot before two dot → TakesName two after named → starts is_open_paren after ≡ false →
    Comes (λ m. (readers m).selectors (expression named.place (field e named.name)) after) tree rest → Comes (λ m. (readers m).selectors e before) tree rest
unfolding readers
selects_field e {before} dot n closed c =
    later (λ m. (readers m).selectors e before) (rw dot.first (then_reads _ (args_once DerivesArgs.no_args (rw n.first refl)) (rw n.first (off _ closed c))))

pub selects_call : (e : PlainExpr) {before two three four after rest : List Placed} {regions : List RplTree} {named : Named} {actuals : PlainExprs} {dot : Place} {tree : PlainExpr} →
    TakesSymbol Symbol.Dot before two dot → DerivesArgs two three regions → TakesName three four named → starts is_open_paren four ≡ true → Comes (λ m. (readers m).actuals four) actuals after →
    Comes (λ m. (readers m).selectors (expression named.place (call e regions named.name actuals)) after) tree rest → Comes (λ m. (readers m).selectors e before) tree rest
unfolding readers
selects_call e {before} dot r n paren a c =
    later (λ m. (readers m).selectors e before) (rw dot.first (then_reads _ (args_once r (rw n.first refl)) (rw n.first (on _ paren (then_reads _ a c)))))

pub selects_element : (e : PlainExpr) {before two three after rest : List Placed} {at : PlainExpr} {place close_at : Place} {tree : PlainExpr} →
    TakesSymbol Symbol.OpenBracket before two place → Comes (λ m. (readers m).level 0 two) at three → TakesSymbol Symbol.CloseBracket three after close_at →
    Comes (λ m. (readers m).selectors (expression place (element e at)) after) tree rest → Comes (λ m. (readers m).selectors e before) tree rest
unfolding readers
selects_element e {before} o l c s = later (λ m. (readers m).selectors e before) (rw o.first (then_reads _ l (rw c.first s)))

pub selects_no_more : (e : PlainExpr) {after : List Placed} → starts is_selector after ≡ false → Comes (λ m. (readers m).selectors e after) e after
unfolding readers
selects_no_more e {after} closed = later (λ m. (readers m).selectors e after) (off _ (no_selector after closed).0 (off _ (no_selector after closed).1 (at_once refl)))

pub actuals_none : {before one after : List Placed} {open_at close_at : Place} →
    TakesSymbol Symbol.OpenParen before one open_at → TakesSymbol Symbol.CloseParen one after close_at → Comes (λ m. (readers m).actuals before) no_exprs after
unfolding readers
actuals_none {before} o c = later (λ m. (readers m).actuals before) (rw (o.first, c.first) (at_once refl))

pub actuals_some : {before one two three after : List Placed} {e : PlainExpr} {es : PlainExprs} {open_at close_at : Place} →
    TakesSymbol Symbol.OpenParen before one open_at → starts is_close_paren one ≡ false → Comes (λ m. (readers m).level 0 one) e two → Comes (λ m. (readers m).further two) es three →
    TakesSymbol Symbol.CloseParen three after close_at → Comes (λ m. (readers m).actuals before) (more_exprs e es) after
unfolding readers
actuals_some {before} o closed l f c = later (λ m. (readers m).actuals before) (rw o.first (off _ closed (then_reads _ l (then_reads _ f (rw c.first (at_once refl))))))

pub further_none : {here : List Placed} → starts is_comma here ≡ false → Comes (λ m. (readers m).further here) no_exprs here
unfolding readers
further_none {here} closed = later (λ m. (readers m).further here) (off _ closed (at_once refl))

pub further_some : {before one two after : List Placed} {e : PlainExpr} {es : PlainExprs} {comma : Place} →
    TakesSymbol Symbol.Comma before one comma → Comes (λ m. (readers m).level 0 one) e two → Comes (λ m. (readers m).further two) es after → Comes (λ m. (readers m).further before) (more_exprs e es) after
unfolding readers
further_some {before} t l f = later (λ m. (readers m).further before) (rw t.first (then_reads _ l (then_reads _ f (at_once refl))))
