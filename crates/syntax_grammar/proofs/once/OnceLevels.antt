-- Expressions are read in one way.
use Rattle.std.proofs.Common.{◌≡◌, ℕ, suc, ◌≤◌, List, [], ◌∷◌, inl, inr, Bool, true, false, refl, arith}
use Rattle.lang_base.specs.declared.op.UnaryOp.{UnaryOp}
use Rattle.lang_base.specs.declared.op.UnaryOp.TheVariants as unary_op
use Rattle.syntax_tokens.specs.declared.token.Symbol.{Symbol}
use Rattle.syntax_tokens.specs.declared.token.Keyword.{Keyword}
use Rattle.syntax_tokens.specs.declared.terminal.Placed.{Placed}
use Rattle.syntax_tokens.specs.declared.terminal.Terminal.{Terminal}
use Rattle.syntax_tokens.specs.declared.terminal.Terminal.TheVariants as terminal
use Rattle.syntax_tree.specs.declared.region.BaseTree.TheVariants as base
use Rattle.syntax_tree.specs.Plain.{PlainExpr, PlainExprs}
use Rattle.syntax_grammar.specs.Types.{DerivesBase}
use Rattle.syntax_grammar.specs.Expressions.{unary_symbol, level_of, Ending, DerivesLevel, operand, operation, DerivesUnary, operator, postfix, new_array, DerivesPostfix, primary, after_dot, called, indexed, DerivesPrimary, number, yes, no, nothing, receiver, name, parenthesised, creation, DerivesNewArray, array, DerivesActuals, no_actuals, actuals, DerivesFurther, end, further}
use Rattle.syntax_grammar.proofs.once.OnceReader.{Comes, at_once, then_reads, starts, is_comma}
use Rattle.syntax_grammar.proofs.once.OncePaths.{is_less, is_close_bracket, args_once, base_once}
use Rattle.syntax_grammar.proofs.Ops.{level_low, left_low, level_left}
use Rattle.syntax_grammar.proofs.once.OnceExprs.{is_open_paren, is_close_paren, is_selector, primary_by, readers, Ends, ends_at, ends_at_op, ends_looser, no_selector, stops, climbs, level_from, unary_operated, BeginsPostfix, unary_postfix, unary_array, postfix_from, selects_field, selects_call, selects_element, selects_no_more, actuals_none, actuals_some, further_none, further_some}

-- the terminals that an expression begins with
abbrev pub begins_expr : Terminal → Bool
begins_expr (terminal.Int n) = true
begins_expr (terminal.Name n) = true
begins_expr (terminal.Keyword Keyword.True) = true
begins_expr (terminal.Keyword Keyword.False) = true
begins_expr (terminal.Keyword Keyword.Null) = true
begins_expr (terminal.Keyword Keyword.This) = true
begins_expr (terminal.Keyword Keyword.New) = true
begins_expr (terminal.Symbol Symbol.OpenParen) = true
begins_expr (terminal.Symbol Symbol.Minus) = true
begins_expr (terminal.Symbol Symbol.Not) = true
begins_expr _ = false

unary_begins_expr : (op : UnaryOp) → begins_expr (terminal.Symbol (unary_symbol op)) ≡ true
unary_begins_expr unary_op.Negate = refl
unary_begins_expr unary_op.Not = refl

mutual
  pub level_begins : {level : ℕ} {before after : List Placed} {e : PlainExpr} → DerivesLevel level before after e → starts begins_expr before ≡ true
  level_begins (operand d) = unary_begins d
  level_begins (operation h l t r) = level_begins l

  unary_begins : {before after : List Placed} {e : PlainExpr} → DerivesUnary before after e → starts begins_expr before ≡ true
  unary_begins (operator {op = op} t d) = rw t.first (unary_begins_expr op)
  unary_begins (postfix d) = postfix_begins d
  unary_begins (new_array d) = array_begins d

  pub postfix_begins : {ending : Ending} {before after : List Placed} {e : PlainExpr} → DerivesPostfix ending before after e → starts begins_expr before ≡ true
  postfix_begins (primary d) = primary_begins d
  postfix_begins (after_dot d dot n) = postfix_begins d
  postfix_begins (called d dot r n a) = postfix_begins d
  postfix_begins (indexed d o l c) = postfix_begins d

  primary_begins : {ending : Ending} {before after : List Placed} {e : PlainExpr} → DerivesPrimary ending before after e → starts begins_expr before ≡ true
  primary_begins (number t) = rw t.first refl
  primary_begins (yes t) = rw t.first refl
  primary_begins (no t) = rw t.first refl
  primary_begins (nothing t) = rw t.first refl
  primary_begins (receiver t) = rw t.first refl
  primary_begins (name t) = rw t.first refl
  primary_begins (parenthesised o l c) = rw o.first refl
  primary_begins (creation t n r a) = rw t.first refl

  array_begins : {before after : List Placed} {e : PlainExpr} → DerivesNewArray before after e → starts begins_expr before ≡ true
  array_begins (array t b ss o l c d) = rw t.first refl

-- what an expression doesn't begin with
pub expr_begins_not : (test : Terminal → Bool) → ((t : Terminal) → begins_expr t ≡ true → test t ≡ false) → (before : List Placed) → starts begins_expr before ≡ true → starts test before ≡ false
expr_begins_not test apart [] e = refl
expr_begins_not test apart (here ∷ after) e = apart here.terminal e

pub no_close_bracket : (t : Terminal) → begins_expr t ≡ true → is_close_bracket t ≡ false
no_close_bracket (terminal.Symbol Symbol.CloseBracket) e = cc
no_close_bracket _ e = refl

pub no_close_paren : (t : Terminal) → begins_expr t ≡ true → is_close_paren t ≡ false
no_close_paren (terminal.Symbol Symbol.CloseParen) e = cc
no_close_paren _ e = refl

-- "(" comes first
pub actuals_start : {before after : List Placed} {es : PlainExprs} → DerivesActuals before after es → (test : Terminal → Bool) → starts test before ≡ test (terminal.Symbol Symbol.OpenParen)
actuals_start (no_actuals o c) test = rw o.first refl
actuals_start (actuals o l f c) test = rw o.first refl

mutual
  pub postfix_kind : {ending : Ending} {before after : List Placed} {e : PlainExpr} → DerivesPostfix ending before after e → BeginsPostfix before
  postfix_kind (primary d) = primary_kind d
  postfix_kind (after_dot d dot n) = postfix_kind d
  postfix_kind (called d dot r n a) = postfix_kind d
  postfix_kind (indexed d o l c) = postfix_kind d

  primary_kind : {ending : Ending} {before after : List Placed} {e : PlainExpr} → DerivesPrimary ending before after e → BeginsPostfix before
  primary_kind (number t) = rw t.first (record { minus = refl; not = refl; new = inl refl })
  primary_kind (yes t) = rw t.first (record { minus = refl; not = refl; new = inl refl })
  primary_kind (no t) = rw t.first (record { minus = refl; not = refl; new = inl refl })
  primary_kind (nothing t) = rw t.first (record { minus = refl; not = refl; new = inl refl })
  primary_kind (receiver t) = rw t.first (record { minus = refl; not = refl; new = inl refl })
  primary_kind (name t) = rw t.first (record { minus = refl; not = refl; new = inl refl })
  primary_kind (parenthesised o l c) = rw o.first (record { minus = refl; not = refl; new = inl refl })
  primary_kind (creation {three = three} {class = class} {regions = regions} t n r a) =
      rw t.first (record { minus = refl; not = refl; new = inr (refl, record { start = (base.Class class regions); one = three; comes = base_once (DerivesBase.class n r) (actuals_start a is_less); paren = actuals_start a is_open_paren }) })

-- the level of the loosest operator
abbrev pub top_of : {level : ℕ} {before after : List Placed} {e : PlainExpr} → DerivesLevel level before after e → ℕ
top_of (operand d) = 6
top_of (operation {op = op} h l t r) = level_of op

pub top_high : {level : ℕ} {before after : List Placed} {e : PlainExpr} (d : DerivesLevel level before after e) → level ≤ 6 → level ≤ top_of d
top_high (operand d) h = h
top_high (operation k l t r) h = k

-- after an expression in a list stands a comma, or what stands after the list
pub further_ends : {level : ℕ} {before after : List Placed} {es : PlainExprs} → DerivesFurther before after es → Ends level after → Ends level before
further_ends end ends = ends
further_ends (further t l f) ends = ends_at t refl refl

mutual
  pub level_once : {level : ℕ} {before after : List Placed} {e : PlainExpr} (d : DerivesLevel level before after e) (low : ℕ) {tree : PlainExpr} {rest : List Placed} →
      low ≤ level → level ≤ 6 → Ends (suc (top_of d)) after → Comes (λ m. (readers m).climb low (top_of d) e after) tree rest → Comes (λ m. (readers m).level low before) tree rest
  level_once {before = before} (operand d) low h k ends c = level_from low before (unary_once d ends.selector) c
  level_once {level = level} {after = after} (operation {op = op} {two = two} {left = left} {right = right} k l t r) low h high ends c =
      let low_enough = level_low op in
      let left_enough = left_low op in
      let up = level_left op in
      let left_top = top_high l (omega arith) in
      let right_top = top_high r (omega arith) in
      level_once l low (omega arith) (omega arith) (ends_at_op op t (omega arith))
      (climbs low (top_of l) op left (omega arith) left_top t
      (level_once r (suc (level_of op)) (omega arith) (omega arith) (ends_looser ends (omega arith)) (stops (suc (level_of op)) (top_of r) right ends)) c)

  unary_once : {before after : List Placed} {e : PlainExpr} → DerivesUnary before after e → starts is_selector after ≡ false → Comes (λ m. (readers m).unary before) e after
  unary_once (operator {op = op} t d) closed = unary_operated op t (unary_once d closed)
  unary_once {after = after} {e = e} (postfix d) closed = unary_postfix (postfix_kind d) (postfix_once d (no_selector after closed).2 (selects_no_more e closed))
  unary_once (new_array d) closed = array_once d

  pub postfix_once : {ending : Ending} {before after : List Placed} {e : PlainExpr} → DerivesPostfix ending before after e → {tree : PlainExpr} {rest : List Placed} →
      starts is_open_paren after ≡ false → Comes (λ m. (readers m).selectors e after) tree rest → Comes (λ m. (readers m).postfix before) tree rest
  postfix_once {before = before} (primary d) closed c = postfix_from before (primary_once d) c
  postfix_once (after_dot {of = of} d dot n) closed c = postfix_once d (rw dot.first refl) (selects_field of dot n closed c)
  postfix_once (called {of = of} d dot r n a) closed c = postfix_once d (rw dot.first refl) (selects_call of dot r n (actuals_start a is_open_paren) (actuals_once a) c)
  postfix_once (indexed {array = whole} {at = at} d o l e) closed c =
      postfix_once d (rw o.first refl) (selects_element whole o (level_once l 0 (omega arith) (omega arith) (ends_at e refl refl) (stops 0 (top_of l) at (ends_at e refl refl))) e c)

  primary_once : {ending : Ending} {before after : List Placed} {e : PlainExpr} → DerivesPrimary ending before after e → Comes (λ m. primary_by m (readers m) before) e after
  primary_once (number t) = rw t.first (at_once refl)
  primary_once (yes t) = rw t.first (at_once refl)
  primary_once (no t) = rw t.first (at_once refl)
  primary_once (nothing t) = rw t.first (at_once refl)
  primary_once (receiver t) = rw t.first (at_once refl)
  primary_once (name t) = rw t.first (at_once refl)
  primary_once (parenthesised {e = e} o l c) =
      rw o.first (then_reads _ (level_once l 0 (omega arith) (omega arith) (ends_at c refl refl) (stops 0 (top_of l) e (ends_at c refl refl))) (rw c.first (at_once refl)))
  primary_once (creation t n r a) = rw t.first (rw n.first (then_reads _ (args_once r (actuals_start a is_less)) (then_reads _ (actuals_once a) (at_once refl))))

  array_once : {before after : List Placed} {e : PlainExpr} → DerivesNewArray before after e → Comes (λ m. (readers m).unary before) e after
  array_once (array {four = four} {len = len} t b ss o l c d) =
      unary_array t b ss o (expr_begins_not is_close_bracket no_close_bracket four (level_begins l))
      (level_once l 0 (omega arith) (omega arith) (ends_at c refl refl) (stops 0 (top_of l) len (ends_at c refl refl))) c d

  actuals_once : {before after : List Placed} {es : PlainExprs} → DerivesActuals before after es → Comes (λ m. (readers m).actuals before) es after
  actuals_once (no_actuals o c) = actuals_none o c
  actuals_once (actuals {one = one} {e = e} o l f c) =
      actuals_some o (expr_begins_not is_close_paren no_close_paren one (level_begins l))
      (level_once l 0 (omega arith) (omega arith) (further_ends f (ends_at c refl refl)) (stops 0 (top_of l) e (further_ends f (ends_at c refl refl))))
      (further_once f (ends_at c refl refl) (rw c.first refl)) c

  further_once : {before after : List Placed} {es : PlainExprs} → DerivesFurther before after es → Ends 0 after → starts is_comma after ≡ false → Comes (λ m. (readers m).further before) es after
  further_once end ends closed = further_none closed
  further_once (further {e = e} t l f) ends closed =
      further_some t (level_once l 0 (omega arith) (omega arith) (ends_looser (further_ends f ends) (omega arith)) (stops 0 (top_of l) e (further_ends f ends))) (further_once f ends closed)

-- an expression is read, where nothing that could go on with it stands after it
pub expr_once : {before after : List Placed} {e : PlainExpr} → DerivesLevel 0 before after e → Ends 0 after → Comes (λ m. (readers m).level 0 before) e after
expr_once {e = e} d ends = level_once d 0 (omega arith) (omega arith) (ends_looser ends (omega arith)) (stops 0 (top_of d) e ends)

-- a Postfix, after which nothing that could go on with it stands
pub selected_once : {ending : Ending} {before after : List Placed} {e : PlainExpr} → DerivesPostfix ending before after e → starts is_selector after ≡ false → Comes (λ m. (readers m).postfix before) e after
selected_once {after = after} {e = e} d closed = postfix_once d (no_selector after closed).2 (selects_no_more e closed)
