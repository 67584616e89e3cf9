-- Expressions that are derived are read as they are expected.
use Rattle.std.proofs.Common.{◌≡◌, ℕ, suc, ◌<◌, ◌≤◌, List, [], ◌∷◌, true, false, Option, Some, None, refl, ap, arith}
use Rattle.std.proofs.lemmas.Bool.{le-leb}
use Rattle.lang_base.specs.declared.op.UnaryOp.{UnaryOp}
use Rattle.lang_base.specs.declared.op.UnaryOp.TheVariants as unary_op
use Rattle.lang_base.specs.declared.place.Place.{Place}
use Rattle.syntax_tokens.specs.declared.token.Symbol.{Symbol}
use Rattle.syntax_tokens.specs.declared.terminal.Placed.{Placed}
use Rattle.syntax_tree.specs.declared.region.Named.{Named}
use Rattle.syntax_tree.specs.declared.region.RplTree.{RplTree}
use Rattle.syntax_tree.specs.declared.region.Suffix.{Suffix}
use Rattle.syntax_tree.specs.declared.expr.InfixOp.{InfixOp}
use Rattle.syntax_tree.specs.Plain.{PlainExpr, PlainExprs}
use Rattle.syntax_grammar.specs.Taking.{TakesSymbol, TakesName, Listed, Many, none, some}
use Rattle.syntax_grammar.specs.Paths.{DerivesRpl, DerivesArgs, no_args, args}
use Rattle.syntax_grammar.specs.Types.{DerivesBase, DerivesAfter, DerivesSuffix, suffix}
use Rattle.syntax_grammar.specs.Expressions.{symbol_of, unary_symbol, level_of, left_level, Ending, DerivesLevel, operand, operation, DerivesUnary, operator, postfix, new_array, DerivesPostfix, primary, after_dot, called, indexed, DerivesPrimary, number, yes, no, receiver, parenthesised, creation, DerivesNewArray, array, DerivesActuals, no_actuals, actuals, DerivesFurther, end, further}
use Rattle.syntax_grammar.proofs.once.OnceReader.{starts, many_first}
use Rattle.syntax_grammar.proofs.Ops.{level_low, left_low, level_left, op_of_symbol}
use Rattle.syntax_grammar.proofs.once.OnceExprs.{is_selector, op_next, not_leb, suffix_no_paren, Ends, ends_at, ends_at_op, ends_looser, no_selector}
use Rattle.syntax_grammar.proofs.once.OnceLevels.{level_begins, expr_begins_not, no_close_bracket, no_close_paren, actuals_start, top_of, top_high, further_ends}
use Rattle.syntax_grammar.specs.Words.{is_any, is_dot, is_open_bracket, is_close_bracket, is_less, is_comma, is_open_paren, is_close_paren}
use Rattle.syntax_grammar.specs.Expecting.{Expected, one, part, next_of, op_of, climb_parts, choose, Steps, pick, pass, Passes}
use Rattle.syntax_grammar.proofs.expected.Expected.{picked, step_next, taken, rule, on_next, took, link, two, is_next}
use Rattle.syntax_grammar.specs.Expecting.{Part as p}
use Rattle.syntax_grammar.proofs.expected.Expected.{nothing as no_more}
use Rattle.syntax_grammar.proofs.expected.ExpectedPaths.{unless, where_next, listed_passes, path_passes, args_pass, after_passes, suffix_no_less}
use Rattle.syntax_grammar.proofs.once.OncePaths.{goes_on_path}

op_same : (after : List Placed) → op_of (next_of after) ≡ op_next after
op_same [] = refl
op_same (next ∷ after) = refl

climb_none : (level top : ℕ) (o : Option InfixOp) → ((op : InfixOp) → o ≡ Some op → level_of op < level) → climb_parts level top o ≡ []
climb_none level top None h = refl
climb_none level top (Some op) h = rw (not_leb level (level_of op) (h op refl)) refl

pub stops : {to others : List Expected} {left : List Placed} (level top : ℕ) {after : List Placed} → Ends level after → Steps to left others after →
    Steps to left (part (p.climb level top) ∷ others) after
stops level top {after} ends s =
    let none : climb_parts level top (op_of (next_of after)) ≡ [] = rw (op_same after) (climb_none level top (op_next after) ends.operator) in
    pick (ap (λ (x : List Expected). Some x) none) s

climbs : {to others : List Expected} {left : List Placed} (low top : ℕ) (op : InfixOp) {before two : List Placed} {place : Place} →
    low ≤ level_of op → left_level op ≤ top → TakesSymbol (symbol_of op) before two place →
    Steps to left (part (p.expr (suc (level_of op))) ∷ part (p.climb low (level_of op)) ∷ others) two → Steps to left (part (p.climb low top) ∷ others) before
climbs low top op h k t s =
    rw t.first (picked {xs =
    one is_any ∷ part (p.expr (suc (level_of op))) ∷ part (p.climb low (level_of op)) ∷ []} (rw (
      op_of_symbol op,
      le-leb low (level_of op) h,
      le-leb
          (left_level op) top k,
    ) refl) (pass refl s))

operator_passes : (op : UnaryOp) {before one_after after : List Placed} {place : Place} → TakesSymbol (unary_symbol op) before one_after place →
    Passes (part p.unary ∷ []) one_after after → Passes (part p.unary ∷ []) before after
operator_passes unary_op.Negate t q = on_next t refl (link (took t refl) q)
operator_passes unary_op.Not t q = on_next t refl (link (took t refl) q)

pub field_passes : {two after : List Placed} {named : Named} → TakesName two after named → starts is_open_paren after ≡ false →
    Passes (part p.dotted_rest ∷ []) two after
field_passes n closed = on_next n refl (link (took n refl) (unless _ is_open_paren refl closed no_more))

-- Args
pub args_alone : {before first between after : List Placed} {paths : List RplTree} {open_at close_at : Place} →
    TakesSymbol Symbol.Less before first open_at → Listed DerivesRpl first between paths → TakesSymbol Symbol.Greater between after close_at →
    Passes (part p.args ∷ []) before after
args_alone o ps c =
    rule refl (link (took o refl) (two (listed_passes goes_on_path p.path p.more_paths (λ n. refl) path_passes (λ place rest. refl) ps (rw c.first refl)
    (rw c.first refl)) (took c refl)))

pub call_passes : {two three four after : List Placed} {regions : List RplTree} {named : Named} →
    DerivesArgs two three regions → TakesName three four named → starts is_open_paren four ≡ true → Passes (part p.actuals ∷ []) four after →
    Passes (part p.dotted_rest ∷ []) two after
call_passes no_args n paren a = on_next n refl (link (took n refl) (where_next _ is_open_paren refl paren a))
call_passes (args o ps c) n paren a = where_next _ is_less refl (rw o.first refl) (link (args_alone o ps c) (link (took n refl) a))

-- nothing is selected
pub no_selection : {after : List Placed} → starts is_dot after ≡ false → starts is_open_bracket after ≡ false → Passes (part p.selected ∷ []) after after
no_selection {after} dot bracket = rule {xs = []} (rw (is_next is_dot after dot, is_next is_open_bracket after bracket) refl) no_more

chosen_actuals : (here : List Placed) → starts is_open_paren here ≡ true → choose p.created_rest (next_of here) ≡ Some (part p.actuals ∷ part p.selected ∷ [])
chosen_actuals here paren = rw (is_next is_open_paren here paren) refl

lengths_pass : {two three four five six after : List Placed} {suffixes : List Suffix} {own : Suffix} {open_at close_at : Place} →
    Many DerivesSuffix two three suffixes → TakesSymbol Symbol.OpenBracket three four open_at → starts is_close_bracket four ≡ false →
    Passes (part (p.expr 0) ∷ []) four five →
    TakesSymbol Symbol.CloseBracket five six close_at → DerivesAfter six after own → Passes (part p.array ∷ []) two after
lengths_pass none o closed l c d = rule refl (link (took o refl) (unless _ is_close_bracket refl closed (link l (link (took c refl) (after_passes d)))))
lengths_pass (some (suffix a b e) ss) o closed l c d =
    rule refl (link (took a refl) (where_next _ is_close_bracket refl (rw b.first refl) (link (took b refl) (link (after_passes e)
    (lengths_pass ss o closed l c d)))))

mutual
  pub level_steps : {level : ℕ} {before after : List Placed} {e : PlainExpr} (d : DerivesLevel level before after e) (low : ℕ) {to others : List Expected} {left : List Placed} →
      low ≤ level → level ≤ 6 → Ends (suc (top_of d)) after → Steps to left (part (p.climb low (top_of d)) ∷ others) after →
      Steps to left (part (p.expr low) ∷ others) before
  level_steps (operand d) low h k ends s = pick refl ((unary_passes d ends.selector).goes s)
  level_steps {level = level} (operation {op = op} k l t r) low h high ends s =
      let low_enough = level_low op in
      let left_enough = left_low op in
      let up = level_left op in
      let left_top = top_high l (omega arith) in
      let right_top = top_high r (omega arith) in
      level_steps l low (omega arith) (omega arith) (ends_at_op op t (omega arith))
      (climbs low (top_of l) op (omega arith) left_top t
      (level_steps r (suc (level_of op)) (omega arith) (omega arith) (ends_looser ends (omega arith)) (stops (suc (level_of op)) (top_of r) ends s)))

  unary_passes : {before after : List Placed} {e : PlainExpr} → DerivesUnary before after e → starts is_selector after ≡ false →
      Passes (part p.unary ∷ []) before after
  unary_passes (operator {op = op} t d) closed = operator_passes op t (unary_passes d closed)
  unary_passes {after = after} (postfix d) closed =
      let ends = no_selector after closed in
      record { goes = λ s. postfix_steps d ends.2 ((no_selection ends.0 ends.1).goes s) }
  unary_passes (new_array d) closed = array_passes d

  postfix_steps : {ending : Ending} {before after : List Placed} {e : PlainExpr} {to others : List Expected} {left : List Placed} →
      DerivesPostfix ending before after e → starts is_open_paren after ≡ false → Steps to left (part p.selected ∷ others) after →
      Steps to left (part p.unary ∷ others) before
  postfix_steps (primary d) closed s = primary_steps d s
  postfix_steps (after_dot d dot n) closed s = postfix_steps d (rw dot.first refl) (rw dot.first (pick refl (pick refl (pass refl ((field_passes n closed).goes s)))))
  postfix_steps (called d dot r n a) closed s =
      postfix_steps d (rw dot.first refl) (rw dot.first (pick refl (pick refl (pass refl ((call_passes r n (actuals_start a is_open_paren) (actuals_pass a)).goes s)))))
  postfix_steps (indexed d o l c) closed s =
      postfix_steps d (rw o.first refl) (rw o.first (pick refl (pick refl (pick refl (pass refl
      (level_steps l 0 (omega arith) (omega arith) (ends_at c refl refl) (stops 0 (top_of l) (ends_at c refl refl) (taken c refl s))))))))

  primary_steps : {ending : Ending} {before after : List Placed} {e : PlainExpr} {to others : List Expected} {left : List Placed} →
      DerivesPrimary ending before after e → Steps to left (part p.selected ∷ others) after → Steps to left (part p.unary ∷ others) before
  primary_steps (number t) s = rw t.first (pick refl (pick refl (pass refl s)))
  primary_steps (yes t) s = rw t.first (pick refl (pick refl (pass refl s)))
  primary_steps (no t) s = rw t.first (pick refl (pick refl (pass refl s)))
  primary_steps (DerivesPrimary.nothing t) s = rw t.first (pick refl (pick refl (pass refl s)))
  primary_steps (receiver t) s = rw t.first (pick refl (pick refl (pass refl s)))
  primary_steps (DerivesPrimary.name t) s = rw t.first (pick refl (pick refl (pass refl s)))
  primary_steps (parenthesised o l c) s =
      rw o.first (pick refl (pick refl (pass refl (level_steps l 0 (omega arith) (omega arith) (ends_at c refl refl) (stops 0 (top_of l) (ends_at c refl refl)
      (taken c refl s))))))
  primary_steps (creation t n r a) s =
      step_next t refl (taken t refl (step_next n refl (taken n refl ((args_pass r (actuals_start a is_less)).goes
      (picked (chosen_actuals _ (actuals_start a is_open_paren)) ((actuals_pass a).goes s))))))

  array_passes : {before after : List Placed} {e : PlainExpr} → DerivesNewArray before after e → Passes (part p.unary ∷ []) before after
  array_passes (array t (DerivesBase.int b) ss o l c d) =
      on_next t refl (link (took t refl) (on_next b refl (link (on_next b refl (took b refl)) (lengths_pass ss o (expr_begins_not is_close_bracket no_close_bracket _
      (level_begins l)) (record { goes = λ s. level_steps l 0 (omega arith) (omega arith) (ends_at c refl refl) (stops 0 (top_of l) (ends_at c refl refl) s) }) c d))))
  array_passes (array t (DerivesBase.boolean b) ss o l c d) =
      on_next t refl (link (took t refl) (on_next b refl (link (on_next b refl (took b refl)) (lengths_pass ss o (expr_begins_not is_close_bracket no_close_bracket _
      (level_begins l)) (record { goes = λ s. level_steps l 0 (omega arith) (omega arith) (ends_at c refl refl) (stops 0 (top_of l) (ends_at c refl refl) s) }) c d))))
  array_passes (array t (DerivesBase.class b r) ss o l c d) =
      on_next t refl (link (took t refl) (on_next b refl (link (took b refl) (link (args_pass r (many_first
      (λ here. starts is_less here ≡ false) suffix_no_less ss (rw o.first refl)))
      (unless _ is_open_paren refl (many_first (λ here. starts is_open_paren here ≡ false) suffix_no_paren ss (rw o.first refl)) (lengths_pass ss o (expr_begins_not is_close_bracket no_close_bracket _ (level_begins l)) (record { goes = λ s. level_steps l 0 (omega arith) (omega arith) (ends_at c refl refl) (stops 0 (top_of l) (ends_at c refl refl) s) }) c d))))))

  pub actuals_pass : {before after : List Placed} {es : PlainExprs} → DerivesActuals before after es → Passes (part p.actuals ∷ []) before after
  actuals_pass (no_actuals o c) = rule refl (link (took o refl) (where_next _ is_close_paren refl (rw c.first refl) (took c refl)))
  actuals_pass (actuals {one = here} o l f c) =
      rule refl (link (took o refl) (unless _ is_close_paren refl (expr_begins_not is_close_paren no_close_paren here (level_begins l))
      (link (rule refl (link (record { goes = λ s. level_steps l 0 (omega arith) (omega arith) (further_ends f (ends_at c refl refl)) (stops 0 (top_of l) (further_ends f (ends_at c refl refl)) s) })
      (further_pass f (ends_at c refl refl) (rw c.first refl)))) (took c refl))))

  further_pass : {before after : List Placed} {es : PlainExprs} → DerivesFurther before after es → Ends 0 after → starts is_comma after ≡ false →
      Passes (part p.more_listed ∷ []) before after
  further_pass end ends closed = unless _ is_comma refl closed no_more
  further_pass (further t l f) ends closed =
      where_next _ is_comma refl (rw t.first refl) (link (took t refl)
      (link (record { goes = λ s. level_steps l 0 (omega arith) (omega arith) (ends_looser (further_ends f ends) (omega arith)) (stops 0 (top_of l) (further_ends f ends) s) }) (further_pass f ends closed)))

-- an expression, where nothing that could go on with it stands after it
pub expr_passes : {before after : List Placed} {e : PlainExpr} → DerivesLevel 0 before after e → Ends 0 after → Passes (part (p.expr 0) ∷ []) before after
expr_passes d ends = record { goes = λ s. level_steps d 0 (omega arith) (omega arith) (ends_looser ends (omega arith)) (stops 0 (top_of d) ends s) }
