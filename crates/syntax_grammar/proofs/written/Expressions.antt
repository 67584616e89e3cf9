-- The expressions that a text of small terminals derives are fitting.
use Rattle.std.proofs.Common.{ℕ, List, arith}
use Rattle.syntax_tokens.specs.declared.terminal.Placed.{Placed}
use Rattle.syntax_tree.specs.declared.region.Named.{Named}
use Rattle.syntax_tree.specs.Plain.{PlainExpr, PlainExprs}
use Rattle.syntax_grammar.specs.Expressions.{Ending, DerivesLevel, operand, operation, DerivesUnary, operator, postfix, new_array, DerivesPostfix, primary, after_dot, called, indexed, DerivesPrimary, number, yes, no, nothing, receiver, parenthesised, creation, DerivesNewArray, array, DerivesActuals, no_actuals, actuals, DerivesFurther, end, further}
use Rattle.syntax_grammar.specs.Statements.{DerivesCondition, condition, DerivesValue, value, DerivesRange, range}
use Rattle.syntax_grammar.specs.Written.{Fitting, AllFitting}
use Rattle.syntax_grammar.proofs.written.Numbers.{Fits, takes, here, join, fewer, number_taken, plainly, following, before, both}
use Rattle.syntax_grammar.proofs.written.Left.{args_left, base_left, after_left, suffixes_left, suffixes_fewer}

mutual
  level_fits : {level : ℕ} {before after : List Placed} {e : PlainExpr} → DerivesLevel level before after e → Fits (Fitting e) before after
  level_fits (operand d) = unary_fits d
  level_fits (operation fits left symbol right) = both (level_fits left) (following (takes symbol) (level_fits right))

  unary_fits : {before after : List Placed} {e : PlainExpr} → DerivesUnary before after e → Fits (Fitting e) before after
  unary_fits (operator symbol d) = following (takes symbol) (unary_fits d)
  unary_fits (postfix d) = postfix_fits d
  unary_fits (new_array d) = array_fits d

  pub postfix_fits : {ending : Ending} {before after : List Placed} {e : PlainExpr} → DerivesPostfix ending before after e → Fits (Fitting e) before after
  postfix_fits (primary d) = primary_fits d
  postfix_fits (after_dot d dot t) = before (postfix_fits d) (join (takes dot) (takes t))
  postfix_fits (called d dot regions t all) = both (postfix_fits d) (following (join (takes dot) (join (args_left regions) (takes t))) (actuals_fit all))
  postfix_fits (indexed d open_at at close_at) = both (postfix_fits d) (following (takes open_at) (before (level_fits at) (takes close_at)))

  primary_fits : {ending : Ending} {before after : List Placed} {e : PlainExpr} → DerivesPrimary ending before after e → Fits (Fitting e) before after
  primary_fits (number t) = number_taken t
  primary_fits (yes t) = plainly (takes t)
  primary_fits (no t) = plainly (takes t)
  primary_fits (nothing t) = plainly (takes t)
  primary_fits (receiver t) = plainly (takes t)
  primary_fits (DerivesPrimary.name t) = plainly (takes t)
  primary_fits (parenthesised open_at d close_at) = following (takes open_at) (before (level_fits d) (takes close_at))
  primary_fits (creation at t regions all) = following (join (takes at) (join (takes t) (args_left regions))) (actuals_fit all)

  array_fits : {before after : List Placed} {e : PlainExpr} → DerivesNewArray before after e → Fits (Fitting e) before after
  array_fits (array {suffixes = trees} at start suffixes open_at len close_at own) =
      both (record { is = λ small. (let few = small.few in omega (arith, few, fewer (takes at), fewer (base_left start), suffixes_fewer suffixes)); left = join (takes at) (join (base_left start) (suffixes_left suffixes)) })
      (following (takes open_at) (before (level_fits len) (join (takes close_at) (after_left own))))

  actuals_fit : {before after : List Placed} {es : PlainExprs} → DerivesActuals before after es → Fits (AllFitting es) before after
  actuals_fit (no_actuals open_at close_at) = plainly (join (takes open_at) (takes close_at))
  actuals_fit (actuals open_at d es close_at) = following (takes open_at) (both (level_fits d) (before (further_fit es) (takes close_at)))

  further_fit : {before after : List Placed} {es : PlainExprs} → DerivesFurther before after es → Fits (AllFitting es) before after
  further_fit end = plainly here
  further_fit (further comma d es) = following (takes comma) (both (level_fits d) (further_fit es))

pub condition_fits : {before after : List Placed} {e : PlainExpr} → DerivesCondition before after e → Fits (Fitting e) before after
condition_fits (condition open_at d close_at) = following (takes open_at) (before (level_fits d) (takes close_at))

pub value_fits : {before after : List Placed} {e : PlainExpr} → DerivesValue before after e → Fits (Fitting e) before after
value_fits (value d ends_at) = before (level_fits d) (takes ends_at)

pub range_fits : {before after : List Placed} {var : Named} {first second : PlainExpr} → DerivesRange before after var first second → Fits (Fitting first × Fitting second) before after
range_fits (range int_at t in_at first comma second close_at) =
    following (join (takes int_at) (join (takes t) (takes in_at))) (both (level_fits first) (following (takes comma) (before (level_fits second) (takes close_at))))
