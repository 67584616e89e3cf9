-- What the other trees leave out: `final`, constraints, a call of an inherited method, and what a branch copies back.
use Rattle.std.specs.Prelude.{◌≡◌, ℕ, pos, Bool, true, List, [], ◌∷◌}
use Rattle.lang_base.specs.declared.effect.Constraint.{Constraint}
use Rattle.lang_base.specs.declared.elems.Elem.TheVariants.{Name}
use Rattle.lang_base.specs.Types.{PlainType as ty}
use Rattle.syntax_tree.specs.declared.region.BaseTree.TheVariants as base
use Rattle.syntax_tree.specs.declared.region.ConstrTree.{ConstrTree}
use Rattle.syntax_tree.specs.Plain.{PlainExpr, PlainStmts, expression, statement}
use Rattle.syntax_tree.specs.Plain as tree
use Rattle.lang_typed.specs.Plain.{TypedExpr, TypedStmts, TypedBranches, typed}
use Rattle.lang_typed.specs.Plain as made
use Rattle.syntax_means.specs.Bodies.{AllMean, BranchesMean, ExprMeans}
use Rattle.syntax_means.specs.Means.{ConstraintMeans}
use Rattle.syntax_means.specs.Paths.{Around}
use Rattle.trial_samples.specs.trees.Cells.{here, name_at, path, plain_kind, makes, number, below_param}
use Rattle.trial_samples.specs.trees.Paths.{around, below_root}
use Rattle.trial_samples.specs.trees.Rows.{rows_program}
use Rattle.trial_samples.specs.trees.Rows.{tree as rows_tree}

abbrev pub one : PlainExpr
one = expression here (tree.int (pos 1))

-- final int j = 1;
abbrev pub declares_final : PlainStmts
declares_final = tree.more_stmts (statement here (tree.declare true (plain_kind base.Int) 5 one)) tree.no_stmts

abbrev pub declared : Bool → TypedStmts
declared is_final = made.more_stmts (makes (made.declare 7 ty.int is_final (number 1))) made.no_stmts

-- P # C
abbrev pub apart : ConstrTree
apart = record { left = path 1 []; right = path 2 [] }

-- j = 1; as a branch
abbrev pub assigns : PlainStmts
assigns = tree.more_stmts (statement here (tree.assign_local (name_at 5) one)) tree.no_stmts

abbrev pub assigned : List ℕ → TypedBranches
assigned copies = made.more_branches copies (makes (made.store 7 (number 1))) made.no_branches

-- o.f() for an `o` of the class High, whose superclass declares f
abbrev pub in_high : Around
in_high = record { tree = rows_tree; typed = rows_program (0 ∷ 1 ∷ []) (0 ∷ 2 ∷ []); class = 1; params = []; locals = (7, 1) ∷ []; regions = [] }

abbrev pub calls_f : PlainExpr
calls_f = expression here (tree.call (expression here (tree.local 7)) [] 1 tree.no_exprs)

abbrev pub called : ℕ → TypedExpr
called row = typed here ty.void (made.call (typed here (ty.class 1 []) (made.local 1)) 1 row [] made.no_exprs)

pub record DetailsMean : Type 0 where
  pub final_means : AllMean around declares_final (declared true)
  pub final_only : (is_final : Bool) → AllMean around declares_final (declared is_final) → is_final ≡ true
  pub constraint_only : (g : Constraint) → ConstraintMeans around apart g → (g.left ≡ below_param []) × (g.right ≡ below_root (Name 0))
  -- what a branch copies back is left to the judgement of typed programs
  pub copies_open : (copies : List ℕ) → BranchesMean around assigns (assigned copies)
  pub inherited_means : ExprMeans in_high calls_f (called 0)
  pub inherited_only : (row : ℕ) → ExprMeans in_high calls_f (called row) → row ≡ 0
