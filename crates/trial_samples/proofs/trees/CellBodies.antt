-- The bodies of the sample, as plain data.
use Rattle.std.proofs.Common.{◌≡◌, ℕ, pos, false, [], ◌∷◌, Some, map, rules}
use Rattle.syntax_tree.specs.declared.expr.ExprKind.{the_lemmas as expr_lemmas}
use Rattle.syntax_tree.specs.declared.region.BaseTree.TheVariants as base
use Rattle.syntax_tree.specs.declared.stmt.StmtKind.{the_lemmas}
use Rattle.syntax_tree.specs.Plain.{PlainExpr, expression, ExprForm, int, this, local, field, element, call, create, create_array, no_exprs, more_exprs, PlainStmt, statement, StmtForm, block, declare, assign_field, assign_element, return_value, print, cobegin, foreach, atomic, local_regions, PlainStmts, no_stmts, more_stmts, plain_stmt, plain_stmts}
use Rattle.trial_samples.specs.trees.Cells.{here, name_at, path, plain_kind, gives_field, by_index, array_kind, main_body}

abbrev pub at : ExprForm → PlainExpr
at form = expression here form

abbrev pub does : StmtForm → PlainStmt
does form = statement here form

abbrev pub gives_plain : ℕ → PlainStmts
gives_plain name = more_stmts (does (return_value (at (field (at this) name)))) no_stmts

pub gives_is : (name : ℕ) → plain_stmts (map plain_stmt (gives_field name)) ≡ gives_plain name
gives_is name = search (rules, the_lemmas, expr_lemmas)

abbrev pub prints_plain : ℕ → PlainStmt
prints_plain n = does (block (more_stmts (does (declare false (plain_kind base.Int) 15 (at (int (pos n))))) (more_stmts (does (print (at (local 15)))) no_stmts)))

abbrev pub sets_plain : ℕ → ℕ → PlainStmt
sets_plain name n = does (assign_field (at (field (at (local 14)) name)) (at (int (pos n))))

abbrev pub main_plain : PlainStmts
main_plain =
    more_stmts (does (local_regions (name_at 13 ∷ [])))
    (more_stmts (does (declare false (plain_kind (base.Class (name_at 0) (path 11 [] ∷ []))) 14 (at (create (name_at 7) (path 11 [] ∷ []) no_exprs))))
    (more_stmts (prints_plain 1)
    (more_stmts (prints_plain 2)
    (more_stmts (does (declare false array_kind 16 (at (create_array base.Int [] (at (local 6)) (Some by_index) (Some (name_at 17))))))
    (more_stmts (does (cobegin false (more_stmts (sets_plain 3 1) (more_stmts (sets_plain 4 2) no_stmts))))
    (more_stmts (does (foreach false (name_at 18) (at (int (pos 0))) (at (local 6))
    (does (block (more_stmts (does (assign_element (at (element (at (local 16)) (at (local 18)))) (at (local 18)))) no_stmts)))))
    (more_stmts (does (atomic (more_stmts (sets_plain 3 3) no_stmts)))
    (more_stmts (does (return_value (at (call (at (local 14)) [] 5 (more_exprs (at (local 6)) no_exprs))))) no_stmts))))))))

pub main_is : plain_stmts (map plain_stmt main_body) ≡ main_plain
main_is = search (rules, the_lemmas, expr_lemmas)
