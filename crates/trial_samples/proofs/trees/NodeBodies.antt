-- The bodies of the other sample, as plain data.
use Rattle.std.proofs.Common.{◌≡◌, ℕ, pos, true, false, [], ◌∷◌, codes, Some, None, map, rules}
use Rattle.lang_base.specs.declared.op.BinaryOp.TheVariants.{Add, Subtract, Equal, NotEqual, Greater}
use Rattle.lang_base.specs.declared.op.LogicOp.TheVariants.{Or}
use Rattle.lang_base.specs.declared.op.UnaryOp.TheVariants.{Negate, Not}
use Rattle.syntax_tree.specs.declared.expr.InfixOp.{InfixOp}
use Rattle.syntax_tree.specs.declared.expr.InfixOp.TheVariants.{Binary, Logic}
use Rattle.syntax_tree.specs.declared.expr.ExprKind.{the_lemmas as expr_lemmas}
use Rattle.syntax_tree.specs.declared.region.BaseTree.TheVariants as base
use Rattle.syntax_tree.specs.declared.stmt.StmtKind.{the_lemmas}
use Rattle.syntax_tree.specs.Plain.{PlainExpr, int, boolean, null, this, local, field, element, call, create, create_array, unary, binary, no_exprs, more_exprs, PlainStmts, block, declare, assign_local, assign_field, assign_element, perform, choice, choice_else, while_loop, return_nothing, return_value, print, print_text, cobegin, foreach, foreach_parts, no_stmts, more_stmts, plain_stmt, plain_stmts}
use Rattle.trial_samples.specs.trees.Cells.{name_at, path, plain_kind}
use Rattle.trial_samples.specs.trees.Nodes.{makes_node, big, wipe, main_body, ints_in}
use Rattle.trial_samples.proofs.trees.CellBodies.{at, does}

abbrev pub an_int : ℕ → PlainExpr
an_int n = at (int (pos n))

abbrev pub two : InfixOp → PlainExpr → PlainExpr → PlainExpr
two o a b = at (binary o a b)

abbrev pub field_at : PlainExpr → ℕ → PlainExpr
field_at e name = at (field e name)

abbrev pub named : ℕ → PlainExpr
named name = at (local name)

abbrev pub constructor_plain : PlainStmts
constructor_plain = more_stmts (does (assign_field (field_at (at this) 3) (named 5))) no_stmts

pub constructor_is : plain_stmts (map plain_stmt makes_node.body) ≡ constructor_plain
constructor_is = search (rules, the_lemmas, expr_lemmas)

abbrev pub big_plain : PlainStmts
big_plain =
    more_stmts (does (return_value (two (Logic Or) (two (Binary Greater) (two (Binary Add) (field_at (at this) 3) (at (element (named 8) (named 9)))) (field_at (named 8) 4)) (at (unary Not (at (boolean false))))))) no_stmts

pub big_is : plain_stmts (map plain_stmt big.body) ≡ big_plain
big_is = search (rules, the_lemmas, expr_lemmas)

abbrev pub wipe_plain : PlainStmts
wipe_plain = more_stmts (does (assign_field (field_at (at this) 3) (an_int 0))) (more_stmts (does return_nothing) no_stmts)

pub wipe_is : plain_stmts (map plain_stmt wipe.body) ≡ wipe_plain
wipe_is = search (rules, the_lemmas, expr_lemmas)

abbrev pub other_plain : PlainStmts
other_plain =
    more_stmts (does (declare false (plain_kind (base.Class (name_at 0) (path 12 [] ∷ []))) 15 (at (create (name_at 0) (path 12 [] ∷ []) (more_exprs (named 5) no_exprs)))))
    (more_stmts (does (declare false (ints_in 13) 8 (at (create_array base.Int [] (an_int 4) (Some (path 13 [])) None))))
    (more_stmts (does (choice_else (at (call (named 15) (path 13 [] ∷ []) 7 (more_exprs (named 8) (more_exprs (an_int 0) no_exprs))))
    (does (perform (at (call (named 15) [] 10 no_exprs)))) (does (print_text (codes "no")))))
    (more_stmts (does (while_loop (two (Binary NotEqual) (field_at (named 15) 3) (an_int 0)) (does (block (
    more_stmts (does (assign_field (field_at (named 15) 3) (at (unary Negate (field_at (named 15) 3)))))
    (more_stmts (does (assign_field (field_at (named 15) 4) (an_int 1))) no_stmts))))))
    (more_stmts (does (choice (at (boolean true)) (does (block (
    more_stmts (does (assign_local (name_at 15) (at null))) (more_stmts (does (print (two (Binary Equal) (named 15) (at null)))) no_stmts))))))
    (more_stmts (does (foreach true (name_at 16) (an_int 0) (an_int 2) (does (block no_stmts))))
    (more_stmts (does (cobegin true (more_stmts (does (block no_stmts)) (more_stmts (does (block no_stmts)) no_stmts))))
    (more_stmts (does (foreach_parts (name_at 17) (name_at 18) (named 8) (an_int 2) (does (block (
    more_stmts (does (assign_element (at (element (named 17) (an_int 0))) (field_at (named 17) 4)))
    (more_stmts (does (foreach_parts (name_at 19) (name_at 9) (named 17) (an_int 2)
    (does (print (two (Binary Subtract) (at (element (named 17) (an_int 0))) (named 18)))))) no_stmts))))))
    (more_stmts (does (return_value (an_int 0))) no_stmts))))))))

pub other_is : plain_stmts (map plain_stmt main_body) ≡ other_plain
other_is = search (rules, the_lemmas, expr_lemmas)
