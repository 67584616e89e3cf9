-- The work that is left of a walk: what its agendas hold, counted so that each step that costs nothing leaves less.
use Rattle.std.specs.Prelude.{ℕ, suc, ◌+◌, List, [], ◌∷◌, map}
use Rattle.lang_typed.specs.Plain.{of_array, of_part, TypedExpr, typed, TypedExprs, no_exprs, more_exprs, TypedStmt, statement, TypedStmts, no_stmts, more_stmts}
use Rattle.lang_typed.specs.Plain.{ExprForm as form}
use Rattle.lang_typed.specs.Plain.{StmtForm as stmt}
use Rattle.exec_walker.specs.Agenda.{Item, evaluate, operate, carry_out, finish, counted, goes_on, test, tick, leave}
use Rattle.exec_walker.specs.Walk.{Waiting, for_value, for_object, for_branch}
use Rattle.exec_walker.specs.declared.walker.Walker.{Walker}
use Rattle.exec_walker.specs.States.{plain_item, plain_waiting}

abbrev mutual
  pub expr_work : TypedExpr → ℕ
  expr_work (typed at t (form.int k)) = 2
  expr_work (typed at t (form.boolean b)) = 2
  expr_work (typed at t form.null) = 2
  expr_work (typed at t (form.local x)) = 2
  expr_work (typed at t (form.field e c k)) = 2 + expr_work e
  expr_work (typed at t (form.element a i)) = 2 + expr_work a + expr_work i
  expr_work (typed at t (form.array_length a)) = 2 + expr_work a
  expr_work (typed at t (form.call e c r regions es)) = 2 + expr_work e + exprs_work es
  expr_work (typed at t (form.create es)) = 2 + exprs_work es
  expr_work (typed at t (form.create_array n)) = 2 + expr_work n
  expr_work (typed at t (form.unary o e)) = 2 + expr_work e
  expr_work (typed at t (form.binary o a b)) = 2 + expr_work a + expr_work b
  expr_work (typed at t (form.both a b)) = 2 + expr_work a + expr_work b
  expr_work (typed at t (form.either a b)) = 2 + expr_work a + expr_work b
  expr_work (typed at t (form.part_length k)) = 2
  expr_work (typed at t (form.part_element k i)) = 2 + expr_work i

  pub exprs_work : TypedExprs → ℕ
  exprs_work no_exprs = 0
  exprs_work (more_exprs e es) = expr_work e + exprs_work es

-- after its operands
abbrev pub operation_work : TypedExpr → ℕ
operation_work (typed at t (form.both a b)) = 1 + expr_work b
operation_work (typed at t (form.either a b)) = 1 + expr_work b
operation_work e = 1

abbrev mutual
  pub stmt_work : TypedStmt → ℕ
  stmt_work (statement at (stmt.declare x t is_final e)) = 2 + expr_work e
  stmt_work (statement at (stmt.store x e)) = 2 + expr_work e
  stmt_work (statement at (stmt.store_field o c k e)) = 2 + expr_work o + expr_work e
  stmt_work (statement at (stmt.store_element a i e)) = 2 + expr_work a + expr_work i + expr_work e
  stmt_work (statement at (stmt.store_part k i e)) = 2 + expr_work i + expr_work e
  stmt_work (statement at (stmt.perform e)) = 2 + expr_work e
  stmt_work (statement at (stmt.block ss)) = 2 + stmts_work ss
  stmt_work (statement at (stmt.choice e s)) = 2 + expr_work e + stmt_work s
  stmt_work (statement at (stmt.choice_else e s t)) = 2 + expr_work e + stmt_work s + stmt_work t
  stmt_work (statement at (stmt.while_loop e s)) = 4 + expr_work e
  stmt_work (statement at stmt.return_nothing) = 2
  stmt_work (statement at (stmt.return_value e)) = 2 + expr_work e
  stmt_work (statement at (stmt.print_int e)) = 2 + expr_work e
  stmt_work (statement at (stmt.print_boolean e)) = 2 + expr_work e
  stmt_work (statement at (stmt.print_text text)) = 2
  stmt_work (statement at (stmt.local_regions rs)) = 2
  stmt_work (statement at (stmt.atomic effects ss)) = 2
  stmt_work (statement at (stmt.cobegin forking bs)) = 2
  stmt_work (statement at (stmt.foreach forking x start many s)) = 2 + expr_work start + expr_work many
  stmt_work (statement at (stmt.foreach_parts k (of_array a) many s)) = 3 + expr_work a + expr_work many
  stmt_work (statement at (stmt.foreach_parts k (of_part j) many s)) = 3 + expr_work many

  pub stmts_work : TypedStmts → ℕ
  stmts_work no_stmts = 1
  stmts_work (more_stmts s ss) = 1 + stmt_work s + stmts_work ss

abbrev pub finish_work : TypedStmt → ℕ
finish_work (statement at (stmt.block ss)) = 1 + stmts_work ss
finish_work (statement at (stmt.choice e s)) = 1 + stmt_work s
finish_work (statement at (stmt.choice_else e s t)) = 1 + stmt_work s + stmt_work t
finish_work (statement at (stmt.while_loop e s)) = 3 + expr_work e
finish_work (statement at (stmt.foreach_parts k source many s)) = 2 + expr_work many
finish_work s = 1

abbrev pub item_work : Item → ℕ
item_work (evaluate e) = expr_work e
item_work (operate e) = operation_work e
item_work (carry_out s) = stmt_work s
item_work (finish s) = finish_work s
item_work (counted s) = 1
item_work (goes_on ss) = stmts_work ss
item_work (test e s) = 2 + expr_work e
item_work (tick e s) = 1
item_work leave = 1

abbrev pub items_work : List Item → ℕ
items_work [] = 0
items_work (i ∷ is) = item_work i + items_work is

-- a construct goes on by a step
abbrev pub waiting_work : List Waiting → ℕ
waiting_work [] = 0
waiting_work (for_value g ∷ ws) = suc (items_work g.items + waiting_work ws)
waiting_work (for_object n g ∷ ws) = suc (items_work g.items + waiting_work ws)
waiting_work (for_branch c k rest ∷ ws) = waiting_work ws

abbrev pub work_left : Walker → ℕ
work_left k = items_work (map plain_item k.level.items) + waiting_work (map plain_waiting k.waiting)
