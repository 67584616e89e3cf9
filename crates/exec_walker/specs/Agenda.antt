-- What a body at work has to do, item by item, and what each item needs of the operands before it.
use Rattle.std.specs.Prelude.{ℕ, zero, suc, ◌+◌, pos, false, true, List, map, reverse, take, Option, Some, None}
use Rattle.lang_typed.specs.Plain.{PlainProgram, of_array, of_part, TypedExpr, typed, TypedExprs, no_exprs, more_exprs, TypedStmt, statement, TypedStmts}
use Rattle.lang_typed.specs.Plain.{ExprForm as form}
use Rattle.lang_typed.specs.Plain.{StmtForm as stmt}
use Rattle.lang_meaning.specs.Values.{Value, Int, Boolean}
use Rattle.lang_meaning.specs.Actions.{Frame}
use Rattle.lang_meaning.specs.Asking.{meaning}
use Rattle.lang_meaning.specs.Core.{Prog, Ret, Returns, and_then}
use Rattle.lang_meaning.specs.Counts.{number, truth, slot_value, unary, text_of}
use Rattle.lang_meaning.specs.Elision.{LocalRegion, in_order}
use Rattle.lang_meaning.specs.Expressions.{Deeper, gives, none, operation, unless_null, read_cell, called, created, made_array, class_in, part_element, of_expr}
use Rattle.lang_meaning.specs.Expressions.{called}
use Rattle.lang_meaning.specs.Statements.{with_value, write_cell, prints, makes, forks, part_begun, parts, parts_of_array, of_stmt, of_stmts}
use Rattle.lang_meaning.specs.Regions.{around, concrete}
use Rattle.lang_meaning.specs.Core.{Act}
use Rattle.lang_meaning.specs.Actions.{Look}
use Rattle.lang_meaning.specs.Counts.{length_seen}

pub data Item : Type 0 where
  -- the value of an expression, onto the operands
  evaluate : TypedExpr → Item
  -- what an expression does once its operands stand there, the last on top
  operate : TypedExpr → Item
  carry_out : TypedStmt → Item
  -- what a statement does once its operands stand there
  finish : TypedStmt → Item
  -- a loop over parts, whose count is on top
  counted : TypedStmt → Item
  goes_on : TypedStmts → Item
  -- a while loop in front of its test, and after it
  test : TypedExpr → TypedStmt → Item
  tick : TypedExpr → TypedStmt → Item
  -- the end of an atomic block
  leave : Item

-- what statements do one call deeper, where so many are left
abbrev pub deeper_at : PlainProgram → ℕ → Option (Deeper ℕ LocalRegion)
deeper_at P zero = None
deeper_at P (suc d) = Some (meaning in_order P d)

abbrev pub one : TypedExpr → TypedExprs
one e = more_exprs e no_exprs

abbrev pub two : TypedExpr → TypedExpr → TypedExprs
two a b = more_exprs a (one b)

abbrev pub count : TypedExprs → ℕ
count no_exprs = 0
count (more_exprs e es) = suc (count es)

-- the operands of an expression
abbrev pub operands_of : TypedExpr → TypedExprs
operands_of (typed at t (form.int k)) = no_exprs
operands_of (typed at t (form.boolean b)) = no_exprs
operands_of (typed at t form.null) = no_exprs
operands_of (typed at t (form.local x)) = no_exprs
operands_of (typed at t (form.field e c k)) = one e
operands_of (typed at t (form.element a i)) = two a i
operands_of (typed at t (form.array_length a)) = one a
operands_of (typed at t (form.call e c r regions es)) = more_exprs e es
operands_of (typed at t (form.create es)) = es
operands_of (typed at t (form.create_array n)) = one n
operands_of (typed at t (form.unary o e)) = one e
operands_of (typed at t (form.binary o a b)) = two a b
operands_of (typed at t (form.both a b)) = one a
operands_of (typed at t (form.either a b)) = one a
operands_of (typed at t (form.part_length k)) = no_exprs
operands_of (typed at t (form.part_element k i)) = one i

-- what it does over operands
abbrev pub applied : PlainProgram → ℕ → TypedExpr → List (Value ℕ) → Frame ℕ LocalRegion → Prog ℕ LocalRegion
applied P d (typed at t (form.int k)) vs f = gives (Int k) f
applied P d (typed at t (form.boolean b)) vs f = gives (Boolean b) f
applied P d (typed at t form.null) vs f = gives none f
applied P d (typed at t (form.local x)) vs f = gives (slot_value f.values x) f
applied P d (typed at t (form.field e c k)) vs f = unless_null at (slot_value vs 0) (λ n. read_cell at n (pos k) f)
applied P d (typed at t (form.element a i)) vs f = unless_null at (slot_value vs 1) (λ n. read_cell at n (number (slot_value vs 0)) f)
applied P d (typed at t (form.array_length a)) vs f =
    unless_null at (slot_value vs 0) (λ n. Act (Look n) (λ x. gives (Int (pos (length_seen x))) f))
applied P d (typed at t (form.call e c r regions es)) vs f =
    unless_null at (slot_value vs (count es)) (λ n. called in_order P (deeper_at P d) at c r (map (concrete in_order (around f)) regions) n
    (reverse (take (count es) vs)) f)
applied P d (typed at t (form.create es)) vs f =
    created in_order P (deeper_at P d) at (class_in t).0 (map (concrete in_order (around f)) (class_in t).1) (reverse (take (count es) vs)) f
applied P d (typed at t (form.create_array n)) vs f = made_array in_order at t (number (slot_value vs 0)) f
applied P d (typed at t (form.unary o e)) vs f = gives (unary o (slot_value vs 0)) f
applied P d (typed at t (form.binary o a b)) vs f = operation in_order.same at o (slot_value vs 1) (slot_value vs 0) f
applied P d (typed at t (form.both a b)) vs f =
    elim (truth (slot_value vs 0)) [ false ↦ gives (Boolean false) f | true ↦ of_expr in_order P (deeper_at P d) b f ]
applied P d (typed at t (form.either a b)) vs f =
    elim (truth (slot_value vs 0)) [ false ↦ of_expr in_order P (deeper_at P d) b f | true ↦ gives (Boolean true) f ]
applied P d (typed at t (form.part_length k)) vs f = gives (slot_value f.values (k + 2)) f
applied P d (typed at t (form.part_element k i)) vs f = part_element at k (number (slot_value vs 0)) f (λ n j. read_cell at n j f)

-- the operands of a statement
abbrev pub needs : TypedStmt → TypedExprs
needs (statement at (stmt.declare x t is_final e)) = one e
needs (statement at (stmt.store x e)) = one e
needs (statement at (stmt.store_field o c k e)) = two o e
needs (statement at (stmt.store_element a i e)) = more_exprs a (two i e)
needs (statement at (stmt.store_part k i e)) = two i e
needs (statement at (stmt.perform e)) = one e
needs (statement at (stmt.block ss)) = no_exprs
needs (statement at (stmt.choice e s)) = one e
needs (statement at (stmt.choice_else e s t)) = one e
needs (statement at (stmt.while_loop e s)) = no_exprs
needs (statement at stmt.return_nothing) = no_exprs
needs (statement at (stmt.return_value e)) = one e
needs (statement at (stmt.print_int e)) = one e
needs (statement at (stmt.print_boolean e)) = one e
needs (statement at (stmt.print_text text)) = no_exprs
needs (statement at (stmt.local_regions rs)) = no_exprs
needs (statement at (stmt.atomic effects ss)) = no_exprs
needs (statement at (stmt.cobegin forking bs)) = no_exprs
needs (statement at (stmt.foreach forking x start many s)) = two start many
needs (statement at (stmt.foreach_parts k (of_array a) many s)) = one a
needs (statement at (stmt.foreach_parts k (of_part j) many s)) = no_exprs

-- what it does over operands; a statement that needs none does what it means
abbrev pub finished : PlainProgram → ℕ → TypedStmt → List (Value ℕ) → Frame ℕ LocalRegion → Prog ℕ LocalRegion
finished P d (statement at (stmt.declare x t is_final e)) vs f = gives none (with_value f x (slot_value vs 0))
finished P d (statement at (stmt.store x e)) vs f = gives none (with_value f x (slot_value vs 0))
finished P d (statement at (stmt.store_field o c k e)) vs f = unless_null at (slot_value vs 1) (λ n. write_cell at n (pos k) (slot_value vs 0) f)
finished P d (statement at (stmt.store_element a i e)) vs f =
    unless_null at (slot_value vs 2) (λ n. write_cell at n (number (slot_value vs 1)) (slot_value vs 0) f)
finished P d (statement at (stmt.store_part k i e)) vs f =
    part_element at k (number (slot_value vs 1)) f (λ n l. write_cell at n l (slot_value vs 0) f)
finished P d (statement at (stmt.perform e)) vs f = gives none f
finished P d (statement at (stmt.choice e s)) vs f =
    elim (truth (slot_value vs 0)) [ false ↦ gives none f | true ↦ of_stmt in_order P (deeper_at P d) s f ]
finished P d (statement at (stmt.choice_else e s t)) vs f =
    elim (truth (slot_value vs 0)) [ false ↦ of_stmt in_order P (deeper_at P d) t f | true ↦ of_stmt in_order P (deeper_at P d) s f ]
finished P d (statement at (stmt.return_value e)) vs f = Ret (Returns (slot_value vs 0))
finished P d (statement at (stmt.print_int e)) vs f = prints (text_of (slot_value vs 0)) f
finished P d (statement at (stmt.print_boolean e)) vs f = prints (text_of (slot_value vs 0)) f
finished P d (statement at (stmt.foreach forking x start many s)) vs f =
    forks (deeper_at P d) at forking None x s (number (slot_value vs 1)) (number (slot_value vs 0)) f
finished P d (statement at (stmt.foreach_parts k (of_array a) many s)) vs f =
    and_then (of_expr in_order P (deeper_at P d) many (part_begun k (slot_value vs 0) f))
    (λ u h. parts_of_array (deeper_at P d) at k s (with_value h (k + 3) u))
finished P d (statement at (stmt.foreach_parts k (of_part j) many s)) vs f =
    of_stmt in_order P (deeper_at P d) (statement at (stmt.foreach_parts k (of_part j) many s)) f
finished P d (statement at (stmt.block ss)) vs f = of_stmts in_order P (deeper_at P d) ss f
finished P d (statement at (stmt.while_loop e s)) vs f = of_stmt in_order P (deeper_at P d) (statement at (stmt.while_loop e s)) f
finished P d (statement at stmt.return_nothing) vs f = Ret (Returns none)
finished P d (statement at (stmt.print_text text)) vs f = prints text f
finished P d (statement at (stmt.local_regions rs)) vs f = makes rs f
finished P d (statement at (stmt.atomic effects ss)) vs f = of_stmt in_order P (deeper_at P d) (statement at (stmt.atomic effects ss)) f
finished P d (statement at (stmt.cobegin forking bs)) vs f = of_stmt in_order P (deeper_at P d) (statement at (stmt.cobegin forking bs)) f

-- the slots of a part, once its count is on top
abbrev pub counts_to : TypedStmt → Value ℕ → Frame ℕ LocalRegion → Frame ℕ LocalRegion
counts_to (statement at (stmt.foreach_parts k (of_array a) many s)) v f = with_value f (k + 3) v
counts_to (statement at (stmt.foreach_parts k (of_part j) many s)) v f =
    (let h : Frame ℕ LocalRegion = with_value f (k + 3) v in with_value h (k + 2) (slot_value h.values (j + 2)))
counts_to s v f = f

-- the loop over parts that follows
abbrev pub parted : PlainProgram → ℕ → TypedStmt → List (Value ℕ) → Frame ℕ LocalRegion → Prog ℕ LocalRegion
parted P d (statement at (stmt.foreach_parts k (of_array a) many s)) vs f =
    parts_of_array (deeper_at P d) at k s (counts_to (statement at (stmt.foreach_parts k (of_array a) many s)) (slot_value vs 0) f)
parted P d (statement at (stmt.foreach_parts k (of_part j) many s)) vs f =
    parts (deeper_at P d) at k s (counts_to (statement at (stmt.foreach_parts k (of_part j) many s)) (slot_value vs 0) f)
parted P d s vs f = gives none f
