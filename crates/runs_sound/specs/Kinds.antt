-- The meaning again, which looks at kinds: each use of a value or an answer is made where it is of the kind that this use needs. What is done
-- where it isn't is left open: `wrong`, which is given what the meaning does there.
use Rattle.std.specs.Prelude.{ℕ, zero, suc, ◌+◌, ℤ, pos, Bool, true, false, cond, ◌&&◌, ◌||◌, List, [], ◌∷◌, map, reverse, Option, Some, None}
use Rattle.lang_base.specs.declared.op.BinaryOp.{BinaryOp}
use Rattle.lang_base.specs.declared.op.Operands.{Operands}
use Rattle.lang_base.specs.declared.op.Operands.TheVariants.{Ints, Same}
use Rattle.lang_base.specs.declared.place.Place.{Place}
use Rattle.lang_base.specs.Operators.{operands_of, unary_type}
use Rattle.lang_base.specs.Types.{PlainType, int, boolean, void, null, class, array}
use Rattle.lang_typed.specs.Plain.{PlainProgram, TypedExpr, typed, TypedExprs, no_exprs, more_exprs, of_array, of_part, TypedStmt, statement, TypedStmts, no_stmts, more_stmts}
use Rattle.lang_typed.specs.Plain.{ExprForm as form}
use Rattle.lang_typed.specs.Plain.{StmtForm as stmt}
use Rattle.lang_meaning.specs.Values.{Value, Int, Boolean, Null, Object, Naming}
use Rattle.lang_meaning.specs.Actions.{Frame, Task, Rest, Look, Enter, Exit, Answer, Went, Got, Out, Class, Length, Named, Reply}
use Rattle.lang_meaning.specs.Core.{Returns, Prog, Ret, Act, Again, and_then, run}
use Rattle.lang_meaning.specs.Counts.{number, truth, length_seen, unary, slot_value, text_of}
use Rattle.lang_meaning.specs.Regions.{around, concrete, concrete_effect}
use Rattle.lang_meaning.specs.Expressions.{Deeper, gives, none, operation, unless_null, read_cell, called, created, made_array, class_in, part_element}
use Rattle.lang_meaning.specs.Statements.{with_value, write_cell, prints, begun, forks, part_begun, part_taken_over, parts, parts_of_array, of_stmt}
use Rattle.lang_meaning.specs.Asking.{reported, replied}

abbrev pub is_int : {N : Type 0} → Value N → Bool
is_int (Int k) = true
is_int _ = false

abbrev pub is_boolean : {N : Type 0} → Value N → Bool
is_boolean (Boolean b) = true
is_boolean _ = false

abbrev pub is_null : {N : Type 0} → Value N → Bool
is_null Null = true
is_null _ = false

-- null, or an object or an array
abbrev pub is_reference : {N : Type 0} → Value N → Bool
is_reference Null = true
is_reference (Object n) = true
is_reference _ = false

-- of the kind of a type
abbrev pub is_of : {N : Type 0} → PlainType → Value N → Bool
is_of int v = is_int v
is_of boolean v = is_boolean v
is_of void v = is_null v
is_of null v = is_null v
is_of (class c args) v = is_reference v
is_of (array t a named) v = is_reference v

-- two ints; or, where they are told from each other, two values of one kind
abbrev pub are_operands : {N : Type 0} → Operands → Value N → Value N → Bool
are_operands Ints v u = is_int v && is_int u
are_operands Same v u = (is_int v && is_int u) || (is_boolean v && is_boolean u) || (is_reference v && is_reference u)

-- the slots of a part hold the array, its first place and its length
abbrev pub is_part : {N : Type 0} → ℕ → List (Value N) → Bool
is_part k vs = is_reference (slot_value vs k) && (is_int (slot_value vs (k + 1)) && is_int (slot_value vs (k + 2)))

-- the answers to a read and to a write, either of which may be out of bounds
abbrev pub is_read : {N M : Type 0} → Answer N M → Bool
is_read (Got v) = true
is_read Out = true
is_read _ = false

abbrev pub is_written : {N M : Type 0} → Answer N M → Bool
is_written Went = true
is_written Out = true
is_written _ = false

-- to a look at an array and at an object that is called, and to a creation
abbrev pub is_length : {N M : Type 0} → Answer N M → Bool
is_length (Length k) = true
is_length _ = false

abbrev pub is_class : {N M : Type 0} → Answer N M → Bool
is_class (Class c rs) = true
is_class _ = false

abbrev pub is_name : {N M : Type 0} → Answer N M → Bool
is_name (Named n) = true
is_name _ = false

-- what is done at a wrong kind, given what the meaning does there
abbrev pub Wrong : Type 0 → Type 0 → Type 0
Wrong N M = Prog N M → Prog N M

abbrev pub needs : {N M : Type 0} → Wrong N M → Bool → Prog N M → Prog N M
needs wrong right p = cond right p (wrong p)

-- the answer to what is done first has to be such a one
abbrev pub answered : {N M : Type 0} → Wrong N M → (Answer N M → Bool) → Prog N M → Prog N M
answered wrong right (Act o k) = Act o (λ x. needs wrong (right x) (k x))
answered wrong right p = p

-- two values are used
abbrev pub strict_operation : {N M : Type 0} → Wrong N M → Naming N M → Place → BinaryOp → Value N → Value N → Frame N M → Prog N M
strict_operation wrong names at o v u f = needs wrong (are_operands (operands_of o) v u) (operation names.same at o v u f)

-- the object or the array in a value is used
abbrev pub strict_use : {N M : Type 0} → Wrong N M → (Answer N M → Bool) → Place → Value N → (N → Prog N M) → Prog N M
strict_use wrong right at v k = needs wrong (is_reference v) (answered wrong right (unless_null at v k))

-- and a cell of it, at an index
abbrev pub strict_use_at : {N M : Type 0} → Wrong N M → (Answer N M → Bool) → Place → Value N → Value N → (N → ℤ → Prog N M) → Prog N M
strict_use_at wrong right at v i k = needs wrong (is_int i) (strict_use wrong right at v (λ n. k n (number i)))

-- an element of a part is used, at an index
abbrev pub strict_part : {N M : Type 0} → Wrong N M → (Answer N M → Bool) → Place → ℕ → Value N → Frame N M → (N → ℤ → Prog N M) → Prog N M
strict_part wrong right at k i f j = needs wrong (is_int i && is_part k f.values) (answered wrong right (part_element at k (number i) f j))

abbrev mutual
  pub strict_expr : {N M : Type 0} → Wrong N M → Naming N M → PlainProgram → Option (Deeper N M) → TypedExpr → Frame N M → Prog N M
  strict_expr wrong names P dp (typed at t (form.int k)) f = gives (Int k) f
  strict_expr wrong names P dp (typed at t (form.boolean b)) f = gives (Boolean b) f
  strict_expr wrong names P dp (typed at t form.null) f = gives Null f
  -- a local that is read is of the kind of its type
  strict_expr wrong names P dp (typed at t (form.local x)) f = needs wrong (is_of t (slot_value f.values x)) (gives (slot_value f.values x) f)
  strict_expr wrong names P dp (typed at t (form.field e c k)) f =
      and_then (strict_expr wrong names P dp e f) (λ v g. strict_use wrong is_read at v (λ n. read_cell at n (pos k) g))
  strict_expr wrong names P dp (typed at t (form.element a i)) f =
      and_then (strict_expr wrong names P dp a f) (λ v g. and_then (strict_expr wrong names P dp i g) (λ u h. strict_use_at wrong is_read at v u (λ n j. read_cell at n j h)))
  strict_expr wrong names P dp (typed at t (form.array_length a)) f =
      and_then (strict_expr wrong names P dp a f) (λ v g. strict_use wrong is_length at v (λ n. Act (Look n) (λ x. gives (Int (pos (length_seen x))) g)))
  strict_expr wrong names P dp (typed at t (form.call e c r regions es)) f =
      and_then (strict_expr wrong names P dp e f) (λ v g. strict_exprs wrong names P dp es g [] (λ vs h.
      strict_use wrong is_class at v (λ n. called names P dp at c r (map (concrete names (around h)) regions) n (reverse vs) h)))
  strict_expr wrong names P dp (typed at t (form.create es)) f =
      strict_exprs wrong names P dp es f [] (λ vs g. answered wrong is_name
      (created names P dp at (class_in t).0 (map (concrete names (around g)) (class_in t).1) (reverse vs) g))
  strict_expr wrong names P dp (typed at t (form.create_array n)) f =
      and_then (strict_expr wrong names P dp n f) (λ v g. needs wrong (is_int v) (answered wrong is_name (made_array names at t (number v) g)))
  strict_expr wrong names P dp (typed at t (form.unary o e)) f =
      and_then (strict_expr wrong names P dp e f) (λ v g. needs wrong (is_of (unary_type o) v) (gives (unary o v) g))
  strict_expr wrong names P dp (typed at t (form.binary o a b)) f =
      and_then (strict_expr wrong names P dp a f) (λ v g. and_then (strict_expr wrong names P dp b g) (λ u h. strict_operation wrong names at o v u h))
  strict_expr wrong names P dp (typed at t (form.both a b)) f =
      and_then (strict_expr wrong names P dp a f) (λ v g. needs wrong (is_boolean v)
      (elim (truth v) [ false ↦ gives (Boolean false) g | true ↦ strict_expr wrong names P dp b g ]))
  strict_expr wrong names P dp (typed at t (form.either a b)) f =
      and_then (strict_expr wrong names P dp a f) (λ v g. needs wrong (is_boolean v)
      (elim (truth v) [ false ↦ strict_expr wrong names P dp b g | true ↦ gives (Boolean true) g ]))
  strict_expr wrong names P dp (typed at t (form.part_length k)) f = needs wrong (is_int (slot_value f.values (k + 2))) (gives (slot_value f.values (k + 2)) f)
  strict_expr wrong names P dp (typed at t (form.part_element k i)) f =
      and_then (strict_expr wrong names P dp i f) (λ v g. strict_part wrong is_read at k v g (λ n j. read_cell at n j g))

  pub strict_exprs : {N M : Type 0} → Wrong N M → Naming N M → PlainProgram → Option (Deeper N M) → TypedExprs → Frame N M → List (Value N) →
      (List (Value N) → Frame N M → Prog N M) → Prog N M
  strict_exprs wrong names P dp no_exprs f vs j = j vs f
  strict_exprs wrong names P dp (more_exprs e es) f vs j = and_then (strict_expr wrong names P dp e f) (λ v g. strict_exprs wrong names P dp es g (v ∷ vs) j)

abbrev mutual
  pub strict_stmt : {N M : Type 0} → Wrong N M → Naming N M → PlainProgram → Option (Deeper N M) → TypedStmt → Frame N M → Prog N M
  strict_stmt wrong names P dp (statement at (stmt.declare x t is_final e)) f = and_then (strict_expr wrong names P dp e f) (λ v g. gives none (with_value g x v))
  strict_stmt wrong names P dp (statement at (stmt.store x e)) f = and_then (strict_expr wrong names P dp e f) (λ v g. gives none (with_value g x v))
  strict_stmt wrong names P dp (statement at (stmt.store_field o c k e)) f =
      and_then (strict_expr wrong names P dp o f) (λ v g. and_then (strict_expr wrong names P dp e g) (λ u h.
      strict_use wrong is_written at v (λ n. write_cell at n (pos k) u h)))
  strict_stmt wrong names P dp (statement at (stmt.store_element a i e)) f =
      and_then (strict_expr wrong names P dp a f) (λ v g. and_then (strict_expr wrong names P dp i g) (λ j h. and_then (strict_expr wrong names P dp e h) (λ u l.
      strict_use_at wrong is_written at v j (λ n i. write_cell at n i u l))))
  strict_stmt wrong names P dp (statement at (stmt.store_part k i e)) f =
      and_then (strict_expr wrong names P dp i f) (λ j g. and_then (strict_expr wrong names P dp e g) (λ u h.
      strict_part wrong is_written at k j h (λ n l. write_cell at n l u h)))
  strict_stmt wrong names P dp (statement at (stmt.perform e)) f = and_then (strict_expr wrong names P dp e f) (λ v g. gives none g)
  strict_stmt wrong names P dp (statement at (stmt.block ss)) f = strict_stmts wrong names P dp ss f
  strict_stmt wrong names P dp (statement at (stmt.choice e s)) f =
      and_then (strict_expr wrong names P dp e f) (λ v g. needs wrong (is_boolean v) (elim (truth v) [ false ↦ gives none g | true ↦ strict_stmt wrong names P dp s g ]))
  strict_stmt wrong names P dp (statement at (stmt.choice_else e s t)) f =
      and_then (strict_expr wrong names P dp e f) (λ v g. needs wrong (is_boolean v)
      (elim (truth v) [ false ↦ strict_stmt wrong names P dp t g | true ↦ strict_stmt wrong names P dp s g ]))
  strict_stmt wrong names P dp (statement at (stmt.while_loop e s)) f =
      Again (λ g. and_then (strict_expr wrong names P dp e g) (λ v h. needs wrong (is_boolean v) (gives v h))) (λ g. strict_stmt wrong names P dp s g) f (λ r. Ret r)
  strict_stmt wrong names P dp (statement at (stmt.return_value e)) f = and_then (strict_expr wrong names P dp e f) (λ v g. Ret (Returns v))
  strict_stmt wrong names P dp (statement at (stmt.print_int e)) f =
      and_then (strict_expr wrong names P dp e f) (λ v g. needs wrong (is_int v) (prints (text_of v) g))
  strict_stmt wrong names P dp (statement at (stmt.print_boolean e)) f =
      and_then (strict_expr wrong names P dp e f) (λ v g. needs wrong (is_boolean v) (prints (text_of v) g))
  strict_stmt wrong names P dp (statement at (stmt.atomic effects ss)) f =
      Act Rest (λ a. Act (Enter (map (concrete_effect names (around f)) effects))
      (λ b. and_then (strict_stmts wrong names P dp ss f) (λ v g. Act Exit (λ c. gives none g))))
  strict_stmt wrong names P dp (statement at (stmt.foreach forking x start count s)) f =
      and_then (strict_expr wrong names P dp start f) (λ v g. and_then (strict_expr wrong names P dp count g) (λ u h. needs wrong (is_int v && is_int u)
      (forks dp at forking None x s (number v) (number u) h)))
  strict_stmt wrong names P dp (statement at (stmt.foreach_parts k (of_array a) count s)) f =
      and_then (strict_expr wrong names P dp a f) (λ v g. and_then (strict_expr wrong names P dp count (part_begun k v g)) (λ u h.
      needs wrong (is_reference v && is_int u) (answered wrong is_length (parts_of_array dp at k s (with_value h (k + 3) u)))))
  strict_stmt wrong names P dp (statement at (stmt.foreach_parts k (of_part j) count s)) f =
      and_then (strict_expr wrong names P dp count (part_taken_over k j f)) (λ u g. (let h = with_value g (k + 3) u in
      needs wrong (is_int u && is_part j h.values) (parts dp at k s (with_value h (k + 2) (slot_value h.values (j + 2))))))
  -- nothing else uses a value or an answer
  strict_stmt wrong names P dp (statement at stmt.return_nothing) f = of_stmt names P dp (statement at stmt.return_nothing) f
  strict_stmt wrong names P dp (statement at (stmt.print_text text)) f = of_stmt names P dp (statement at (stmt.print_text text)) f
  strict_stmt wrong names P dp (statement at (stmt.local_regions rs)) f = of_stmt names P dp (statement at (stmt.local_regions rs)) f
  strict_stmt wrong names P dp (statement at (stmt.cobegin forking bs)) f = of_stmt names P dp (statement at (stmt.cobegin forking bs)) f

  pub strict_stmts : {N M : Type 0} → Wrong N M → Naming N M → PlainProgram → Option (Deeper N M) → TypedStmts → Frame N M → Prog N M
  strict_stmts wrong names P dp no_stmts f = gives none f
  strict_stmts wrong names P dp (more_stmts s ss) f = and_then (strict_stmt wrong names P dp s f) (λ v g. strict_stmts wrong names P dp ss g)

unfoldable pub strict_meaning : {N M : Type 0} → Wrong N M → Naming N M → PlainProgram → ℕ → TypedStmts → Frame N M → Prog N M
strict_meaning wrong names P zero ss f = strict_stmts wrong names P None ss f
strict_meaning wrong names P (suc d) ss f = strict_stmts wrong names P (Some (strict_meaning wrong names P d)) ss f

abbrev pub strict_does : {N M : Type 0} → Wrong N M → Naming N M → PlainProgram → Task N M → Prog N M
strict_does wrong names P t = strict_meaning wrong names P t.frame.left t.work.stmts (begun t.work.takes t.frame)

-- what a task does next after these answers, of which the latest stands first
unfoldable pub strict_ask : {N M : Type 0} → Wrong N M → Naming N M → PlainProgram → Task N M → List (Answer N M) → Reply N M (Task N M)
strict_ask wrong names P t got =
    replied t.work (run (reported names) (strict_does wrong names P t) (record { since = 0; made = 0; to_come = reverse got }))
