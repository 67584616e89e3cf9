-- Small programs of one method, and how a run of one begins. Objects and local regions are named by numbers here.
use Rattle.std.specs.Prelude.{ℕ, pos, true, false, List, [], ◌∷◌, None}
use Rattle.std.specs.Prelude.{◌==◌}
use Rattle.lang_base.specs.Types.{int, boolean}
use Rattle.lang_base.specs.declared.op.BinaryOp.TheVariants as op
use Rattle.lang_typed.specs.declared.stmt.Forking.TheVariants.{Deterministic}
use Rattle.lang_typed.specs.Plain.{PlainProgram, TypedExpr, typed, TypedStmts, no_stmts, more_stmts, no_branches, more_branches}
use Rattle.lang_typed.specs.Plain.{ExprForm as expr}
use Rattle.lang_typed.specs.Plain.{StmtForm as form}
use Rattle.lang_typed.specs.Samples.{here, number, int_local, does, then_zero, program_of, by_index, fills_one}
use Rattle.lang_meaning.specs.Values.{Int, Object, Naming}
use Rattle.lang_meaning.specs.Actions.{Task, Answer, Reply}
use Rattle.lang_meaning.specs.Asking.{ask}
use Rattle.lang_meaning.specs.Counts.{padded}

abbrev pub by_number : Naming ℕ ℕ
by_number = record { same = λ n m. n == m; made = λ c. c; unmade = λ r. r }

-- the root of a program: `main` on the first object and an argument, at the first depth
abbrev pub root : ℕ → TypedStmts → ℕ → Task ℕ ℕ
root slots body argument = record {
  work = record { is_root = true; takes = None; copies = []; stmts = body };
  frame = record { values = padded slots (Object 0 ∷ Int (pos argument) ∷ []); regions = []; locals = []; left = 499 };
}

-- what the root of a program with this body does next after these answers
abbrev pub asks : ℕ → TypedStmts → List (Answer ℕ ℕ) → Reply ℕ ℕ (Task ℕ ℕ)
asks slots body got = ask by_number (program_of [] [] slots body) (root slots body 0) got

-- `print(1 + 2); return 7;`
abbrev pub prints_sum : TypedStmts
prints_sum =
    more_stmts (does (form.print_int (typed here int (expr.binary op.Add (number 1) (number 2)))))
    (more_stmts (does (form.return_value (number 7))) no_stmts)

-- `int k = 0; while (k < 5000) { k = k + 1; } return k;`
abbrev pub counts : TypedStmts
counts =
    more_stmts (does (form.declare 2 int false (number 0)))
    (more_stmts (does (form.while_loop (typed here boolean (expr.binary op.Less (int_local 2) (number 5000)))
    (does (form.store 2 (typed here int (expr.binary op.Add (int_local 2) (number 1)))))))
    (more_stmts (does (form.return_value (int_local 2))) no_stmts))

-- `cobegin { print(1); print(2); } return 0;`
abbrev pub one_and_two : TypedStmts
one_and_two =
    more_stmts (does (form.cobegin Deterministic
    (more_branches [] (does (form.print_int (number 1))) (more_branches [] (does (form.print_int (number 2))) no_branches))))
    (more_stmts (does (form.return_value (number 0))) no_stmts)

-- `cobegin { print(1 / n); print(2); } return 0;`
abbrev pub divides : PlainProgram
divides = program_of [] [] 2
    (more_stmts (does (form.cobegin Deterministic
    (more_branches [] (does (form.print_int (typed here int (expr.binary op.Divide (number 1) (int_local 1)))))
    (more_branches [] (does (form.print_int (number 2))) no_branches))))
    then_zero)

-- `foreach (int i in 5, n) { print(i); } return 9;`
abbrev pub prints_from_five : PlainProgram
prints_from_five = program_of [] [] 3
    (more_stmts (does (form.foreach Deterministic 2 (number 5) (int_local 1) (does (form.print_int (int_local 2)))))
    (more_stmts (does (form.return_value (number 9))) no_stmts))

-- an element of the array in slot 2
abbrev pub element_at : TypedExpr → TypedExpr
element_at i = typed here int (expr.element (typed here by_index (expr.local 2)) i)

-- `int[]<A:[i]>#i a = new int[n]<A:[i]>#i; foreach (int i in 0, n) { a[i] = i; } return a[2];`
abbrev pub fills_and_reads : PlainProgram
fills_and_reads = program_of [] [] 4
    (more_stmts (does (form.declare 2 by_index false (typed here by_index (expr.create_array (int_local 1)))))
    (more_stmts (does (form.foreach Deterministic 3 (number 0) (int_local 1) (fills_one 3 3)))
    (more_stmts (does (form.return_value (element_at (number 2)))) no_stmts)))

-- `int[]<A:[i]>#i a = new int[3]<A:[i]>#i; cobegin { { int k = 0; while (k < 1000) { k = k + 1; } print(a[k]); }
-- print(1 / (n - n)); } return 0;`
abbrev pub traps_twice : PlainProgram
traps_twice = program_of [] [] 4
    (more_stmts (does (form.declare 2 by_index false (typed here by_index (expr.create_array (number 3)))))
    (more_stmts (does (form.cobegin Deterministic
    (more_branches [] (does (form.block
    (more_stmts (does (form.declare 3 int false (number 0)))
    (more_stmts (does (form.while_loop (typed here boolean (expr.binary op.Less (int_local 3) (number 1000)))
    (does (form.store 3 (typed here int (expr.binary op.Add (int_local 3) (number 1)))))))
    (more_stmts (does (form.print_int (element_at (int_local 3)))) no_stmts)))))
    (more_branches [] (does (form.print_int
    (typed here int (expr.binary op.Divide (number 1) (typed here int (expr.binary op.Subtract (int_local 1) (int_local 1))))))) no_branches))))
    then_zero))

-- `while (true) { } return 0;`
abbrev pub endless : PlainProgram
endless = program_of [] [] 2
    (more_stmts (does (form.while_loop (typed here boolean (expr.boolean true)) (does (form.block no_stmts)))) then_zero)
