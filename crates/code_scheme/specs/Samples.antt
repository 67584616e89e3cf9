-- The code of small programs of one method, as a person writes it.
use Rattle.std.specs.Prelude.{◌≡◌, ℕ, pos, true, false, List, [], ◌∷◌, ◌++◌, map, Some, None, codes}
use Rattle.lang_typed.specs.declared.stmt.Forking.TheVariants.{Deterministic}
use Rattle.lang_base.specs.Types.{PlainType, int, boolean, void, class, array}
use Rattle.lang_base.specs.declared.op.BinaryOp.TheVariants as op
use Rattle.lang_typed.specs.Plain.{PlainProgram, PlainMember, TypedExpr, typed, no_exprs, more_exprs, of_array, TypedStmt, TypedStmts, no_stmts, more_stmts, no_branches, more_branches}
use Rattle.lang_typed.specs.Plain.{ExprForm as expr}
use Rattle.lang_typed.specs.Plain.{StmtForm as form}
use Rattle.lang_typed.specs.Samples.{here, below_root, number, this, int_local, does, program_of}
use Rattle.lang_meaning.specs.Samples.{prints_sum, counts, one_and_two}
use Rattle.code_instrs.specs.declared.instr.Instr.{Instr}
use Rattle.code_instrs.specs.declared.instr.Instr.TheVariants.{Int, Bool, Load, Store, Pop, Binary, Jump, Unless, Turn, Put, Elem, PutElem, Length, Call, New, Array, Return, Leave, Print, Text, Fork, Spread, Join, End, Region, Enter, Exit, Part}
use Rattle.code_instrs.specs.Plain.{PlainCode, fork_site}
use Rattle.code_scheme.specs.Whole.{compiled}

-- the code of `main` with this body, and the instructions of its bodies
abbrev pub code_of : TypedStmts → PlainCode
code_of body = compiled (program_of [] [] 2 body)

abbrev pub instructions : TypedStmts → List (List Instr)
instructions body = map (λ b. map (λ l. l.instr) b.lines) (code_of body).bodies

-- class A { int v; A(int k) { this.v = k; } void f() { return; } int g(boolean b) { if (b) { return 1; } else { return 2; } } }
abbrev pub alone : TypedStmt → TypedStmts
alone s = more_stmts s no_stmts

abbrev pub nested : TypedStmt → TypedStmt
nested s = does (form.block (alone s))

abbrev pub object_of_a : TypedExpr
object_of_a = typed here (class 0 []) (expr.local 2)

abbrev pub yes : TypedExpr
yes = typed here boolean (expr.boolean true)

abbrev pub member : ℕ → PlainType → ℕ → TypedStmts → PlainMember
member c result slots body = record {
  class = c;
  params = [];
  given = [];
  formals = [];
  result = result;
  summary = [];
  slots = slots;
  local_regions = 0;
  body = body;
}

abbrev pub bodies_of_a : List PlainMember
bodies_of_a =
    member 0 void 2 (alone (does (form.store_field this 0 0 (int_local 1)))) ∷
    member 0 void 1 (alone (does form.return_nothing)) ∷
    member 0 int 2 (alone (does (form.choice_else (typed here boolean (expr.local 1)) (nested (does (form.return_value (number 1))))
    (nested (does (form.return_value (number 2))))))) ∷ []

-- A a = new A(3); a.f(); a.g(true); new A(4); int[] x = new int[2]; x[0] = x.length;
-- while (n > 0 && true || false) { n = n - 1; } foreach (int i in 0, n) { print(i); cobegin { print("x"); } } return x[0];
abbrev pub array_local : TypedExpr
array_local = typed here (array int (below_root []) false) (expr.local 3)

abbrev pub creates_a : ℕ → TypedExpr
creates_a k = typed here (class 0 []) (expr.create (more_exprs (number k) no_exprs))

abbrev pub body_of_main : TypedStmts
body_of_main =
    more_stmts (does (form.declare 2 (class 0 []) false (creates_a 3)))
    (more_stmts (does (form.perform (typed here void (expr.call object_of_a 0 0 [] no_exprs))))
    (more_stmts (does (form.perform (typed here int (expr.call object_of_a 0 1 [] (more_exprs yes no_exprs)))))
    (more_stmts (does (form.perform (creates_a 4)))
    (more_stmts (does (form.declare 3 (array int (below_root []) false) false (typed here (array int (below_root []) false) (expr.create_array (number 2)))))
    (more_stmts (does (form.store_element array_local (number 0) (typed here int (expr.array_length array_local))))
    (more_stmts (does (form.while_loop
    (typed here boolean (expr.either (typed here boolean (expr.both (typed here boolean (expr.binary op.Greater (int_local 1) (number 0))) yes))
    (typed here boolean (expr.boolean false))))
    (nested (does (form.store 1 (typed here int (expr.binary op.Subtract (int_local 1) (number 1))))))))
    (more_stmts (does (form.foreach Deterministic 4 (number 0) (int_local 1) (does (form.block
    (more_stmts (does (form.print_int (int_local 4)))
    (alone (does (form.cobegin Deterministic (more_branches [] (does (form.print_text (codes "x"))) no_branches)))))))))
    (alone (does (form.return_value (typed here int (expr.element array_local (number 0)))))))))))))

abbrev pub listed : PlainProgram
listed = record {
  classes =
      record { params = []; given = []; parent = None; fields = record { ty = int; region = below_root [] } ∷ []; rows = 1 ∷ 2 ∷ []; constructor = Some 0 } ∷
      record { params = []; given = []; parent = None; fields = []; rows = 3 ∷ []; constructor = None } ∷ [];
  members = bodies_of_a ++ member 1 int 5 body_of_main ∷ [];
  region_names = [];
  main_class = 1;
  main_member = 3;
  uses_nd = false;
}

abbrev pub listing : List (List Instr)
listing =
    (Load 0 ∷ Load 1 ∷ Put 0 ∷ Leave ∷ []) ∷
    (Leave ∷ []) ∷
    (Load 1 ∷ Unless 5 ∷ Int (pos 1) ∷ Return ∷ Jump 7 ∷ Int (pos 2) ∷ Return ∷ []) ∷
    (Int (pos 3) ∷ New 0 ∷ Store 2 ∷ Load 2 ∷ Call 1 ∷ Load 2 ∷ Bool true ∷ Call 2 ∷ Pop ∷ Int (pos 4) ∷ New 3 ∷ Pop ∷ Int (pos 2) ∷ Array 4 ∷
    Store 3 ∷ Load 3 ∷
    Int (pos 0) ∷ Load 3 ∷ Length ∷ PutElem ∷ Load 1 ∷ Int (pos 0) ∷ Binary op.Greater ∷ Unless 26 ∷ Bool true ∷ Jump 27 ∷ Bool false ∷ Unless 30 ∷ Bool true ∷ Jump 31 ∷
    Bool false ∷ Unless 38 ∷ Turn ∷ Load 1 ∷ Int (pos 1) ∷ Binary op.Subtract ∷ Store 1 ∷ Jump 20 ∷ Int (pos 0) ∷ Load 1 ∷ Spread 5 ∷ Join ∷ Load 3 ∷ Int (pos 0) ∷ Elem ∷
    Return ∷ []) ∷
    (Load 4 ∷ Print ∷ Fork 6 ∷ Join ∷ End ∷ []) ∷
    (Text 0 ∷ End ∷ []) ∷ []

-- region r; atomic { print(1); } foreach_parts (v, int k in a, n) { print(v.length); } return 0;
abbrev pub cuts_parts : TypedStmts
cuts_parts =
    more_stmts (does (form.local_regions (0 ∷ [])))
    (more_stmts (does (form.atomic [] (alone (does (form.print_int (number 1))))))
    (more_stmts (does (form.foreach_parts 3 (of_array (typed here (array int (below_root []) false) (expr.local 2))) (int_local 1)
    (does (form.print_int (typed here int (expr.part_length 3))))))
    (alone (does (form.return_value (number 0))))))

pub record SamplesStand : Type 0 where
  pub sum : instructions prints_sum ≡ (Int (pos 1) ∷ Int (pos 2) ∷ Binary op.Add ∷ Print ∷ Int (pos 7) ∷ Return ∷ []) ∷ []
  pub loop :
      instructions counts ≡
      (Int (pos 0) ∷ Store 2 ∷ Load 2 ∷ Int (pos 5000) ∷ Binary op.Less ∷ Unless 12 ∷ Turn ∷ Load 2 ∷ Int (pos 1) ∷ Binary op.Add ∷ Store 2 ∷ Jump 2 ∷ Load 2 ∷ Return ∷ []) ∷ []
  -- the branches stand after the method, each in a body of its own
  pub branches :
      instructions one_and_two ≡
      (Fork 0 ∷ Join ∷ Int (pos 0) ∷ Return ∷ []) ∷ (Int (pos 1) ∷ Print ∷ End ∷ []) ∷ (Int (pos 2) ∷ Print ∷ End ∷ []) ∷ []
  pub site : (code_of one_and_two).sites ≡ fork_site Deterministic (1 ∷ 2 ∷ []) ([] ∷ [] ∷ []) ∷ []
  -- a program with a constructor, calls, an array, a loop and branches in branches
  pub whole : map (λ b. map (λ l. l.instr) b.lines) (compiled listed).bodies ≡ listing
  -- a local region, an atomic block, and a branch for each part of an array, which takes its part first
  pub parts :
      instructions cuts_parts ≡
      (Region 0 ∷ Enter 0 ∷ Int (pos 1) ∷ Print ∷ Exit ∷ Load 2 ∷ Store 3 ∷ Int (pos 0) ∷ Store 4 ∷ Load 1 ∷ Store 6 ∷ Load 3 ∷ Length ∷ Store 5 ∷
      Int (pos 0) ∷ Load 6 ∷ Spread 1 ∷ Join ∷ Int (pos 0) ∷ Return ∷ []) ∷
      (Part 3 ∷ Load 5 ∷ Print ∷ End ∷ []) ∷ []
