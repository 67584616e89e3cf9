-- A program with every construct of the language: a definition for each class, member and block, with its text above it. Classes, members,
-- regions and slots are numbered as the checker numbers them.
use Rattle.std.specs.Prelude.{ℕ, codes, true, false, [], ◌∷◌, Some, None}
use Rattle.lang_base.specs.declared.effect.Access.TheVariants.{Read, Write}
use Rattle.lang_base.specs.declared.effect.Constraint.{Constraint}
use Rattle.lang_base.specs.declared.effect.Effect.{Effect}
use Rattle.lang_base.specs.declared.elems.Elem.TheVariants.{Name, At, Local}
use Rattle.lang_base.specs.declared.elems.Index.TheVariants.{Own}
use Rattle.lang_base.specs.declared.region.Head.TheVariants.{Param}
use Rattle.lang_base.specs.declared.region.Rpl.{Rpl}
use Rattle.lang_base.specs.Types.{PlainType, int, boolean, void, null, class, array}
use Rattle.lang_base.specs.declared.op.BinaryOp.{BinaryOp}
use Rattle.lang_base.specs.declared.op.BinaryOp.TheVariants as op
use Rattle.lang_base.specs.declared.op.UnaryOp.TheVariants.{Negate, Not}
use Rattle.lang_typed.specs.declared.stmt.Forking.TheVariants.{Deterministic, Nondeterministic}
use Rattle.lang_typed.specs.Effects.{reads, writes}
use Rattle.lang_typed.specs.Plain.{PlainProgram, PlainClass, PlainField, PlainMember, TypedExpr, typed, exprs_of, of_array, of_part}
use Rattle.lang_typed.specs.Plain.{TypedStmt, TypedStmts, stmts_of, branches_of}
use Rattle.lang_typed.specs.Plain.{ExprForm as expr}
use Rattle.lang_typed.specs.Plain.{StmtForm as form}
use Rattle.lang_typed.specs.Samples.{here, number, int_local, does, in_a, in_b, below_root, anything}

-- a region parameter, the atomic region `C` and the local region `L`
abbrev pub param : ℕ → Rpl
param p = record { head = Param p; elems = [] }

abbrev pub in_c : Rpl
in_c = below_root (Name 2 ∷ [])

abbrev pub in_local : Rpl
in_local = below_root (Local 0 0 ∷ [])

-- the classes
abbrev pub cell : Rpl → PlainType
cell a = class 0 (a ∷ [])

abbrev pub shape : Rpl → PlainType
shape a = class 1 (a ∷ [])

abbrev pub square : Rpl → PlainType
square a = class 2 (a ∷ [])

abbrev pub main : PlainType
main = class 4 []

-- expressions by their types
abbrev pub an_int : expr → TypedExpr
an_int e = typed here int e

abbrev pub a_boolean : expr → TypedExpr
a_boolean e = typed here boolean e

abbrev pub calculated : BinaryOp → TypedExpr → TypedExpr → TypedExpr
calculated o a b = an_int (expr.binary o a b)

abbrev pub compared : BinaryOp → TypedExpr → TypedExpr → TypedExpr
compared o a b = a_boolean (expr.binary o a b)

abbrev pub local_of : PlainType → ℕ → TypedExpr
local_of t x = typed here t (expr.local x)

abbrev pub this : PlainType → TypedExpr
this t = local_of t 0

-- `class Cell<region P> { int v in P; Cell(int start) writes P { this.v = start; return; } }`
abbrev pub class_cell : PlainClass
class_cell = record {
  params = false ∷ [];
  given = [];
  parent = None;
  fields = record { ty = int; region = param 0 } ∷ [];
  rows = [];
  constructor = Some 0;
}

abbrev pub cell_constructor : PlainMember
cell_constructor = record {
  class = 0;
  params = [];
  given = [];
  formals = int ∷ [];
  result = void;
  summary = writes (param 0) ∷ [];
  slots = 2;
  local_regions = 0;
  body = stmts_of (does (form.store_field (this (cell (param 0))) 0 0 (int_local 1)) ∷ does form.return_nothing ∷ []);
}

-- `class Shape<region P> { int side in P; <region Q | P # Q> int area(Cell<Q> unit) reads P, Q { return this.side; } }`
abbrev pub side_field : PlainField
side_field = record { ty = int; region = param 0 }

abbrev pub class_shape : PlainClass
class_shape = record { params = false ∷ []; given = []; parent = None; fields = side_field ∷ []; rows = 1 ∷ []; constructor = None }

abbrev pub apart_params : Constraint
apart_params = record { left = param 0; right = param 1 }

abbrev pub area_of : ℕ → TypedExpr → PlainMember
area_of c e = record {
  class = c;
  params = false ∷ [];
  given = apart_params ∷ [];
  formals = cell (param 1) ∷ [];
  result = int;
  summary = reads (param 0) ∷ reads (param 1) ∷ [];
  slots = 2;
  local_regions = 0;
  body = stmts_of (does (form.return_value e) ∷ []);
}

abbrev pub side : ℕ → TypedExpr
side c = an_int (expr.field (this (class c (param 0 ∷ []))) c 0)

abbrev pub shape_area : PlainMember
shape_area = area_of 1 (side 1)

-- `class Square<region P> extends Shape<P> { <region Q | P # Q> int area(Cell<Q> unit) reads P, Q { return this.side * this.side * unit.v; } }`
abbrev pub class_square : PlainClass
class_square = record {
  params = false ∷ [];
  given = [];
  parent = Some (record { class = 1; args = param 0 ∷ [] });
  fields = side_field ∷ [];
  rows = 2 ∷ [];
  constructor = None;
}

abbrev pub square_area : PlainMember
square_area = area_of 2 (calculated op.Multiply (calculated op.Multiply (side 2) (side 2)) (an_int (expr.field (local_of (cell (param 1)) 1) 0 0)))

-- class Counter<atomic region P> {
--   int count in P;
--   int get() reads atomic P { int got = 0; atomic { got = this.count; } return got; }
--   void raise(int by) writes atomic P { atomic { this.count = this.get() + by; } }
-- }
abbrev pub counter_in : Rpl → PlainType
counter_in a = class 3 (a ∷ [])

abbrev pub marked_read : Rpl → Effect
marked_read a = record { access = Read; atomic = true; rpl = a }

abbrev pub marked_write : Rpl → Effect
marked_write a = record { access = Write; atomic = true; rpl = a }

abbrev pub class_counter : PlainClass
class_counter = record {
  params = true ∷ [];
  given = [];
  parent = None;
  fields = record { ty = int; region = param 0 } ∷ [];
  rows = 3 ∷ 4 ∷ [];
  constructor = None;
}

abbrev pub counter_this : TypedExpr
counter_this = this (counter_in (param 0))

abbrev pub gets : TypedStmt
gets = does (form.atomic (marked_read (param 0) ∷ []) (stmts_of (does (form.store 1 (an_int (expr.field counter_this 3 0))) ∷ [])))

abbrev pub counter_get : PlainMember
counter_get = record {
  class = 3;
  params = [];
  given = [];
  formals = [];
  result = int;
  summary = marked_read (param 0) ∷ [];
  slots = 2;
  local_regions = 0;
  body = stmts_of (does (form.declare 1 int false (number 0)) ∷ gets ∷ does (form.return_value (int_local 1)) ∷ []);
}

abbrev pub get_of : TypedExpr → TypedExpr
get_of e = an_int (expr.call e 3 0 [] (exprs_of []))

abbrev pub raises : TypedStmt
raises = does (form.atomic (marked_read (param 0) ∷ marked_write (param 0) ∷ [])
    (stmts_of (does (form.store_field counter_this 3 0 (calculated op.Add (get_of counter_this) (int_local 1))) ∷ [])))

abbrev pub counter_raise : PlainMember
counter_raise = record {
  class = 3;
  params = [];
  given = [];
  formals = int ∷ [];
  result = void;
  summary = marked_write (param 0) ∷ [];
  slots = 2;
  local_regions = 0;
  body = stmts_of (raises ∷ []);
}

-- `class Main { region A, B; atomic region C; int kept in B; int sum in C; int main(int n) { .. } }`, where the body begins with three blocks
abbrev pub class_main : PlainClass
class_main = record {
  params = [];
  given = [];
  parent = None;
  fields = record { ty = int; region = in_b } ∷ record { ty = int; region = in_c } ∷ [];
  rows = 5 ∷ [];
  constructor = None;
}

-- boolean found = false;
-- int root = 0;
-- while (!found && root <= n) { root = root + 1; found = root * root >= n; }
-- if (found || n < 0) print("root");
-- if (n / root == root && n % root != 1) print(root); else print(-root);
-- print(n > 1);
abbrev pub found : TypedExpr
found = local_of boolean 2

abbrev pub root : TypedExpr
root = int_local 3

abbrev pub n : TypedExpr
n = int_local 1

abbrev pub searches : TypedStmts
searches = stmts_of (
    does (form.store 3 (calculated op.Add root (number 1)))
    ∷ does (form.store 2 (compared op.AtLeast (calculated op.Multiply root root) n))
    ∷ [])

abbrev pub is_root : TypedExpr
is_root = a_boolean (expr.both (compared op.Equal (calculated op.Divide n root) root) (compared op.NotEqual (calculated op.Remainder n root) (number 1)))

abbrev pub flow : TypedStmts
flow = stmts_of (
    does (form.declare 2 boolean false (a_boolean (expr.boolean false)))
    ∷ does (form.declare 3 int false (number 0))
    ∷ does (form.while_loop (a_boolean (expr.both (a_boolean (expr.unary Not found)) (compared op.AtMost root n))) (does (form.block searches)))
    ∷ does (form.choice (a_boolean (expr.either found (compared op.Less n (number 0)))) (does (form.print_text (codes "root"))))
    ∷ does (form.choice_else is_root (does (form.print_int root)) (does (form.print_int (an_int (expr.unary Negate root)))))
    ∷ does (form.print_boolean (compared op.Greater n (number 1)))
    ∷ [])

-- Shape<A> room = new Square<A>();
-- room.side = 3;
-- Cell<B> unit = null;
-- unit = new Cell<B>(n);
-- new Cell<A>(0);
-- print(room.<B>area(unit));
abbrev pub new_cell : Rpl → TypedExpr → TypedExpr
new_cell a e = typed here (cell a) (expr.create (exprs_of (e ∷ [])))

abbrev pub making : TypedStmts
making = stmts_of (
    does (form.declare 4 (shape in_a) false (typed here (square in_a) (expr.create (exprs_of []))))
    ∷ does (form.store_field (local_of (shape in_a) 4) 1 0 (number 3))
    ∷ does (form.declare 5 (cell in_b) false (typed here null expr.null))
    ∷ does (form.store 5 (new_cell in_b n))
    ∷ does (form.perform (new_cell in_a (number 0)))
    ∷ does (form.print_int (an_int (expr.call (local_of (shape in_a) 4) 1 0 (in_b ∷ []) (exprs_of (local_of (cell in_b) 5 ∷ [])))))
    ∷ [])

-- int[]<A:[j]>#j numbers = new int[n]<A:[j]>#j;
-- foreach (int i in 0, numbers.length) numbers[i] = i;
-- final int last = n - 1;
-- int got = 0;
-- cobegin { got = numbers[last]; this.kept = last; }
-- region L;
-- int[]<L> shares = new int[n]<L>;
-- foreach_parts (p, int i in shares, n) {
--   p[0] = i;
--   foreach_parts (q, int j in p, 1) q[0] = q[0] + q.length;
-- }
-- print(shares[got]);
abbrev pub by_index : PlainType
by_index = array int (below_root (Name 0 ∷ At (Own 0) ∷ [])) true

abbrev pub numbers : TypedExpr
numbers = local_of by_index 6

abbrev pub last : TypedExpr
last = int_local 8

abbrev pub got : TypedExpr
got = int_local 9

abbrev pub fills : TypedStmt
fills = does (form.foreach Deterministic 7 (number 0) (an_int (expr.array_length numbers)) (does (form.store_element numbers (int_local 7) (int_local 7))))

abbrev pub keeps_last : TypedStmt
keeps_last = does (form.store 9 (an_int (expr.element numbers last)))

abbrev pub keeps_it : TypedStmt
keeps_it = does (form.store_field (this main) 4 0 last)

abbrev pub two_branches : TypedStmt
two_branches = does (form.cobegin Deterministic (branches_of (record { copies = 9 ∷ []; body = keeps_last } ∷ record { copies = []; body = keeps_it } ∷ [])))

abbrev pub local_array : PlainType
local_array = array int in_local false

abbrev pub shares : TypedExpr
shares = local_of local_array 10

abbrev pub adds_lengths : TypedStmt
adds_lengths = does (form.foreach_parts 16 (of_part 11) (number 1)
    (does (form.store_part 16 (number 0) (calculated op.Add (an_int (expr.part_element 16 (number 0))) (an_int (expr.part_length 16))))))

abbrev pub fills_parts : TypedStmt
fills_parts = does (form.foreach_parts 11 (of_array shares) n
    (does (form.block (stmts_of (does (form.store_part 11 (number 0) (int_local 15)) ∷ adds_lengths ∷ [])))))

abbrev pub filling : TypedStmts
filling = stmts_of (
    does (form.declare 6 by_index false (typed here by_index (expr.create_array n)))
    ∷ fills
    ∷ does (form.declare 8 int true (calculated op.Subtract n (number 1)))
    ∷ does (form.declare 9 int false (number 0))
    ∷ two_branches
    ∷ does (form.local_regions (0 ∷ []))
    ∷ does (form.declare 10 local_array false (typed here local_array (expr.create_array n)))
    ∷ fills_parts
    ∷ does (form.print_int (an_int (expr.element shares got)))
    ∷ [])

-- Counter<C> counter = new Counter<C>();
-- cobegin_nd { counter.raise(1); counter.raise(2); }
-- foreach_nd (int i in 0, n) atomic { this.sum = this.sum + i; }
-- return this.sum + counter.get();
abbrev pub counter : TypedExpr
counter = local_of (counter_in in_c) 21

abbrev pub raise_by : ℕ → TypedStmt
raise_by k = does (form.perform (typed here void (expr.call counter 3 1 [] (exprs_of (number k ∷ [])))))

abbrev pub raises_twice : TypedStmt
raises_twice = does (form.cobegin Nondeterministic (branches_of (record { copies = []; body = raise_by 1 } ∷ record { copies = []; body = raise_by 2 } ∷ [])))

abbrev pub sum : TypedExpr
sum = an_int (expr.field (this main) 4 1)

abbrev pub adds_index : TypedStmt
adds_index = does (form.atomic (marked_read in_c ∷ marked_write in_c ∷ []) (stmts_of (does (form.store_field (this main) 4 1 (calculated op.Add sum (int_local 22))) ∷ [])))

abbrev pub adds_all : TypedStmt
adds_all = does (form.foreach Nondeterministic 22 (number 0) n adds_index)

-- the whole body: { .. } { .. } { .. } and this
abbrev pub main_body : TypedStmts
main_body = stmts_of (
    does (form.block flow)
    ∷ does (form.block making)
    ∷ does (form.block filling)
    ∷ does (form.declare 21 (counter_in in_c) false (typed here (counter_in in_c) (expr.create (exprs_of []))))
    ∷ raises_twice
    ∷ adds_all
    ∷ does (form.return_value (calculated op.Add sum (get_of counter)))
    ∷ [])

abbrev pub main_method : PlainMember
main_method = record {
  class = 4;
  params = [];
  given = [];
  formals = int ∷ [];
  result = int;
  summary = anything ∷ [];
  slots = 23;
  local_regions = 1;
  body = main_body;
}

abbrev pub sample : PlainProgram
sample = record {
  classes = class_cell ∷ class_shape ∷ class_square ∷ class_counter ∷ class_main ∷ [];
  members = cell_constructor ∷ shape_area ∷ square_area ∷ counter_get ∷ counter_raise ∷ main_method ∷ [];
  region_names = false ∷ false ∷ true ∷ [];
  main_class = 4;
  main_member = 5;
  uses_nd = true;
}
