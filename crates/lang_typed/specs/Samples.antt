-- Small programs of one method: each refused one with its mended form beside it.
use Rattle.std.specs.Prelude.{ℕ, pos, true, false, List, [], ◌∷◌, None}
use Rattle.lang_base.specs.declared.effect.Access.TheVariants.{Write}
use Rattle.lang_base.specs.declared.effect.Effect.{Effect}
use Rattle.lang_base.specs.declared.elems.Elem.{Elem}
use Rattle.lang_base.specs.declared.elems.Elem.TheVariants.{Name, At, Star}
use Rattle.lang_base.specs.declared.elems.Index.TheVariants.{Own}
use Rattle.lang_base.specs.declared.place.Place.{Place}
use Rattle.lang_base.specs.declared.region.Head.TheVariants.{Root, Param}
use Rattle.lang_base.specs.declared.region.Rpl.{Rpl}
use Rattle.lang_base.specs.Types.{PlainType, int, null, class, array}
use Rattle.lang_typed.specs.declared.stmt.Forking.TheVariants.{Deterministic}
use Rattle.lang_typed.specs.Plain.{PlainProgram, PlainClass, PlainField, PlainMember, TypedExpr, typed, no_exprs, StmtForm, TypedStmt, statement, TypedStmts, no_stmts, more_stmts, no_branches, more_branches}
use Rattle.lang_typed.specs.Plain.{ExprForm as expr}
use Rattle.lang_typed.specs.Plain.{StmtForm as form}

-- no place matters here
abbrev pub here : Place
here = record { line = 1; col = 1 }

abbrev pub below_root : List Elem → Rpl
below_root elems = record { head = Root; elems = elems }

-- the regions `A` and `B`
abbrev pub in_a : Rpl
in_a = below_root (Name 0 ∷ [])

abbrev pub in_b : Rpl
in_b = below_root (Name 1 ∷ [])

abbrev pub number : ℕ → TypedExpr
number k = typed here int (expr.int (pos k))

abbrev pub this : TypedExpr
this = typed here (class 0 []) (expr.local 0)

abbrev pub int_local : ℕ → TypedExpr
int_local x = typed here int (expr.local x)

abbrev pub does : StmtForm → TypedStmt
does f = statement here f

-- what `main` does, and then it gives 0
abbrev pub then_zero : TypedStmts
then_zero = more_stmts (does (form.return_value (number 0))) no_stmts

-- `Main` with these fields, and another class or none; `int main(int n) writes Root:*`
abbrev pub main_class : List PlainField → PlainClass
main_class fields = record { params = []; given = []; parent = None; fields = fields; rows = 0 ∷ []; constructor = None }

abbrev pub anything : Effect
anything = record { access = Write; atomic = false; rpl = below_root (Star ∷ []) }

abbrev pub main_member : ℕ → TypedStmts → PlainMember
main_member slots body = record {
  class = 0;
  params = [];
  given = [];
  formals = int ∷ [];
  result = int;
  summary = anything ∷ [];
  slots = slots;
  local_regions = 0;
  body = body;
}

abbrev pub program_of : List PlainField → List PlainClass → ℕ → TypedStmts → PlainProgram
program_of fields classes slots body = record {
  classes = main_class fields ∷ classes;
  members = main_member slots body ∷ [];
  region_names = false ∷ false ∷ [];
  main_class = 0;
  main_member = 0;
  uses_nd = false;
}

-- `int x in A; int y in B;` and `cobegin { this.x = 1; this.y = 2; }`; or the second branch writes `this.x` too
abbrev pub two_fields : List PlainField
two_fields = record { ty = int; region = in_a } ∷ record { ty = int; region = in_b } ∷ []

abbrev pub writes_field : ℕ → ℕ → TypedStmt
writes_field k v = does (form.store_field this 0 k (number v))

abbrev pub two_branches : ℕ → TypedStmts
two_branches second =
    more_stmts (does (form.cobegin Deterministic (more_branches [] (writes_field 0 1) (more_branches [] (writes_field second 2) no_branches)))) then_zero

abbrev pub two_writes : ℕ → PlainProgram
two_writes second = program_of two_fields [] 2 (two_branches second)

-- `int[]<A:[i]>#i a = new int[n]<A:[i]>#i; final int k = 0; foreach (int i in 0, n) { a[j] = i; }`, where a has slot 2, k
-- slot 3 and i the slot that is given; j is the local of the other slot
abbrev pub by_index : PlainType
by_index = array int (below_root (Name 0 ∷ At (Own 0) ∷ [])) true

abbrev pub fills_one : ℕ → ℕ → TypedStmt
fills_one loop index = does (form.store_element (typed here by_index (expr.local 2)) (int_local index) (int_local loop))

abbrev pub fills : ℕ → ℕ → TypedStmt
fills loop index = does (form.foreach Deterministic loop (number 0) (int_local 1) (fills_one loop index))

abbrev pub fills_array : ℕ → ℕ → TypedStmts
fills_array loop index =
    more_stmts (does (form.declare 2 by_index false (typed here by_index (expr.create_array (int_local 1)))))
    (more_stmts (does (form.declare 3 int true (number 0))) (more_stmts (fills loop index) then_zero))

abbrev pub filled : ℕ → ℕ → PlainProgram
filled loop index = program_of [] [] 5 (fills_array loop index)

-- `class Cell<region P> { Cell<P> next in P; }` and `Cell<R> x = new Cell<A>(); x.next = null;`, for a path R
abbrev pub cell : PlainClass
cell = record {
  params = false ∷ [];
  given = [];
  parent = None;
  rows = [];
  constructor = None;
  fields = record { ty = class 1 (record { head = Param 0; elems = [] } ∷ []); region = record { head = Param 0; elems = [] } } ∷ [];
}

abbrev pub cell_in : Rpl → PlainType
cell_in a = class 1 (a ∷ [])

abbrev pub unlinks : Rpl → TypedStmts
unlinks a =
    more_stmts (does (form.declare 2 (cell_in a) false (typed here (cell_in in_a) (expr.create no_exprs))))
    (more_stmts (does (form.store_field (typed here (cell_in a) (expr.local 2)) 1 0 (typed here null expr.null))) then_zero)

abbrev pub linked : Rpl → PlainProgram
linked a = program_of [] (cell ∷ []) 3 (unlinks a)

abbrev pub any_below_a : Rpl
any_below_a = below_root (Name 0 ∷ Star ∷ [])
