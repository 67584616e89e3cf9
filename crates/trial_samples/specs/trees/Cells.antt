-- A small tree, and typed programs that have its form: one of them is what it means.
--
-- class Cell<region P> {
--   region A;
--   int x in P;
--   int y in P:A;
--   int get(int n) reads P:* { return this.x; }
-- }
-- class Sub<region Q> extends Cell<Q> {
--   int z in Q:A;
--   int get(int n) reads Q:* { return this.z; }
-- }
-- class Main {
--   region B;
--   int main(int n) {
--     region R;
--     Cell<B> c = new Sub<B>();
--     { int k = 1; print(k); }
--     { int k = 2; print(k); }
--     int[]<R:[i]>#i a = new int[n]<R:[i]>#i;
--     cobegin { c.x = 1; c.y = 2; }
--     foreach (int j in 0, n) { a[j] = j; }
--     atomic { c.x = 3; }
--     return c.get(n);
--   }
-- }
use Rattle.std.specs.Prelude.{ℕ, pos, true, false, List, [], ◌∷◌, codes, Some, None}
use Rattle.lang_base.specs.declared.effect.Access.TheVariants.{Read, Write}
use Rattle.lang_base.specs.declared.effect.Effect.{Effect}
use Rattle.lang_base.specs.declared.elems.Elem.{Elem}
use Rattle.lang_base.specs.declared.elems.Elem.TheVariants.{Name, At, Star, Local}
use Rattle.lang_base.specs.declared.elems.Index.TheVariants.{Own}
use Rattle.lang_base.specs.declared.place.Place.{Place}
use Rattle.lang_base.specs.declared.region.Head.TheVariants.{Root, Param}
use Rattle.lang_base.specs.declared.region.Rpl.{Rpl}
use Rattle.lang_base.specs.Types.{PlainType, array}
use Rattle.lang_base.specs.Types.{PlainType as ty}
use Rattle.syntax_tree.specs.declared.class.Class.{Class}
use Rattle.syntax_tree.specs.declared.class.Field.{Field}
use Rattle.syntax_tree.specs.declared.class.Member.TheVariants as member
use Rattle.syntax_tree.specs.declared.class.Method.{Method}
use Rattle.syntax_tree.specs.declared.class.MethodResult.TheVariants as outcome
use Rattle.syntax_tree.specs.declared.class.Program.{Program}
use Rattle.syntax_tree.specs.declared.class.SummaryTree.{SummaryTree}
use Rattle.syntax_tree.specs.declared.expr.Expr.{Expr}
use Rattle.syntax_tree.specs.declared.expr.ExprKind.{ExprKind}
use Rattle.syntax_tree.specs.declared.expr.ExprKind.TheVariants as expr
use Rattle.syntax_tree.specs.declared.region.BaseTree.{BaseTree}
use Rattle.syntax_tree.specs.declared.region.BaseTree.TheVariants as base
use Rattle.syntax_tree.specs.declared.region.ElemTree.{ElemTree}
use Rattle.syntax_tree.specs.declared.region.ElemTree.TheVariants as elem
use Rattle.syntax_tree.specs.declared.region.Named.{Named}
use Rattle.syntax_tree.specs.declared.region.Params.{Params}
use Rattle.syntax_tree.specs.declared.region.RName.{RName}
use Rattle.syntax_tree.specs.declared.region.RplHead.TheVariants as head
use Rattle.syntax_tree.specs.declared.region.RplTree.{RplTree}
use Rattle.syntax_tree.specs.declared.region.TypeTree.{TypeTree}
use Rattle.syntax_tree.specs.declared.stmt.Stmt.{Stmt}
use Rattle.syntax_tree.specs.declared.stmt.StmtKind.{StmtKind}
use Rattle.syntax_tree.specs.declared.stmt.StmtKind.TheVariants as stmt
use Rattle.lang_typed.specs.declared.stmt.Forking.TheVariants.{Deterministic}
use Rattle.lang_typed.specs.Plain.{PlainProgram, PlainClass, PlainField, PlainMember, TypedExpr, typed, TypedStmt, statement, TypedStmts, no_stmts, more_stmts, no_exprs, more_exprs, no_branches, more_branches}
use Rattle.lang_typed.specs.Plain as made

-- no place matters here
abbrev pub here : Place
here = record { line = 1; col = 1 }

-- the tree: names by their positions
abbrev pub names : List (List ℕ)
names =
    codes "Cell" ∷ codes "P" ∷ codes "A" ∷ codes "x" ∷ codes "y" ∷ codes "get" ∷ codes "n" ∷ codes "Sub" ∷ codes "Q" ∷ codes "z"
    ∷ codes "Main" ∷ codes "B" ∷ codes "main" ∷ codes "R" ∷ codes "c" ∷ codes "k" ∷ codes "a" ∷ codes "i" ∷ codes "j" ∷ []

abbrev pub name_at : ℕ → Named
name_at name = record { name = name; place = here }

abbrev pub region_at : ℕ → RName
region_at name = record { first = name_at name; second = None }

abbrev pub path : ℕ → List ElemTree → RplTree
path name elems = record { place = here; head = head.Name (region_at name); elems = elems }

abbrev pub no_params : Params
no_params = record { list = []; given = [] }

abbrev pub one_param : ℕ → Params
one_param name = record { list = record { place = here; name = name; atomic = false } ∷ []; given = [] }

abbrev pub plain_kind : BaseTree → TypeTree
plain_kind b = record { place = here; base = b; suffixes = [] }

abbrev pub does : StmtKind → Stmt
does k = record { place = here; kind = k }

abbrev pub value : ExprKind → Expr
value k = record { place = here; kind = k }

abbrev pub int_field : ℕ → RplTree → Field
int_field name region = record { place = here; name = name; ty = plain_kind base.Int; region = Some region }

-- int name(int n) reads ..
abbrev pub int_method : ℕ → SummaryTree → List Stmt → Method
int_method name summary body = record {
  place = here;
  name = name;
  params = no_params;
  result = outcome.Value (plain_kind base.Int);
  formals = record { place = here; name = 6; ty = plain_kind base.Int } ∷ [];
  summary = Some summary;
  body = body;
}

abbrev pub reads_below : ℕ → SummaryTree
reads_below name = record { reads = record { atomic = false; rpl = path name (elem.Star ∷ []) } ∷ []; writes = [] }

abbrev pub gives_field : ℕ → List Stmt
gives_field name = does (stmt.Return (Some (value (expr.Field (value expr.This) name)))) ∷ []

abbrev pub cell_tree : Class
cell_tree = record {
  place = here;
  name = 0;
  params = one_param 1;
  parent = None;
  members = member.Regions false (name_at 2 ∷ []) ∷ member.Field (int_field 3 (path 1 [])) ∷ member.Field (int_field 4 (path 1 (elem.Name (region_at 2) ∷ [])))
      ∷ member.Method (int_method 5 (reads_below 1) (gives_field 3)) ∷ [];
}

abbrev pub sub_tree : Class
sub_tree = record {
  place = here;
  name = 7;
  params = one_param 8;
  parent = Some (record { name = name_at 0; args = path 8 [] ∷ [] });
  members = member.Field (int_field 9 (path 8 (elem.Name (region_at 2) ∷ []))) ∷ member.Method (int_method 5 (reads_below 8) (gives_field 9)) ∷ [];
}

abbrev pub prints_number : ℕ → Stmt
prints_number n = does (stmt.Block (does (stmt.Declare false (plain_kind base.Int) 15 (value (expr.Int (pos n)))) ∷ does (stmt.Print (value (expr.Local 15))) ∷ []))

abbrev pub by_index : RplTree
by_index = path 13 (elem.Index (name_at 17) ∷ [])

abbrev pub array_kind : TypeTree
array_kind = record { place = here; base = base.Int; suffixes = record { rpl = Some by_index; index = Some (name_at 17) } ∷ [] }

abbrev pub array_made : Expr
array_made = value (expr.NewArray base.Int [] (value (expr.Local 6)) (Some by_index) (Some (name_at 17)))

abbrev pub sets_field : ℕ → ℕ → Stmt
sets_field name n = does (stmt.AssignField (value (expr.Field (value (expr.Local 14)) name)) (value (expr.Int (pos n))))

abbrev pub sets_element : Stmt
sets_element = does (stmt.AssignElement (value (expr.Element (value (expr.Local 16)) (value (expr.Local 18)))) (value (expr.Local 18)))

abbrev pub main_body : List Stmt
main_body =
    does (stmt.Region (name_at 13 ∷ []))
    ∷ does (stmt.Declare false (plain_kind (base.Class (name_at 0) (path 11 [] ∷ []))) 14 (value (expr.New (name_at 7) (path 11 [] ∷ []) [])))
    ∷ prints_number 1
    ∷ prints_number 2
    ∷ does (stmt.Declare false array_kind 16 array_made)
    ∷ does (stmt.Cobegin false (sets_field 3 1 ∷ sets_field 4 2 ∷ []))
    ∷ does (stmt.Foreach false (name_at 18) (value (expr.Int (pos 0))) (value (expr.Local 6)) (does (stmt.Block (sets_element ∷ []))))
    ∷ does (stmt.Atomic (sets_field 3 3 ∷ []))
    ∷ does (stmt.Return (Some (value (expr.Call (value (expr.Local 14)) [] 5 (value (expr.Local 6) ∷ [])))))
    ∷ []

abbrev pub main_method : Method
main_method = record {
  place = here;
  name = 12;
  params = no_params;
  result = outcome.Value (plain_kind base.Int);
  formals = record { place = here; name = 6; ty = plain_kind base.Int } ∷ [];
  summary = None;
  body = main_body;
}

abbrev pub main_tree : Class
main_tree = record {
  place = here;
  name = 10;
  params = no_params;
  parent = None;
  members = member.Regions false (name_at 11 ∷ []) ∷ member.Method main_method ∷ [];
}

abbrev pub tree : Program
tree = record { classes = cell_tree ∷ sub_tree ∷ main_tree ∷ []; names = names }

-- the typed programs: what is picked in one
pub record Picks : Type 0 where
  -- the region of the field y, and what Sub gives for the parameter of Cell
  pub region : Rpl
  pub parent : Rpl
  -- the member in the row of Sub, and the region of its summary
  pub row : ℕ
  pub summary : Rpl
  -- the region arguments of `new Sub`
  pub args : List Rpl
  -- the slots of the locals of the two blocks, the local that the second one prints, the local region of the array that is made, the slot of `c.y`, the local in `a[j]`, and
  -- the actual of the call
  pub first : ℕ
  pub second : ℕ
  pub printed : ℕ
  pub local_region : ℕ
  pub slot : ℕ
  pub index : ℕ
  pub actual : ℕ
  -- where a run begins
  pub main : ℕ

abbrev pub below_param : List Elem → Rpl
below_param elems = record { head = Param 0; elems = elems }

abbrev pub in_b : Rpl
in_b = record { head = Root; elems = Name 1 ∷ [] }

abbrev pub right : Picks
right = record {
  region = below_param (Name 0 ∷ []);
  parent = below_param [];
  row = 1;
  summary = below_param (Star ∷ []);
  args = in_b ∷ [];
  first = 3;
  second = 4;
  printed = 4;
  local_region = 0;
  slot = 1;
  index = 6;
  actual = 1;
  main = 2;
}

abbrev pub makes : made.StmtForm → TypedStmt
makes form = statement here form

abbrev pub an_int : made.ExprForm → TypedExpr
an_int form = typed here ty.int form

abbrev pub number : ℕ → TypedExpr
number n = an_int (made.int (pos n))

abbrev pub int_local : ℕ → TypedExpr
int_local x = an_int (made.local x)

abbrev pub int_in : Rpl → PlainField
int_in region = record { ty = ty.int; region = region }

abbrev pub cell_made : Picks → PlainClass
cell_made q = record {
  params = false ∷ [];
  given = [];
  parent = None;
  fields = int_in (below_param []) ∷ int_in q.region ∷ [];
  rows = 0 ∷ [];
  constructor = None;
}

abbrev pub sub_made : Picks → PlainClass
sub_made q = record {
  params = false ∷ [];
  given = [];
  parent = Some (record { class = 0; args = q.parent ∷ [] });
  fields = int_in (below_param []) ∷ int_in (below_param (Name 0 ∷ [])) ∷ int_in (below_param (Name 0 ∷ [])) ∷ [];
  rows = q.row ∷ [];
  constructor = None;
}

abbrev pub main_made : PlainClass
main_made = record { params = []; given = []; parent = None; fields = []; rows = 2 ∷ []; constructor = None }

abbrev pub getter : ℕ → ℕ → Rpl → PlainMember
getter c slot region = record {
  class = c;
  params = [];
  given = [];
  formals = ty.int ∷ [];
  result = ty.int;
  summary = record { access = Read; atomic = false; rpl = region } ∷ [];
  slots = 2;
  local_regions = 0;
  body = more_stmts (makes (made.return_value (an_int (made.field (typed here (ty.class c (below_param [] ∷ [])) (made.local 0)) c slot)))) no_stmts;
}

abbrev pub prints : ℕ → ℕ → ℕ → TypedStmt
prints x n printed = makes (made.block (more_stmts (makes (made.declare x ty.int false (number n))) (more_stmts (makes (made.print_int (int_local printed))) no_stmts)))

abbrev pub arrays_in : ℕ → PlainType
arrays_in r = array ty.int (record { head = Root; elems = Local r 0 ∷ At (Own 0) ∷ [] }) true

abbrev pub the_cell : TypedExpr
the_cell = typed here (ty.class 0 (in_b ∷ [])) (made.local 2)

abbrev pub stores : ℕ → ℕ → TypedStmt
stores slot n = makes (made.store_field the_cell 0 slot (number n))

abbrev pub main_does : Picks → TypedStmts
main_does q =
    more_stmts (makes (made.local_regions (0 ∷ [])))
    (more_stmts (makes (made.declare 2 (ty.class 0 (in_b ∷ [])) false (typed here (ty.class 1 q.args) (made.create no_exprs))))
    (more_stmts (prints q.first 1 q.first)
    (more_stmts (prints q.second 2 q.printed)
    (more_stmts (makes (made.declare 5 (arrays_in 0) false (typed here (arrays_in q.local_region) (made.create_array (int_local 1)))))
    (more_stmts (makes (made.cobegin Deterministic (more_branches [] (stores 0 1) (more_branches [] (stores q.slot 2) no_branches))))
    (more_stmts (makes (made.foreach Deterministic 6 (number 0) (int_local 1)
    (makes (made.block (more_stmts (makes (made.store_element (typed here (arrays_in 0) (made.local 5)) (int_local q.index) (int_local 6))) no_stmts)))))
    (more_stmts (makes (made.atomic (record { access = Write; atomic = false; rpl = in_b } ∷ []) (more_stmts (stores 0 3) no_stmts)))
    (more_stmts (makes (made.return_value (an_int (made.call the_cell 0 0 [] (more_exprs (int_local q.actual) no_exprs))))) no_stmts))))))))

abbrev pub anything : Effect
anything = record { access = Write; atomic = false; rpl = record { head = Root; elems = Star ∷ [] } }

abbrev pub main_member : Picks → PlainMember
main_member q = record {
  class = 2;
  params = [];
  given = [];
  formals = ty.int ∷ [];
  result = ty.int;
  summary = anything ∷ [];
  slots = 7;
  local_regions = 1;
  body = main_does q;
}

abbrev pub program : Picks → PlainProgram
program q = record {
  classes = cell_made q ∷ sub_made q ∷ main_made ∷ [];
  members = getter 0 0 (below_param (Star ∷ [])) ∷ getter 1 2 q.summary ∷ main_member q ∷ [];
  region_names = false ∷ false ∷ [];
  main_class = 2;
  main_member = q.main;
  uses_nd = false;
}
