-- Another small tree, with the constructs that the first hasn't, and typed programs that have its form.
--
-- class Node<region P> {
--   atomic region T;
--   int v in P;
--   int length in P;
--   Node(int n) writes P { this.v = n; }
--   <region S> boolean big(int[]<S> a, int k) reads P, S { return this.v + a[k] > a.length || !false; }
--   void wipe() writes P { this.v = 0; return; }
-- }
-- class Main {
--   region A, U;
--   int main(int n) {
--     Node<A> x = new Node<A>(n);
--     int[]<U> a = new int[4]<U>;
--     if (x.<U>big(a, 0)) x.wipe(); else print("no");
--     while (x.v != 0) { x.v = -x.v; x.length = 1; }
--     if (true) { x = null; print(x == null); }
--     foreach_nd (int i in 0, 2) { }
--     cobegin_nd { { } { } }
--     foreach_parts (w, int j in a, 2) { w[0] = w.length; foreach_parts (u, int k in w, 2) print(w[0] - j); }
--     return 0;
--   }
-- }
use Rattle.std.specs.Prelude.{ℕ, pos, Bool, true, false, List, [], ◌∷◌, codes, Option, Some, None}
use Rattle.lang_base.specs.declared.op.BinaryOp.TheVariants.{Add, Subtract, Equal, NotEqual, Greater}
use Rattle.lang_base.specs.declared.op.LogicOp.TheVariants.{Or}
use Rattle.lang_base.specs.declared.op.UnaryOp.TheVariants.{Negate, Not}
use Rattle.lang_base.specs.declared.effect.Access.{Access}
use Rattle.lang_base.specs.declared.effect.Access.TheVariants.{Read, Write}
use Rattle.lang_base.specs.declared.effect.Effect.{Effect}
use Rattle.lang_base.specs.declared.elems.Elem.TheVariants.{Name}
use Rattle.lang_base.specs.declared.region.Head.TheVariants.{Root, Param}
use Rattle.lang_base.specs.declared.region.Rpl.{Rpl}
use Rattle.lang_base.specs.Types.{PlainType, array}
use Rattle.lang_base.specs.Types.{PlainType as ty}
use Rattle.syntax_tree.specs.declared.expr.InfixOp.{InfixOp}
use Rattle.syntax_tree.specs.declared.expr.InfixOp.TheVariants.{Binary, Logic}
use Rattle.syntax_tree.specs.declared.class.Class.{Class}
use Rattle.syntax_tree.specs.declared.class.Formal.{Formal}
use Rattle.syntax_tree.specs.declared.class.Item.{Item}
use Rattle.syntax_tree.specs.declared.class.Member.TheVariants as member
use Rattle.syntax_tree.specs.declared.class.Method.{Method}
use Rattle.syntax_tree.specs.declared.class.MethodResult.TheVariants as outcome
use Rattle.syntax_tree.specs.declared.class.Program.{Program}
use Rattle.syntax_tree.specs.declared.class.SummaryTree.{SummaryTree}
use Rattle.syntax_tree.specs.declared.expr.Expr.{Expr}
use Rattle.syntax_tree.specs.declared.expr.ExprKind.{ExprKind}
use Rattle.syntax_tree.specs.declared.expr.ExprKind.TheVariants as expr
use Rattle.syntax_tree.specs.declared.region.BaseTree.TheVariants as base
use Rattle.syntax_tree.specs.declared.region.TypeTree.{TypeTree}
use Rattle.syntax_tree.specs.declared.stmt.Stmt.{Stmt}
use Rattle.syntax_tree.specs.declared.stmt.StmtKind.TheVariants as stmt
use Rattle.lang_typed.specs.declared.stmt.Forking.TheVariants.{Nondeterministic}
use Rattle.lang_typed.specs.Plain.{PlainProgram, PlainClass, PlainMember, TypedExpr, typed, TypedStmt, TypedStmts, no_stmts, more_stmts, no_exprs, more_exprs, no_branches, more_branches, of_array, of_part}
use Rattle.lang_typed.specs.Plain as made
use Rattle.trial_samples.specs.trees.Cells.{here, name_at, path, no_params, one_param, plain_kind, does, value, int_field, below_param, makes, an_int, number, int_local, int_in, anything}

abbrev pub names : List (List ℕ)
names =
    codes "Node" ∷ codes "P" ∷ codes "T" ∷ codes "v" ∷ codes "length" ∷ codes "n" ∷ codes "S" ∷ codes "big" ∷ codes "a" ∷ codes "k"
    ∷ codes "wipe" ∷ codes "Main" ∷ codes "A" ∷ codes "U" ∷ codes "main" ∷ codes "x" ∷ codes "i" ∷ codes "w" ∷ codes "j" ∷ codes "u" ∷ []

abbrev pub written_int : ℕ → Expr
written_int n = value (expr.Int (pos n))

abbrev pub written_local : ℕ → Expr
written_local name = value (expr.Local name)

abbrev pub field_of : ExprKind → ℕ → Expr
field_of of name = value (expr.Field (value of) name)

abbrev pub calculated : InfixOp → Expr → Expr → Expr
calculated o a b = value (expr.Binary o a b)

abbrev pub formal : ℕ → TypeTree → Formal
formal name kind = record { place = here; name = name; ty = kind }

abbrev pub item : ℕ → Item
item name = record { atomic = false; rpl = path name [] }

abbrev pub writes_p : SummaryTree
writes_p = record { reads = []; writes = item 1 ∷ [] }

abbrev pub ints_in : ℕ → TypeTree
ints_in name = record { place = here; base = base.Int; suffixes = record { rpl = Some (path name []); index = None } ∷ [] }

abbrev pub makes_node : Method
makes_node = record {
  place = here;
  name = 0;
  params = no_params;
  result = outcome.Constructor;
  formals = formal 5 (plain_kind base.Int) ∷ [];
  summary = Some writes_p;
  body = does (stmt.AssignField (field_of expr.This 3) (written_local 5)) ∷ [];
}

abbrev pub big : Method
big = record {
  place = here;
  name = 7;
  params = one_param 6;
  result = outcome.Value (plain_kind base.Bool);
  formals = formal 8 (ints_in 6) ∷ formal 9 (plain_kind base.Int) ∷ [];
  summary = Some (record { reads = item 1 ∷ item 6 ∷ []; writes = [] });
  body = does (stmt.Return (Some (calculated (Logic Or)
      (calculated (Binary Greater) (calculated (Binary Add) (field_of expr.This 3) (value (expr.Element (written_local 8) (written_local 9)))) (field_of (expr.Local 8) 4))
      (value (expr.Unary Not (value (expr.Bool false))))))) ∷ [];
}

abbrev pub wipe : Method
wipe = record {
  place = here;
  name = 10;
  params = no_params;
  result = outcome.Void;
  formals = [];
  summary = Some writes_p;
  body = does (stmt.AssignField (field_of expr.This 3) (written_int 0)) ∷ does (stmt.Return None) ∷ [];
}

abbrev pub node_tree : Class
node_tree = record {
  place = here;
  name = 0;
  params = one_param 1;
  parent = None;
  members = member.Regions true (name_at 2 ∷ []) ∷ member.Field (int_field 3 (path 1 [])) ∷ member.Field (int_field 4 (path 1 []))
      ∷ member.Method makes_node ∷ member.Method big ∷ member.Method wipe ∷ [];
}

abbrev pub main_body : List Stmt
main_body =
    does (stmt.Declare false (plain_kind (base.Class (name_at 0) (path 12 [] ∷ []))) 15 (value (expr.New (name_at 0) (path 12 [] ∷ []) (written_local 5 ∷ []))))
    ∷ does (stmt.Declare false (ints_in 13) 8 (value (expr.NewArray base.Int [] (written_int 4) (Some (path 13 [])) None)))
    ∷ does (stmt.If (value (expr.Call (written_local 15) (path 13 [] ∷ []) 7 (written_local 8 ∷ written_int 0 ∷ [])))
    (does (stmt.Do (value (expr.Call (written_local 15) [] 10 [])))) (Some (does (stmt.PrintText (codes "no")))))
    ∷ does (stmt.While (calculated (Binary NotEqual) (field_of (expr.Local 15) 3) (written_int 0)) (does (stmt.Block (
    does (stmt.AssignField (field_of (expr.Local 15) 3) (value (expr.Unary Negate (field_of (expr.Local 15) 3))))
    ∷ does (stmt.AssignField (field_of (expr.Local 15) 4) (written_int 1)) ∷ []))))
    ∷ does (stmt.If (value (expr.Bool true)) (does (stmt.Block (
    does (stmt.AssignLocal (name_at 15) (value expr.Null)) ∷ does (stmt.Print (calculated (Binary Equal) (written_local 15) (value expr.Null))) ∷ []))) None)
    ∷ does (stmt.Foreach true (name_at 16) (written_int 0) (written_int 2) (does (stmt.Block [])))
    ∷ does (stmt.Cobegin true (does (stmt.Block []) ∷ does (stmt.Block []) ∷ []))
    ∷ does (stmt.ForeachParts (name_at 17) (name_at 18) (written_local 8) (written_int 2) (does (stmt.Block (
    does (stmt.AssignElement (value (expr.Element (written_local 17) (written_int 0))) (field_of (expr.Local 17) 4))
    ∷ does (stmt.ForeachParts (name_at 19) (name_at 9) (written_local 17) (written_int 2)
    (does (stmt.Print (calculated (Binary Subtract) (value (expr.Element (written_local 17) (written_int 0))) (written_local 18))))) ∷ []))))
    ∷ does (stmt.Return (Some (written_int 0)))
    ∷ []

abbrev pub main_method : Method
main_method = record {
  place = here;
  name = 14;
  params = no_params;
  result = outcome.Value (plain_kind base.Int);
  formals = formal 5 (plain_kind base.Int) ∷ [];
  summary = None;
  body = main_body;
}

abbrev pub main_tree : Class
main_tree = record {
  place = here;
  name = 11;
  params = no_params;
  parent = None;
  members = member.Regions false (name_at 12 ∷ name_at 13 ∷ []) ∷ member.Method main_method ∷ [];
}

abbrev pub tree : Program
tree = record { classes = node_tree ∷ main_tree ∷ []; names = names }

-- what is picked: the constructor of Node, the row and the region arguments of the call, the slot of the part that is written, the
-- slot of the length of the object, the local that is subtracted, whether the program is marked as one that uses nd
pub record OtherPicks : Type 0 where
  pub constructor : Option ℕ
  pub row : ℕ
  pub regions : List Rpl
  pub part : ℕ
  pub slot : ℕ
  pub subtracted : ℕ
  pub uses_nd : Bool

abbrev pub in_region : ℕ → Rpl
in_region n = record { head = Root; elems = Name n ∷ [] }

abbrev pub at_param : ℕ → Rpl
at_param p = record { head = Param p; elems = [] }

abbrev pub other_right : OtherPicks
other_right = record { constructor = Some 0; row = 0; regions = in_region 2 ∷ []; part = 5; slot = 1; subtracted = 9; uses_nd = true }

abbrev pub node_made : OtherPicks → PlainClass
node_made q = record {
  params = false ∷ [];
  given = [];
  parent = None;
  fields = int_in (below_param []) ∷ int_in (below_param []) ∷ [];
  rows = 1 ∷ 2 ∷ [];
  constructor = q.constructor;
}

abbrev pub main_made : PlainClass
main_made = record { params = []; given = []; parent = None; fields = []; rows = 3 ∷ []; constructor = None }

abbrev pub member_made : List Bool → List PlainType → PlainType → List Effect → ℕ → ℕ → TypedStmts → PlainMember
member_made params formals result summary c slots body = record {
  class = c;
  params = params;
  given = [];
  formals = formals;
  result = result;
  summary = summary;
  slots = slots;
  local_regions = 0;
  body = body;
}

abbrev pub effect : Access → ℕ → Effect
effect access p = record { access = access; atomic = false; rpl = at_param p }

abbrev pub this_node : TypedExpr
this_node = typed here (ty.class 0 (at_param 0 ∷ [])) (made.local 0)

abbrev pub a_boolean : made.ExprForm → TypedExpr
a_boolean form = typed here ty.boolean form

abbrev pub sets_v : TypedExpr → TypedStmts → TypedStmts
sets_v e ss = more_stmts (makes (made.store_field this_node 0 0 e)) ss

abbrev pub constructor_made : PlainMember
constructor_made = member_made [] (ty.int ∷ []) ty.void (effect Write 0 ∷ []) 0 2 (sets_v (int_local 1) no_stmts)

abbrev pub ints_at : Rpl → PlainType
ints_at a = array ty.int a false

abbrev pub big_made : PlainMember
big_made = member_made (false ∷ []) (ints_at (at_param 1) ∷ ty.int ∷ []) ty.boolean (effect Read 0 ∷ effect Read 1 ∷ []) 0 3
    (more_stmts (makes (made.return_value (a_boolean (made.either
    (a_boolean (made.binary Greater
    (an_int (made.binary Add (an_int (made.field this_node 0 0)) (an_int (made.element (typed here (ints_at (at_param 1)) (made.local 1)) (int_local 2)))))
    (an_int (made.array_length (typed here (ints_at (at_param 1)) (made.local 1))))))
    (a_boolean (made.unary Not (a_boolean (made.boolean false)))))))) no_stmts)

abbrev pub wipe_made : PlainMember
wipe_made = member_made [] [] ty.void (effect Write 0 ∷ []) 0 1 (sets_v (number 0) (more_stmts (makes made.return_nothing) no_stmts))

abbrev pub x_made : TypedExpr
x_made = typed here (ty.class 0 (in_region 1 ∷ [])) (made.local 2)

abbrev pub array_made : TypedExpr
array_made = typed here (ints_at (in_region 2)) (made.local 3)

abbrev pub a_null : TypedExpr
a_null = typed here ty.null made.null

abbrev pub empty_block : TypedStmt
empty_block = makes (made.block no_stmts)

abbrev pub main_does : OtherPicks → TypedStmts
main_does q =
    more_stmts (makes (made.declare 2 (ty.class 0 (in_region 1 ∷ [])) false (typed here (ty.class 0 (in_region 1 ∷ [])) (made.create (more_exprs (int_local 1) no_exprs)))))
    (more_stmts (makes (made.declare 3 (ints_at (in_region 2)) false (typed here (ints_at (in_region 2)) (made.create_array (number 4)))))
    (more_stmts (makes (made.choice_else (a_boolean (made.call x_made 0 q.row q.regions (more_exprs array_made (more_exprs (number 0) no_exprs))))
    (makes (made.perform (typed here ty.void (made.call x_made 0 1 [] no_exprs)))) (makes (made.print_text (codes "no")))))
    (more_stmts (makes (made.while_loop (a_boolean (made.binary NotEqual (an_int (made.field x_made 0 0)) (number 0))) (makes (made.block (
    more_stmts (makes (made.store_field x_made 0 0 (an_int (made.unary Negate (an_int (made.field x_made 0 0))))))
    (more_stmts (makes (made.store_field x_made 0 q.slot (number 1))) no_stmts))))))
    (more_stmts (makes (made.choice (a_boolean (made.boolean true)) (makes (made.block (
    more_stmts (makes (made.store 2 a_null)) (more_stmts (makes (made.print_boolean (a_boolean (made.binary Equal x_made a_null)))) no_stmts))))))
    (more_stmts (makes (made.foreach Nondeterministic 4 (number 0) (number 2) empty_block))
    (more_stmts (makes (made.cobegin Nondeterministic (more_branches [] empty_block (more_branches [] empty_block no_branches))))
    (more_stmts (makes (made.foreach_parts 5 (of_array array_made) (number 2) (makes (made.block (
    more_stmts (makes (made.store_part q.part (number 0) (an_int (made.part_length 5))))
    (more_stmts (makes (made.foreach_parts 10 (of_part 5) (number 2)
    (makes (made.print_int (an_int (made.binary Subtract (an_int (made.part_element 5 (number 0))) (int_local q.subtracted))))))) no_stmts))))))
    (more_stmts (makes (made.return_value (number 0))) no_stmts))))))))

abbrev pub other_program : OtherPicks → PlainProgram
other_program q = record {
  classes = node_made q ∷ main_made ∷ [];
  members = constructor_made ∷ big_made ∷ wipe_made ∷ member_made [] (ty.int ∷ []) ty.int (anything ∷ []) 1 15 (main_does q) ∷ [];
  region_names = true ∷ false ∷ false ∷ [];
  main_class = 1;
  main_member = 3;
  uses_nd = q.uses_nd;
}
