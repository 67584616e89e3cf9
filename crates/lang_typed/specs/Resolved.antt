-- What a run asks of a program: each row and member that is named is there, and a call gives a value exactly where one is used.
use Rattle.std.specs.Prelude.{◌≡◌, ◌⊎◌, IsTrue, ℕ, Bool, true, false, not, Some}
use Rattle.lang_base.specs.Types.{PlainType}
use Rattle.lang_base.specs.Types.{PlainType as ty}
use Rattle.lang_typed.specs.Plain.{PlainProgram, PlainParent, PlainMember, TypedExpr, typed, type_of, TypedExprs, no_exprs, more_exprs, of_array, of_part, TypedStmt, statement, TypedStmts, no_stmts, more_stmts, TypedBranches, no_branches, more_branches}
use Rattle.lang_typed.specs.Plain.{ExprForm as expr}
use Rattle.lang_typed.specs.Plain.{StmtForm as form}
use Rattle.lang_typed.specs.Scope.{member_at, row_at, constructor_of, parent_of}
use Rattle.lang_typed.specs.Statements.{completes, all_complete}

abbrev pub is_void : PlainType → Bool
is_void ty.void = true
is_void t = false

-- a member gives a value unless its result is void
abbrev pub gives_value : PlainMember → Bool
gives_value m = not (is_void m.result)

-- the row of a class is a member that gives a value, or that gives none
pub record RowGives (P : PlainProgram) (c r : ℕ) (gives : Bool) : Type 0 where
  pub number : ℕ
  pub member : PlainMember
  pub row : row_at P c r ≡ Some number
  pub is_there : member_at P number ≡ Some member
  pub kind : gives_value member ≡ gives

abbrev pub IsArray : PlainType → Type 0
IsArray (ty.array t a named) = Unit {0}
IsArray t = ⊥

abbrev mutual
  pub ExprFits : PlainProgram → TypedExpr → Type 0
  ExprFits P (typed at t (expr.int n)) = Unit {0}
  ExprFits P (typed at t (expr.boolean b)) = Unit {0}
  ExprFits P (typed at t expr.null) = Unit {0}
  ExprFits P (typed at t (expr.local x)) = Unit {0}
  ExprFits P (typed at t (expr.field e c f)) = ExprFits P e
  ExprFits P (typed at t (expr.element a j)) = ExprFits P a × ExprFits P j
  ExprFits P (typed at t (expr.array_length a)) = ExprFits P a
  ExprFits P (typed at t (expr.call e c r regions es)) = ExprFits P e × ExprsFit P es × RowGives P c r true
  ExprFits P (typed at t (expr.create es)) = ExprsFit P es
  ExprFits P (typed at t (expr.create_array n)) = ExprFits P n × IsArray t
  ExprFits P (typed at t (expr.unary o e)) = ExprFits P e
  ExprFits P (typed at t (expr.binary o a b)) = ExprFits P a × ExprFits P b
  ExprFits P (typed at t (expr.both a b)) = ExprFits P a × ExprFits P b
  ExprFits P (typed at t (expr.either a b)) = ExprFits P a × ExprFits P b
  ExprFits P (typed at t (expr.part_length x)) = Unit {0}
  ExprFits P (typed at t (expr.part_element x j)) = ExprFits P j

  pub ExprsFit : PlainProgram → TypedExprs → Type 0
  ExprsFit P no_exprs = Unit {0}
  ExprsFit P (more_exprs e es) = ExprFits P e × ExprsFit P es

-- a void call, which stands as a statement alone
abbrev pub VoidCall : PlainProgram → TypedExpr → Type 0
VoidCall P (typed at t (expr.call e c r regions es)) = ExprFits P e × ExprsFit P es × RowGives P c r false
VoidCall P e = ⊥

-- what stands as a statement gives a value exactly where its type isn't void
abbrev pub PerformFits : PlainProgram → TypedExpr → Bool → Type 0
PerformFits P e true = VoidCall P e
PerformFits P e false = ExprFits P e

-- of statements in a body that gives a value or none
abbrev mutual
  pub StmtFits : PlainProgram → Bool → TypedStmt → Type 0
  StmtFits P y (statement at (form.declare x t is_final e)) = ExprFits P e
  StmtFits P y (statement at (form.store x e)) = ExprFits P e
  StmtFits P y (statement at (form.store_field o c f e)) = ExprFits P o × ExprFits P e
  StmtFits P y (statement at (form.store_element a j e)) = ExprFits P a × ExprFits P j × ExprFits P e
  StmtFits P y (statement at (form.store_part x j e)) = ExprFits P j × ExprFits P e
  StmtFits P y (statement at (form.perform e)) = PerformFits P e (is_void (type_of e))
  StmtFits P y (statement at (form.block ss)) = StmtsFit P y ss
  StmtFits P y (statement at (form.choice e s)) = ExprFits P e × StmtFits P y s
  StmtFits P y (statement at (form.choice_else e s t)) = ExprFits P e × StmtFits P y s × StmtFits P y t
  StmtFits P y (statement at (form.while_loop e s)) = ExprFits P e × StmtFits P y s
  StmtFits P y (statement at form.return_nothing) = y ≡ false
  StmtFits P y (statement at (form.return_value e)) = (y ≡ true) × ExprFits P e
  StmtFits P y (statement at (form.print_int e)) = ExprFits P e
  StmtFits P y (statement at (form.print_boolean e)) = ExprFits P e
  StmtFits P y (statement at (form.print_text text)) = Unit {0}
  StmtFits P y (statement at (form.local_regions rs)) = Unit {0}
  StmtFits P y (statement at (form.atomic effects ss)) = StmtsFit P y ss
  StmtFits P y (statement at (form.cobegin forking bs)) = BranchesFit P y bs
  StmtFits P y (statement at (form.foreach forking x start count s)) = ExprFits P start × ExprFits P count × StmtFits P y s
  StmtFits P y (statement at (form.foreach_parts x (of_array a) count s)) = ExprFits P a × ExprFits P count × StmtFits P y s
  StmtFits P y (statement at (form.foreach_parts x (of_part z) count s)) = ExprFits P count × StmtFits P y s

  -- none stands after one that doesn't complete
  pub StmtsFit : PlainProgram → Bool → TypedStmts → Type 0
  StmtsFit P y no_stmts = Unit {0}
  StmtsFit P y (more_stmts s ss) = StmtFits P y s × (IsTrue (completes s) ⊎ (ss ≡ no_stmts)) × StmtsFit P y ss

  pub BranchesFit : PlainProgram → Bool → TypedBranches → Type 0
  BranchesFit P y no_branches = Unit {0}
  BranchesFit P y (more_branches copies s bs) = StmtFits P y s × BranchesFit P y bs

pub record Resolved (P : PlainProgram) : Type 0 where
  -- a class has the rows of its superclass, each of the same kind
  pub below : (c r : ℕ) (p : PlainParent) (gives : Bool) → parent_of P c ≡ Some p → RowGives P p.class r gives → RowGives P c r gives
  pub constructors : (c n : ℕ) → constructor_of P c ≡ Some n → (m : PlainMember) × (member_at P n ≡ Some m) × (gives_value m ≡ false)
  pub bodies : (n : ℕ) (m : PlainMember) → member_at P n ≡ Some m → StmtsFit P (gives_value m) m.body
  -- a body that gives a value ends by a return
  pub ends : (n : ℕ) (m : PlainMember) → member_at P n ≡ Some m → gives_value m ≡ true → all_complete m.body ≡ false

-- the program has the member with which a run begins
abbrev pub HasMain : PlainProgram → Type 0
HasMain P = (m : PlainMember) × (member_at P P.main_member ≡ Some m)
