-- What fit code asks of a program beside that it is resolved: each body keeps to the slots and local regions of its member, names
-- regions that are fully specified, by indices and classes that are there, calls with as many arguments as are taken, and returns neither from a
-- branch nor from an atomic block; the rows of classes are members.
use Rattle.std.specs.Prelude.{◌≡◌, ◌<◌, ℕ, ◌+◌, Bool, true, false, IsTrue, List, All, length, Some}
use Rattle.lang_base.specs.declared.elems.Elem.{Elem}
use Rattle.lang_base.specs.declared.elems.Elem.TheVariants.{At}
use Rattle.lang_base.specs.declared.elems.Index.TheVariants.{Variable, Renamed, Own}
use Rattle.lang_base.specs.declared.region.Rpl.{Rpl}
use Rattle.lang_base.specs.Regions.{fully_specified}
use Rattle.lang_base.specs.Types.{PlainType}
use Rattle.lang_base.specs.Types.{PlainType as ty}
use Rattle.lang_typed.specs.Plain.{TypedExpr, typed, TypedExprs, no_exprs, more_exprs, Source, of_array, of_part, TypedStmt, statement, TypedStmts, no_stmts, more_stmts, TypedBranches, no_branches, more_branches, PlainClass, PlainParent, PlainMember, PlainProgram}
use Rattle.lang_typed.specs.Plain.{ExprForm as expr}
use Rattle.lang_typed.specs.Plain.{StmtForm as form}
use Rattle.lang_typed.specs.Scope.{class_at, member_at, row_at, parent_of, constructor_of}
use Rattle.lang_meaning.specs.Expressions.{class_in}
use Rattle.code_scheme.specs.Scheme.{many}

-- what an element may name: a variable by one of so many slots, and an index of its own array types by one of so many
abbrev pub IndexWithin : ℕ → ℕ → Elem → Type 0
IndexWithin slots own (At (Variable x)) = x < slots
IndexWithin slots own (At (Renamed x)) = ⊥
IndexWithin slots own (At (Own d)) = d < own
IndexWithin slots own k = Unit {0}

-- a region is fully specified, and its indices are there
abbrev pub IsFull : ℕ → ℕ → Rpl → Type 0
IsFull slots own a = IsTrue (fully_specified a) × All (IndexWithin slots own) a.elems

-- no index name stands in region arguments
abbrev pub AllFull : ℕ → List Rpl → Type 0
AllFull slots rpls = All (IsFull slots 0) rpls

-- what is created: an object of a class that is there, by regions that are fully specified; or an array in such a region, which
-- may name the array's own index
abbrev pub Created : PlainProgram → ℕ → PlainType → Type 0
Created P n t = (k : PlainClass) × (class_at P (class_in t).0 ≡ Some k) × AllFull n (class_in t).1

abbrev pub FullArray : ℕ → PlainType → Type 0
FullArray n (ty.array t a named) = IsFull n 1 a
FullArray n t = ⊥

-- the row of a class is a member that takes so many arguments; and so is its constructor, where it has one
pub record RowTakes (P : PlainProgram) (c r n : ℕ) : Type 0 where
  pub number : ℕ
  pub member : PlainMember
  pub row : row_at P c r ≡ Some number
  pub is_there : member_at P number ≡ Some member
  pub many : length member.formals ≡ n

abbrev pub Constructs : PlainProgram → ℕ → ℕ → Type 0
Constructs P c n = (number : ℕ) → constructor_of P c ≡ Some number → (m : PlainMember) × (member_at P number ≡ Some m) × (length m.formals ≡ n)

-- of n slots: each local has one, and each part five
abbrev mutual
  pub ExprWithin : PlainProgram → ℕ → TypedExpr → Type 0
  ExprWithin P n (typed at t (expr.int k)) = Unit {0}
  ExprWithin P n (typed at t (expr.boolean b)) = Unit {0}
  ExprWithin P n (typed at t expr.null) = Unit {0}
  ExprWithin P n (typed at t (expr.local x)) = x < n
  ExprWithin P n (typed at t (expr.field e c f)) = ExprWithin P n e
  ExprWithin P n (typed at t (expr.element a j)) = ExprWithin P n a × ExprWithin P n j
  ExprWithin P n (typed at t (expr.array_length a)) = ExprWithin P n a
  ExprWithin P n (typed at t (expr.call e c r regions es)) = ExprWithin P n e × ExprsWithin P n es × AllFull n regions × RowTakes P c r (many es)
  ExprWithin P n (typed at t (expr.create es)) = ExprsWithin P n es × Created P n t × Constructs P (class_in t).0 (many es)
  ExprWithin P n (typed at t (expr.create_array e)) = ExprWithin P n e × FullArray n t
  ExprWithin P n (typed at t (expr.unary o e)) = ExprWithin P n e
  ExprWithin P n (typed at t (expr.binary o a b)) = ExprWithin P n a × ExprWithin P n b
  ExprWithin P n (typed at t (expr.both a b)) = ExprWithin P n a × ExprWithin P n b
  ExprWithin P n (typed at t (expr.either a b)) = ExprWithin P n a × ExprWithin P n b
  ExprWithin P n (typed at t (expr.part_length x)) = x + 4 < n
  ExprWithin P n (typed at t (expr.part_element x j)) = (x + 4 < n) × ExprWithin P n j

  pub ExprsWithin : PlainProgram → ℕ → TypedExprs → Type 0
  ExprsWithin P n no_exprs = Unit {0}
  ExprsWithin P n (more_exprs e es) = ExprWithin P n e × ExprsWithin P n es

abbrev pub SourceWithin : PlainProgram → ℕ → Source → Type 0
SourceWithin P n (of_array a) = ExprWithin P n a
SourceWithin P n (of_part y) = y + 4 < n

-- of n slots and m local regions; may: a `return` may stand here, which it may not in branches and atomic blocks
abbrev mutual
  pub StmtWithin : PlainProgram → ℕ → ℕ → Bool → TypedStmt → Type 0
  StmtWithin P n m may (statement at (form.declare x t is_final e)) = (x < n) × ExprWithin P n e
  StmtWithin P n m may (statement at (form.store x e)) = (x < n) × ExprWithin P n e
  StmtWithin P n m may (statement at (form.store_field o c f e)) = ExprWithin P n o × ExprWithin P n e
  StmtWithin P n m may (statement at (form.store_element a j e)) = ExprWithin P n a × ExprWithin P n j × ExprWithin P n e
  StmtWithin P n m may (statement at (form.store_part x j e)) = (x + 4 < n) × ExprWithin P n j × ExprWithin P n e
  StmtWithin P n m may (statement at (form.perform e)) = ExprWithin P n e
  StmtWithin P n m may (statement at (form.block ss)) = StmtsWithin P n m may ss
  StmtWithin P n m may (statement at (form.choice e s)) = ExprWithin P n e × StmtWithin P n m may s
  StmtWithin P n m may (statement at (form.choice_else e s t)) = ExprWithin P n e × StmtWithin P n m may s × StmtWithin P n m may t
  StmtWithin P n m may (statement at (form.while_loop e s)) = ExprWithin P n e × StmtWithin P n m may s
  StmtWithin P n m may (statement at form.return_nothing) = may ≡ true
  StmtWithin P n m may (statement at (form.return_value e)) = (may ≡ true) × ExprWithin P n e
  StmtWithin P n m may (statement at (form.print_int e)) = ExprWithin P n e
  StmtWithin P n m may (statement at (form.print_boolean e)) = ExprWithin P n e
  StmtWithin P n m may (statement at (form.print_text text)) = Unit {0}
  StmtWithin P n m may (statement at (form.local_regions rs)) = All (λ r. r < m) rs
  StmtWithin P n m may (statement at (form.atomic effects ss)) = StmtsWithin P n m false ss
  StmtWithin P n m may (statement at (form.cobegin forking bs)) = BranchesWithin P n m bs
  StmtWithin P n m may (statement at (form.foreach forking x start count s)) = (x < n) × ExprWithin P n start × ExprWithin P n count × StmtWithin P n m false s
  StmtWithin P n m may (statement at (form.foreach_parts x source count s)) = (x + 4 < n) × SourceWithin P n source × ExprWithin P n count × StmtWithin P n m false s

  pub StmtsWithin : PlainProgram → ℕ → ℕ → Bool → TypedStmts → Type 0
  StmtsWithin P n m may no_stmts = Unit {0}
  StmtsWithin P n m may (more_stmts s ss) = StmtWithin P n m may s × StmtsWithin P n m may ss

  pub BranchesWithin : PlainProgram → ℕ → ℕ → TypedBranches → Type 0
  BranchesWithin P n m no_branches = Unit {0}
  BranchesWithin P n m (more_branches copies s bs) = All (λ x. x < n) copies × StmtWithin P n m false s × BranchesWithin P n m bs

pub record Roomy (P : PlainProgram) : Type 0 where
  pub bodies : (n : ℕ) (m : PlainMember) → member_at P n ≡ Some m → StmtsWithin P m.slots m.local_regions true m.body
  pub rows : (c r n : ℕ) → row_at P c r ≡ Some n → (m : PlainMember) × (member_at P n ≡ Some m)
  -- a row takes as many arguments in each class below, and a member has slots for its object and its arguments
  pub takes : (c r n : ℕ) (p : PlainParent) → parent_of P c ≡ Some p → RowTakes P p.class r n → RowTakes P c r n
  pub room : (n : ℕ) (m : PlainMember) → member_at P n ≡ Some m → length m.formals < m.slots
