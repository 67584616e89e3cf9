-- The constructs of the language, and which of them a program has.
use Rattle.std.specs.Prelude.{Bool, true, false, List, [], ◌∷◌, ◌++◌, Contains, flat_map, map}
use Rattle.std.specs.Option.{option_map_or}
use Rattle.lang_base.specs.declared.effect.Access.{Access}
use Rattle.lang_base.specs.declared.op.BinaryOp.{BinaryOp}
use Rattle.lang_base.specs.declared.op.UnaryOp.{UnaryOp}
use Rattle.lang_typed.specs.declared.stmt.Forking.{Forking}
use Rattle.lang_typed.specs.Plain.{PlainProgram, PlainClass, PlainMember, TypedExpr, typed, TypedExprs, no_exprs, more_exprs, of_array, of_part}
use Rattle.lang_typed.specs.Plain.{TypedStmt, statement, TypedStmts, no_stmts, more_stmts, TypedBranches, no_branches, more_branches}
use Rattle.lang_typed.specs.Plain.{ExprForm as expr}
use Rattle.lang_typed.specs.Plain.{StmtForm as form}

pub data Construct : Type 0 where
  -- declarations: an effect of a summary is one of an access, marked or not
  superclass : Construct
  constructor : Construct
  class_param : (atomic : Bool) → Construct
  method_param : Construct
  constraint : Construct
  effect : Access → (atomic : Bool) → Construct
  region_name : (atomic : Bool) → Construct
  -- expressions
  int : Construct
  boolean : Construct
  null : Construct
  local : Construct
  field : Construct
  element : Construct
  array_length : Construct
  call : Construct
  -- with actuals, or without
  create : (actuals : Bool) → Construct
  create_array : Construct
  unary : UnaryOp → Construct
  binary : BinaryOp → Construct
  both : Construct
  either : Construct
  part_length : Construct
  part_element : Construct
  -- statements
  declare : (is_final : Bool) → Construct
  store : Construct
  store_field : Construct
  store_element : Construct
  store_part : Construct
  perform : Construct
  block : Construct
  choice : Construct
  choice_else : Construct
  while_loop : Construct
  return_nothing : Construct
  return_value : Construct
  print_int : Construct
  print_boolean : Construct
  print_text : Construct
  local_regions : Construct
  atomic : Construct
  cobegin : Forking → Construct
  foreach : Forking → Construct
  parts_of_array : Construct
  parts_of_part : Construct

abbrev pub some_exprs : TypedExprs → Bool
some_exprs no_exprs = false
some_exprs (more_exprs e es) = true

abbrev mutual
  pub of_expr : TypedExpr → List Construct
  of_expr (typed at t (expr.int k)) = int ∷ []
  of_expr (typed at t (expr.boolean b)) = boolean ∷ []
  of_expr (typed at t expr.null) = null ∷ []
  of_expr (typed at t (expr.local x)) = local ∷ []
  of_expr (typed at t (expr.field e c k)) = field ∷ of_expr e
  of_expr (typed at t (expr.element a i)) = element ∷ of_expr a ++ of_expr i
  of_expr (typed at t (expr.array_length a)) = array_length ∷ of_expr a
  of_expr (typed at t (expr.call e c r regions es)) = call ∷ of_expr e ++ of_exprs es
  of_expr (typed at t (expr.create es)) = create (some_exprs es) ∷ of_exprs es
  of_expr (typed at t (expr.create_array n)) = create_array ∷ of_expr n
  of_expr (typed at t (expr.unary o e)) = unary o ∷ of_expr e
  of_expr (typed at t (expr.binary o a b)) = binary o ∷ of_expr a ++ of_expr b
  of_expr (typed at t (expr.both a b)) = both ∷ of_expr a ++ of_expr b
  of_expr (typed at t (expr.either a b)) = either ∷ of_expr a ++ of_expr b
  of_expr (typed at t (expr.part_length k)) = part_length ∷ []
  of_expr (typed at t (expr.part_element k i)) = part_element ∷ of_expr i

  pub of_exprs : TypedExprs → List Construct
  of_exprs no_exprs = []
  of_exprs (more_exprs e es) = of_expr e ++ of_exprs es

abbrev mutual
  pub of_stmt : TypedStmt → List Construct
  of_stmt (statement at (form.declare x t is_final e)) = declare is_final ∷ of_expr e
  of_stmt (statement at (form.store x e)) = store ∷ of_expr e
  of_stmt (statement at (form.store_field o c k e)) = store_field ∷ of_expr o ++ of_expr e
  of_stmt (statement at (form.store_element a i e)) = store_element ∷ of_expr a ++ of_expr i ++ of_expr e
  of_stmt (statement at (form.store_part k i e)) = store_part ∷ of_expr i ++ of_expr e
  of_stmt (statement at (form.perform e)) = perform ∷ of_expr e
  of_stmt (statement at (form.block ss)) = block ∷ of_stmts ss
  of_stmt (statement at (form.choice e s)) = choice ∷ of_expr e ++ of_stmt s
  of_stmt (statement at (form.choice_else e s t)) = choice_else ∷ of_expr e ++ of_stmt s ++ of_stmt t
  of_stmt (statement at (form.while_loop e s)) = while_loop ∷ of_expr e ++ of_stmt s
  of_stmt (statement at form.return_nothing) = return_nothing ∷ []
  of_stmt (statement at (form.return_value e)) = return_value ∷ of_expr e
  of_stmt (statement at (form.print_int e)) = print_int ∷ of_expr e
  of_stmt (statement at (form.print_boolean e)) = print_boolean ∷ of_expr e
  of_stmt (statement at (form.print_text text)) = print_text ∷ []
  of_stmt (statement at (form.local_regions rs)) = local_regions ∷ []
  of_stmt (statement at (form.atomic effects ss)) = atomic ∷ of_stmts ss
  of_stmt (statement at (form.cobegin forking bs)) = cobegin forking ∷ of_branches bs
  of_stmt (statement at (form.foreach forking x start count s)) = foreach forking ∷ of_expr start ++ of_expr count ++ of_stmt s
  of_stmt (statement at (form.foreach_parts k (of_array a) count s)) = parts_of_array ∷ of_expr a ++ of_expr count ++ of_stmt s
  of_stmt (statement at (form.foreach_parts k (of_part j) count s)) = parts_of_part ∷ of_expr count ++ of_stmt s

  pub of_stmts : TypedStmts → List Construct
  of_stmts no_stmts = []
  of_stmts (more_stmts s ss) = of_stmt s ++ of_stmts ss

  pub of_branches : TypedBranches → List Construct
  of_branches no_branches = []
  of_branches (more_branches copies s bs) = of_stmt s ++ of_branches bs

abbrev pub of_class : PlainClass → List Construct
of_class k =
    map class_param k.params ++ map (λ g. constraint) k.given ++ option_map_or (λ p. superclass ∷ []) k.parent [] ++ option_map_or (λ n. constructor ∷ []) k.constructor []

abbrev pub of_member : PlainMember → List Construct
of_member m = map (λ p. method_param) m.params ++ map (λ g. constraint) m.given ++ map (λ e. effect e.access e.atomic) m.summary ++ of_stmts m.body

-- all that stand in a program
abbrev pub constructs_of : PlainProgram → List Construct
constructs_of P = flat_map of_class P.classes ++ flat_map of_member P.members ++ map region_name P.region_names

-- a program has every construct
abbrev pub HasEvery : PlainProgram → Type 0
HasEvery P = (c : Construct) → Contains (constructs_of P) c
