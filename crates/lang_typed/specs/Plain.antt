-- The typed program as plain data, over which the rules of the language are written, and the map from the code's types.
use Rattle.std.specs.Prelude.{ℕ, zero, suc, ℤ, Bool, List, [], ◌∷◌, ◌++◌, map, length, slice_get, Option, Some, None, option_map}
use Rattle.std.specs.Option.{option_map_or}
use Rattle.lang_base.specs.declared.effect.Constraint.{Constraint}
use Rattle.lang_base.specs.declared.effect.Effect.{Effect}
use Rattle.lang_base.specs.declared.place.Place.{Place}
use Rattle.lang_base.specs.declared.region.Rpl.{Rpl}
use Rattle.lang_base.specs.Regions.{substituted}
use Rattle.lang_base.specs.Types.{PlainType, plain_type, type_with}
use Rattle.lang_base.specs.declared.op.BinaryOp.{BinaryOp}
use Rattle.lang_typed.specs.declared.expr.Expr.{Expr, fold-Expr}
use Rattle.lang_typed.specs.declared.expr.ExprForm.TheOpen.{ExprForm-F, Expr-F}
use Rattle.lang_base.specs.declared.op.UnaryOp.{UnaryOp}
use Rattle.lang_typed.specs.declared.program.Class.{Class}
use Rattle.lang_typed.specs.declared.program.Field.{Field}
use Rattle.lang_typed.specs.declared.program.Member.{Member}
use Rattle.lang_typed.specs.declared.program.Parent.{Parent}
use Rattle.lang_typed.specs.declared.program.Program.{Program}
use Rattle.lang_typed.specs.declared.stmt.Forking.{Forking}
use Rattle.lang_typed.specs.declared.stmt.PartSource.{PartSource}
use Rattle.lang_typed.specs.declared.stmt.PartSource.TheVariants as source
use Rattle.lang_typed.specs.declared.stmt.Stmt.{Stmt, fold-Stmt}
use Rattle.lang_typed.specs.declared.stmt.StmtForm.TheOpen.{StmtForm-F, Branch-F, Stmt-F}

mutual
  -- an expression: its place, its type and its form
  pub data TypedExpr : Type 0 where
    typed : Place → PlainType → ExprForm → TypedExpr

  pub data ExprForm : Type 0 where
    int : ℤ → ExprForm
    boolean : Bool → ExprForm
    null : ExprForm
    -- a local, by its slot
    local : ℕ → ExprForm
    -- a field: the receiver, the class and the field's slot
    field : TypedExpr → ℕ → ℕ → ExprForm
    element : TypedExpr → TypedExpr → ExprForm
    array_length : TypedExpr → ExprForm
    -- a call: the receiver, its class, the row, the region arguments, the actuals
    call : TypedExpr → ℕ → ℕ → List Rpl → TypedExprs → ExprForm
    create : TypedExprs → ExprForm
    create_array : TypedExpr → ExprForm
    unary : UnaryOp → TypedExpr → ExprForm
    binary : BinaryOp → TypedExpr → TypedExpr → ExprForm
    both : TypedExpr → TypedExpr → ExprForm
    either : TypedExpr → TypedExpr → ExprForm
    -- the length of a part of an array, and an element of it
    part_length : ℕ → ExprForm
    part_element : ℕ → TypedExpr → ExprForm

  pub data TypedExprs : Type 0 where
    no_exprs : TypedExprs
    more_exprs : TypedExpr → TypedExprs → TypedExprs

-- what a `foreach_parts` cuts
pub data Source : Type 0 where
  of_array : TypedExpr → Source
  of_part : ℕ → Source

mutual
  -- a statement: its place and its form
  pub data TypedStmt : Type 0 where
    statement : Place → StmtForm → TypedStmt

  pub data StmtForm : Type 0 where
    -- a declaration: the slot, its type, whether it is final, the value
    declare : ℕ → PlainType → Bool → TypedExpr → StmtForm
    store : ℕ → TypedExpr → StmtForm
    store_field : TypedExpr → ℕ → ℕ → TypedExpr → StmtForm
    store_element : TypedExpr → TypedExpr → TypedExpr → StmtForm
    store_part : ℕ → TypedExpr → TypedExpr → StmtForm
    perform : TypedExpr → StmtForm
    block : TypedStmts → StmtForm
    choice : TypedExpr → TypedStmt → StmtForm
    choice_else : TypedExpr → TypedStmt → TypedStmt → StmtForm
    while_loop : TypedExpr → TypedStmt → StmtForm
    return_nothing : StmtForm
    return_value : TypedExpr → StmtForm
    print_int : TypedExpr → StmtForm
    print_boolean : TypedExpr → StmtForm
    print_text : List ℕ → StmtForm
    local_regions : List ℕ → StmtForm
    -- an atomic block: the effects with which it is entered, and its body
    atomic : List Effect → TypedStmts → StmtForm
    cobegin : Forking → TypedBranches → StmtForm
    -- a loop of branches: the slot of its variable, start and count, the body
    foreach : Forking → ℕ → TypedExpr → TypedExpr → TypedStmt → StmtForm
    foreach_parts : ℕ → Source → TypedExpr → TypedStmt → StmtForm

  pub data TypedStmts : Type 0 where
    no_stmts : TypedStmts
    more_stmts : TypedStmt → TypedStmts → TypedStmts

  -- the branches of a `cobegin`, each with the slots that the join copies back
  pub data TypedBranches : Type 0 where
    no_branches : TypedBranches
    more_branches : List ℕ → TypedStmt → TypedBranches → TypedBranches

-- one branch
pub record TypedBranch : Type 0 where
  pub copies : List ℕ
  pub body : TypedStmt

abbrev pub type_of : TypedExpr → PlainType
type_of (typed place t form) = t

abbrev pub form_of : TypedExpr → ExprForm
form_of (typed place t form) = form

abbrev pub exprs_of : List TypedExpr → TypedExprs
exprs_of [] = no_exprs
exprs_of (e ∷ es) = more_exprs e (exprs_of es)

-- one level of an expression whose children are plain already
abbrev pub expr_form : ExprForm-F ExprForm TypedExpr → ExprForm
expr_form (ExprForm-F.Int n) = int n
expr_form (ExprForm-F.Bool b) = boolean b
expr_form ExprForm-F.Null = null
expr_form (ExprForm-F.Local slot) = local slot.number
expr_form (ExprForm-F.Field of class member) = field of class.number member.number
expr_form (ExprForm-F.Element array index) = element array index
expr_form (ExprForm-F.Length array) = array_length array
expr_form (ExprForm-F.Call of class row regions actuals) = call of class.number row.number regions (exprs_of actuals)
expr_form (ExprForm-F.New actuals) = create (exprs_of actuals)
expr_form (ExprForm-F.NewArray len) = create_array len
expr_form (ExprForm-F.Unary op arg) = unary op arg
expr_form (ExprForm-F.Binary op left right) = binary op left right
expr_form (ExprForm-F.And left right) = both left right
expr_form (ExprForm-F.Or left right) = either left right
expr_form (ExprForm-F.PartLength part) = part_length part.number
expr_form (ExprForm-F.PartElement part index) = part_element part.number index

abbrev pub expr_node : Expr-F ExprForm TypedExpr → TypedExpr
expr_node e = typed e.place (plain_type e.ty) e.form

abbrev pub plain_expr : Expr → TypedExpr
plain_expr = fold-Expr ExprForm TypedExpr expr_form expr_node

abbrev pub stmts_of : List TypedStmt → TypedStmts
stmts_of [] = no_stmts
stmts_of (s ∷ ss) = more_stmts s (stmts_of ss)

abbrev pub branches_of : List TypedBranch → TypedBranches
branches_of [] = no_branches
branches_of (b ∷ bs) = more_branches b.copies b.body (branches_of bs)

abbrev pub choice_form : TypedExpr → TypedStmt → Option TypedStmt → StmtForm
choice_form test then_part None = choice test then_part
choice_form test then_part (Some else_part) = choice_else test then_part else_part

abbrev pub return_form : Option Expr → StmtForm
return_form None = return_nothing
return_form (Some value) = return_value (plain_expr value)

abbrev pub plain_source : PartSource → Source
plain_source (source.Array array) = of_array (plain_expr array)
plain_source (source.Part part) = of_part part.number

-- one level of a statement whose children are plain already
abbrev pub stmt_form : StmtForm-F StmtForm TypedBranch TypedStmt → StmtForm
stmt_form (StmtForm-F.Declare slot ty is_final value) = declare slot.number (plain_type ty) is_final (plain_expr value)
stmt_form (StmtForm-F.Store slot value) = store slot.number (plain_expr value)
stmt_form (StmtForm-F.StoreField of class member value) = store_field (plain_expr of) class.number member.number (plain_expr value)
stmt_form (StmtForm-F.StoreElement array index value) = store_element (plain_expr array) (plain_expr index) (plain_expr value)
stmt_form (StmtForm-F.StorePart part index value) = store_part part.number (plain_expr index) (plain_expr value)
stmt_form (StmtForm-F.Perform performed) = perform (plain_expr performed)
stmt_form (StmtForm-F.Block all) = block (stmts_of all)
stmt_form (StmtForm-F.If test then_part else_part) = choice_form (plain_expr test) then_part else_part
stmt_form (StmtForm-F.While test body) = while_loop (plain_expr test) body
stmt_form (StmtForm-F.Return value) = return_form value
stmt_form (StmtForm-F.PrintInt value) = print_int (plain_expr value)
stmt_form (StmtForm-F.PrintBool value) = print_boolean (plain_expr value)
stmt_form (StmtForm-F.PrintText text) = print_text text
stmt_form (StmtForm-F.Regions regions) = local_regions (map (λ region. region.number) regions)
stmt_form (StmtForm-F.Atomic effects body) = atomic effects (stmts_of body)
stmt_form (StmtForm-F.Cobegin forking branches) = cobegin forking (branches_of branches)
stmt_form (StmtForm-F.Foreach forking slot start count body) = foreach forking slot.number (plain_expr start) (plain_expr count) body
stmt_form (StmtForm-F.ForeachParts part cut count body) = foreach_parts part.number (plain_source cut) (plain_expr count) body

abbrev pub branch_node : Branch-F StmtForm TypedBranch TypedStmt → TypedBranch
branch_node b = record { copies = map (λ slot. slot.number) b.copies; body = b.body }

abbrev pub stmt_node : Stmt-F StmtForm TypedBranch TypedStmt → TypedStmt
stmt_node s = statement s.place s.form

abbrev pub plain_stmt : Stmt → TypedStmt
plain_stmt = fold-Stmt StmtForm TypedBranch TypedStmt stmt_form branch_node stmt_node

-- a field: its type, and the region that it lies in
pub record PlainField : Type 0 where
  pub ty : PlainType
  pub region : Rpl

-- the superclass, with the region arguments that the class gives it
pub record PlainParent : Type 0 where
  pub class : ℕ
  pub args : List Rpl

-- a class, over its region parameters; of each of these, whether it is declared atomic
pub record PlainClass : Type 0 where
  pub params : List Bool
  pub given : List Constraint
  pub parent : Option PlainParent
  pub fields : List PlainField
  pub rows : List ℕ
  pub constructor : Option ℕ

-- a method or a constructor, over the region parameters of its class and its own
pub record PlainMember : Type 0 where
  pub class : ℕ
  pub params : List Bool
  pub given : List Constraint
  pub formals : List PlainType
  pub result : PlainType
  pub summary : List Effect
  pub slots : ℕ
  pub local_regions : ℕ
  pub body : TypedStmts

-- a program; of each region name, whether it is declared atomic
pub record PlainProgram : Type 0 where
  pub classes : List PlainClass
  pub members : List PlainMember
  pub region_names : List Bool
  pub main_class : ℕ
  pub main_member : ℕ
  pub uses_nd : Bool

abbrev pub plain_field : Field → PlainField
plain_field f = record { ty = plain_type f.ty; region = f.region }

abbrev pub plain_parent : Parent → PlainParent
plain_parent p = record { class = p.class.number; args = p.args }

-- a field as a class sees it that gives its superclass these region arguments
abbrev pub field_with : List Rpl → PlainField → PlainField
field_with args f = record { ty = type_with args f.ty; region = substituted args f.region }

-- the fields of a class whose superclass has those: they come first, with the region arguments put in, and then its own
abbrev pub fields_after : (ℕ → List PlainField) → Class → List PlainField
fields_after above c = option_map_or (λ p. map (field_with p.args) (above p.class)) (option_map plain_parent c.parent) [] ++ map plain_field c.fields

-- the fields of the class of that number, of it and so many classes further up at most
abbrev pub fields_up : List Class → ℕ → ℕ → List PlainField
fields_up all zero at = []
fields_up all (suc n) at = option_map_or (fields_after (fields_up all n)) (slice_get all at) []

-- a class with these fields
abbrev pub class_with : List PlainField → Class → PlainClass
class_with fields c = record {
  params = map (λ param. param.atomic) c.params;
  given = c.given;
  parent = option_map plain_parent c.parent;
  fields = fields;
  rows = map (λ row. row.number) c.rows;
  constructor = option_map (λ member. member.number) c.constructor;
}

-- a class among all of a program, with the fields that it inherits
abbrev pub plain_class : List Class → Class → PlainClass
plain_class all c = class_with (fields_after (fields_up all (length all)) c) c

abbrev pub plain_member : Member → PlainMember
plain_member m = record {
  class = m.class.number;
  params = map (λ param. param.atomic) m.params;
  given = m.given;
  formals = map plain_type m.formals;
  result = plain_type m.result;
  summary = m.summary;
  slots = m.slots;
  local_regions = m.local_regions;
  body = stmts_of (map plain_stmt m.body);
}

abbrev pub plain_program : Program → PlainProgram
plain_program p = record {
  classes = map (plain_class p.classes) p.classes;
  members = map plain_member p.members;
  region_names = map (λ name. name.atomic) p.region_names;
  main_class = p.main_class.number;
  main_member = p.main_member.number;
  uses_nd = p.uses_nd;
}
