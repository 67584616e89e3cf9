-- The forms of the code's expressions and statements.
use Rattle.std.proofs.Common.{◌≡◌, ◌∙◌, Bool, List, Option, Some, None, option_map, map, sym, ap, ap₂, rules}
use Rattle.lang_base.specs.declared.effect.Effect.{Effect}
use Rattle.lang_base.specs.declared.region.Rpl.{Rpl}
use Rattle.lang_base.specs.declared.ty.Ty.{Ty}
use Rattle.lang_base.specs.Types.{plain_type}
use Rattle.lang_base.specs.declared.op.UnaryOp.{UnaryOp}
use Rattle.lang_base.specs.declared.op.BinaryOp.{BinaryOp}
use Rattle.lang_typed.specs.declared.expr.Expr.{Expr}
use Rattle.lang_typed.specs.declared.expr.ExprForm.{ExprForm, fold-ExprForm, the_lemmas}
use Rattle.lang_typed.specs.declared.expr.ExprForm.TheVariants as kind
use Rattle.lang_typed.specs.declared.stmt.Branch.{Branch}
use Rattle.lang_typed.specs.declared.stmt.Forking.{Forking}
use Rattle.lang_typed.specs.declared.stmt.PartSource.{PartSource}
use Rattle.lang_typed.specs.declared.stmt.Stmt.{Stmt}
use Rattle.lang_typed.specs.declared.stmt.StmtForm.{StmtForm, fold-StmtForm}
use Rattle.lang_typed.specs.declared.stmt.StmtForm.{the_lemmas as stmt_lemmas}
use Rattle.lang_typed.specs.declared.stmt.StmtForm.TheVariants as stmt_kind
use Rattle.lang_typed.specs.declared.ids.ClassId.{ClassId}
use Rattle.lang_typed.specs.declared.ids.FieldSlot.{FieldSlot}
use Rattle.lang_typed.specs.declared.ids.Row.{Row}
use Rattle.lang_typed.specs.declared.ids.Slot.{Slot}
use Rattle.lang_typed.specs.Plain.{TypedExpr, typed, type_of, plain_expr, exprs_of, expr_form, expr_node, TypedStmt, TypedBranch, statement, choice_form, return_form, plain_source, plain_stmt, stmts_of, branches_of, stmt_form, branch_node, stmt_node}
use Rattle.lang_typed.specs.Plain.{StmtForm as made}
use Rattle.lang_typed.specs.Plain.{ExprForm as form}
use Rattle.code_compile.specs.Walked.{plain_branch}

abbrev pub plain_form : ExprForm → form
plain_form = fold-ExprForm form TypedExpr expr_form expr_node

pub plain_node : (e : Expr) → plain_expr e ≡ typed e.place (plain_type e.ty) (plain_form e.form)
plain_node e = search (rules, the_lemmas)

of_form : (e : Expr) (k : ExprForm) (f : form) → e.form ≡ k → plain_form k ≡ f → plain_expr e ≡ typed e.place (plain_type e.ty) f
of_form e k f is same = plain_node e ∙ ap (λ g. typed e.place (plain_type e.ty) g) (ap plain_form is ∙ same)

form_Field : (of : Expr) (class : ClassId) (f : FieldSlot) → plain_form (kind.Field of class f) ≡ form.field (plain_expr of) class.number f.number
form_Field of class f = search (rules, the_lemmas)

form_Element : (array index : Expr) → plain_form (kind.Element array index) ≡ form.element (plain_expr array) (plain_expr index)
form_Element array index = search (rules, the_lemmas)

form_Length : (array : Expr) → plain_form (kind.Length array) ≡ form.array_length (plain_expr array)
form_Length array = search (rules, the_lemmas)

form_Call : (of : Expr) (class : ClassId) (row : Row) (regions : List Rpl) (actuals : List Expr) →
    plain_form (kind.Call of class row regions actuals) ≡ form.call (plain_expr of) class.number row.number regions (exprs_of (map plain_expr actuals))
form_Call of class row regions actuals = search (rules, the_lemmas)

form_New : (actuals : List Expr) → plain_form (kind.New actuals) ≡ form.create (exprs_of (map plain_expr actuals))
form_New actuals = search (rules, the_lemmas)

form_NewArray : (len : Expr) → plain_form (kind.NewArray len) ≡ form.create_array (plain_expr len)
form_NewArray len = search (rules, the_lemmas)

form_Unary : (op : UnaryOp) (arg : Expr) → plain_form (kind.Unary op arg) ≡ form.unary op (plain_expr arg)
form_Unary op arg = search (rules, the_lemmas)

form_Binary : (op : BinaryOp) (left right : Expr) → plain_form (kind.Binary op left right) ≡ form.binary op (plain_expr left) (plain_expr right)
form_Binary op left right = search (rules, the_lemmas)

form_And : (left right : Expr) → plain_form (kind.And left right) ≡ form.both (plain_expr left) (plain_expr right)
form_And left right = search (rules, the_lemmas)

form_Or : (left right : Expr) → plain_form (kind.Or left right) ≡ form.either (plain_expr left) (plain_expr right)
form_Or left right = search (rules, the_lemmas)

form_PartElement : (part : Slot) (index : Expr) → plain_form (kind.PartElement part index) ≡ form.part_element part.number (plain_expr index)
form_PartElement part index = search (rules, the_lemmas)

abbrev pub shaped : Expr → form → TypedExpr
shaped e f = typed e.place (plain_type e.ty) f

-- an expression of a form, whose parts are those that the code reached
pub at_Field : (e : Expr) {of x : Expr} {class : ClassId} {f : FieldSlot} → e.form ≡ kind.Field of class f → x ≡ of →
    plain_expr e ≡ shaped e (form.field (plain_expr x) class.number f.number)
at_Field e {of} {x} {class} {f} is same = of_form e _ _ is (form_Field of class f ∙ ap (λ z. form.field (plain_expr z) class.number f.number) (sym same))

pub at_Element : (e : Expr) {array index x y : Expr} → e.form ≡ kind.Element array index → x ≡ array → y ≡ index →
    plain_expr e ≡ shaped e (form.element (plain_expr x) (plain_expr y))
at_Element e {array} {index} is same also =
    of_form e _ _ is (form_Element array index ∙ ap₂ (λ y z. form.element (plain_expr y) (plain_expr z)) (sym same) (sym also))

pub at_Length : (e : Expr) {array x : Expr} → e.form ≡ kind.Length array → x ≡ array → plain_expr e ≡ shaped e (form.array_length (plain_expr x))
at_Length e {array} is same = of_form e _ _ is (form_Length array ∙ ap (λ z. form.array_length (plain_expr z)) (sym same))

pub at_Call : (e : Expr) {of x : Expr} {class : ClassId} {row : Row} {regions : List Rpl} (actuals : List Expr) → e.form ≡ kind.Call of class row regions actuals → x ≡ of →
    plain_expr e ≡ shaped e (form.call (plain_expr x) class.number row.number regions (exprs_of (map plain_expr actuals)))
at_Call e {of} {x} {class} {row} {regions} actuals is same =
    of_form e _ _ is (form_Call of class row regions actuals
    ∙ ap (λ z. form.call (plain_expr z) class.number row.number regions (exprs_of (map plain_expr actuals))) (sym same))

pub at_New : (e : Expr) (actuals : List Expr) → e.form ≡ kind.New actuals → plain_expr e ≡ shaped e (form.create (exprs_of (map plain_expr actuals)))
at_New e actuals is = of_form e _ _ is (form_New actuals)

pub at_NewArray : (e : Expr) {len x : Expr} → e.form ≡ kind.NewArray len → x ≡ len → plain_expr e ≡ shaped e (form.create_array (plain_expr x))
at_NewArray e {len} is same = of_form e _ _ is (form_NewArray len ∙ ap (λ z. form.create_array (plain_expr z)) (sym same))

pub at_Unary : (e : Expr) {op : UnaryOp} {arg x : Expr} → e.form ≡ kind.Unary op arg → x ≡ arg → plain_expr e ≡ shaped e (form.unary op (plain_expr x))
at_Unary e {op} {arg} is same = of_form e _ _ is (form_Unary op arg ∙ ap (λ z. form.unary op (plain_expr z)) (sym same))

pub at_Binary : (e : Expr) {op : BinaryOp} {left right x y : Expr} → e.form ≡ kind.Binary op left right → x ≡ left → y ≡ right →
    plain_expr e ≡ shaped e (form.binary op (plain_expr x) (plain_expr y))
at_Binary e {op} {left} {right} is same also =
    of_form e _ _ is (form_Binary op left right ∙ ap₂ (λ y z. form.binary op (plain_expr y) (plain_expr z)) (sym same) (sym also))

pub at_And : (e : Expr) {left right x y : Expr} → e.form ≡ kind.And left right → x ≡ left → y ≡ right →
    plain_expr e ≡ shaped e (form.both (plain_expr x) (plain_expr y))
at_And e {left} {right} is same also = of_form e _ _ is (form_And left right ∙ ap₂ (λ y z. form.both (plain_expr y) (plain_expr z)) (sym same) (sym also))

pub at_Or : (e : Expr) {left right x y : Expr} → e.form ≡ kind.Or left right → x ≡ left → y ≡ right →
    plain_expr e ≡ shaped e (form.either (plain_expr x) (plain_expr y))
at_Or e {left} {right} is same also = of_form e _ _ is (form_Or left right ∙ ap₂ (λ y z. form.either (plain_expr y) (plain_expr z)) (sym same) (sym also))

pub at_PartElement : (e : Expr) {part : Slot} {index x : Expr} → e.form ≡ kind.PartElement part index → x ≡ index →
    plain_expr e ≡ shaped e (form.part_element part.number (plain_expr x))
at_PartElement e {part} {index} is same = of_form e _ _ is (form_PartElement part index ∙ ap (λ z. form.part_element part.number (plain_expr z)) (sym same))

abbrev pub plain_shape : StmtForm → made
plain_shape = fold-StmtForm made TypedBranch TypedStmt stmt_form branch_node stmt_node

pub plain_statement : (s : Stmt) → plain_stmt s ≡ statement s.place (plain_shape s.form)
plain_statement s = search (rules, stmt_lemmas)

of_shape : (s : Stmt) (k : StmtForm) (f : made) → s.form ≡ k → plain_shape k ≡ f → plain_stmt s ≡ statement s.place f
of_shape s k f is same = plain_statement s ∙ ap (λ g. statement s.place g) (ap plain_shape is ∙ same)

shape_StoreField : (of : Expr) (class : ClassId) (f : FieldSlot) (value : Expr) →
    plain_shape (stmt_kind.StoreField of class f value) ≡ made.store_field (plain_expr of) class.number f.number (plain_expr value)
shape_StoreField of class f value = search (rules, stmt_lemmas)

pub at_StoreField : (s : Stmt) {of : Expr} {class : ClassId} {f : FieldSlot} {value : Expr} → s.form ≡ stmt_kind.StoreField of class f value →
    plain_stmt s ≡ statement s.place (made.store_field (plain_expr of) class.number f.number (plain_expr value))
at_StoreField s {of} {class} {f} {value} is = of_shape s _ _ is (shape_StoreField of class f value)

shape_StoreElement : (array index value : Expr) →
    plain_shape (stmt_kind.StoreElement array index value) ≡ made.store_element (plain_expr array) (plain_expr index) (plain_expr value)
shape_StoreElement array index value = search (rules, stmt_lemmas)

pub at_StoreElement : (s : Stmt) {array index value : Expr} → s.form ≡ stmt_kind.StoreElement array index value →
    plain_stmt s ≡ statement s.place (made.store_element (plain_expr array) (plain_expr index) (plain_expr value))
at_StoreElement s {array} {index} {value} is = of_shape s _ _ is (shape_StoreElement array index value)

shape_StorePart : (part : Slot) (index value : Expr) →
    plain_shape (stmt_kind.StorePart part index value) ≡ made.store_part part.number (plain_expr index) (plain_expr value)
shape_StorePart part index value = search (rules, stmt_lemmas)

pub at_StorePart : (s : Stmt) {part : Slot} {index value : Expr} → s.form ≡ stmt_kind.StorePart part index value →
    plain_stmt s ≡ statement s.place (made.store_part part.number (plain_expr index) (plain_expr value))
at_StorePart s {part} {index} {value} is = of_shape s _ _ is (shape_StorePart part index value)

shape_If : (test : Expr) (body : Stmt) (other : Option Stmt) →
    plain_shape (stmt_kind.If test body other) ≡ choice_form (plain_expr test) (plain_stmt body) (option_map plain_stmt other)
shape_If test body None = search (rules, stmt_lemmas)
shape_If test body (Some other) = search (rules, stmt_lemmas)

pub at_If : (s : Stmt) {test : Expr} {body x : Stmt} {other y : Option Stmt} → s.form ≡ stmt_kind.If test body other → x ≡ body → y ≡ other →
    plain_stmt s ≡ statement s.place (choice_form (plain_expr test) (plain_stmt x) (option_map plain_stmt y))
at_If s {test} {body} {x} {other} is same also =
    of_shape s _ _ is (shape_If test body other ∙ ap₂ (λ y z. choice_form (plain_expr test) (plain_stmt y) (option_map plain_stmt z)) (sym same) (sym also))

shape_While : (test : Expr) (body : Stmt) → plain_shape (stmt_kind.While test body) ≡ made.while_loop (plain_expr test) (plain_stmt body)
shape_While test body = search (rules, stmt_lemmas)

pub at_While : (s : Stmt) {test : Expr} {body x : Stmt} → s.form ≡ stmt_kind.While test body → x ≡ body →
    plain_stmt s ≡ statement s.place (made.while_loop (plain_expr test) (plain_stmt x))
at_While s {test} {body} is same = of_shape s _ _ is (shape_While test body ∙ ap (λ z. made.while_loop (plain_expr test) (plain_stmt z)) (sym same))

shape_Atomic : (effects : List Effect) (body : List Stmt) → plain_shape (stmt_kind.Atomic effects body) ≡ made.atomic effects (stmts_of (map plain_stmt body))
shape_Atomic effects body = search (rules, stmt_lemmas)

pub at_Atomic : (s : Stmt) {effects : List Effect} (body : List Stmt) → s.form ≡ stmt_kind.Atomic effects body →
    plain_stmt s ≡ statement s.place (made.atomic effects (stmts_of (map plain_stmt body)))
at_Atomic s {effects} body is = of_shape s _ _ is (shape_Atomic effects body)

shape_Cobegin : (forking : Forking) (branches : List Branch) →
    plain_shape (stmt_kind.Cobegin forking branches) ≡ made.cobegin forking (branches_of (map plain_branch branches))
shape_Cobegin forking branches = search (rules, stmt_lemmas)

pub at_Cobegin : (s : Stmt) {forking : Forking} (branches : List Branch) → s.form ≡ stmt_kind.Cobegin forking branches →
    plain_stmt s ≡ statement s.place (made.cobegin forking (branches_of (map plain_branch branches)))
at_Cobegin s {forking} branches is = of_shape s _ _ is (shape_Cobegin forking branches)

shape_Foreach : (forking : Forking) (slot : Slot) (start count : Expr) (body : Stmt) →
    plain_shape (stmt_kind.Foreach forking slot start count body) ≡ made.foreach forking slot.number (plain_expr start) (plain_expr count) (plain_stmt body)
shape_Foreach forking slot start count body = search (rules, stmt_lemmas)

pub at_Foreach : (s : Stmt) {forking : Forking} {slot : Slot} {start count : Expr} {body x : Stmt} → s.form ≡ stmt_kind.Foreach forking slot start count body → x ≡ body →
    plain_stmt s ≡ statement s.place (made.foreach forking slot.number (plain_expr start) (plain_expr count) (plain_stmt x))
at_Foreach s {forking} {slot} {start} {count} {body} is same =
    of_shape s _ _ is (shape_Foreach forking slot start count body
    ∙ ap (λ z. made.foreach forking slot.number (plain_expr start) (plain_expr count) (plain_stmt z)) (sym same))

shape_ForeachParts : (part : Slot) (cut : PartSource) (count : Expr) (body : Stmt) →
    plain_shape (stmt_kind.ForeachParts part cut count body) ≡ made.foreach_parts part.number (plain_source cut) (plain_expr count) (plain_stmt body)
shape_ForeachParts part cut count body = search (rules, stmt_lemmas)

pub at_ForeachParts : (s : Stmt) {part : Slot} {cut : PartSource} {count : Expr} {body x : Stmt} → s.form ≡ stmt_kind.ForeachParts part cut count body → x ≡ body →
    plain_stmt s ≡ statement s.place (made.foreach_parts part.number (plain_source cut) (plain_expr count) (plain_stmt x))
at_ForeachParts s {part} {cut} {count} {body} is same =
    of_shape s _ _ is (shape_ForeachParts part cut count body
    ∙ ap (λ z. made.foreach_parts part.number (plain_source cut) (plain_expr count) (plain_stmt z)) (sym same))

shape_Declare : (slot : Slot) (ty : Ty) (is_final : Bool) (value : Expr) →
    plain_shape (stmt_kind.Declare slot ty is_final value) ≡ made.declare slot.number (plain_type ty) is_final (plain_expr value)
shape_Declare slot ty is_final value = search (rules, stmt_lemmas)

pub at_Declare : (s : Stmt) {slot : Slot} {ty : Ty} {is_final : Bool} {value : Expr} → s.form ≡ stmt_kind.Declare slot ty is_final value →
    plain_stmt s ≡ statement s.place (made.declare slot.number (plain_type ty) is_final (plain_expr value))
at_Declare s {slot} {ty} {is_final} {value} is = of_shape s _ _ is (shape_Declare slot ty is_final value)

shape_Store : (slot : Slot) (value : Expr) → plain_shape (stmt_kind.Store slot value) ≡ made.store slot.number (plain_expr value)
shape_Store slot value = search (rules, stmt_lemmas)

pub at_Store : (s : Stmt) {slot : Slot} {value : Expr} → s.form ≡ stmt_kind.Store slot value → plain_stmt s ≡ statement s.place (made.store slot.number (plain_expr value))
at_Store s {slot} {value} is = of_shape s _ _ is (shape_Store slot value)

shape_Perform : (value : Expr) → plain_shape (stmt_kind.Perform value) ≡ made.perform (plain_expr value)
shape_Perform value = search (rules, stmt_lemmas)

pub at_Perform : (s : Stmt) {value : Expr} → s.form ≡ stmt_kind.Perform value → plain_stmt s ≡ statement s.place (made.perform (plain_expr value))
at_Perform s {value} is = of_shape s _ _ is (shape_Perform value)

shape_Return : (value : Option Expr) → plain_shape (stmt_kind.Return value) ≡ return_form value
shape_Return value = search (rules, stmt_lemmas)

pub at_Return : (s : Stmt) {value x : Option Expr} → s.form ≡ stmt_kind.Return value → x ≡ value → plain_stmt s ≡ statement s.place (return_form x)
at_Return s {value} is same = of_shape s _ _ is (shape_Return value ∙ ap return_form (sym same))

shape_PrintInt : (value : Expr) → plain_shape (stmt_kind.PrintInt value) ≡ made.print_int (plain_expr value)
shape_PrintInt value = search (rules, stmt_lemmas)

pub at_PrintInt : (s : Stmt) {value : Expr} → s.form ≡ stmt_kind.PrintInt value → plain_stmt s ≡ statement s.place (made.print_int (plain_expr value))
at_PrintInt s {value} is = of_shape s _ _ is (shape_PrintInt value)

shape_PrintBool : (value : Expr) → plain_shape (stmt_kind.PrintBool value) ≡ made.print_boolean (plain_expr value)
shape_PrintBool value = search (rules, stmt_lemmas)

pub at_PrintBool : (s : Stmt) {value : Expr} → s.form ≡ stmt_kind.PrintBool value → plain_stmt s ≡ statement s.place (made.print_boolean (plain_expr value))
at_PrintBool s {value} is = of_shape s _ _ is (shape_PrintBool value)

pub type_is : (e : Expr) → type_of (plain_expr e) ≡ plain_type e.ty
type_is e = ap type_of (plain_node e)
