-- The forms of the code's expressions and statements.
use Rattle.std.proofs.Common.{◌≡◌, ◌∙◌, ℕ, suc, ℤ, Bool, List, [], ◌∷◌, Option, Some, None, map, option_map, length, refl, ap, rules}
use Rattle.lang_base.specs.declared.effect.Effect.{Effect}
use Rattle.lang_base.specs.declared.region.Rpl.{Rpl}
use Rattle.lang_base.specs.declared.ty.Ty.{Ty}
use Rattle.lang_base.specs.Types.{plain_type}
use Rattle.lang_base.specs.declared.op.UnaryOp.{UnaryOp}
use Rattle.lang_base.specs.declared.op.BinaryOp.{BinaryOp}
use Rattle.lang_typed.specs.declared.expr.Expr.{Expr}
use Rattle.lang_typed.specs.declared.expr.ExprForm.{ExprForm, fold-ExprForm, the_lemmas}
use Rattle.lang_typed.specs.declared.expr.ExprForm.TheVariants as kind
use Rattle.lang_typed.specs.declared.stmt.Branch.{Branch}
use Rattle.lang_typed.specs.declared.stmt.Forking.{Forking}
use Rattle.lang_typed.specs.declared.stmt.Stmt.{Stmt}
use Rattle.lang_typed.specs.declared.stmt.StmtForm.{StmtForm, fold-StmtForm}
use Rattle.lang_typed.specs.declared.stmt.StmtForm.{the_lemmas as stmt_lemmas}
use Rattle.lang_typed.specs.declared.stmt.StmtForm.TheVariants as stmt_kind
use Rattle.lang_typed.specs.declared.ids.ClassId.{ClassId}
use Rattle.lang_typed.specs.declared.ids.FieldSlot.{FieldSlot}
use Rattle.lang_typed.specs.declared.ids.Row.{Row}
use Rattle.lang_typed.specs.declared.ids.Slot.{Slot}
use Rattle.lang_typed.specs.declared.ids.LocalRegion.{LocalRegion}
use Rattle.lang_typed.specs.declared.stmt.PartSource.{PartSource}
use Rattle.lang_typed.specs.declared.stmt.PartSource.TheVariants as source
use Rattle.lang_typed.specs.Plain.{choice_form, of_array, of_part, plain_source}
use Rattle.lang_typed.specs.Plain.{TypedExpr, typed, type_of, plain_expr, exprs_of, expr_form, expr_node, TypedStmt, TypedBranch, statement, plain_stmt, stmts_of, branches_of, stmt_form, branch_node, stmt_node}
use Rattle.lang_typed.specs.Plain.{StmtForm as made}
use Rattle.lang_typed.specs.Plain.{ExprForm as form}
use Rattle.exec_walker.specs.Agenda.{count}
use Rattle.exec_walker.specs.States.{plain_branch}

abbrev pub plain_form : ExprForm → form
plain_form = fold-ExprForm form TypedExpr expr_form expr_node

pub plain_node : (e : Expr) → plain_expr e ≡ typed e.place (plain_type e.ty) (plain_form e.form)
plain_node e = search (rules, the_lemmas)

of_form : (e : Expr) (k : ExprForm) (f : form) → e.form ≡ k → plain_form k ≡ f → plain_expr e ≡ typed e.place (plain_type e.ty) f
of_form e k f is same = plain_node e ∙ ap (λ g. typed e.place (plain_type e.ty) g) (ap plain_form is ∙ same)

form_Field : (of : Expr) (class : ClassId) (f : FieldSlot) → plain_form (kind.Field of class f) ≡ form.field (plain_expr of) class.number f.number
form_Field of class f = search (rules, the_lemmas)

form_Element : (array index : Expr) → plain_form (kind.Element array index) ≡ form.element (plain_expr array) (plain_expr index)
form_Element array index = search (rules, the_lemmas)

form_Length : (array : Expr) → plain_form (kind.Length array) ≡ form.array_length (plain_expr array)
form_Length array = search (rules, the_lemmas)

form_Call : (of : Expr) (class : ClassId) (row : Row) (regions : List Rpl) (actuals : List Expr) →
    plain_form (kind.Call of class row regions actuals) ≡ form.call (plain_expr of) class.number row.number regions (exprs_of (map plain_expr actuals))
form_Call of class row regions actuals = search (rules, the_lemmas)

form_New : (actuals : List Expr) → plain_form (kind.New actuals) ≡ form.create (exprs_of (map plain_expr actuals))
form_New actuals = search (rules, the_lemmas)

form_NewArray : (len : Expr) → plain_form (kind.NewArray len) ≡ form.create_array (plain_expr len)
form_NewArray len = search (rules, the_lemmas)

form_Unary : (op : UnaryOp) (arg : Expr) → plain_form (kind.Unary op arg) ≡ form.unary op (plain_expr arg)
form_Unary op arg = search (rules, the_lemmas)

form_Binary : (op : BinaryOp) (left right : Expr) → plain_form (kind.Binary op left right) ≡ form.binary op (plain_expr left) (plain_expr right)
form_Binary op left right = search (rules, the_lemmas)

form_And : (left right : Expr) → plain_form (kind.And left right) ≡ form.both (plain_expr left) (plain_expr right)
form_And left right = search (rules, the_lemmas)

form_Or : (left right : Expr) → plain_form (kind.Or left right) ≡ form.either (plain_expr left) (plain_expr right)
form_Or left right = search (rules, the_lemmas)

form_PartElement : (part : Slot) (index : Expr) → plain_form (kind.PartElement part index) ≡ form.part_element part.number (plain_expr index)
form_PartElement part index = search (rules, the_lemmas)

abbrev pub shaped : Expr → form → TypedExpr
shaped e f = typed e.place (plain_type e.ty) f

pub at_Field : (e of : Expr) (class : ClassId) (f : FieldSlot) → e.form ≡ kind.Field of class f →
    plain_expr e ≡ shaped e (form.field (plain_expr of) class.number f.number)
at_Field e of class f is = of_form e _ _ is (form_Field of class f)

pub at_Element : (e array index : Expr) → e.form ≡ kind.Element array index → plain_expr e ≡ shaped e (form.element (plain_expr array) (plain_expr index))
at_Element e array index is = of_form e _ _ is (form_Element array index)

pub at_Length : (e array : Expr) → e.form ≡ kind.Length array → plain_expr e ≡ shaped e (form.array_length (plain_expr array))
at_Length e array is = of_form e _ _ is (form_Length array)

pub at_Call : (e of : Expr) (class : ClassId) (row : Row) (regions : List Rpl) (actuals : List Expr) → e.form ≡ kind.Call of class row regions actuals →
    plain_expr e ≡ shaped e (form.call (plain_expr of) class.number row.number regions (exprs_of (map plain_expr actuals)))
at_Call e of class row regions actuals is = of_form e _ _ is (form_Call of class row regions actuals)

pub at_New : (e : Expr) (actuals : List Expr) → e.form ≡ kind.New actuals → plain_expr e ≡ shaped e (form.create (exprs_of (map plain_expr actuals)))
at_New e actuals is = of_form e _ _ is (form_New actuals)

pub at_NewArray : (e len : Expr) → e.form ≡ kind.NewArray len → plain_expr e ≡ shaped e (form.create_array (plain_expr len))
at_NewArray e len is = of_form e _ _ is (form_NewArray len)

pub at_Unary : (e : Expr) (op : UnaryOp) (arg : Expr) → e.form ≡ kind.Unary op arg → plain_expr e ≡ shaped e (form.unary op (plain_expr arg))
at_Unary e op arg is = of_form e _ _ is (form_Unary op arg)

pub at_Binary : (e : Expr) (op : BinaryOp) (left right : Expr) → e.form ≡ kind.Binary op left right →
    plain_expr e ≡ shaped e (form.binary op (plain_expr left) (plain_expr right))
at_Binary e op left right is = of_form e _ _ is (form_Binary op left right)

pub at_And : (e left right : Expr) → e.form ≡ kind.And left right → plain_expr e ≡ shaped e (form.both (plain_expr left) (plain_expr right))
at_And e left right is = of_form e _ _ is (form_And left right)

pub at_Or : (e left right : Expr) → e.form ≡ kind.Or left right → plain_expr e ≡ shaped e (form.either (plain_expr left) (plain_expr right))
at_Or e left right is = of_form e _ _ is (form_Or left right)

pub at_PartElement : (e : Expr) (part : Slot) (index : Expr) → e.form ≡ kind.PartElement part index →
    plain_expr e ≡ shaped e (form.part_element part.number (plain_expr index))
at_PartElement e part index is = of_form e _ _ is (form_PartElement part index)

abbrev pub plain_shape : StmtForm → made
plain_shape = fold-StmtForm made TypedBranch TypedStmt stmt_form branch_node stmt_node

pub plain_statement : (s : Stmt) → plain_stmt s ≡ statement s.place (plain_shape s.form)
plain_statement s = search (rules, stmt_lemmas)

of_shape : (s : Stmt) (k : StmtForm) (f : made) → s.form ≡ k → plain_shape k ≡ f → plain_stmt s ≡ statement s.place f
of_shape s k f is same = plain_statement s ∙ ap (λ g. statement s.place g) (ap plain_shape is ∙ same)

shape_StoreField : (of : Expr) (class : ClassId) (f : FieldSlot) (value : Expr) →
    plain_shape (stmt_kind.StoreField of class f value) ≡ made.store_field (plain_expr of) class.number f.number (plain_expr value)
shape_StoreField of class f value = search (rules, stmt_lemmas)

pub at_StoreField : (s : Stmt) (of : Expr) (class : ClassId) (f : FieldSlot) (value : Expr) → s.form ≡ stmt_kind.StoreField of class f value →
    plain_stmt s ≡ statement s.place (made.store_field (plain_expr of) class.number f.number (plain_expr value))
at_StoreField s of class f value is = of_shape s _ _ is (shape_StoreField of class f value)

shape_StoreElement : (array index value : Expr) →
    plain_shape (stmt_kind.StoreElement array index value) ≡ made.store_element (plain_expr array) (plain_expr index) (plain_expr value)
shape_StoreElement array index value = search (rules, stmt_lemmas)

pub at_StoreElement : (s : Stmt) (array index value : Expr) → s.form ≡ stmt_kind.StoreElement array index value →
    plain_stmt s ≡ statement s.place (made.store_element (plain_expr array) (plain_expr index) (plain_expr value))
at_StoreElement s array index value is = of_shape s _ _ is (shape_StoreElement array index value)

shape_StorePart : (part : Slot) (index value : Expr) →
    plain_shape (stmt_kind.StorePart part index value) ≡ made.store_part part.number (plain_expr index) (plain_expr value)
shape_StorePart part index value = search (rules, stmt_lemmas)

pub at_StorePart : (s : Stmt) (part : Slot) (index value : Expr) → s.form ≡ stmt_kind.StorePart part index value →
    plain_stmt s ≡ statement s.place (made.store_part part.number (plain_expr index) (plain_expr value))
at_StorePart s part index value is = of_shape s _ _ is (shape_StorePart part index value)

shape_If : (test : Expr) (body : Stmt) → plain_shape (stmt_kind.If test body None) ≡ made.choice (plain_expr test) (plain_stmt body)
shape_If test body = search (rules, stmt_lemmas)

pub at_If : (s : Stmt) (test : Expr) (body : Stmt) → s.form ≡ stmt_kind.If test body None →
    plain_stmt s ≡ statement s.place (made.choice (plain_expr test) (plain_stmt body))
at_If s test body is = of_shape s _ _ is (shape_If test body)

shape_IfElse : (test : Expr) (body other : Stmt) →
    plain_shape (stmt_kind.If test body (Some other)) ≡ made.choice_else (plain_expr test) (plain_stmt body) (plain_stmt other)
shape_IfElse test body other = search (rules, stmt_lemmas)

pub at_IfElse : (s : Stmt) (test : Expr) (body other : Stmt) → s.form ≡ stmt_kind.If test body (Some other) →
    plain_stmt s ≡ statement s.place (made.choice_else (plain_expr test) (plain_stmt body) (plain_stmt other))
at_IfElse s test body other is = of_shape s _ _ is (shape_IfElse test body other)

shape_While : (test : Expr) (body : Stmt) → plain_shape (stmt_kind.While test body) ≡ made.while_loop (plain_expr test) (plain_stmt body)
shape_While test body = search (rules, stmt_lemmas)

pub at_While : (s : Stmt) (test : Expr) (body : Stmt) → s.form ≡ stmt_kind.While test body →
    plain_stmt s ≡ statement s.place (made.while_loop (plain_expr test) (plain_stmt body))
at_While s test body is = of_shape s _ _ is (shape_While test body)

shape_Atomic : (effects : List Effect) (body : List Stmt) → plain_shape (stmt_kind.Atomic effects body) ≡ made.atomic effects (stmts_of (map plain_stmt body))
shape_Atomic effects body = search (rules, stmt_lemmas)

pub at_Atomic : (s : Stmt) (effects : List Effect) (body : List Stmt) → s.form ≡ stmt_kind.Atomic effects body →
    plain_stmt s ≡ statement s.place (made.atomic effects (stmts_of (map plain_stmt body)))
at_Atomic s effects body is = of_shape s _ _ is (shape_Atomic effects body)

shape_Cobegin : (forking : Forking) (branches : List Branch) →
    plain_shape (stmt_kind.Cobegin forking branches) ≡ made.cobegin forking (branches_of (map plain_branch branches))
shape_Cobegin forking branches = search (rules, stmt_lemmas)

pub at_Cobegin : (s : Stmt) (forking : Forking) (branches : List Branch) → s.form ≡ stmt_kind.Cobegin forking branches →
    plain_stmt s ≡ statement s.place (made.cobegin forking (branches_of (map plain_branch branches)))
at_Cobegin s forking branches is = of_shape s _ _ is (shape_Cobegin forking branches)

shape_Foreach : (forking : Forking) (slot : Slot) (start count : Expr) (body : Stmt) →
    plain_shape (stmt_kind.Foreach forking slot start count body) ≡ made.foreach forking slot.number (plain_expr start) (plain_expr count) (plain_stmt body)
shape_Foreach forking slot start count body = search (rules, stmt_lemmas)

pub at_Foreach : (s : Stmt) (forking : Forking) (slot : Slot) (start count : Expr) (body : Stmt) → s.form ≡ stmt_kind.Foreach forking slot start count body →
    plain_stmt s ≡ statement s.place (made.foreach forking slot.number (plain_expr start) (plain_expr count) (plain_stmt body))
at_Foreach s forking slot start count body is = of_shape s _ _ is (shape_Foreach forking slot start count body)

shape_Declare : (slot : Slot) (ty : Ty) (is_final : Bool) (value : Expr) →
    plain_shape (stmt_kind.Declare slot ty is_final value) ≡ made.declare slot.number (plain_type ty) is_final (plain_expr value)
shape_Declare slot ty is_final value = search (rules, stmt_lemmas)

pub at_Declare : (s : Stmt) (slot : Slot) (ty : Ty) (is_final : Bool) (value : Expr) → s.form ≡ stmt_kind.Declare slot ty is_final value →
    plain_stmt s ≡ statement s.place (made.declare slot.number (plain_type ty) is_final (plain_expr value))
at_Declare s slot ty is_final value is = of_shape s _ _ is (shape_Declare slot ty is_final value)

shape_Store : (slot : Slot) (value : Expr) → plain_shape (stmt_kind.Store slot value) ≡ made.store slot.number (plain_expr value)
shape_Store slot value = search (rules, stmt_lemmas)

pub at_Store : (s : Stmt) (slot : Slot) (value : Expr) → s.form ≡ stmt_kind.Store slot value → plain_stmt s ≡ statement s.place (made.store slot.number (plain_expr value))
at_Store s slot value is = of_shape s _ _ is (shape_Store slot value)

shape_Perform : (value : Expr) → plain_shape (stmt_kind.Perform value) ≡ made.perform (plain_expr value)
shape_Perform value = search (rules, stmt_lemmas)

pub at_Perform : (s : Stmt) (value : Expr) → s.form ≡ stmt_kind.Perform value → plain_stmt s ≡ statement s.place (made.perform (plain_expr value))
at_Perform s value is = of_shape s _ _ is (shape_Perform value)

shape_Return : (value : Expr) → plain_shape (stmt_kind.Return (Some value)) ≡ made.return_value (plain_expr value)
shape_Return value = search (rules, stmt_lemmas)

pub at_Return : (s : Stmt) (value : Expr) → s.form ≡ stmt_kind.Return (Some value) → plain_stmt s ≡ statement s.place (made.return_value (plain_expr value))
at_Return s value is = of_shape s _ _ is (shape_Return value)

shape_PrintInt : (value : Expr) → plain_shape (stmt_kind.PrintInt value) ≡ made.print_int (plain_expr value)
shape_PrintInt value = search (rules, stmt_lemmas)

pub at_PrintInt : (s : Stmt) (value : Expr) → s.form ≡ stmt_kind.PrintInt value → plain_stmt s ≡ statement s.place (made.print_int (plain_expr value))
at_PrintInt s value is = of_shape s _ _ is (shape_PrintInt value)

shape_PrintBool : (value : Expr) → plain_shape (stmt_kind.PrintBool value) ≡ made.print_boolean (plain_expr value)
shape_PrintBool value = search (rules, stmt_lemmas)

pub at_PrintBool : (s : Stmt) (value : Expr) → s.form ≡ stmt_kind.PrintBool value → plain_stmt s ≡ statement s.place (made.print_boolean (plain_expr value))
at_PrintBool s value is = of_shape s _ _ is (shape_PrintBool value)

pub type_is : (e : Expr) → type_of (plain_expr e) ≡ plain_type e.ty
type_is e = ap type_of (plain_node e)

form_Int : (n : ℤ) → plain_form (kind.Int n) ≡ form.int n
form_Int n = search (rules, the_lemmas)

pub at_Int : (e : Expr) (n : ℤ) → e.form ≡ kind.Int n → plain_expr e ≡ shaped e (form.int n)
at_Int e n is = of_form e _ _ is (form_Int n)

form_Bool : (b : Bool) → plain_form (kind.Bool b) ≡ form.boolean b
form_Bool b = search (rules, the_lemmas)

pub at_Bool : (e : Expr) (b : Bool) → e.form ≡ kind.Bool b → plain_expr e ≡ shaped e (form.boolean b)
at_Bool e b is = of_form e _ _ is (form_Bool b)

form_Null : plain_form kind.Null ≡ form.null
form_Null = search (rules, the_lemmas)

pub at_Null : (e : Expr) → e.form ≡ kind.Null → plain_expr e ≡ shaped e form.null
at_Null e is = of_form e _ _ is form_Null

form_Local : (x : Slot) → plain_form (kind.Local x) ≡ form.local x.number
form_Local x = search (rules, the_lemmas)

pub at_Local : (e : Expr) (x : Slot) → e.form ≡ kind.Local x → plain_expr e ≡ shaped e (form.local x.number)
at_Local e x is = of_form e _ _ is (form_Local x)

form_PartLength : (part : Slot) → plain_form (kind.PartLength part) ≡ form.part_length part.number
form_PartLength part = search (rules, the_lemmas)

pub at_PartLength : (e : Expr) (part : Slot) → e.form ≡ kind.PartLength part → plain_expr e ≡ shaped e (form.part_length part.number)
at_PartLength e part is = of_form e _ _ is (form_PartLength part)

shape_Block : (body : List Stmt) → plain_shape (stmt_kind.Block body) ≡ made.block (stmts_of (map plain_stmt body))
shape_Block body = search (rules, stmt_lemmas)

pub at_Block : (s : Stmt) (body : List Stmt) → s.form ≡ stmt_kind.Block body → plain_stmt s ≡ statement s.place (made.block (stmts_of (map plain_stmt body)))
at_Block s body is = of_shape s _ _ is (shape_Block body)

shape_ReturnNothing : plain_shape (stmt_kind.Return None) ≡ made.return_nothing
shape_ReturnNothing = search (rules, stmt_lemmas)

pub at_ReturnNothing : (s : Stmt) → s.form ≡ stmt_kind.Return None → plain_stmt s ≡ statement s.place made.return_nothing
at_ReturnNothing s is = of_shape s _ _ is shape_ReturnNothing

shape_PrintText : (text : List ℕ) → plain_shape (stmt_kind.PrintText text) ≡ made.print_text text
shape_PrintText text = search (rules, stmt_lemmas)

pub at_PrintText : (s : Stmt) (text : List ℕ) → s.form ≡ stmt_kind.PrintText text → plain_stmt s ≡ statement s.place (made.print_text text)
at_PrintText s text is = of_shape s _ _ is (shape_PrintText text)

shape_Regions : (rs : List LocalRegion) → plain_shape (stmt_kind.Regions rs) ≡ made.local_regions (map (λ region. region.number) rs)
shape_Regions rs = search (rules, stmt_lemmas)

pub at_Regions : (s : Stmt) (rs : List LocalRegion) → s.form ≡ stmt_kind.Regions rs → plain_stmt s ≡ statement s.place (made.local_regions (map (λ region. region.number) rs))
at_Regions s rs is = of_shape s _ _ is (shape_Regions rs)

shape_PartsOfArray : (part : Slot) (array count : Expr) (body : Stmt) →
    plain_shape (stmt_kind.ForeachParts part (source.Array array) count body) ≡ made.foreach_parts part.number (of_array (plain_expr array)) (plain_expr count) (plain_stmt body)
shape_PartsOfArray part array count body = search (rules, stmt_lemmas)

pub at_PartsOfArray : (s : Stmt) (part : Slot) (array count : Expr) (body : Stmt) → s.form ≡ stmt_kind.ForeachParts part (source.Array array) count body →
    plain_stmt s ≡ statement s.place (made.foreach_parts part.number (of_array (plain_expr array)) (plain_expr count) (plain_stmt body))
at_PartsOfArray s part array count body is = of_shape s _ _ is (shape_PartsOfArray part array count body)

shape_PartsOfPart : (part whole : Slot) (count : Expr) (body : Stmt) →
    plain_shape (stmt_kind.ForeachParts part (source.Part whole) count body) ≡ made.foreach_parts part.number (of_part whole.number) (plain_expr count) (plain_stmt body)
shape_PartsOfPart part whole count body = search (rules, stmt_lemmas)

pub at_PartsOfPart : (s : Stmt) (part whole : Slot) (count : Expr) (body : Stmt) → s.form ≡ stmt_kind.ForeachParts part (source.Part whole) count body →
    plain_stmt s ≡ statement s.place (made.foreach_parts part.number (of_part whole.number) (plain_expr count) (plain_stmt body))
at_PartsOfPart s part whole count body is = of_shape s _ _ is (shape_PartsOfPart part whole count body)

pub at_Parts : (s : Stmt) (part : Slot) (from : PartSource) (many : Expr) (body : Stmt) → s.form ≡ stmt_kind.ForeachParts part from many body →
    plain_stmt s ≡ statement s.place (made.foreach_parts part.number (plain_source from) (plain_expr many) (plain_stmt body))
at_Parts s part (source.Array array) many body is = at_PartsOfArray s part array many body is
at_Parts s part (source.Part whole) many body is = at_PartsOfPart s part whole many body is

pub at_Choice : (s : Stmt) (e : Expr) (body : Stmt) (other : Option Stmt) → s.form ≡ stmt_kind.If e body other →
    plain_stmt s ≡ statement s.place (choice_form (plain_expr e) (plain_stmt body) (option_map plain_stmt other))
at_Choice s e body None is = at_If s e body is
at_Choice s e body (Some other) is = at_IfElse s e body other is

-- how many they are
pub count_exprs : (es : List Expr) → count (exprs_of (map plain_expr es)) ≡ length es
count_exprs [] = refl
count_exprs (e ∷ es) = ap (λ n. suc n) (count_exprs es)

pub ruleset forms = (at_Int, at_Bool, at_Null, at_Local, at_PartLength, at_Field, at_Element, at_Length, at_Call, at_New, at_NewArray, at_Unary, at_Binary, at_And, at_Or, at_PartElement)

pub ruleset shapes = (at_Declare, at_Store, at_StoreField, at_StoreElement, at_StorePart, at_Perform, at_Block, at_If, at_IfElse, at_While, at_ReturnNothing, at_Return, at_PrintInt, at_PrintBool, at_PrintText, at_Regions, at_Atomic, at_Cobegin, at_Foreach, at_PartsOfArray, at_PartsOfPart)
