-- Typed statements of the code, as the rules see them: one lemma for each form.
use Rattle.std.proofs.Common.{◌≡◌, ◌∙◌, ℕ, Bool, true, false, cond, List, Option, Some, None, option_map, map, sym, ap, rules}
use Rattle.lang_base.specs.declared.place.Place.{Place}
use Rattle.lang_base.specs.declared.effect.Effect.{Effect}
use Rattle.lang_base.specs.declared.ty.Ty.{Ty}
use Rattle.lang_base.specs.Types.{plain_type}
use Rattle.lang_typed.specs.declared.expr.Expr.{Expr}
use Rattle.lang_typed.specs.declared.stmt.Branch.{Branch}
use Rattle.lang_typed.specs.declared.stmt.Forking.{Forking}
use Rattle.lang_typed.specs.declared.stmt.PartSource.{PartSource}
use Rattle.lang_typed.specs.declared.stmt.Stmt.{Stmt}
use Rattle.lang_typed.specs.declared.stmt.StmtForm.{StmtForm, fold-StmtForm, the_lemmas}
use Rattle.lang_typed.specs.declared.stmt.StmtForm.TheVariants as kind
use Rattle.lang_typed.specs.declared.ids.ClassId.{ClassId}
use Rattle.lang_typed.specs.declared.ids.FieldSlot.{FieldSlot}
use Rattle.lang_typed.specs.declared.ids.LocalRegion.{LocalRegion}
use Rattle.lang_typed.specs.declared.ids.Slot.{Slot}
use Rattle.lang_typed.specs.Plain.{TypedExpr, plain_expr, TypedStmt, TypedBranch, statement, plain_stmt, plain_source, choice_form, stmts_of, branches_of, stmt_form, branch_node, stmt_node}
use Rattle.lang_typed.specs.Plain.{StmtForm as form}
use Rattle.body_exprs.specs.declared.assigned.Spot.{Spot}
use Rattle.body_exprs.specs.declared.assigned.Spot.TheVariants as spot
use Rattle.body_exprs.specs.Targeting.{plain_spot}
use Rattle.body_exprs.specs.Typed.{plain_node, is_boolean}
use Rattle.body_check.specs.Checking.{plain_branch}
use Rattle.body_check.specs.Simple.{printed_form, stored}
use Rattle.body_check.proofs.Nodes.{node_is}

abbrev pub plain_form : StmtForm → form
plain_form = fold-StmtForm form TypedBranch TypedStmt stmt_form branch_node stmt_node

pub at_form : (s : Stmt) → plain_stmt s ≡ statement s.place (plain_form s.form)
at_form s = search (rules, the_lemmas)

-- a statement of the code, as its place and its form
abbrev pub made : Place → StmtForm → Stmt
made place f = record { place = place; form = f }

of_form : (place : Place) (k : StmtForm) (f : form) → plain_form k ≡ f → plain_stmt (made place k) ≡ statement place f
of_form place k f is = at_form (made place k) ∙ ap (statement place) is

-- with the typed expression in its place
nodes : (f : TypedExpr → form) (e : Expr) → f (plain_expr e) ≡ f (plain_node e)
nodes f e = ap f (node_is e)

two_nodes : (f : TypedExpr → TypedExpr → form) (e d : Expr) → f (plain_expr e) (plain_expr d) ≡ f (plain_node e) (plain_node d)
two_nodes f e d = ap (λ (z : TypedExpr). f z (plain_expr d)) (node_is e) ∙ ap (f (plain_node e)) (node_is d)

form_Declare : (slot : Slot) (ty : Ty) (is_final : Bool) (value : Expr) →
    plain_form (kind.Declare slot ty is_final value) ≡ form.declare slot.number (plain_type ty) is_final (plain_expr value)
form_Declare slot ty is_final value = search (rules, the_lemmas)

pub made_Declare : (place : Place) (slot : Slot) (ty : Ty) (is_final : Bool) (value : Expr) →
    plain_stmt (made place (kind.Declare slot ty is_final value)) ≡ statement place (form.declare slot.number (plain_type ty) is_final (plain_node value))
made_Declare place slot ty is_final value =
    of_form place _ _ (form_Declare slot ty is_final value ∙ nodes (form.declare slot.number (plain_type ty) is_final) value)

form_Store : (slot : Slot) (value : Expr) → plain_form (kind.Store slot value) ≡ form.store slot.number (plain_expr value)
form_Store slot value = search (rules, the_lemmas)

pub made_Store : (place : Place) (slot : Slot) (value : Expr) →
    plain_stmt (made place (kind.Store slot value)) ≡ statement place (form.store slot.number (plain_node value))
made_Store place slot value = of_form place _ _ (form_Store slot value ∙ nodes (form.store slot.number) value)

form_StoreField : (of : Expr) (class : ClassId) (f : FieldSlot) (value : Expr) →
    plain_form (kind.StoreField of class f value) ≡ form.store_field (plain_expr of) class.number f.number (plain_expr value)
form_StoreField of class f value = search (rules, the_lemmas)

pub made_StoreField : (place : Place) (of : Expr) (class : ClassId) (f : FieldSlot) (value : Expr) →
    plain_stmt (made place (kind.StoreField of class f value)) ≡ statement place (form.store_field (plain_node of) class.number f.number (plain_node value))
made_StoreField place of class f value =
    of_form place _ _ (form_StoreField of class f value ∙ two_nodes (λ e d. form.store_field e class.number f.number d) of value)

form_StoreElement : (array index value : Expr) →
    plain_form (kind.StoreElement array index value) ≡ form.store_element (plain_expr array) (plain_expr index) (plain_expr value)
form_StoreElement array index value = search (rules, the_lemmas)

pub made_StoreElement : (place : Place) (array index value : Expr) →
    plain_stmt (made place (kind.StoreElement array index value))
    ≡ statement place (form.store_element (plain_node array) (plain_node index) (plain_node value))
made_StoreElement place array index value =
    of_form place _ _
    (form_StoreElement array index value ∙ two_nodes (λ e d. form.store_element e d (plain_expr value)) array index
    ∙ nodes (form.store_element (plain_node array) (plain_node index)) value)

form_StorePart : (part : Slot) (index value : Expr) →
    plain_form (kind.StorePart part index value) ≡ form.store_part part.number (plain_expr index) (plain_expr value)
form_StorePart part index value = search (rules, the_lemmas)

pub made_StorePart : (place : Place) (part : Slot) (index value : Expr) →
    plain_stmt (made place (kind.StorePart part index value)) ≡ statement place (form.store_part part.number (plain_node index) (plain_node value))
made_StorePart place part index value = of_form place _ _ (form_StorePart part index value ∙ two_nodes (form.store_part part.number) index value)

form_Perform : (value : Expr) → plain_form (kind.Perform value) ≡ form.perform (plain_expr value)
form_Perform value = search (rules, the_lemmas)

pub made_Perform : (place : Place) (value : Expr) → plain_stmt (made place (kind.Perform value)) ≡ statement place (form.perform (plain_node value))
made_Perform place value = of_form place _ _ (form_Perform value ∙ nodes form.perform value)

form_Block : (all : List Stmt) → plain_form (kind.Block all) ≡ form.block (stmts_of (map plain_stmt all))
form_Block all = search (rules, the_lemmas)

pub made_Block : (place : Place) (all : List Stmt) → plain_stmt (made place (kind.Block all)) ≡ statement place (form.block (stmts_of (map plain_stmt all)))
made_Block place all = of_form place _ _ (form_Block all)

form_If : (test : Expr) (part : Stmt) (other : Option Stmt) →
    plain_form (kind.If test part other) ≡ choice_form (plain_expr test) (plain_stmt part) (option_map plain_stmt other)
form_If test part None = search (rules, the_lemmas)
form_If test part (Some other) = search (rules, the_lemmas)

pub made_If : (place : Place) (test : Expr) (part : Stmt) (other : Option Stmt) →
    plain_stmt (made place (kind.If test part other)) ≡ statement place (choice_form (plain_node test) (plain_stmt part) (option_map plain_stmt other))
made_If place test part other =
    of_form place _ _ (form_If test part other ∙ nodes (λ e. choice_form e (plain_stmt part) (option_map plain_stmt other)) test)

form_While : (test : Expr) (body : Stmt) → plain_form (kind.While test body) ≡ form.while_loop (plain_expr test) (plain_stmt body)
form_While test body = search (rules, the_lemmas)

pub made_While : (place : Place) (test : Expr) (body : Stmt) →
    plain_stmt (made place (kind.While test body)) ≡ statement place (form.while_loop (plain_node test) (plain_stmt body))
made_While place test body = of_form place _ _ (form_While test body ∙ nodes (λ e. form.while_loop e (plain_stmt body)) test)

form_Return_nothing : plain_form (kind.Return None) ≡ form.return_nothing
form_Return_nothing = search (rules, the_lemmas)

pub made_Return_nothing : (place : Place) → plain_stmt (made place (kind.Return None)) ≡ statement place form.return_nothing
made_Return_nothing place = of_form place _ _ form_Return_nothing

form_Return_value : (value : Expr) → plain_form (kind.Return (Some value)) ≡ form.return_value (plain_expr value)
form_Return_value value = search (rules, the_lemmas)

pub made_Return_value : (place : Place) (value : Expr) →
    plain_stmt (made place (kind.Return (Some value))) ≡ statement place (form.return_value (plain_node value))
made_Return_value place value = of_form place _ _ (form_Return_value value ∙ nodes form.return_value value)

form_PrintInt : (value : Expr) → plain_form (kind.PrintInt value) ≡ form.print_int (plain_expr value)
form_PrintInt value = search (rules, the_lemmas)

pub made_PrintInt : (place : Place) (value : Expr) → plain_stmt (made place (kind.PrintInt value)) ≡ statement place (form.print_int (plain_node value))
made_PrintInt place value = of_form place _ _ (form_PrintInt value ∙ nodes form.print_int value)

form_PrintBool : (value : Expr) → plain_form (kind.PrintBool value) ≡ form.print_boolean (plain_expr value)
form_PrintBool value = search (rules, the_lemmas)

pub made_PrintBool : (place : Place) (value : Expr) → plain_stmt (made place (kind.PrintBool value)) ≡ statement place (form.print_boolean (plain_node value))
made_PrintBool place value = of_form place _ _ (form_PrintBool value ∙ nodes form.print_boolean value)

form_PrintText : (text : List ℕ) → plain_form (kind.PrintText text) ≡ form.print_text text
form_PrintText text = search (rules, the_lemmas)

pub made_PrintText : (place : Place) (text : List ℕ) → plain_stmt (made place (kind.PrintText text)) ≡ statement place (form.print_text text)
made_PrintText place text = of_form place _ _ (form_PrintText text)

form_Regions : (regions : List LocalRegion) → plain_form (kind.Regions regions) ≡ form.local_regions (map (λ region. region.number) regions)
form_Regions regions = search (rules, the_lemmas)

pub made_Regions : (place : Place) (regions : List LocalRegion) →
    plain_stmt (made place (kind.Regions regions)) ≡ statement place (form.local_regions (map (λ region. region.number) regions))
made_Regions place regions = of_form place _ _ (form_Regions regions)

form_Atomic : (effects : List Effect) (body : List Stmt) → plain_form (kind.Atomic effects body) ≡ form.atomic effects (stmts_of (map plain_stmt body))
form_Atomic effects body = search (rules, the_lemmas)

pub made_Atomic : (place : Place) (effects : List Effect) (body : List Stmt) →
    plain_stmt (made place (kind.Atomic effects body)) ≡ statement place (form.atomic effects (stmts_of (map plain_stmt body)))
made_Atomic place effects body = of_form place _ _ (form_Atomic effects body)

form_Cobegin : (forking : Forking) (branches : List Branch) →
    plain_form (kind.Cobegin forking branches) ≡ form.cobegin forking (branches_of (map plain_branch branches))
form_Cobegin forking branches = search (rules, the_lemmas)

pub made_Cobegin : (place : Place) (forking : Forking) (branches : List Branch) →
    plain_stmt (made place (kind.Cobegin forking branches)) ≡ statement place (form.cobegin forking (branches_of (map plain_branch branches)))
made_Cobegin place forking branches = of_form place _ _ (form_Cobegin forking branches)

form_Foreach : (forking : Forking) (slot : Slot) (start count : Expr) (body : Stmt) →
    plain_form (kind.Foreach forking slot start count body) ≡ form.foreach forking slot.number (plain_expr start) (plain_expr count) (plain_stmt body)
form_Foreach forking slot start count body = search (rules, the_lemmas)

pub made_Foreach : (place : Place) (forking : Forking) (slot : Slot) (start count : Expr) (body : Stmt) →
    plain_stmt (made place (kind.Foreach forking slot start count body))
    ≡ statement place (form.foreach forking slot.number (plain_node start) (plain_node count) (plain_stmt body))
made_Foreach place forking slot start count body =
    of_form place _ _
    (form_Foreach forking slot start count body ∙ two_nodes (λ e d. form.foreach forking slot.number e d (plain_stmt body)) start count)

form_ForeachParts : (part : Slot) (source : PartSource) (count : Expr) (body : Stmt) →
    plain_form (kind.ForeachParts part source count body) ≡ form.foreach_parts part.number (plain_source source) (plain_expr count) (plain_stmt body)
form_ForeachParts part source count body = search (rules, the_lemmas)

pub made_ForeachParts : (place : Place) (part : Slot) (source : PartSource) (count : Expr) (body : Stmt) →
    plain_stmt (made place (kind.ForeachParts part source count body))
    ≡ statement place (form.foreach_parts part.number (plain_source source) (plain_node count) (plain_stmt body))
made_ForeachParts place part source count body =
    of_form place _ _
    (form_ForeachParts part source count body ∙ nodes (λ e. form.foreach_parts part.number (plain_source source) e (plain_stmt body)) count)

-- what is printed, and where a value goes
pub printed_boolean : (place : Place) (value : Expr) → is_boolean (plain_type value.ty) ≡ true →
    plain_stmt (made place (kind.PrintBool value)) ≡ statement place (printed_form (plain_node value))
printed_boolean place value is =
    made_PrintBool place value
    ∙ ap (λ (z : Bool). statement place (cond z (form.print_boolean (plain_node value)) (form.print_int (plain_node value)))) (sym is)

pub printed_int : (place : Place) (value : Expr) → is_boolean (plain_type value.ty) ≡ false →
    plain_stmt (made place (kind.PrintInt value)) ≡ statement place (printed_form (plain_node value))
printed_int place value is =
    made_PrintInt place value
    ∙ ap (λ (z : Bool). statement place (cond z (form.print_boolean (plain_node value)) (form.print_int (plain_node value)))) (sym is)

abbrev to_spot : Place → Expr → Spot → TypedStmt
to_spot place value at = statement place (stored (plain_spot at) (plain_node value))

pub stored_field : (place : Place) (at : Spot) (of : Expr) (class : ClassId) (f : FieldSlot) (value : Expr) → at ≡ spot.Field of class f →
    plain_stmt (made place (kind.StoreField of class f value)) ≡ statement place (stored (plain_spot at) (plain_node value))
stored_field place at of class f value is = made_StoreField place of class f value ∙ ap (to_spot place value) (sym is)

pub stored_element : (place : Place) (at : Spot) (array index value : Expr) → at ≡ spot.Element array index →
    plain_stmt (made place (kind.StoreElement array index value)) ≡ statement place (stored (plain_spot at) (plain_node value))
stored_element place at array index value is = made_StoreElement place array index value ∙ ap (to_spot place value) (sym is)

pub stored_part : (place : Place) (at : Spot) (part : Slot) (index value : Expr) → at ≡ spot.Part part index →
    plain_stmt (made place (kind.StorePart part index value)) ≡ statement place (stored (plain_spot at) (plain_node value))
stored_part place at part index value is = made_StorePart place part index value ∙ ap (to_spot place value) (sym is)
