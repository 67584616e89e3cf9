-- Typed expressions of the code, one level of each.
use Rattle.std.proofs.Common.{◌≡◌, ◌∙◌, ℕ, ℤ, Bool, List, [], ◌∷◌, ◌++◌, map, ap, refl, sym, rules, Result, Ok}
use Rattle.lang_base.specs.declared.place.Place.{Place}
use Rattle.lang_base.specs.declared.region.Rpl.{Rpl}
use Rattle.lang_base.specs.declared.ty.Ty.{Ty}
use Rattle.lang_base.specs.Types.{PlainType, plain_type}
use Rattle.lang_base.specs.declared.op.BinaryOp.{BinaryOp}
use Rattle.lang_typed.specs.declared.expr.Expr.{Expr}
use Rattle.lang_typed.specs.declared.expr.ExprForm.{ExprForm, the_lemmas}
use Rattle.lang_typed.specs.declared.expr.ExprForm.TheVariants as kind
use Rattle.lang_base.specs.declared.op.UnaryOp.{UnaryOp}
use Rattle.lang_typed.specs.declared.ids.ClassId.{ClassId}
use Rattle.lang_typed.specs.declared.ids.FieldSlot.{FieldSlot}
use Rattle.lang_typed.specs.declared.ids.Row.{Row}
use Rattle.lang_typed.specs.declared.ids.Slot.{Slot}
use Rattle.lang_typed.specs.Plain.{TypedExpr, typed, more_exprs, exprs_of, plain_expr}
use Rattle.lang_typed.specs.Plain.{ExprForm as form}
use Rattle.lang_base.specs.declared.refusal.Refusal.{Refusal}
use Rattle.body_exprs.specs.Typing.{created}
use Rattle.body_exprs.specs.declared.typed.Typed.{Typed}
use Rattle.body_exprs.specs.Typed.{plain_form, plain_node, plain_typed, type_in, value_type, node_at, nodes_at}

pub plain_expr-node : (e : Expr) → plain_expr e ≡ plain_node e
plain_expr-node e = search (rules, the_lemmas)

pub plain_form-Int : (k : ℤ) → plain_form (kind.Int k) ≡ form.int k
plain_form-Int k = search (rules, the_lemmas)

pub plain_form-Bool : (b : Bool) → plain_form (kind.Bool b) ≡ form.boolean b
plain_form-Bool b = search (rules, the_lemmas)

pub plain_form-Null : plain_form kind.Null ≡ form.null
plain_form-Null = search (rules, the_lemmas)

pub plain_form-Local : (slot : Slot) → plain_form (kind.Local slot) ≡ form.local slot.number
plain_form-Local slot = search (rules, the_lemmas)

field_step : (of : Expr) (class : ClassId) (slot : FieldSlot) → plain_form (kind.Field of class slot) ≡ form.field (plain_expr of) class.number slot.number
field_step of class slot = search (rules, the_lemmas)

pub plain_form-Field : (of : Expr) (class : ClassId) (slot : FieldSlot) → plain_form (kind.Field of class slot) ≡ form.field (plain_node of) class.number slot.number
plain_form-Field of class slot = field_step of class slot ∙ ap (λ (z : TypedExpr). form.field z class.number slot.number) (plain_expr-node of)

element_step : (array at : Expr) → plain_form (kind.Element array at) ≡ form.element (plain_expr array) (plain_expr at)
element_step array at = search (rules, the_lemmas)

pub plain_form-Element : (array at : Expr) → plain_form (kind.Element array at) ≡ form.element (plain_node array) (plain_node at)
plain_form-Element array at =
    element_step array at ∙ ap (λ (z : TypedExpr). form.element z (plain_expr at)) (plain_expr-node array) ∙ ap (form.element (plain_node array)) (plain_expr-node at)

length_step : (array : Expr) → plain_form (kind.Length array) ≡ form.array_length (plain_expr array)
length_step array = search (rules, the_lemmas)

pub plain_form-Length : (array : Expr) → plain_form (kind.Length array) ≡ form.array_length (plain_node array)
plain_form-Length array = length_step array ∙ ap form.array_length (plain_expr-node array)

pub plain_form-PartLength : (part : Slot) → plain_form (kind.PartLength part) ≡ form.part_length part.number
plain_form-PartLength part = search (rules, the_lemmas)

part_step : (part : Slot) (at : Expr) → plain_form (kind.PartElement part at) ≡ form.part_element part.number (plain_expr at)
part_step part at = search (rules, the_lemmas)

pub plain_form-PartElement : (part : Slot) (at : Expr) → plain_form (kind.PartElement part at) ≡ form.part_element part.number (plain_node at)
plain_form-PartElement part at = part_step part at ∙ ap (form.part_element part.number) (plain_expr-node at)

same_nodes : (es : List Expr) → exprs_of (map plain_expr es) ≡ exprs_of (map plain_node es)
same_nodes [] = refl
same_nodes (e ∷ es) = ap (λ (z : TypedExpr). more_exprs z (exprs_of (map plain_expr es))) (plain_expr-node e) ∙ ap (more_exprs (plain_node e)) (same_nodes es)

call_step : (of : Expr) (class : ClassId) (row : Row) (regions : List Rpl) (actuals : List Expr) →
    plain_form (kind.Call of class row regions actuals) ≡ form.call (plain_expr of) class.number row.number regions (exprs_of (map plain_expr actuals))
call_step of class row regions actuals = search (rules, the_lemmas)

pub plain_form-Call : (of : Expr) (class : ClassId) (row : Row) (regions : List Rpl) (actuals : List Expr) →
    plain_form (kind.Call of class row regions actuals) ≡ form.call (plain_node of) class.number row.number regions (exprs_of (map plain_node actuals))
plain_form-Call of class row regions actuals =
    call_step of class row regions actuals
    ∙ ap (λ (z : TypedExpr). form.call z class.number row.number regions (exprs_of (map plain_expr actuals))) (plain_expr-node of)
    ∙ ap (form.call (plain_node of) class.number row.number regions) (same_nodes actuals)

new_step : (actuals : List Expr) → plain_form (kind.New actuals) ≡ form.create (exprs_of (map plain_expr actuals))
new_step actuals = search (rules, the_lemmas)

pub plain_form-New : (actuals : List Expr) → plain_form (kind.New actuals) ≡ form.create (exprs_of (map plain_node actuals))
plain_form-New actuals = new_step actuals ∙ ap form.create (same_nodes actuals)

new_array_step : (len : Expr) → plain_form (kind.NewArray len) ≡ form.create_array (plain_expr len)
new_array_step len = search (rules, the_lemmas)

pub plain_form-NewArray : (len : Expr) → plain_form (kind.NewArray len) ≡ form.create_array (plain_node len)
plain_form-NewArray len = new_array_step len ∙ ap form.create_array (plain_expr-node len)

unary_step : (op : UnaryOp) (arg : Expr) → plain_form (kind.Unary op arg) ≡ form.unary op (plain_expr arg)
unary_step op arg = search (rules, the_lemmas)

pub plain_form-Unary : (op : UnaryOp) (arg : Expr) → plain_form (kind.Unary op arg) ≡ form.unary op (plain_node arg)
plain_form-Unary op arg = unary_step op arg ∙ ap (form.unary op) (plain_expr-node arg)

binary_step : (op : BinaryOp) (left right : Expr) → plain_form (kind.Binary op left right) ≡ form.binary op (plain_expr left) (plain_expr right)
binary_step op left right = search (rules, the_lemmas)

pub plain_form-Binary : (op : BinaryOp) (left right : Expr) → plain_form (kind.Binary op left right) ≡ form.binary op (plain_node left) (plain_node right)
plain_form-Binary op left right =
    binary_step op left right ∙ ap (λ (z : TypedExpr). form.binary op z (plain_expr right)) (plain_expr-node left) ∙ ap (form.binary op (plain_node left)) (plain_expr-node right)

and_step : (left right : Expr) → plain_form (kind.And left right) ≡ form.both (plain_expr left) (plain_expr right)
and_step left right = search (rules, the_lemmas)

pub plain_form-And : (left right : Expr) → plain_form (kind.And left right) ≡ form.both (plain_node left) (plain_node right)
plain_form-And left right =
    and_step left right ∙ ap (λ (z : TypedExpr). form.both z (plain_expr right)) (plain_expr-node left) ∙ ap (form.both (plain_node left)) (plain_expr-node right)

or_step : (left right : Expr) → plain_form (kind.Or left right) ≡ form.either (plain_expr left) (plain_expr right)
or_step left right = search (rules, the_lemmas)

pub plain_form-Or : (left right : Expr) → plain_form (kind.Or left right) ≡ form.either (plain_node left) (plain_node right)
plain_form-Or left right =
    or_step left right ∙ ap (λ (z : TypedExpr). form.either z (plain_expr right)) (plain_expr-node left) ∙ ap (form.either (plain_node left)) (plain_expr-node right)

-- what several give, as nodes and as types
pub exprs_of-nodes : (place : Place) (all : List Typed) → exprs_of (map (λ t. node_at place (plain_typed t)) all) ≡ nodes_at place (map plain_typed all)
exprs_of-nodes place [] = refl
exprs_of-nodes place (t ∷ ts) = ap (more_exprs (node_at place (plain_typed t))) (exprs_of-nodes place ts)

pub types_in : (all : List Typed) → map value_type all ≡ map type_in (map plain_typed all)
types_in [] = refl
types_in (t ∷ ts) = ap (λ rest. value_type t ∷ rest) (types_in ts)

-- one node more
pub nodes_more : (made : List Expr) (x : Expr) (rest : List TypedExpr) → map plain_node (made ++ x ∷ []) ++ rest ≡ map plain_node made ++ plain_node x ∷ rest
nodes_more [] x rest = refl
nodes_more (m ∷ made) x rest = ap (λ others. plain_node m ∷ others) (nodes_more made x rest)

pub nodes_step : (made others : List Expr) (x : Expr) (n : TypedExpr) (rest : List TypedExpr) → plain_node x ≡ n → others ≡ made ++ x ∷ [] →
    map plain_node others ++ rest ≡ map plain_node made ++ n ∷ rest
nodes_step made others x n rest is same =
    ap (λ (z : List Expr). map plain_node z ++ rest) same ∙ nodes_more made x rest ∙ ap (λ (z : TypedExpr). map plain_node made ++ z ∷ rest) is

-- a call, and the creation of an object, of these parts
pub call_built : (place : Place) (t : Ty) (made : ExprForm) (boxed of : Expr) (class row : ℕ) (regions : List Rpl) (actuals : List Expr) →
    plain_form made ≡ form.call (plain_node boxed) class row regions (exprs_of (map plain_node actuals)) → boxed ≡ of →
    plain_node (record { place = place; ty = t; form = made }) ≡ typed place (plain_type t) (form.call (plain_node of) class row regions (exprs_of (map plain_node actuals)))
call_built place t made boxed of class row regions actuals is same =
    ap (typed place (plain_type t)) (is ∙ ap (λ (z : Expr). form.call (plain_node z) class row regions (exprs_of (map plain_node actuals))) same)

pub create_built : (place : Place) (t : Ty) (actuals : List Expr) →
    plain_node (record { place = place; ty = t; form = kind.New actuals }) ≡ typed place (plain_type t) (form.create (exprs_of (map plain_node actuals)))
create_built place t actuals = ap (typed place (plain_type t)) (plain_form-New actuals)

-- a created array
pub array_built : (place : Place) (t : Ty) (boxed of : Expr) (n : TypedExpr) (r : Result PlainType Refusal) → r ≡ Ok (plain_type t) → boxed ≡ of → plain_node of ≡ n →
    created place n r ≡ Ok (plain_node (record { place = place; ty = t; form = kind.NewArray boxed }))
array_built place t boxed of n r is same node =
    ap (created place n) is ∙ ap (λ (z : TypedExpr). Ok (typed place (plain_type t) (form.create_array z))) (sym node ∙ ap plain_node (sym same))
    ∙ ap (λ (z : form). Ok (typed place (plain_type t) z)) (sym (plain_form-NewArray boxed))
