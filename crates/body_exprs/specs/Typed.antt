-- What is known of the types of expressions, and where they fit.
use Rattle.std.specs.Prelude.{◌≡◌, ◌⊎◌, Bool, true, false, List, [], ◌∷◌, Option, Some, None, option_map}
use Rattle.lang_base.specs.declared.place.Place.{Place}
use Rattle.lang_base.specs.declared.ty.Super.{Super}
use Rattle.lang_base.specs.Types.{PlainType, plain_type, Ordered, Subtype}
use Rattle.lang_base.specs.Types.PlainType.{int, boolean, void, null, class, array}
use Rattle.lang_typed.specs.declared.expr.Expr.{Expr}
use Rattle.lang_typed.specs.declared.expr.ExprForm.{ExprForm, fold-ExprForm}
use Rattle.lang_typed.specs.Plain.{TypedExpr, typed, type_of, TypedExprs, no_exprs, more_exprs, expr_form, expr_node}
use Rattle.lang_typed.specs.Plain as form
use Rattle.body_exprs.specs.declared.typed.Typed.{Typed}
use Rattle.body_exprs.specs.declared.typed.Typed.TheVariants.{Known, Any}

-- a typed expression of the code as plain data
abbrev pub plain_form : ExprForm → form.ExprForm
plain_form = fold-ExprForm form.ExprForm TypedExpr expr_form expr_node

abbrev pub plain_node : Expr → TypedExpr
plain_node e = typed e.place (plain_type e.ty) (plain_form e.form)

-- what an expression gives: itself with its type, or nothing that is known where it fits everywhere
abbrev pub plain_typed : Typed → Option TypedExpr
plain_typed (Known e) = Some (plain_node e)
plain_typed Any = None

abbrev pub type_in : Option TypedExpr → Option PlainType
type_in given = option_map type_of given

abbrev pub value_type : Typed → Option PlainType
value_type t = type_in (plain_typed t)

-- the expression itself; where it fits everywhere, in a program that is refused, `null` stands for it
abbrev pub node_at : Place → Option TypedExpr → TypedExpr
node_at place (Some e) = e
node_at place None = typed place null form.null

abbrev pub nodes_at : Place → List (Option TypedExpr) → TypedExprs
nodes_at place [] = no_exprs
nodes_at place (e ∷ es) = more_exprs (node_at place e) (nodes_at place es)

-- the type passes the test; what fits everywhere passes every test
abbrev pub may_be : (PlainType → Bool) → Option PlainType → Bool
may_be test (Some t) = test t
may_be test None = true

abbrev pub passes : (PlainType → Bool) → Typed → Bool
passes test t = may_be test (value_type t)

abbrev pub is_int : PlainType → Bool
is_int int = true
is_int t = false

abbrev pub is_boolean : PlainType → Bool
is_boolean boolean = true
is_boolean t = false

-- what may be null
abbrev pub is_reference : PlainType → Bool
is_reference null = true
is_reference (class c args) = true
is_reference (array elem rpl named) = true
is_reference t = false

abbrev pub is_value : PlainType → Bool
is_value void = false
is_value t = true

abbrev pub is_array : PlainType → Bool
is_array (array elem rpl named) = true
is_array t = false

abbrev pub is_class : PlainType → Bool
is_class (class c args) = true
is_class t = false

-- the superclasses that are taken of a class table: its rows, which stand in the order of class numbers in every table
-- that is built; of rows that don't none is taken
abbrev pub AreTaken : List Super → List Super → Type 0
AreTaken rows taken = (Ordered rows × (taken ≡ rows)) ⊎ (¬ Ordered rows × (taken ≡ []))

-- a value may stand where the type is declared
abbrev pub FitsAs : List Super → Option PlainType → PlainType → Type 0
FitsAs supers (Some t) declared = Subtype supers t declared
FitsAs supers None declared = Unit {0}
