-- The types that operations take and give.
use Rattle.std.specs.Prelude.{Bool, ◌&&◌, ◌||◌, cond, Option, Result, Ok, Err}
use Rattle.lang_base.specs.declared.op.LogicOp.TheVariants.{And, Or}
use Rattle.lang_base.specs.declared.op.Operands.{Operands}
use Rattle.lang_base.specs.declared.op.Operands.TheVariants.{Ints, Same}
use Rattle.lang_base.specs.declared.op.UnaryOp.{UnaryOp}
use Rattle.lang_base.specs.declared.op.UnaryOp.TheVariants.{Negate, Not}
use Rattle.lang_base.specs.declared.place.Place.{Place}
use Rattle.lang_base.specs.declared.refusal.Kind.TheVariants as kind
use Rattle.lang_base.specs.declared.refusal.Refusal.{Refusal}
use Rattle.lang_base.specs.Operators.{unary_type, operands_of, result_of}
use Rattle.lang_base.specs.Types.{PlainType}
use Rattle.lang_base.specs.Types.PlainType.{boolean}
use Rattle.decl_headers.specs.Passes.{fault}
use Rattle.syntax_tree.specs.declared.expr.InfixOp.{InfixOp}
use Rattle.syntax_tree.specs.declared.expr.InfixOp.TheVariants.{Logic, Binary}
use Rattle.lang_typed.specs.Plain.{TypedExpr, typed, ExprForm, unary, binary, either}
use Rattle.lang_typed.specs.Plain.{ExprForm as form}
use Rattle.body_exprs.specs.Typed.{type_in, node_at, may_be, is_int, is_boolean, is_reference}

-- the operation takes an operand of this type
abbrev pub unary_takes : UnaryOp → Option PlainType → Bool
unary_takes Negate t = may_be is_int t
unary_takes Not t = may_be is_boolean t

-- an operation that takes its operands or not
abbrev pub node_if : Bool → PlainType → ExprForm → Place → Result TypedExpr Refusal
node_if takes t form place = cond takes (Ok (typed place t form)) (Err (fault kind.Type place))

-- an operation of one operand
abbrev pub unary_typed : UnaryOp → Option TypedExpr → Place → Result TypedExpr Refusal
unary_typed op e place = node_if (unary_takes op (type_in e)) (unary_type op) (unary op (node_at place e)) place

abbrev pub both : (PlainType → Bool) → Option PlainType → Option PlainType → Bool
both test t u = may_be test t && may_be test u

-- two ints, two booleans, or two values that may be null
abbrev pub comparable : Option PlainType → Option PlainType → Bool
comparable t u = both is_int t u || both is_boolean t u || both is_reference t u

-- operands of these types are what is asked for
abbrev pub operands_fit : Operands → Option PlainType → Option PlainType → Bool
operands_fit Ints t u = both is_int t u
operands_fit Same t u = comparable t u

-- the operation takes operands of these types
abbrev pub binary_takes : InfixOp → Option PlainType → Option PlainType → Bool
binary_takes (Logic op) t u = both is_boolean t u
binary_takes (Binary op) t u = operands_fit (operands_of op) t u

abbrev pub binary_gives : InfixOp → PlainType
binary_gives (Logic op) = boolean
binary_gives (Binary op) = result_of op

-- the form of an operation of two operands: `&&` and `||` are forms of their own
abbrev pub binary_form : InfixOp → TypedExpr → TypedExpr → ExprForm
binary_form (Logic And) a b = form.both a b
binary_form (Logic Or) a b = either a b
binary_form (Binary op) a b = binary op a b

-- an operation of two operands
abbrev pub binary_typed : InfixOp → Option TypedExpr → Option TypedExpr → Place → Result TypedExpr Refusal
binary_typed op e d place =
    node_if (binary_takes op (type_in e) (type_in d)) (binary_gives op) (binary_form op (node_at place e) (node_at place d)) place
