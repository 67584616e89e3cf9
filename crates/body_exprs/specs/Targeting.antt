-- What is assigned to: a field or an element, which isn't read.
use Rattle.std.specs.Prelude.{◌≡◌, ℕ, Bool, true, Option, Some, None, option_map, Result, Ok, Err}
use Rattle.lang_base.specs.declared.effect.Access.TheVariants.{Write}
use Rattle.lang_base.specs.declared.place.Place.{Place}
use Rattle.lang_base.specs.declared.refusal.Kind.TheVariants as kind
use Rattle.lang_base.specs.declared.refusal.Refusal.{Refusal}
use Rattle.lang_base.specs.declared.region.Rpl.{Rpl}
use Rattle.lang_base.specs.Types.{PlainType, plain_type}
use Rattle.region_types.specs.Access.{PlainElement}
use Rattle.decl_headers.specs.Passes.{fault}
use Rattle.syntax_tree.specs.Plain.{PlainExpr, expression, ExprForm, field, element}
use Rattle.lang_typed.specs.Plain.{TypedExpr, type_of}
use Rattle.body_exprs.specs.declared.assigned.Spot.{Spot}
use Rattle.body_exprs.specs.declared.assigned.Spot.TheVariants as spot
use Rattle.body_exprs.specs.declared.assigned.Target.{Target}
use Rattle.body_exprs.specs.declared.env.Env.{Env}
use Rattle.body_exprs.specs.declared.env.LocalRow.{LocalRow}
use Rattle.body_exprs.specs.declared.found.Found.{Found}
use Rattle.body_exprs.specs.Answer.{with_access, with_part_use}
use Rattle.body_exprs.specs.Elements.{index_of, element_through, part_element}
use Rattle.body_exprs.specs.Env.{table_of, part_of}
use Rattle.body_exprs.specs.Fields.{PlainField, field_through}
use Rattle.body_exprs.specs.Locals.{measured}
use Rattle.body_exprs.specs.Steps.{after, given}
use Rattle.body_exprs.specs.Typed.{plain_node, type_in, node_at}
use Rattle.body_exprs.specs.Typing.{type_expr}

-- where a value goes: to a field, an element, or an element of a part, told by the expressions that find it
pub data PlainSpot : Type 0 where
  to_field : TypedExpr → ℕ → ℕ → PlainSpot
  to_element : TypedExpr → TypedExpr → PlainSpot
  to_part : ℕ → TypedExpr → PlainSpot

abbrev pub plain_spot : Spot → PlainSpot
plain_spot (spot.Field of class slot) = to_field (plain_node of) class.number slot.number
plain_spot (spot.Element array at) = to_element (plain_node array) (plain_node at)
plain_spot (spot.Part part at) = to_part part.number (plain_node at)

-- a target: where it is, its type, its region, and whether it may be written
pub record PlainTarget : Type 0 where
  pub spot : PlainSpot
  pub ty : PlainType
  pub rpl : Rpl
  pub may_write : Bool

abbrev pub plain_target : Target → PlainTarget
plain_target target = record { spot = plain_spot target.spot; ty = plain_type target.ty; rpl = target.rpl; may_write = target.may_write }

-- with the write to a target, by itself or through the part that it lies in
abbrev pub written : Found → PlainSpot → Rpl → Found
written found (to_part slot i) rpl = with_part_use found slot rpl Write
written found (to_field e class slot) rpl = with_access found rpl Write
written found (to_element e i) rpl = with_access found rpl Write

abbrev pub with_write : Found → PlainTarget → Found
with_write found target = written found target.spot target.rpl

-- there is a target, or every value fits there, and so much is found after it; or it is refused
pub data TargetAnswer : Type 0 where
  aims : Option PlainTarget → Found → TargetAnswer
  misses : Refusal → TargetAnswer

abbrev pub aimed : Result (Option PlainTarget) Refusal → Found → TargetAnswer
aimed (Ok target) found = aims target found
aimed (Err refusal) found = misses refusal

-- a field of what a receiver gives
abbrev pub in_field : TypedExpr → Result PlainField Refusal → Result (Option PlainTarget) Refusal
in_field e (Ok seen) = Ok (Some (record { spot = to_field e seen.class seen.slot; ty = seen.ty; rpl = seen.rpl; may_write = seen.may_write }))
in_field e (Err refusal) = Err refusal

abbrev pub field_target : Env → Option TypedExpr → ℕ → Place → Result (Option PlainTarget) Refusal
field_target env None name place = Ok None
field_target env (Some e) name place = in_field e (field_through (table_of env) (type_of e) name place)

-- an element of what an array gives
abbrev pub in_array : PlainSpot → PlainElement → PlainTarget
in_array to seen = record { spot = to; ty = seen.ty; rpl = seen.rpl; may_write = seen.may_write }

abbrev pub in_element : PlainSpot → Result (Option PlainElement) Refusal → Result (Option PlainTarget) Refusal
in_element to (Ok seen) = Ok (option_map (in_array to) seen)
in_element to (Err refusal) = Err refusal

abbrev pub element_target : Env → Option TypedExpr → PlainExpr → Option TypedExpr → Place → Result (Option PlainTarget) Refusal
element_target env e at i place =
    in_element (to_element (node_at place e) (node_at place i)) (element_through (type_in e) (index_of env at) (type_in i) place)

-- an element of a part, which may be written
abbrev pub in_part : TypedExpr → ℕ × PlainType × Rpl → PlainTarget
in_part i (slot, elem, rpl) = record { spot = to_part slot i; ty = elem; rpl = rpl; may_write = true }

abbrev pub in_part_element : TypedExpr → Result (Option (ℕ × PlainType × Rpl)) Refusal → Result (Option PlainTarget) Refusal
in_part_element i (Ok seen) = Ok (option_map (in_part i) seen)
in_part_element i (Err refusal) = Err refusal

abbrev pub part_target : LocalRow → Option TypedExpr → Place → Result (Option PlainTarget) Refusal
part_target row i place = in_part_element (node_at place i) (part_element row (type_in i) place)

-- the steps in order: the first that refuses is the fault. The length of a part isn't assigned to, and neither is what is no
-- field and no element
abbrev pub target_form : Env → Place → ExprForm → Found → TargetAnswer
target_form env place (field of name) f =
    given (measured env of name)
    (λ row. misses (fault kind.Type place))
    (after misses (type_expr env of f) (λ t g. aimed (field_target env t name place) g))
target_form env place (element array index) f =
    given (part_of env array)
    (λ row. after misses (type_expr env index f) (λ i g. aimed (part_target row i place) g))
    (after misses (type_expr env array f) (λ t g. after misses (type_expr env index g) (λ i h. aimed (element_target env t index i place) h)))
target_form env place form f = misses (fault kind.Type place)

abbrev pub type_target : Env → PlainExpr → Found → TargetAnswer
type_target env (expression place form) f = target_form env place form f

-- the rules say this of what is assigned to where it stands
abbrev pub Targeting : Env → PlainExpr → Found → TargetAnswer → Type 0
Targeting env e f a = type_target env e f ≡ a
