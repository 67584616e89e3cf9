-- Elements of arrays and of array parts.
use Rattle.std.specs.Prelude.{ℕ, cond, Option, Some, None, option_map, Result, Ok, Err}
use Rattle.std.specs.Option.{option_map_or}
use Rattle.lang_base.specs.declared.effect.Access.TheVariants.{Read}
use Rattle.lang_base.specs.declared.elems.Index.{Index}
use Rattle.lang_base.specs.declared.elems.Index.TheVariants.{Literal, Variable}
use Rattle.lang_base.specs.declared.place.Place.{Place}
use Rattle.lang_base.specs.declared.refusal.Kind.TheVariants as kind
use Rattle.lang_base.specs.declared.refusal.Refusal.{Refusal}
use Rattle.lang_base.specs.declared.region.Rpl.{Rpl}
use Rattle.lang_base.specs.Types.{PlainType, plain_type}
use Rattle.lang_base.specs.Types.PlainType.{array}
use Rattle.region_types.specs.Access.{PlainElement, element_of}
use Rattle.decl_headers.specs.Passes.{fault}
use Rattle.syntax_tree.specs.Plain.{PlainExpr, expression, int, local}
use Rattle.syntax_tree.specs.Plain as tree
use Rattle.lang_typed.specs.Plain.{TypedExpr, typed, ExprForm}
use Rattle.lang_typed.specs.Plain.{ExprForm as form}
use Rattle.body_exprs.specs.declared.env.Env.{Env}
use Rattle.body_exprs.specs.declared.env.LocalRow.{LocalRow}
use Rattle.body_exprs.specs.declared.fields.PartElement.{PartElement}
use Rattle.body_exprs.specs.declared.found.Found.{Found}
use Rattle.body_exprs.specs.Answer.{Answer, gives, refused, read, with_part_use}
use Rattle.body_exprs.specs.Env.{index_variable_of}
use Rattle.body_exprs.specs.Typed.{type_in, node_at, may_be, is_int}

-- what an index expression is in the region of an element: a literal, or a local that keeps its value; any other is none
abbrev pub form_index : Env → tree.ExprForm → Option Index
form_index env (int k) = Some (Literal k)
form_index env (local name) = option_map (λ slot. Variable slot) (index_variable_of env name)
form_index env other = None

abbrev pub index_of : Env → PlainExpr → Option Index
index_of env (expression place form) = form_index env form

-- the element of an array at an index; what fits everywhere has elements that do
abbrev pub array_element : Option PlainType → Option Index → Place → Result (Option PlainElement) Refusal
array_element None at place = Ok None
array_element (Some t) at place = option_map_or (λ element. Ok (Some element)) (element_of t at) (Err (fault kind.Type place))

-- the index is an int
abbrev pub element_through : Option PlainType → Option Index → Option PlainType → Place → Result (Option PlainElement) Refusal
element_through t at index_type place = cond (may_be is_int index_type) (array_element t at place) (Err (fault kind.Type place))

abbrev pub element_read : ExprForm → Result (Option PlainElement) Refusal → Place → Found → Answer
element_read form (Ok None) place found = gives None found
element_read form (Ok (Some seen)) place found = read seen.may_read (typed place seen.ty form) seen.rpl place found
element_read form (Err refusal) place found = refused refusal

-- an element of what an array gives, at an index that is written and what it gives
abbrev pub read_element : Env → Option TypedExpr → PlainExpr → Option TypedExpr → Place → Found → Answer
read_element env e at i place found =
    element_read (form.element (node_at place e) (node_at place i)) (element_through (type_in e) (index_of env at) (type_in i) place) place found

-- the slot of the part, the type and the region of an element
abbrev pub element_seen : PartElement → ℕ × PlainType × Rpl
element_seen e = (e.view, plain_type e.ty, e.rpl)

-- an element of a part of what has this type; what is no array has elements that fit everywhere
abbrev pub element_in_part : ℕ → PlainType → Option (ℕ × PlainType × Rpl)
element_in_part slot (array elem rpl named) = Some (slot, elem, rpl)
element_in_part slot t = None

-- at an index, which is an int
abbrev pub part_element : LocalRow → Option PlainType → Place → Result (Option (ℕ × PlainType × Rpl)) Refusal
part_element row index_type place =
    cond (may_be is_int index_type) (Ok (element_in_part row.slot (plain_type row.ty))) (Err (fault kind.Type place))

-- a read through a part
abbrev pub part_read : TypedExpr → Result (Option (ℕ × PlainType × Rpl)) Refusal → Place → Found → Answer
part_read i (Ok None) place found = gives None found
part_read i (Ok (Some (slot, elem, rpl))) place found = gives (Some (typed place elem (form.part_element slot i))) (with_part_use found slot rpl Read)
part_read i (Err refusal) place found = refused refusal

abbrev pub read_part : LocalRow → Option TypedExpr → Place → Found → Answer
read_part row i place found = part_read (node_at place i) (part_element row (type_in i) place) place found
