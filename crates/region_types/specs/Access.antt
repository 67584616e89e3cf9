-- The element of an array type at an index.
use Rattle.std.specs.Prelude.{Bool, not, ◌||◌, Option, Some, None, is_some}
use Rattle.lang_base.specs.declared.elems.Elem.{Elem}
use Rattle.lang_base.specs.declared.elems.Elem.TheVariants.{At, Any}
use Rattle.lang_base.specs.declared.elems.Index.{Index}
use Rattle.lang_base.specs.declared.region.Rpl.{Rpl}
use Rattle.lang_base.specs.Types.{PlainType, plain_type, path_at, type_at, mentions_index, rigid_in_index}
use Rattle.lang_base.specs.Types.PlainType.{array}
use Rattle.region_types.specs.declared.parts.Element.{Element}

-- an element of an array: its type as plain data, its region path, and what may be done with it
pub record PlainElement : Type 0 where
  pub ty : PlainType
  pub rpl : Rpl
  pub may_read : Bool
  pub may_write : Bool

abbrev pub plain_element : Element → PlainElement
plain_element e = record { ty = plain_type e.ty; rpl = e.rpl; may_read = e.may_read; may_write = e.may_write }

-- what an index puts in the place of the array's own: itself, or `[?]` for an expression that may have any value
abbrev pub index_elem : Option Index → Elem
index_elem (Some index) = At index
index_elem None = Any

-- the element of an array type: the index takes the place of the array's own in its type and its region path. By an
-- expression that may have any value, no element is written whose type mentions the array's own index, and none is read
-- whose type is rigid in it
abbrev pub element_of : PlainType → Option Index → Option PlainElement
element_of (array elem rpl named) index =
    Some (record {
      ty = type_at 0 (index_elem index) elem;
      rpl = path_at 0 (index_elem index) rpl;
      may_read = is_some index || not (rigid_in_index 0 elem);
      may_write = is_some index || not (mentions_index 0 elem);
    })
element_of t index = None
