-- What is known of a value without its regions: the class that it begins with, and how many arrays are around.
use Rattle.std.specs.Prelude.{ℕ, zero, suc, ◌+◌, min, length, Option, None, Some, option_and_then}
use Rattle.std.specs.Option.{option_map_or}
use Rattle.lang_base.specs.Types.{PlainType, plain_type}
use Rattle.lang_base.specs.Types.PlainType.{class, array}
use Rattle.decl_headers.specs.declared.header.Headers.{Headers}
use Rattle.decl_headers.specs.Headers.{class_of}
use Rattle.syntax_tree.specs.declared.region.BaseTree.{BaseTree}
use Rattle.syntax_tree.specs.declared.region.BaseTree.TheVariants as base
use Rattle.syntax_tree.specs.declared.region.TypeTree.{TypeTree}
use Rattle.decl_table.specs.declared.rows.MethodRow.{MethodRow}
use Rattle.decl_reach.specs.declared.shape.Shape.{Shape}
use Rattle.decl_table.specs.declared.table.Table.{Table}
use Rattle.decl_table.specs.Table.{headers_of, field_of, method_of, constructor_of}

-- an int, a boolean, or what nothing is known of
abbrev pub no_class : Shape
no_class = record { class = None; arrays = 0 }

abbrev pub object_shape : ℕ → Shape
object_shape number = record { class = Some number; arrays = 0 }

-- the class of a type's base, where it has one
abbrev pub base_class : Headers → BaseTree → Option ℕ
base_class headers base.Int = None
base_class headers base.Bool = None
base_class headers (base.Class name args) = class_of headers name.name

-- the shape of a written type
abbrev pub written_shape : Headers → BaseTree → ℕ → Shape
written_shape headers tree arrays = record { class = base_class headers tree; arrays = arrays }

abbrev pub tree_shape : Headers → TypeTree → Shape
tree_shape headers tree = written_shape headers tree.base (length tree.suffixes)

-- with one array more around, as far as these are counted
abbrev pub in_array : Shape → Shape
in_array shape = record shape { arrays = min (shape.arrays + 1) 18446744073709551615 }

abbrev pub type_shape : PlainType → Shape
type_shape (class number args) = object_shape number
type_shape (array elem rpl named) = in_array (type_shape elem)
type_shape t = no_class

-- the shape of an element of an array
abbrev pub element_in : ℕ → Option ℕ → Shape
element_in zero found = no_class
element_in (suc arrays) found = record { class = found; arrays = arrays }

abbrev pub element_of : Shape → Shape
element_of shape = element_in shape.arrays shape.class

-- the class of an object; an array has none
abbrev pub object_in : ℕ → Option ℕ → Option ℕ
object_in zero found = found
object_in (suc arrays) found = None

abbrev pub object_of : Shape → Option ℕ
object_of shape = object_in shape.arrays shape.class

-- the shape of a field of an object
abbrev pub field_shape : Table → Shape → ℕ → Shape
field_shape table of name =
    option_map_or (λ row. type_shape (plain_type row.ty)) (option_and_then (λ number. field_of table number name) (object_of of)) no_class

-- the method that a call on an object names
abbrev pub called_row : Table → Shape → ℕ → Option MethodRow
called_row table of name = option_and_then (λ number. method_of table number name) (object_of of)

abbrev pub call_shape : Table → Shape → ℕ → Shape
call_shape table of name = option_map_or (λ row. type_shape (plain_type row.result)) (called_row table of name) no_class

-- the constructor that a creation runs
abbrev pub run_row : Table → ℕ → Option MethodRow
run_row table name = option_and_then (constructor_of table) (class_of (headers_of table) name)

abbrev pub create_shape : Table → ℕ → Shape
create_shape table name = option_map_or object_shape (class_of (headers_of table) name) no_class
