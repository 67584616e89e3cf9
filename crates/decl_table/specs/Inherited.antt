-- What a class has together with all that it inherits: its fields by slot, and the members in its rows.
use Rattle.std.specs.Prelude.{ℕ, not, ◌&&◌, ◌==◌, cond, is_some, List, [], ◌∷◌, ◌++◌, map, fold, slice_set, unwrap_or, Option}
use Rattle.std.specs.List.{filter}
use Rattle.std.specs.Option.{option_map_or}
use Rattle.lang_base.specs.declared.region.Rpl.{Rpl}
use Rattle.lang_base.specs.Regions.{substituted}
use Rattle.lang_base.specs.Types.{type_with}
use Rattle.decl_headers.specs.Inheriting.{made_in}
use Rattle.decl_table.specs.Plain.{PlainField, plain_field}
use Rattle.decl_table.specs.Table.{PlainTable, headers_of, fields_of, methods_of, parent_args_of, overridden_by, row_of}

-- a field as a class sees it that gives its superclass these region arguments
abbrev pub field_with : List Rpl → PlainField → PlainField
field_with args field = record field { ty = type_with args field.ty; rpl = substituted args field.rpl }

-- the fields that a class itself declares
abbrev pub declared_fields : PlainTable → ℕ → List PlainField
declared_fields table at = map plain_field (filter (λ row. row.owner == at) (fields_of table))

-- the fields of a class whose superclass, where it has one, has these: they come first, and with the region arguments
-- put in, all are over the region parameters of the class itself
abbrev pub fields_after : PlainTable → ℕ → Option (List PlainField) → List PlainField
fields_after table at above = option_map_or (map (field_with (parent_args_of table at))) above [] ++ declared_fields table at

-- all fields of a class, by slot
abbrev pub fields_in : PlainTable → ℕ → List PlainField
fields_in table at = made_in (headers_of table) [] (fields_after table) at

-- the methods that a class itself declares, by their numbers
abbrev pub declared_methods : PlainTable → ℕ → List ℕ
declared_methods table at = map (λ row. row.id) (filter (λ row. not row.is_constructor && (row.owner == at)) (methods_of table))

-- a method of this number stands in the row of the one that it overrides, or else in a new one
abbrev pub with_member : PlainTable → List ℕ → ℕ → List ℕ
with_member table rows id = cond (is_some (overridden_by table id)) (slice_set rows (row_of table id) id) (rows ++ id ∷ [])

-- the members in the rows of a class whose superclass, where it has one, has these
abbrev pub members_after : PlainTable → ℕ → Option (List ℕ) → List ℕ
members_after table at above = fold (with_member table) (unwrap_or above []) (declared_methods table at)

-- the members in all rows of a class
abbrev pub members_in : PlainTable → ℕ → List ℕ
members_in table at = made_in (headers_of table) [] (members_after table) at
