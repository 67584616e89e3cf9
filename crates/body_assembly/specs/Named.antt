-- The names of the typed program that a class table and the bodies of its members are put together to.
use Rattle.std.specs.Prelude.{ℕ, List, [], ◌∷◌, map, slice_index_or}
use Rattle.std.specs.Option.{option_map_or}
use Rattle.decl_headers.specs.declared.header.Header.{Header}
use Rattle.decl_headers.specs.declared.header.ParamRow.{ParamRow}
use Rattle.decl_headers.specs.declared.header.RegionRow.{RegionRow}
use Rattle.decl_headers.specs.Headers.{header_of, regions_of}
use Rattle.decl_headers.specs.Inheriting.{of_each_class}
use Rattle.decl_headers.specs.Numbers.{as_number}
use Rattle.lang_typed.specs.Names.{Named, NamedRegion, ProgramNames}
use Rattle.decl_table.specs.declared.rows.MethodRow.{MethodRow}
use Rattle.decl_table.specs.Table.{PlainTable, headers_of, methods_of}
use Rattle.body_assembly.specs.Assembled.{PlainBody}

-- a name by its number among the names of a text
abbrev pub text_of : List (List ℕ) → ℕ → List ℕ
text_of names name = slice_index_or names name []

abbrev pub params_named : List (List ℕ) → List ParamRow → List (List ℕ)
params_named names params = map (λ param. text_of names param.name) params

-- the class of a number
abbrev pub header_named : List (List ℕ) → Header → Named
header_named names header = record { name = text_of names header.name; params = params_named names header.params }

abbrev pub class_named : PlainTable → List (List ℕ) → ℕ → Named
class_named table names number = option_map_or (header_named names) (header_of (headers_of table) number) (record { name = []; params = [] })

-- a member of this signature, and all members that have bodies
abbrev pub member_named : List (List ℕ) → MethodRow → Named
member_named names row = record { name = text_of names row.name; params = params_named names row.regions }

abbrev pub members_named : List (List ℕ) → List MethodRow → List PlainBody → List Named
members_named names [] bodies = []
members_named names (row ∷ rows) [] = []
members_named names (row ∷ rows) (body ∷ bodies) = member_named names row ∷ members_named names rows bodies

abbrev pub region_named : List (List ℕ) → RegionRow → NamedRegion
region_named names row = record { class = row.owner; name = text_of names row.name }

-- all names of the program, where these are the names of the text
abbrev pub names_in : PlainTable → List (List ℕ) → List PlainBody → ProgramNames
names_in table names bodies = record {
  classes = of_each_class (headers_of table) (λ at. class_named table names (as_number at));
  members = members_named names (methods_of table) bodies;
  regions = map (region_named names) (regions_of (headers_of table));
}
