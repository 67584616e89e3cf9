-- What the headers of a program are, and which fault is refused where it has none.
use Rattle.std.specs.Prelude.{ℕ, ◌+◌, Bool, true, false, List, [], ◌∷◌, ◌++◌, map, count_by, codes, slice_get, Option, Result, Ok}
use Rattle.std.specs.List.{flat_map, position_from}
use Rattle.std.specs.Option.{option_map, option_map_or}
use Rattle.std.specs.Str.{bytes_eq}
use Rattle.lang_base.specs.declared.refusal.Refusal.{Refusal}
use Rattle.syntax_tree.specs.declared.class.Class.{Class}
use Rattle.syntax_tree.specs.declared.class.Member.{Member}
use Rattle.syntax_tree.specs.declared.class.Member.TheVariants as member
use Rattle.syntax_tree.specs.declared.class.Program.{Program}
use Rattle.syntax_tree.specs.declared.region.Named.{Named}
use Rattle.syntax_tree.specs.declared.region.ParamTree.{ParamTree}
use Rattle.decl_headers.specs.declared.header.Header.{Header}
use Rattle.decl_headers.specs.declared.header.ParamRow.{ParamRow}
use Rattle.decl_headers.specs.declared.header.RegionRow.{RegionRow}
use Rattle.decl_headers.specs.First.{parents_in, first_faults}
use Rattle.decl_headers.specs.Headers.{PlainHeaders}
use Rattle.decl_headers.specs.Numbers.{as_number}
use Rattle.decl_headers.specs.Passes.{first_of, refused_or}
use Rattle.decl_headers.specs.Rounds.{entry_of, superclasses}
use Rattle.decl_headers.specs.Second.{second_faults}

abbrev pub param_row : ParamTree → ParamRow
param_row param = record { name = param.name; atomic = param.atomic }

abbrev pub is_field : Member → Bool
is_field (member.Regions is_atomic names) = false
is_field (member.Field field) = true
is_field (member.Method method) = false

-- how many fields a class declares
abbrev pub field_count : Class → ℕ
field_count class = count_by is_field class.members

-- how many fields some classes declare together
abbrev pub fields_together : List Class → List ℕ → ℕ
fields_together classes [] = 0
fields_together classes (at ∷ more) = option_map_or field_count (slice_get classes at) 0 + fields_together classes more

-- how many fields an object of a class has: what the class and its superclasses declare
abbrev pub object_fields : List Class → List (Option ℕ) → ℕ → ℕ
object_fields classes parents at = as_number (fields_together classes (at ∷ superclasses parents at))

-- a class without its members
abbrev pub header_row : List (Option ℕ) → (ℕ → ℕ) → ℕ → Class → Header
header_row parents fields at class = record {
  name = class.name;
  place = class.place;
  parent = entry_of parents at;
  params = map param_row class.params.list;
  fields = fields at;
}

abbrev pub header_rows : List (Option ℕ) → (ℕ → ℕ) → ℕ → List Class → List Header
header_rows parents fields at [] = []
header_rows parents fields at (class ∷ classes) = header_row parents fields at class ∷ header_rows parents fields (at + 1) classes

-- region names where they are declared
abbrev pub region_rows : ℕ → Bool → List Named → List RegionRow
region_rows owner is_atomic names = map (λ named. record { owner = owner; name = named.name; is_atomic = is_atomic }) names

abbrev pub member_regions : ℕ → Member → List RegionRow
member_regions owner (member.Regions is_atomic names) = region_rows owner is_atomic names
member_regions owner (member.Field field) = []
member_regions owner (member.Method method) = []

-- all region names in the order of the text
abbrev pub all_regions : ℕ → List Class → List RegionRow
all_regions at [] = []
all_regions at (class ∷ classes) = flat_map (member_regions (as_number at)) class.members ++ all_regions (at + 1) classes

-- the number of a text among the names
abbrev pub name_number : List (List ℕ) → List ℕ → Option ℕ
name_number names text = option_map as_number (position_from (λ name. bytes_eq name text) 0 names)

-- the headers of a program
abbrev pub headers_in : Program → PlainHeaders
headers_in program = record {
  rows = header_rows (parents_in program.classes) (object_fields program.classes (parents_in program.classes)) 0 program.classes;
  regions = all_regions 0 program.classes;
  main = name_number program.names (codes "Main");
}

-- of the faults of the classes by themselves the first is refused, or else of those of their members
abbrev pub check_headers : Program → Result PlainHeaders Refusal
check_headers program =
    refused_or (first_of (first_faults program.classes)) (
    refused_or (first_of (second_faults program.classes (parents_in program.classes))) (
    Ok (headers_in program)))
