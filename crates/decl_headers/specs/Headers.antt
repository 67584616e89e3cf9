-- The headers of a program's classes, and what a name means in a class: what the nearest of its superclasses says,
-- the class itself first.
use Rattle.std.specs.Prelude.{ℕ, zero, suc, Bool, ◌&&◌, ◌==◌, List, [], ◌∷◌, map, length, slice_get, Option, None, Some, option_and_then}
use Rattle.std.specs.List.{list_any, position_from}
use Rattle.std.specs.Option.{option_map, option_map_or}
use Rattle.decl_headers.specs.declared.header.Header.{Header}
use Rattle.decl_headers.specs.declared.header.RegionRow.{RegionRow}
use Rattle.decl_headers.specs.Numbers.{as_number, last_place}

-- the headers of a program
pub record PlainHeaders : Type 0 where
  -- each class, in the order of the text: a class is known by its position
  pub rows : List Header
  -- each region name, in the order of the text: it is known by its position
  pub regions : List RegionRow
  -- the name `Main`, where the text has it
  pub main : Option ℕ

-- a class and its superclasses, one after the other, so many at most
abbrev pub chain : (ℕ → Option ℕ) → ℕ → ℕ → List ℕ
chain parent zero class = []
chain parent (suc n) class = class ∷ option_map_or (λ above. chain parent n above) (parent class) []

-- what the first of the classes has that has one
abbrev pub nearest : (ℕ → Option ℕ) → List ℕ → Option ℕ
nearest found [] = None
nearest found (class ∷ classes) = option_map_or (λ number. Some number) (found class) (nearest found classes)

-- the class of a name: the first that has it
abbrev pub class_in : List Header → ℕ → Option ℕ
class_in rows name = option_map as_number (position_from (λ row. row.name == name) 0 rows)

abbrev pub class_of : PlainHeaders → ℕ → Option ℕ
class_of headers name = class_in headers.rows name

abbrev pub header_of : PlainHeaders → ℕ → Option Header
header_of headers class = slice_get headers.rows class

-- the superclass of a class
abbrev pub parent_of : PlainHeaders → ℕ → Option ℕ
parent_of headers class = option_and_then (λ header. header.parent) (header_of headers class)

-- the superclass of each class
abbrev pub parents_of : PlainHeaders → List (Option ℕ)
parents_of headers = map (λ row. row.parent) headers.rows

-- how many classes there are
abbrev pub class_count : PlainHeaders → ℕ
class_count headers = length headers.rows

-- a class and all its superclasses, the nearest first
abbrev pub upwards : PlainHeaders → ℕ → List ℕ
upwards headers class = chain (parent_of headers) (class_count headers) class

-- the region parameter of that name which the class itself declares, by its position
abbrev pub param_in : List Header → ℕ → ℕ → Option ℕ
param_in rows class name =
    option_and_then (λ header. last_place (λ param. param.name == name) 0 header.params None) (slice_get rows class)

abbrev pub param_of : PlainHeaders → ℕ → ℕ → Option ℕ
param_of headers class name = param_in headers.rows class name

-- the region name which the class itself declares, by its number
abbrev pub region_in : List RegionRow → ℕ → ℕ → Option ℕ
region_in regions class name = last_place (λ row. (row.owner == class) && (row.name == name)) 0 regions None

abbrev pub own_region : PlainHeaders → ℕ → ℕ → Option ℕ
own_region headers class name = region_in headers.regions class name

-- the region name that a name means in a class
abbrev pub region_of : PlainHeaders → ℕ → ℕ → Option ℕ
region_of headers class name = nearest (λ at. own_region headers at name) (upwards headers class)

-- all region names, by their numbers
abbrev pub regions_of : PlainHeaders → List RegionRow
regions_of headers = headers.regions

-- of each region name, whether it is declared atomic
abbrev pub atomic_regions : PlainHeaders → List Bool
atomic_regions headers = map (λ row. row.is_atomic) headers.regions

-- the class is the other one, or the other is a superclass of it
abbrev pub is_below : PlainHeaders → ℕ → ℕ → Bool
is_below headers class other = list_any (λ at. at == other) (upwards headers class)

-- the name `Main`, where the text has it
abbrev pub main_of : PlainHeaders → Option ℕ
main_of headers = headers.main
