-- What the maps of headers find, of which only functions of this crate speak: what the rows say.
use Rattle.std.specs.Prelude.{◌≡◌, ℕ, Bool, List, map}
use Rattle.decl_headers.specs.declared.header.Header.{Header}
use Rattle.decl_headers.specs.declared.header.RegionRow.{RegionRow}
use Rattle.decl_headers.specs.declared.numbers.NameNumbers.{NameNumbers}
use Rattle.decl_headers.specs.declared.numbers.OwnedNumbers.{OwnedNumbers}
use Rattle.decl_headers.specs.Headers.{class_in, param_in, region_in}
use Rattle.decl_headers.specs.Numbers.{number_of, owned_number}

abbrev pub FindsClasses : List Header → NameNumbers → Type 0
FindsClasses rows classes = (name : ℕ) → number_of classes name ≡ class_in rows name

abbrev pub FindsParams : List Header → OwnedNumbers → Type 0
FindsParams rows params = (class name : ℕ) → owned_number params class name ≡ param_in rows class name

abbrev pub FindsRegions : List RegionRow → OwnedNumbers → Type 0
FindsRegions regions numbers = (class name : ℕ) → owned_number numbers class name ≡ region_in regions class name

pub record Finds (rows : List Header) (regions : List RegionRow) (classes : NameNumbers) (params numbers : OwnedNumbers) (marks : List Bool) : Type 0 where
  pub classes_found : FindsClasses rows classes
  pub params_found : FindsParams rows params
  pub regions_found : FindsRegions regions numbers
  pub marked : marks ≡ map (λ row. row.is_atomic) regions
