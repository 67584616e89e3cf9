-- The steps by which headers are made, of which only functions of this crate speak: numbers of parameters and of fields.
use Rattle.std.specs.Prelude.{ℕ, ◌+◌, ◌==◌, cond, List, [], ◌∷◌, length, replicate, slice_get, slice_index_or, Option}
use Rattle.std.specs.Option.{option_map_or}
use Rattle.syntax_tree.specs.declared.class.Class.{Class}
use Rattle.decl_headers.specs.declared.forest.Step.{Step}
use Rattle.decl_headers.specs.declared.header.Header.{Header}
use Rattle.decl_headers.specs.declared.header.ParamRow.{ParamRow}
use Rattle.decl_headers.specs.Gathered.{field_count, header_rows}
use Rattle.decl_headers.specs.Numbers.{as_number, last_place}
use Rattle.decl_headers.specs.Rounds.{entry_of}
use Rattle.decl_headers.specs.Way.{entered_on}

-- the number of a name of an owner, where the parameters of a class from a position on are still to come
abbrev pub with_params : ℕ → ℕ → List ParamRow → ℕ → ℕ → Option ℕ → Option ℕ
with_params class at params owner name found = cond (class == owner) (last_place (λ param. param.name == name) at params found) found

abbrev pub with_all_params : ℕ → List Header → ℕ → ℕ → Option ℕ → Option ℕ
with_all_params at [] owner name found = found
with_all_params at (row ∷ rows) owner name found = with_all_params (at + 1) rows owner name (with_params (as_number at) 0 row.params owner name found)

-- how many fields an object of a class has, once those of its superclass are known
abbrev pub counted_at : List Class → List (Option ℕ) → List ℕ → ℕ → ℕ
counted_at classes parents counts at =
    as_number (option_map_or (λ parent. slice_index_or counts parent 0) (entry_of parents at) 0
    + option_map_or (λ class. as_number (field_count class)) (slice_get classes at) 0)

abbrev pub counted_way : List Class → List (Option ℕ) → List ℕ → List Step → List ℕ
counted_way classes parents counts steps = entered_on (counted_at classes parents) counts steps

-- the rows, where the fields are counted on the way
abbrev pub counted_rows : List Class → List (Option ℕ) → List Step → List Header
counted_rows classes parents steps =
    let counts = counted_way classes parents (replicate (length classes) 0) steps in
    header_rows parents (λ at. slice_index_or counts at 0) 0 classes
