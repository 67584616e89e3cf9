-- The class with which a run begins.
use Rattle.std.specs.Prelude.{ℕ, Bool, true, false, not, ◌&&◌, ◌==◌, is_none, List, [], ◌∷◌, length, slice_get, codes, Option, option_and_then}
use Rattle.std.specs.List.{find, list_any}
use Rattle.std.specs.Option.{option_map, option_map_or}
use Rattle.std.specs.Str.{bytes_eq}
use Rattle.lang_base.specs.declared.place.Place.{Place}
use Rattle.lang_base.specs.declared.refusal.Kind.TheVariants as kind
use Rattle.lang_base.specs.declared.refusal.Refusal.{Refusal}
use Rattle.lang_base.specs.declared.ty.Ty.{Ty}
use Rattle.lang_base.specs.Types.{PlainType, plain_type}
use Rattle.lang_base.specs.Types.PlainType.{int}
use Rattle.decl_headers.specs.declared.header.Header.{Header}
use Rattle.decl_headers.specs.Headers.{class_of, header_of, main_of}
use Rattle.decl_headers.specs.Passes.{fault, fault_if}
use Rattle.decl_table.specs.declared.rows.MethodRow.{MethodRow}
use Rattle.decl_table.specs.declared.table.Table.{Table}
use Rattle.decl_table.specs.Table.{headers_of, methods_of, constructor_of}

-- the name is spelled so
abbrev pub is_spelled : List (List ℕ) → ℕ → List ℕ → Bool
is_spelled names name text = option_map_or (λ spelling. bytes_eq spelling text) (slice_get names name) false

abbrev pub is_int : PlainType → Bool
is_int int = true
is_int t = false

-- one formal, an int
abbrev pub takes_int : List Ty → Bool
takes_int [] = false
takes_int (only ∷ []) = is_int (plain_type only)
takes_int (first ∷ second ∷ more) = false

-- `int main(int)` without region parameters
abbrev pub is_main : List (List ℕ) → MethodRow → Bool
is_main names row =
    is_spelled names row.name (codes "main") && not row.is_constructor && (length row.regions == 0)
    && is_int (plain_type row.result)
    && takes_int row.params

-- neither region parameters nor a constructor, and an `int main(int)` of its own
abbrev pub begins_runs : Table → ℕ → Header → List (List ℕ) → Bool
begins_runs table at header names =
    (length header.params == 0) && is_none (constructor_of table at) && list_any (λ row. (row.owner == at) && is_main names row) (methods_of table)

-- the first place of a text
abbrev pub start : Place
start = record { line = 1; col = 1 }

-- the class `Main`
abbrev pub main_class : Table → Option ℕ
main_class table = option_and_then (class_of (headers_of table)) (main_of (headers_of table))

-- its method `main`, by its number
abbrev pub main_method : Table → List (List ℕ) → Option ℕ
main_method table names =
    option_and_then (λ at. option_map (λ row. row.id) (find (λ row. (row.owner == at) && is_main names row) (methods_of table))) (main_class table)

-- there is no class `Main`, or a run can't begin with it
abbrev pub main_faults : Table → List (List ℕ) → List Refusal
main_faults table names =
    option_map_or
    (λ at. option_map_or (λ header. fault_if (not (begins_runs table at header names)) kind.Main header.place) (header_of (headers_of table) at) [])
    (main_class table) (fault kind.Main start ∷ [])
