-- Where the row of a class and a name stands among all rows: what is looked for is the last of them that is meant.
use Rattle.std.specs.Prelude.{ℕ, ◌+◌, Bool, not, ◌&&◌, ◌==◌, cond, List, [], ◌∷◌, slice_get, Option, None, Some, option_and_then}
use Rattle.lang_base.specs.declared.ty.Super.{Super}
use Rattle.decl_headers.specs.Numbers.{as_number}
use Rattle.decl_table.specs.declared.rows.FieldRow.{FieldRow}
use Rattle.decl_table.specs.declared.rows.MethodRow.{MethodRow}

-- the number of the last of the rows that is meant, where they are counted on from a place; this one, where none is
abbrev pub last_from : {A : Type 0} → (A → Bool) → (ℕ → A → ℕ) → ℕ → Option ℕ → List A → Option ℕ
last_from is_meant number at found [] = found
last_from is_meant number at found (row ∷ rows) =
    last_from is_meant number (at + 1) (cond (is_meant row) (Some (number at row)) found) rows

-- a row is numbered by its place
abbrev pub by_place : {A : Type 0} → ℕ → A → ℕ
by_place at row = as_number at

-- a method by its own number
abbrev pub by_id : ℕ → MethodRow → ℕ
by_id at row = row.id

-- the field of that name which a class itself declares
abbrev pub is_field_of : ℕ → ℕ → FieldRow → Bool
is_field_of number name row = (row.owner == number) && (row.name == name)

-- the method of that name which a class itself declares
abbrev pub is_method_of : ℕ → ℕ → MethodRow → Bool
is_method_of number name row = not row.is_constructor && ((row.owner == number) && (row.name == name))

-- the constructor which a class itself declares
abbrev pub is_constructor_of : ℕ → MethodRow → Bool
is_constructor_of number row = row.is_constructor && (row.owner == number)

abbrev pub is_super_of : ℕ → Super → Bool
is_super_of number row = row.class == number

-- where the field of a name stands, and the number of the method
abbrev pub field_place : List FieldRow → ℕ → ℕ → Option ℕ
field_place rows number name = last_from (is_field_of number name) by_place 0 None rows

abbrev pub method_number : List MethodRow → ℕ → ℕ → Option ℕ
method_number rows number name = last_from (is_method_of number name) by_id 0 None rows

-- the number of the constructor of a class, and where the row of its superclass stands
abbrev pub constructor_number : List MethodRow → ℕ → Option ℕ
constructor_number rows number = last_from (is_constructor_of number) by_id 0 None rows

abbrev pub super_place : List Super → ℕ → Option ℕ
super_place rows number = last_from (is_super_of number) by_place 0 None rows

-- what a list has at a place, where it has something there
abbrev pub entry_at : {A : Type 0} → List (Option A) → ℕ → Option A
entry_at entries at = option_and_then (λ entry. entry) (slice_get entries at)
