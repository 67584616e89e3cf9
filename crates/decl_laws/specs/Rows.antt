-- The rows of methods, and that the class table gives them so.
use Rattle.std.specs.Prelude.{◌≡◌, ◌⊎◌, ◌≤◌, ℕ, ◌+◌, Bool, false, not, ◌&&◌, ◌==◌, cond, is_none, List, [], ◌∷◌, length, take, slice_get, Option, None, Some, Ok}
use Rattle.std.specs.Option.{option_map_or}
use Rattle.syntax_tree.specs.declared.class.Program.{Program}
use Rattle.decl_headers.specs.Headers.{parent_of}
use Rattle.decl_headers.specs.Second.{AreCounted}
use Rattle.decl_table.specs.declared.rows.MethodRow.{MethodRow}
use Rattle.decl_table.specs.declared.table.Table.{Table}
use Rattle.decl_classes.specs.Build.{check_table}
use Rattle.decl_table.specs.Inherited.{members_in}
use Rattle.decl_table.specs.Places.{entry_at}
use Rattle.decl_table.specs.Table.{headers_of, methods_of, method_of, overridden_by, row_of}

-- a class itself declares the method
abbrev pub is_own : ℕ → MethodRow → Bool
is_own class row = not row.is_constructor && (row.owner == class)

-- how many of the methods that a class itself declares override none, of rows counted on from a place
abbrev pub one_new : List (Option ℕ) → ℕ → ℕ → MethodRow → ℕ
one_new overrides class at row = cond (is_own class row) (cond (is_none (entry_at overrides at)) 1 0) 0

abbrev pub new_in : List (Option ℕ) → ℕ → ℕ → List MethodRow → ℕ
new_in overrides class at [] = 0
new_in overrides class at (row ∷ rows) = one_new overrides class at row + new_in overrides class (at + 1) rows

-- A method has the row of the one that it overrides. Another has the next one: after the rows of the superclass of its class,
-- and after those of the new methods of its class that stand before it. `base` tells how many rows come from the superclass
pub data RowIs (overrides : List (Option ℕ)) (methods : List MethodRow) (base : ℕ → ℕ) : ℕ → ℕ → Type 0 where
  as_overridden : {id row : ℕ} (above : ℕ) → entry_at overrides id ≡ Some above → RowIs overrides methods base above row → RowIs overrides methods base id row
  as_next : {id row : ℕ} (method : MethodRow) → slice_get methods id ≡ Some method → entry_at overrides id ≡ None
      → row ≡ base method.owner + new_in overrides method.owner 0 (take id methods) → RowIs overrides methods base id row

-- how many rows a class has from its superclass
abbrev pub inherited : Table → ℕ → ℕ
inherited table class = option_map_or (λ above. length (members_in table above)) (parent_of (headers_of table) class) 0

-- the program is given this table, its names are counted, and there are no more methods than numbers
pub record HasRows (program : Program) (table : Table) : Type 0 where
  pub counted : AreCounted (length program.names) program.classes
  pub few : length (methods_of table) ≤ 4294967295
  pub has_table : check_table program ≡ Ok table

-- the table gives each method its row
abbrev pub RowsAreGiven : Type 0
RowsAreGiven =
    (program : Program) (table : Table) → HasRows program table → (id : ℕ) (method : MethodRow) → slice_get (methods_of table) id ≡ Some method →
    method.is_constructor ≡ false → RowIs table.overrides (methods_of table) (inherited table) id (row_of table id)

-- the method that a name means in a class stands in its row there
abbrev pub MethodsStand : Type 0
MethodsStand =
    (program : Program) (table : Table) → HasRows program table → (class name : ℕ) (method : MethodRow) → method_of table class name ≡ Some method →
    slice_get (members_in table class) (row_of table method.id) ≡ Some method.id

-- a class has each row of its superclass: with the same member there, or with one that overrides it
abbrev pub RowsAreKept : Type 0
RowsAreKept =
    (program : Program) (table : Table) → HasRows program table → (class above row id : ℕ) → parent_of (headers_of table) class ≡ Some above →
    slice_get (members_in table above) row ≡ Some id →
    (other : ℕ) × (slice_get (members_in table class) row ≡ Some other) × ((other ≡ id) ⊎ (overridden_by table other ≡ Some id))
