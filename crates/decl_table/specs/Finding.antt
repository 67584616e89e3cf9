-- What the maps of a table find, of which only functions of this crate speak: what the rows say.
use Rattle.std.specs.Prelude.{◌≡◌, ℕ, ◌==◌, cond, List, length, Option, Some}
use Rattle.lang_base.specs.declared.ty.Super.{Super}
use Rattle.decl_headers.specs.Numbers.{owned_number}
use Rattle.decl_table.specs.declared.places.Places.{Places}
use Rattle.decl_table.specs.declared.rows.FieldRow.{FieldRow}
use Rattle.decl_table.specs.declared.rows.MethodRow.{MethodRow}
use Rattle.decl_table.specs.Places.{entry_at, field_place, method_number, constructor_number, super_place}

abbrev pub FindsConstructors : List MethodRow → List (Option ℕ) → Type 0
FindsConstructors methods constructors = (number : ℕ) → entry_at constructors number ≡ constructor_number methods number

abbrev pub FindsSupers : List Super → List (Option ℕ) → Type 0
FindsSupers supers places = (number : ℕ) → entry_at places number ≡ super_place supers number

pub record Finds (supers : List Super) (fields : List FieldRow) (methods : List MethodRow) (places : Places) : Type 0 where
  pub fields_found : (number name : ℕ) → owned_number places.fields number name ≡ field_place fields number name
  pub methods_found : (number name : ℕ) → owned_number places.methods number name ≡ method_number methods number name
  pub constructors_found : FindsConstructors methods places.constructors
  pub supers_found : FindsSupers supers places.supers

-- one entry is another number, and every other entry what it was
pub record IsEntered (at number : ℕ) (old new : List (Option ℕ)) : Type 0 where
  pub as_many : length new ≡ length old
  pub entries : (other : ℕ) → entry_at new other ≡ cond (at == other) (Some number) (entry_at old other)
