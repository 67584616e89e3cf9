-- The steps by which it is found what each method overrides, of which only functions of this crate speak: on the way
-- through the classes, of each name the method that it means there, and of each row what its method overrides.
use Rattle.std.specs.Prelude.{ℕ, ◌+◌, cond, List, [], ◌∷◌, ◌++◌, length, replicate, slice_set, slice_index_or, Option, None, Some}
use Rattle.decl_headers.specs.declared.forest.Step.{Step}
use Rattle.decl_headers.specs.declared.forest.Step.TheVariants as step
use Rattle.decl_headers.specs.Way.{way_of}
use Rattle.decl_table.specs.declared.overridden.Own.{Own}
use Rattle.decl_table.specs.declared.rows.MethodRow.{MethodRow}
use Rattle.decl_table.specs.Places.{entry_at}

-- a method which its class itself declares, with the place of its row
abbrev pub own_row : ℕ → MethodRow → Own
own_row at row = record { row = at; name = row.name; id = row.id }

-- a further row stands under its class, where it is no constructor
abbrev pub with_own : List (List Own) → ℕ → MethodRow → List (List Own)
with_own lists at row =
    cond row.is_constructor lists (slice_set lists row.owner (slice_index_or lists row.owner [] ++ own_row at row ∷ []))

-- rows, counted on from a place
abbrev pub all_own : List (List Own) → ℕ → List MethodRow → List (List Own)
all_own lists at [] = lists
all_own lists at (row ∷ rows) = all_own (with_own lists at row) (at + 1) rows

-- each of the methods overrides what its name means
abbrev pub all_overriding : List (Option ℕ) → List (Option ℕ) → List Own → List (Option ℕ)
all_overriding visible overridden [] = overridden
all_overriding visible overridden (own ∷ more) =
    all_overriding visible (slice_set overridden own.row (entry_at visible own.name)) more

-- from here on the name of each means this method
abbrev pub all_in_front : List (Option ℕ) → List Own → List (Option ℕ)
all_in_front visible [] = visible
all_in_front visible (own ∷ more) = all_in_front (slice_set visible own.name (Some own.id)) more

-- the name of each means again what the method overrides
abbrev pub all_after : List (Option ℕ) → List (Option ℕ) → List Own → List (Option ℕ)
all_after overridden visible [] = visible
all_after overridden visible (own ∷ more) =
    all_after overridden (slice_set visible own.name (entry_at overridden own.row)) more

-- what is known at a step of the way
pub record Seen : Type 0 where
  pub visible : List (Option ℕ)
  pub overridden : List (Option ℕ)

-- nothing yet, of so many names and so many rows
abbrev pub none_seen : ℕ → ℕ → Seen
none_seen names rows = record { visible = replicate names None; overridden = replicate rows None }

abbrev pub after_step : List (List Own) → Seen → Step → Seen
after_step lists seen (step.Enter class) =
    let own = slice_index_or lists class [] in
    record { visible = all_in_front seen.visible own; overridden = all_overriding seen.visible seen.overridden own }
after_step lists seen (step.Leave class) =
    record seen { visible = all_after seen.overridden seen.visible (slice_index_or lists class []) }

abbrev pub after_way : List (List Own) → Seen → List Step → Seen
after_way lists seen [] = seen
after_way lists seen (s ∷ steps) = after_way lists (after_step lists seen s) steps

-- what is found of each row on the way through the classes, of which these are the superclasses
abbrev pub overridden_on_way : List (Option ℕ) → List MethodRow → ℕ → List (Option ℕ)
overridden_on_way parents rows names =
    (after_way (all_own (replicate (length parents) []) 0 rows) (none_seen names (length rows)) (way_of parents)).overridden
