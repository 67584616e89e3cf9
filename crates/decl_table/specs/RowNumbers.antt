-- The row of each method among the methods of its class: rows of superclasses come first, and a method that overrides
-- one has its row. They are numbered on the way through the classes, each class after its superclass.
use Rattle.std.specs.Prelude.{ℕ, ◌+◌, List, [], ◌∷◌, length, replicate, slice_set, slice_index_or, Option}
use Rattle.std.specs.Option.{option_map_or}
use Rattle.decl_headers.specs.declared.forest.Step.{Step}
use Rattle.decl_headers.specs.declared.forest.Step.TheVariants as step
use Rattle.decl_headers.specs.declared.header.Headers.{Headers}
use Rattle.decl_headers.specs.Headers.{parent_of, parents_of, class_count}
use Rattle.decl_headers.specs.Numbers.{as_number}
use Rattle.decl_headers.specs.Way.{way_of}
use Rattle.decl_table.specs.declared.overridden.Own.{Own}
use Rattle.decl_table.specs.declared.rows.MethodRow.{MethodRow}
use Rattle.decl_table.specs.Places.{entry_at}
use Rattle.decl_table.specs.Visible.{all_own}

-- within a class: the next row, and the row of each method so far
pub record Numbering : Type 0 where
  pub next : ℕ
  pub rows : List ℕ

-- a method of the class has the row of the one that it overrides, or else the next one
abbrev pub with_row : List (Option ℕ) → Numbering → Own → Numbering
with_row overrides seen own =
    option_map_or (λ above. record seen { rows = slice_set seen.rows own.row (slice_index_or seen.rows above 0) })
    (entry_at overrides own.row)
    (record { next = as_number (seen.next + 1); rows = slice_set seen.rows own.row seen.next })

abbrev pub with_all_rows : List (Option ℕ) → Numbering → List Own → Numbering
with_all_rows overrides seen [] = seen
with_all_rows overrides seen (own ∷ more) = with_all_rows overrides (with_row overrides seen own) more

-- on the way: how many rows each class has, and the row of each method
pub record Counts : Type 0 where
  pub counts : List ℕ
  pub rows : List ℕ

-- how many rows the superclass of a class has
abbrev pub inherited_rows : Headers → List ℕ → ℕ → ℕ
inherited_rows headers counts class = option_map_or (λ parent. slice_index_or counts parent 0) (parent_of headers class) 0

abbrev pub counted_after : Headers → List (List Own) → List (Option ℕ) → Counts → Step → Counts
counted_after headers lists overrides seen (step.Enter class) =
    let made = with_all_rows overrides (record { next = inherited_rows headers seen.counts class; rows = seen.rows }) (slice_index_or lists class []) in
    record { counts = slice_set seen.counts class made.next; rows = made.rows }
counted_after headers lists overrides seen (step.Leave class) = seen

abbrev pub all_counted : Headers → List (List Own) → List (Option ℕ) → Counts → List Step → Counts
all_counted headers lists overrides seen [] = seen
all_counted headers lists overrides seen (s ∷ steps) = all_counted headers lists overrides (counted_after headers lists overrides seen s) steps

-- none yet, of so many methods
abbrev pub no_counts : Headers → ℕ → Counts
no_counts headers methods = record { counts = replicate (class_count headers) 0; rows = replicate methods 0 }

-- of each method, by its position; a constructor has none
abbrev pub rows_on_way : Headers → List MethodRow → List (Option ℕ) → List ℕ
rows_on_way headers methods overrides =
    (all_counted headers (all_own (replicate (class_count headers) []) 0 methods) overrides (no_counts headers (length methods)) (way_of (parents_of headers))).rows
