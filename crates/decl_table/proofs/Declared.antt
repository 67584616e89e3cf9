-- The methods of a class in the list of those that it declares.
use Rattle.std.proofs.Common.{◌≡◌, ◌∙◌, ℕ, ◌+◌, ◌<◌, ◌==◌, not, ◌&&◌, Bool, true, false, cond, List, [], ◌∷◌, map, length, replicate, refl, ap, arith}
use Rattle.std.proofs.lemmas.List.{length-replicate}
use Rattle.std.specs.List.{filter}
use Rattle.std.specs.Prelude.{slice_index_or}
use Rattle.decl_headers.specs.Headers.{class_count}
use Rattle.decl_table.specs.declared.overridden.Own.{Own}
use Rattle.decl_table.specs.declared.rows.MethodRow.{MethodRow}
use Rattle.decl_table.specs.Inherited.{declared_methods}
use Rattle.decl_table.specs.Table.{PlainTable, headers_of, methods_of}
use Rattle.decl_table.specs.Visible.{own_row, with_own, all_own}
use Rattle.decl_table.proofs.Visible.{own_from, own_length, own_listed}

ids_from : (class at : ℕ) (rows : List MethodRow) → map (λ method. method.id) (own_from class at rows) ≡ map (λ row. row.id) (filter (λ row. not row.is_constructor && (row.owner == class)) rows)
ids_from class at [] = refl
ids_from class at (row ∷ rows) = by (not row.is_constructor && (row.owner == class)) (ids_from class (at + 1) rows)
  where
    more : List MethodRow
    more = filter (λ row. not row.is_constructor && (row.owner == class)) rows

    by : (b : Bool) → map (λ method. method.id) (own_from class (at + 1) rows) ≡ map (λ row. row.id) more
        → map (λ method. method.id) (cond b (own_row at row ∷ own_from class (at + 1) rows) (own_from class (at + 1) rows)) ≡ map (λ row. row.id) (cond b (row ∷ more) more)
    by true same = ap (λ z. row.id ∷ z) same
    by false same = same

listed_length : (lists : List (List Own)) (at : ℕ) (rows : List MethodRow) → length (all_own lists at rows) ≡ length lists
listed_length lists at [] = refl
listed_length lists at (row ∷ rows) = listed_length (with_own lists at row) (at + 1) rows ∙ own_length lists at row

-- as many lists as classes, and of each class its methods
pub declared_listed : (table : PlainTable) (lists : List (List Own)) → lists ≡ all_own (replicate (class_count (headers_of table)) []) 0 (methods_of table) →
    (length lists ≡ class_count (headers_of table)) × ((class : ℕ) → class < length lists → map (λ method. method.id) (slice_index_or lists class []) ≡ declared_methods table class)
declared_listed table lists is = (
  many,
  λ class l.
      ap (λ ls. map (λ (method : Own). method.id) (slice_index_or ls class [])) is
      ∙ ap (map (λ (method : Own). method.id)) (own_listed (class_count (headers_of table)) (methods_of table) class (omega (arith, many, l)))
      ∙ ids_from class 0 (methods_of table),
)
  where
    many : length lists ≡ class_count (headers_of table)
    many = ap length is ∙ listed_length (replicate (class_count (headers_of table)) []) 0 (methods_of table) ∙ length-replicate {A = List Own} (class_count (headers_of table)) []
