use Rattle.std.proofs.Common.{◌≡◌, ◌++◌, ◌==◌, ◌<◌, ℕ, [], drop, length}
use Rattle.std.specs.List.{filter}
use Rattle.std.specs.Prelude.{slice_index_or}
use Rattle.decl_table.proofs.class_fields.own_fields.Given as goal

abbrev pub invariant-loop-row : goal.invariant-loop-row
invariant-loop-row l = record {
  as_many : length l.own.items ≡ l.classes;
  filed : (class : ℕ) → class < l.classes → slice_index_or l.own.items class [] ++ filter (λ row. row.owner == class) (drop l.row-index l.rows) ≡ filter (λ row. row.owner == class) l.rows;
}
