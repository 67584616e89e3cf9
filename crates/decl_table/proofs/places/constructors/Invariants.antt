use Rattle.std.proofs.Common.{◌≡◌, ℕ, length, drop}
use Rattle.decl_table.specs.Places.{entry_at, last_from, by_id, is_constructor_of, constructor_number}
use Rattle.decl_table.proofs.places.constructors.Given as goal

abbrev pub invariant-loop-row : goal.invariant-loop-row
invariant-loop-row l = record {
  as_many : length l.found.items ≡ l.classes;
  found : (number : ℕ) → last_from (is_constructor_of number) by_id l.row-index (entry_at l.found.items number) (drop l.row-index l.methods) ≡ constructor_number l.methods number;
}
