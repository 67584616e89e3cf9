use Rattle.std.proofs.Common.{◌≡◌, ℕ, length, drop}
use Rattle.decl_table.specs.Places.{entry_at, last_from, by_place, is_super_of, super_place}
use Rattle.decl_table.proofs.places.super_places.Given as goal

abbrev pub invariant-loop-at : goal.invariant-loop-at
invariant-loop-at l = record {
  as_many : length l.places.items ≡ l.classes;
  found : (number : ℕ) → last_from (is_super_of number) by_place l.at (entry_at l.places.items number) (drop l.at l.supers) ≡ super_place l.supers number;
}
