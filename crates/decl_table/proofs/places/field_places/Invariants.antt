use Rattle.std.proofs.Common.{◌≡◌, ℕ, drop}
use Rattle.decl_headers.specs.Numbers.{owned_number}
use Rattle.decl_table.specs.Places.{last_from, by_place, is_field_of, field_place}
use Rattle.decl_table.proofs.places.field_places.Given as goal

abbrev pub invariant-loop-at : goal.invariant-loop-at
invariant-loop-at l =
    (number name : ℕ) → last_from (is_field_of number name) by_place l.at (owned_number l.places number name) (drop l.at l.fields) ≡ field_place l.fields number name
