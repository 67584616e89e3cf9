use Rattle.std.proofs.Common.{◌≡◌, ℕ, drop}
use Rattle.decl_headers.specs.Numbers.{owned_number}
use Rattle.decl_table.specs.Places.{last_from, by_id, is_method_of, method_number}
use Rattle.decl_table.proofs.places.method_places.Given as goal

abbrev pub invariant-loop-row : goal.invariant-loop-row
invariant-loop-row l =
    (number name : ℕ) → last_from (is_method_of number name) by_id l.row-index (owned_number l.places number name) (drop l.row-index l.methods) ≡ method_number l.methods number name
