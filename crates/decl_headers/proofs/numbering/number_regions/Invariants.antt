use Rattle.std.proofs.Common.{◌≡◌, ℕ, ◌==◌, ◌&&◌, drop}
use Rattle.decl_headers.specs.Headers.{region_in}
use Rattle.decl_headers.specs.Numbers.{last_place, owned_number}
use Rattle.decl_headers.proofs.numbering.number_regions.Given as goal

abbrev pub invariant-loop-at : goal.invariant-loop-at
invariant-loop-at l = (owner name : ℕ) → last_place (λ row. (row.owner == owner) && (row.name == name)) l.at (drop l.at l.regions) (owned_number l.numbers owner name) ≡ region_in l.regions owner name
