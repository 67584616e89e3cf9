use Rattle.std.proofs.Common.{◌≡◌, ℕ, None, drop}
use Rattle.decl_headers.specs.Numbering.{with_all_params}
use Rattle.decl_headers.specs.Numbers.{owned_number}
use Rattle.decl_headers.proofs.numbering.number_params.Given as goal

abbrev pub invariant-loop-at : goal.invariant-loop-at
invariant-loop-at l = (owner name : ℕ) → with_all_params l.at (drop l.at l.rows) owner name (owned_number l.numbers owner name) ≡ with_all_params 0 l.rows owner name None
