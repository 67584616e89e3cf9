use Rattle.std.proofs.Common.{◌≡◌, ℕ, drop}
use Rattle.decl_headers.specs.Numbering.{with_params}
use Rattle.decl_headers.specs.Numbers.{owned_number}
use Rattle.decl_headers.proofs.numbering.number_own_params.Given as goal

abbrev pub invariant-loop-position : goal.invariant-loop-position
invariant-loop-position l = (owner name : ℕ) → with_params l.class l.position (drop l.position l.params) owner name (owned_number l.numbers owner name) ≡ with_params l.class 0 l.params owner name (owned_number l.initial.numbers owner name)
