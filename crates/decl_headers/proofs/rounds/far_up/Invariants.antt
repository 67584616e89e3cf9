use Rattle.std.proofs.Common.{◌≡◌, ℕ, ◌+◌, ◌-◌, ◌<◌, length}
use Rattle.decl_headers.specs.Rounds.{entry_of, up}
use Rattle.decl_headers.proofs.rounds.far_up.Given as goal

abbrev pub invariant-loop-steps : goal.invariant-loop-steps
invariant-loop-steps l = record {
  positive : 0 < l.steps;
  above : (at : ℕ) → entry_of l.jumps at ≡ up l.parents l.steps at;
}

abbrev pub decreases-loop-steps : goal.decreases-loop-steps
decreases-loop-steps l = length l.parents + 1 - l.steps
