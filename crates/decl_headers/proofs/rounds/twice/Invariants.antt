use Rattle.std.proofs.Common.{◌≡◌, map, take}
use Rattle.std.specs.Option.{option_and_then}
use Rattle.decl_headers.specs.Rounds.{entry_of}
use Rattle.decl_headers.proofs.rounds.twice.Given as goal

abbrev pub invariant-loop-jump : goal.invariant-loop-jump
invariant-loop-jump l = l.made ≡ map (λ jump. option_and_then (entry_of l.jumps) jump) (take l.jump-index l.jumps)
