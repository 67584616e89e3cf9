use Rattle.std.proofs.Common.{◌≡◌, drop}
use Rattle.decl_headers.specs.Rounds.{all_rounds}
use Rattle.decl_headers.proofs.rounds.going_round.Given as goal

abbrev pub invariant-loop-jump : goal.invariant-loop-jump
invariant-loop-jump l = all_rounds l.rounds.items (drop l.jump-index l.jump-items) ≡ all_rounds l.initial.rounds.items l.jump-items
