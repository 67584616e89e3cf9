use Rattle.std.proofs.Common.{◌≡◌, ◌↔◌, drop}
use Rattle.body_check.specs.Gathering.{all_left}
use Rattle.body_check.proofs.leaving.Leaving.keeps_all.Given as goal

abbrev pub invariant-loop-e : goal.invariant-loop-e
invariant-loop-e l =
    (all_left l.self (drop l.e-index l.effects) ≡ drop l.e-index l.effects) ↔ (all_left l.self l.effects ≡ l.effects)
