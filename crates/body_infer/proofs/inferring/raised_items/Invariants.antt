use Rattle.std.proofs.Common.{◌≡◌, ◌++◌, drop}
use Rattle.body_infer.specs.Asked.{raised_from}
use Rattle.body_infer.proofs.inferring.raised_items.Given as goal

abbrev pub invariant-loop-position : goal.invariant-loop-position
invariant-loop-position l =
    l.new ++ raised_from l.position l.member.summary l.places l.demands (drop l.position l.old-items)
    ≡ raised_from 0 l.member.summary l.places l.demands l.old-items
