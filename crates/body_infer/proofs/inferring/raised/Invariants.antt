use Rattle.std.proofs.Common.{◌≡◌, drop}
use Rattle.body_infer.specs.Asked.{raised}
use Rattle.body_infer.proofs.inferring.raised.Given as goal

abbrev pub invariant-loop-demand : goal.invariant-loop-demand
invariant-loop-demand l = raised l.item l.place (drop l.demand-index l.demands) l.risen ≡ raised l.item l.place l.demands l.fn.old
