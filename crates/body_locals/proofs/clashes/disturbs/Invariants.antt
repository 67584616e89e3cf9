use Rattle.std.proofs.Common.{ℕ, ◌<◌, get_or}
use Rattle.body_locals.specs.Clash.{Uses}
use Rattle.body_locals.proofs.clashes.disturbs.Given as goal

abbrev pub invariant-loop-local : goal.invariant-loop-local
invariant-loop-local l = (k : ℕ) → k < l.local-index → Uses l.other (get_or l.local-items k 0) → ⊥
