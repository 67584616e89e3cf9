use Rattle.std.proofs.Common.{◌≡◌, ℕ, drop}
use Rattle.body_locals.specs.Gains.{gained}
use Rattle.body_locals.specs.Touches.{suffixes_read}
use Rattle.body_locals.proofs.reads.read_suffixes.Given as goal

abbrev pub invariant-loop-at : goal.invariant-loop-at
invariant-loop-at l =
    (x : ℕ) → gained l.inside l.reads (λ x. suffixes_read x (drop l.at l.suffixes) l.own) x ≡ gained l.fn.inside l.fn.reads (λ x. suffixes_read x l.suffixes l.own) x
