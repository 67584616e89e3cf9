use Rattle.std.proofs.Common.{◌≡◌, ◌++◌, map, drop}
use Rattle.body_infer.specs.Asked.{nothing_of}
use Rattle.body_infer.proofs.inferring.nothing_kept.Given as goal

abbrev pub invariant-loop-member : goal.invariant-loop-member
invariant-loop-member l = l.all ++ map (λ m. nothing_of m.summary) (drop l.member-index l.member-items) ≡ map (λ m. nothing_of m.summary) l.member-items
