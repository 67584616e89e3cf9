use Rattle.std.proofs.Common.{◌≡◌, ◌++◌, map, drop}
use Rattle.body_infer.proofs.simple.add_regions.Given as goal

abbrev pub invariant-loop-region : goal.invariant-loop-region
invariant-loop-region l = l.all ++ map (λ region. region.number) (drop l.region-index l.region-items) ≡ l.initial.all ++ map (λ region. region.number) l.region-items
