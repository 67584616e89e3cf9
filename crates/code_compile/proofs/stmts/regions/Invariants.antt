use Rattle.std.proofs.Common.{◌≡◌, map, drop}
use Rattle.code_scheme.specs.Scheme.{regions_piece}
use Rattle.code_compile.specs.Emitted.{emitted_of, after}
use Rattle.code_compile.proofs.stmts.regions.Given as goal

abbrev pub invariant-loop-region : goal.invariant-loop-region
invariant-loop-region l =
    after (emitted_of l.out) (λ k p. regions_piece l.place (map (λ r. r.number) (drop l.region-index l.region-items)))
    ≡ after (emitted_of l.fn.out) (λ k p. regions_piece l.place (map (λ r. r.number) l.region-items))
