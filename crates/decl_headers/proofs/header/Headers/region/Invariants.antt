use Rattle.std.proofs.Common.{◌≡◌, ◌-◌, length}
use Rattle.decl_headers.specs.Headers.{chain, nearest, parent_of, own_region, region_of}
use Rattle.decl_headers.proofs.header.Headers.region.Given as goal

abbrev pub invariant-loop-step : goal.invariant-loop-step
invariant-loop-step l =
    nearest (λ at. own_region l.self at l.name) (chain (parent_of l.self) (length l.self.rows - l._step) l.at) ≡ region_of l.self l.class l.name
