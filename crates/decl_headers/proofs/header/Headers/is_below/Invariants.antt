use Rattle.std.proofs.Common.{◌≡◌, ◌-◌, ◌==◌, length}
use Rattle.std.specs.List.{list_any}
use Rattle.decl_headers.specs.Headers.{chain, parent_of, is_below}
use Rattle.decl_headers.proofs.header.Headers.is_below.Given as goal

abbrev pub invariant-loop-step : goal.invariant-loop-step
invariant-loop-step l =
    list_any (λ at. at == l.other) (chain (parent_of l.self) (length l.self.rows - l._step) l.at) ≡ is_below l.self l.class l.other
