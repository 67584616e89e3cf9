use Rattle.std.proofs.Common.{◌≡◌, ◌-◌, length}
use Rattle.decl_headers.specs.Headers.{chain, nearest, parent_of, upwards}
use Rattle.decl_table.specs.Table.{own_method}
use Rattle.decl_table.proofs.table.Table.method.Given as goal

abbrev pub invariant-loop-step : goal.invariant-loop-step
invariant-loop-step l =
    nearest (λ above. own_method l.self above l.name) (chain (parent_of l.self.headers) (length l.self.headers.rows - l._step) l.at)
    ≡ nearest (λ above. own_method l.self above l.name) (upwards l.self.headers l.class)
