use Rattle.std.proofs.Common.{◌≡◌, drop}
use Rattle.decl_table.specs.Visible.{none_seen, after_way}
use Rattle.decl_table.proofs.overridden.on_way.Given as goal

abbrev pub invariant-loop-step : goal.invariant-loop-step
invariant-loop-step l =
    after_way l.lists (record { visible = l.visible.items; overridden = l.overridden.items }) (drop l.step-index l.steps)
    ≡ after_way l.lists (none_seen l.names l.rows) l.steps
