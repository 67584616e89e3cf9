use Rattle.std.proofs.Common.{◌≡◌, drop}
use Rattle.decl_headers.specs.Numbering.{counted_way}
use Rattle.decl_headers.proofs.fields.count_fields.Given as goal

abbrev pub invariant-loop-step : goal.invariant-loop-step
invariant-loop-step l = counted_way l.classes l.parents l.counts.items (drop l.step-index l.steps) ≡ counted_way l.classes l.parents l.initial.counts.items l.steps
