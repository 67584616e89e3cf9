use Rattle.std.proofs.Common.{◌≡◌, ◌+◌, ◌-◌, ◌++◌}
use Rattle.lang_typed.specs.Table.{params_from}
use Rattle.body_infer.proofs.classes.params_from.Given as goal

abbrev pub invariant-loop-at : goal.invariant-loop-at
invariant-loop-at l = l.all ++ params_from (l.first + l.at) (l.count - l.at) ≡ l.initial.all ++ params_from l.first l.count
