use Rattle.std.proofs.Common.{◌≡◌, take, replicate}
use Rattle.std.specs.List.{flat_map}
use Rattle.exec_machine.proofs.schedule.tasks_of.Given as goal

abbrev pub invariant-loop-repeat : goal.invariant-loop-repeat
invariant-loop-repeat l = l.tasks ≡ flat_map (λ s. replicate s.many s.task) (take l.repeat-index l.repeats)
