use Rattle.std.proofs.Common.{◌≡◌, ◌+◌, max, take, replicate}
use Rattle.std.specs.Prelude.{fold}
use Rattle.std.specs.List.{flat_map}
use Rattle.exec_machine.proofs.schedule.tasks_up_to.Given as goal

abbrev pub invariant-loop-repeat : goal.invariant-loop-repeat
invariant-loop-repeat l = l.most ≡ fold (λ most task. max most (task + 1)) 0 (flat_map (λ s. replicate s.many s.task) (take l.repeat-index l.repeats))
