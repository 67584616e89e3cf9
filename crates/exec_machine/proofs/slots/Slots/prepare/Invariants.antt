use Rattle.std.proofs.Common.{ℕ, Option}
use Rattle.code_instrs.specs.Plain.{plain_code}
use Rattle.exec_machine.specs.Running.{Running, AllGo, AllStand}
use Rattle.exec_machine.proofs.slots.Slots.prepare.Given as goal

abbrev pub invariant-loop-some : goal.invariant-loop-some
invariant-loop-some g l =
    (tasks : ℕ → Option Running) → AllGo (plain_code l.code) tasks → AllStand (plain_code l.code) l.fn.self tasks
    → AllStand (plain_code l.code) l.self tasks
