use Rattle.std.proofs.Common.{◌≡◌, ℕ, map}
use Rattle.lang_typed.specs.Plain.{plain_program}
use Rattle.lang_meaning.specs.Elision.{Store as Elided}
use Rattle.exec_walker.specs.Walk.{At, walk}
use Rattle.exec_walker.specs.Stores.{Holds}
use Rattle.exec_walker.specs.States.{StandsAt, plain_level, plain_waiting}
use Rattle.exec_walker.specs.Work.{work_left}
use Rattle.exec_walker.proofs.walker.Walker.to_next_cost.Given as goal
use Rattle.lang_base.specs.declared.outcome.Limits.{Limits}

abbrev pub invariant-loop-over : goal.invariant-loop-over
invariant-loop-over l =
    record {
      same : l.self.store.steps ≡ l.fn.self.store.steps;
      walks : (L : Limits) (w : Elided) → Holds L l.fn.self.store w →
          (n : ℕ) × StandsAt L l.self (walk (plain_program l.program) n (At (plain_level l.fn.self.level) (map plain_waiting l.fn.self.waiting) w));
    }

abbrev pub decreases-loop-over : goal.decreases-loop-over
decreases-loop-over l = work_left l.self
