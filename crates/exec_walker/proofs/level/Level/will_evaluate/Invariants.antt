use Rattle.std.proofs.Common.{◌≡◌, ◌-◌, map, drop, length}
use Rattle.lang_typed.specs.Plain.{plain_expr, exprs_of}
use Rattle.exec_walker.specs.Walk.{each}
use Rattle.exec_walker.specs.States.{plain_item, plain_level}
use Rattle.exec_walker.proofs.level.Level.will_evaluate.Given as goal

abbrev pub invariant-loop-below : goal.invariant-loop-below
invariant-loop-below l =
    plain_level l.self
    ≡ record (plain_level l.fn.self) { items = each (exprs_of (map plain_expr (drop (length l.all - l.below) l.all))) (map plain_item l.fn.self.items) }
