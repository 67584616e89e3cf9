use Rattle.std.proofs.Common.{◌≡◌, ◌++◌, map, take, drop}
use Rattle.body_check.specs.Leaving.{left_elem}
use Rattle.body_check.proofs.leaving.Leaving.leave_path.Given as goal

abbrev pub invariant-loop-at : goal.invariant-loop-at
invariant-loop-at l =
    let elems = l.initial.rpl.elems in
    l.rpl ≡ record { head = l.initial.rpl.head; elems = map (left_elem l.self.first_slot) (take l.at elems) ++ drop l.at elems }
