use Rattle.std.proofs.Common.{◌≡◌, ◌++◌, drop}
use Rattle.decl_reach.specs.Marking.{places_from}
use Rattle.decl_reach.proofs.reach.marked_places.Given as goal

abbrev pub invariant-loop-at : goal.invariant-loop-at
invariant-loop-at l = l.places ++ places_from l.at (drop l.at l.marks) ≡ places_from 0 l.marks
