use Rattle.std.proofs.Common.{◌≡◌, ◌++◌, length}
use Rattle.lang_typed.specs.Inherited.{superclasses}
use Rattle.lang_typed.proofs.FirstValues.{own_along, value_of}
use Rattle.lang_typed.proofs.inherited.first_values.Given as goal

abbrev pub invariant-loop-at : goal.invariant-loop-at
invariant-loop-at l =
    l.values ++ own_along value_of l.program.classes l.left ≡ own_along value_of l.program.classes (superclasses l.program.classes (length l.program.classes) l.class.parent)

abbrev pub decreases-loop-at : goal.decreases-loop-at
decreases-loop-at l = length l.left
