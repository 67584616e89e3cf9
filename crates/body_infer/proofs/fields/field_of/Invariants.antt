use Rattle.std.proofs.Common.{◌≡◌, [], length}
use Rattle.lang_typed.specs.Inherited.{superclasses}
use Rattle.body_infer.specs.Sought.{plain_sought}
use Rattle.body_infer.proofs.Seeking.{known_among, sought_along}
use Rattle.body_infer.proofs.fields.field_of.Given as goal

abbrev pub invariant-loop-at : goal.invariant-loop-at
invariant-loop-at l =
    sought_along l.program.classes l.left (plain_sought l.sought) ≡ sought_along l.program.classes (superclasses l.program.classes (length l.program.classes) l.row.parent) (known_among [] l.slot)

abbrev pub decreases-loop-at : goal.decreases-loop-at
decreases-loop-at l = length l.left
