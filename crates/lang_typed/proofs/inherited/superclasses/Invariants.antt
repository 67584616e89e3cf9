use Rattle.std.proofs.Common.{◌≡◌, ◌++◌, ◌-◌, length}
use Rattle.lang_typed.specs.Inherited.{superclasses}
use Rattle.lang_typed.proofs.inherited.superclasses.Given as goal

abbrev pub invariant-loop-step : goal.invariant-loop-step
invariant-loop-step l =
    l.all ++ superclasses l.program.classes (length l.program.classes - l._step) l.below.parent ≡ superclasses l.program.classes (length l.program.classes) l.class.parent
