use Rattle.std.proofs.Common.{◌≡◌, ◌-◌, length}
use Rattle.lang_base.specs.Types.{plain_type, below_class}
use Rattle.region_types.proofs.subtyping.below_class.Given as goal

abbrev pub invariant-loop-step : goal.invariant-loop-step
invariant-loop-step l =
    below_class l.supers (length l.supers - l.step) (plain_type l.above) (plain_type l.b) ≡ below_class l.supers (length l.supers) (plain_type l.a) (plain_type l.b)
