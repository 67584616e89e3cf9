use Rattle.std.proofs.Common.{◌≡◌, ◌++◌, ◌-◌, length}
use Rattle.lang_typed.specs.Plain.{plain_program}
use Rattle.tool_trace.specs.events.Names.{upwards}
use Rattle.tool_trace.proofs.events.naming.upwards.Given as goal

abbrev pub invariant-loop-step : goal.invariant-loop-step
invariant-loop-step l =
    l.all ++ upwards (plain_program l.program) (length l.program.classes - l._step) l.at ≡ upwards (plain_program l.program) (length l.program.classes) l.class
