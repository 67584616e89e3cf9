use Rattle.std.proofs.Common.{◌≡◌, ◌-◌, length}
use Rattle.lang_typed.specs.Plain.{plain_program}
use Rattle.body_infer.specs.Doing.{seen_within}
use Rattle.body_infer.proofs.classes.seen_as.Given as goal

abbrev pub invariant-loop-step : goal.invariant-loop-step
invariant-loop-step l =
    seen_within (length l.program.classes - l._step) (plain_program l.program) l.at l.seen l.above
    ≡ seen_within (length l.program.classes) (plain_program l.program) l.initial.at l.initial.seen l.above
