use Rattle.lang_typed.specs.Plain.{plain_program}
use Rattle.body_infer.specs.Passes.{Climbs}
use Rattle.body_infer.proofs.settling.ask_rows.Given as goal

abbrev pub invariant-loop-member : goal.invariant-loop-member
invariant-loop-member l = Climbs (plain_program l.program) l.initial.kept l.kept
