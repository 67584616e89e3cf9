use Rattle.lang_typed.specs.Plain.{plain_program}
use Rattle.body_infer.specs.Passes.{Climbs}
use Rattle.body_infer.proofs.settling.ask_member.Given as goal

abbrev pub invariant-loop-standing : goal.invariant-loop-standing
invariant-loop-standing l = Climbs (plain_program l.program) l.initial.kept l.kept
