use Rattle.lang_typed.specs.Plain.{plain_program}
use Rattle.body_infer.specs.Kept.{Keeping, SaysOfEach}
use Rattle.body_infer.specs.PostFixpoint.{IsPostFixpoint, KeepsNoMore}
use Rattle.body_infer.specs.Passes.{room}
use Rattle.body_infer.proofs.inferring.infer.Given as goal

abbrev pub invariant-loop-kept : goal.invariant-loop-kept
invariant-loop-kept l = record {
  says : SaysOfEach (plain_program l.program) l.kept;
  least : (T : Keeping) → SaysOfEach (plain_program l.program) T → IsPostFixpoint (plain_program l.program) T → KeepsNoMore (plain_program l.program) l.kept T;
}

abbrev pub decreases-loop-kept : goal.decreases-loop-kept
decreases-loop-kept l = room l.kept
