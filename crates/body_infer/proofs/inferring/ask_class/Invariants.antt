use Rattle.std.proofs.Common.{◌≡◌, ◌<◌, ℕ, false}
use Rattle.lang_typed.specs.Plain.{plain_program}
use Rattle.body_infer.specs.Passes.{MeetsRow, Rises}
use Rattle.body_infer.proofs.inferring.ask_class.Given as goal

abbrev pub invariant-loop-row : goal.invariant-loop-row
invariant-loop-row l = record {
  rises : Rises (plain_program l.program) l.initial.kept l.kept l.has_risen;
  met : l.has_risen ≡ false → (r : ℕ) → r < l.row → MeetsRow (plain_program l.program) l.kept l.number r;
}
