use Rattle.std.proofs.Common.{◌≡◌, ◌<◌, ℕ, false}
use Rattle.lang_typed.specs.Plain.{plain_program}
use Rattle.body_infer.specs.Passes.{MeetsBody, Rises}
use Rattle.body_infer.proofs.inferring.ask_bodies.Given as goal

abbrev pub invariant-loop-number : goal.invariant-loop-number
invariant-loop-number l = record {
  rises : Rises (plain_program l.program) l.initial.kept l.kept l.has_risen;
  met : l.has_risen ≡ false → (n : ℕ) → n < l.number → MeetsBody (plain_program l.program) l.kept n;
}
