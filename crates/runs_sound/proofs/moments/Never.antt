-- What a legal run of a well-typed program never does: no task leaves a block that it didn't open, and none forks more branches than a
-- number of 32 bits counts, where the text has no such construct.
use Rattle.std.specs.Int.{w32}
use Rattle.std.proofs.Common.{◌≡◌, ◌<◌, ◌^◌, ℤ, FitsSigned, ◌∷◌, length, arith, subst}
use Rattle.lang_typed.specs.Plain.{PlainProgram}
use Rattle.lang_typed.specs.WellTyped.{WellTyped}
use Rattle.runs_theory.specs.Actions.{Branches, Do, Exit, Fork}
use Rattle.runs_theory.specs.Blocks.{Legal, Out_of, hold}
use Rattle.runs_theory.specs.Runs.{Event, Run, mine, now}
use Rattle.runs_theory.proofs.runs.Written.{legal_faithful}
use Rattle.runs_program.specs.Steps.{stepped}
use Rattle.runs_sound.proofs.numbers.Small.{HasFew}
use Rattle.runs_sound.proofs.moments.Sound.{EventOk, Sound, branches_of}
use Rattle.runs_sound.proofs.moments.Whole.{whole}

module _ (P : PlainProgram) (wt : WellTyped P) (arg : ℤ) (small : FitsSigned w32 arg) (R : Run) (e : Event) (l : Legal (stepped P arg) (e ∷ R)) where
  sound : Sound P (stepped P arg) (length (e ∷ R)) (e ∷ R)
  sound = (whole P wt arg small (length (e ∷ R)) (e ∷ R) (legal_faithful (stepped P arg) (e ∷ R) l) (omega arith)).holds

  pub exits_a_block : e.act ≡ Do Exit → hold (mine R e.path) ≡ Out_of → ⊥
  exits_a_block act = subst (λ c. EventOk P (stepped P arg) (sound.keeping e.path) (branches_of P (stepped P arg) sound.keeping e.path) sound.shapes R e.path c) act
      (sound.events e R now)

  pub forks_few : HasFew P → (ts : Branches) → e.act ≡ Fork ts → length ts.tasks < 2 ^ 32
  forks_few few ts act =
      (subst (λ c. EventOk P (stepped P arg) (sound.keeping e.path) (branches_of P (stepped P arg) sound.keeping e.path) sound.shapes R e.path c) act
      (sound.events e R now)).nd_free.2 few
