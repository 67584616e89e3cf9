-- The inferred summaries of a program are one.
use Rattle.std.specs.Prelude.{◌≡◌}
use Rattle.lang_typed.specs.Plain.{PlainProgram}
use Rattle.body_infer.specs.PostFixpoint.{IsInferred}
use Rattle.body_infer.specs.Kept.{Keeping, program_kept}

-- whatever is said of each item, the summaries that are left are the same
abbrev pub OneInferred : Type 0
OneInferred = (P : PlainProgram) (S T : Keeping) → IsInferred P S → IsInferred P T → program_kept S P ≡ program_kept T P
