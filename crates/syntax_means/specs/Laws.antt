-- That a text has one elision, as a statement.
use Rattle.std.specs.Prelude.{◌≡◌, ℕ, ℤ, List}
use Rattle.lang_base.specs.declared.outcome.Limits.{Limits}
use Rattle.lang_typed.specs.Plain.{PlainProgram}
use Rattle.lang_meaning.specs.Elision.{elided}
use Rattle.syntax_tree.specs.declared.class.Program.{Program}
use Rattle.syntax_means.specs.Accepts.{Accepts}

-- whatever trees and programs a text is accepted as, their elisions come out the same
abbrev pub OneMeaning : Type 0
OneMeaning =
    (text : List ℕ) (first second : Program) (P Q : PlainProgram) → Accepts text first P → Accepts text second Q → (argument : ℤ) (limits : Limits)
    → elided P argument limits ≡ elided Q argument limits
