-- What holds of the code of a well-typed program.
use Rattle.lang_typed.specs.Plain.{PlainProgram}
use Rattle.lang_typed.specs.Resolved.{Resolved}
use Rattle.lang_typed.specs.WellTyped.{WellTyped}
use Rattle.code_instrs.specs.Fit.{CodeFit}
use Rattle.code_scheme.specs.Whole.{compiled}
use Rattle.code_fit.specs.Closed.{CodeClosed}
use Rattle.code_fit.specs.Room.{Roomy}

-- the code of a resolved program with room for its bodies is fit
abbrev pub CompiledIsFit : Type 0
CompiledIsFit = (P : PlainProgram) → Resolved P → Roomy P → CodeFit (compiled P)

abbrev pub WellTypedIsRoomy : Type 0
WellTypedIsRoomy = (P : PlainProgram) → WellTyped P → Roomy P

-- that of a well-typed program is closed, and with that fit
abbrev pub WellTypedIsClosed : Type 0
WellTypedIsClosed = (P : PlainProgram) → WellTyped P → CodeClosed (compiled P)
