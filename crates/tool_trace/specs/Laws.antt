-- What is true of every text: it is a trace text in one way at most, or it has one first line that doesn't fit.
use Rattle.std.specs.Prelude.{◌≡◌, ℕ, List}
use Rattle.tool_trace.specs.declared.reading.Trace.{Trace}
use Rattle.tool_trace.specs.Reading.{IsTrace, IsMisfit}

abbrev pub OneReading : Type 0
OneReading = (bytes : List ℕ) (first second : Trace) → IsTrace bytes first → IsTrace bytes second → first ≡ second

abbrev pub OneMisfit : Type 0
OneMisfit = (bytes : List ℕ) (first second : ℕ) → IsMisfit bytes first → IsMisfit bytes second → first ≡ second

abbrev pub NoMisfitInTrace : Type 0
NoMisfitInTrace = (bytes : List ℕ) (trace : Trace) (line : ℕ) → IsTrace bytes trace → IsMisfit bytes line → ⊥
