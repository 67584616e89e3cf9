-- Determinism and reduction of well-typed programs, on each argument of 32 bits, as statements.
use Rattle.std.specs.Prelude.{ℕ, ℤ, ◌≡◌, ◌≤◌, FitsSigned, false, List, []}
use Rattle.std.specs.Int.{w32}
use Rattle.lang_typed.specs.Plain.{PlainProgram}
use Rattle.lang_typed.specs.WellTyped.{WellTyped}
use Rattle.runs_elision.specs.Laws.{ComesOutAsElided, IsElided}
use Rattle.lang_meaning.specs.Actions.{Ending as EndingOf}
use Rattle.lang_meaning.specs.Elision.{elided}
use Rattle.lang_meaning.specs.Outcomes.{Came as CameIn}
use Rattle.runs_reduction.specs.Laws.{IsArranged, IsGathered, IsMoved}
use Rattle.runs_theory.specs.Actions.{Ending, Program}
use Rattle.runs_theory.specs.Blocks.{Legal, leaving_locals, with_rule}
use Rattle.runs_theory.specs.Order.{Outcome}
use Rattle.runs_theory.specs.Runs.{Ended, Run, cells_of, steps_of}
use Rattle.runs_theory.specs.Schedules.{Finished, Limits}
use Rattle.runs_program.specs.Steps.{stepped}

-- each legal run of a program without nd constructs whose root has ended comes out as the elision, or is over a limit, as the elision is
abbrev pub RunsComeOutAsElided : Type 0
RunsComeOutAsElided = (P : PlainProgram) → WellTyped P → P.uses_nd ≡ false → (arg : ℤ) → FitsSigned w32 arg →
    (L : Limits) (R : Run) (x : Ending) → Legal (stepped P arg) R → Ended R [] x → ComesOutAsElided P arg L R

-- so does each finished schedule, limits included
abbrev pub SchedulesComeOutAsElided : Type 0
SchedulesComeOutAsElided = (P : PlainProgram) → WellTyped P → P.uses_nd ≡ false → (arg : ℤ) → FitsSigned w32 arg →
    (L : Limits) (ks : List ℕ) (o : Outcome) → Finished (stepped P arg) L ks o → IsElided P arg L o

-- and where the elision ends within some limits no legal run, ended or not, costs more
abbrev pub NoRunCostsMore : Type 0
NoRunCostsMore = (P : PlainProgram) → WellTyped P → P.uses_nd ≡ false → (arg : ℤ) → FitsSigned w32 arg →
    (L : Limits) (x : EndingOf ℕ) (output : List ℕ) (steps cells : ℕ) → elided P arg L ≡ CameIn x output steps cells →
    (R : Run) → Legal (stepped P arg) R → (steps_of R ≤ steps) × (cells_of (stepped P arg) R ≤ cells)

-- each legal run of any program can be gathered: each atomic block's events together at its entry, all else in its order
abbrev pub RunsAreGathered : Type 0
RunsAreGathered = (P : PlainProgram) → WellTyped P → (arg : ℤ) → FitsSigned w32 arg → (R : Run) → Legal (stepped P arg) R → IsGathered (stepped P arg) R

-- the program with blocks that don't wait for each other for effects on local regions alone
abbrev pub stepped_inside : PlainProgram → ℤ → Program
stepped_inside P arg = with_rule (leaving_locals (stepped P arg).rule) (stepped P arg)

-- of each legal run of any program whose root has ended all deterministic constructs can be moved at once, inside nd constructs too: each one's
-- branches directly after its fork, one after another, and all else in its order
abbrev pub RunsAreMoved : Type 0
RunsAreMoved = (P : PlainProgram) → WellTyped P → (arg : ℤ) → FitsSigned w32 arg → (R : Run) (x : Ending) → Legal (stepped P arg) R → Ended R [] x
    → IsMoved (stepped_inside P arg) R

-- and both can be had of it at once: gathered and then moved
abbrev pub RunsAreArranged : Type 0
RunsAreArranged = (P : PlainProgram) → WellTyped P → (arg : ℤ) → FitsSigned w32 arg → (R : Run) (x : Ending) → Legal (stepped P arg) R → Ended R [] x
    → IsArranged (stepped_inside P arg) R
