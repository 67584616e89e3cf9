-- What the whole runs of a well-typed program keep to, on each argument of 32 bits, as statements.
use Rattle.std.specs.Prelude.{◌≡◌, ℤ, FitsSigned, false, ◌∷◌}
use Rattle.std.specs.Int.{w32}
use Rattle.lang_typed.specs.declared.stmt.Forking.TheVariants.{Nondeterministic}
use Rattle.lang_typed.specs.Plain.{PlainProgram}
use Rattle.lang_typed.specs.WellTyped.{WellTyped}
use Rattle.runs_reduction.specs.Guarded.{AccessesLevelled, ConflictsGuarded, EntriesLet}
use Rattle.runs_theory.specs.Blocks.{Legal, leaving_locals, with_rule}
use Rattle.runs_theory.specs.Laws.{AllFree}
use Rattle.runs_theory.specs.Actions.{Branches, Fork, Rule}
use Rattle.runs_theory.specs.Meaning.{Known}
use Rattle.runs_theory.specs.Runs.{Event, Run, Upto}
use Rattle.runs_theory.specs.Standing.{Outside, standing}
use Rattle.runs_program.specs.Steps.{stepped}
use Rattle.runs_sound.specs.Laws.{main_bounds}
use Rattle.runs_sound.specs.Soundness.{IsSound}

-- each run that is legal by any rule of open blocks is sound
abbrev pub RunsAreSound : Type 0
RunsAreSound = (P : PlainProgram) (wt : WellTyped P) (arg : ℤ) → FitsSigned w32 arg → (rule : Rule) (R : Run) → Legal (with_rule rule (stepped P arg)) R →
    IsSound P (stepped P arg) (main_bounds P wt) R

-- no legal run of a program without nd constructs has two unordered events that conflict
abbrev pub RunsAreFree : Type 0
RunsAreFree = (P : PlainProgram) → WellTyped P → P.uses_nd ≡ false → (arg : ℤ) → FitsSigned w32 arg → AllFree (stepped P arg)

-- and of every program, unordered events that conflict stand inside blocks, and where these are two blocks the rule keeps them apart
abbrev pub ConflictsAreGuarded : Type 0
ConflictsAreGuarded = (P : PlainProgram) → WellTyped P → (arg : ℤ) → FitsSigned w32 arg → (R : Run) → Legal (stepped P arg) R → ConflictsGuarded (stepped P arg).rule R

-- no nd construct is forked inside a block
abbrev pub NdForksAreOutside : Type 0
NdForksAreOutside = (P : PlainProgram) → WellTyped P → (arg : ℤ) → FitsSigned w32 arg → (R : Run) → Legal (stepped P arg) R →
    (F : Run) (f : Event) (ts : Branches) → Upto (f ∷ F) R → f.act ≡ Fork ts → ts.kind ≡ Nondeterministic → standing F f.path ≡ Outside

-- so unordered events that conflict stand inside blocks on one level: their openers are in one branch of a deterministic construct, or both in none
abbrev pub ConflictsAreLevelled : Type 0
ConflictsAreLevelled = (P : PlainProgram) → WellTyped P → (arg : ℤ) → FitsSigned w32 arg → (R : Run) → Legal (stepped P arg) R → AccessesLevelled (stepped P arg).rule R

-- and blocks on two levels whose tasks part at an nd construct let each other by, leaving aside effects on local regions
abbrev pub EntriesAreLet : Type 0
EntriesAreLet = (P : PlainProgram) → WellTyped P → (arg : ℤ) → FitsSigned w32 arg → (R : Run) → Legal (stepped P arg) R →
    EntriesLet (leaving_locals (stepped P arg).rule) R

-- and what a task next acts on is there, in each run that is legal by any rule of open blocks
abbrev pub NamesAreKnownByAnyRule : Type 0
NamesAreKnownByAnyRule = (P : PlainProgram) → WellTyped P → (arg : ℤ) → FitsSigned w32 arg → (rule : Rule) → Known (with_rule rule (stepped P arg))
