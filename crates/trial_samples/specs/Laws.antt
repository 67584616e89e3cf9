-- What the laws say of the sample, on the argument 2.
use Rattle.std.specs.Prelude.{◌≡◌, ℤ, pos, codes, [], ◌∷◌}
use Rattle.lang_typed.specs.Plain.{PlainProgram}
use Rattle.lang_typed.specs.WellTyped.{WellTyped}
use Rattle.lang_meaning.specs.Actions.{Returned}
use Rattle.lang_meaning.specs.Elision.{elided}
use Rattle.lang_meaning.specs.Outcomes.{Came}
use Rattle.lang_meaning.specs.Values.{Int}
use Rattle.runs_reduction.specs.Gathered.{gather}
use Rattle.runs_reduction.specs.Guarded.{InBlock}
use Rattle.runs_reduction.specs.Laws.{IsGathered}
use Rattle.runs_theory.specs.Actions.{Ending}
use Rattle.runs_theory.specs.Blocks.{Legal}
use Rattle.runs_theory.specs.Order.{Conflict, Unordered}
use Rattle.runs_theory.specs.Runs.{Ended, Event, Run, Upto}
use Rattle.runs_sound.specs.Laws.{main_bounds}
use Rattle.runs_sound.specs.Soundness.{IsSound}
use Rattle.runs_program.specs.Steps.{stepped}
use Rattle.trial_samples.specs.Sample.{sample}

-- in sequence it prints this and gives 4, in 92 steps and 35 cells. The fourth line is the area of a square
abbrev pub SampleIsElided : Type 0
SampleIsElided = elided sample (pos 2) (record { steps = 1000; cells = 1000 }) ≡ Came (Returned (Int (pos 4))) (codes "root\n-2\ntrue\n18\n2\n") 92 35

-- two unordered events of a run that conflict, each inside a block
pub record ConflictInBlocks (R : Run) : Type 0 where
  pub after : Run
  pub later_one : Event
  pub before : Run
  pub earlier : Event
  pub stands : Upto (later_one ∷ after) R
  pub under : Upto (earlier ∷ before) after
  pub unordered : Unordered earlier.path later_one.path
  pub conflict : Conflict earlier later_one
  pub former : InBlock before earlier.path
  pub latter : InBlock after later_one.path

-- a legal run whose root has ended so, with a conflict in blocks; it is sound, and it can be gathered, which changes it
pub record WholeRun (P : PlainProgram) (arg : ℤ) (x : Ending) : Type 0 where
  pub run : Run
  pub legal : Legal (stepped P arg) run
  pub ended : Ended run [] x
  pub conflict : ConflictInBlocks run
  pub sound : (wt : WellTyped P) → IsSound P (stepped P arg) (main_bounds P wt) run
  pub gathered : IsGathered (stepped P arg) run
  pub changed : gather run ≡ run → ⊥

abbrev pub SampleRuns : Type 0
SampleRuns = WholeRun sample (pos 2) (Returned (Int (pos 4)))
