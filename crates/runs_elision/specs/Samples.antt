-- What the laws say of small programs, and that determinism needs what it asks.
use Rattle.std.specs.Prelude.{ℕ, pos, codes, List, []}
use Rattle.lang_base.specs.declared.value.Trap.TheVariants.{Divide}
use Rattle.lang_typed.specs.Plain.{PlainProgram}
use Rattle.lang_typed.specs.Samples.{here, program_of}
use Rattle.lang_meaning.specs.Samples.{divides, prints_sum}
use Rattle.runs_theory.specs.Actions.{Ending, Returned, Trapped}
use Rattle.runs_theory.specs.Blocks.{Legal}
use Rattle.runs_theory.specs.Laws.{AllFree}
use Rattle.runs_theory.specs.Objects.{Int}
use Rattle.runs_theory.specs.Order.{Came, Comes, InOrder, Outcome}
use Rattle.runs_theory.specs.Runs.{Ended, Run}
use Rattle.runs_theory.specs.Schedules.{Finished, Limits}
use Rattle.runs_program.specs.Samples.{races}
use Rattle.runs_program.specs.Steps.{stepped}
use Rattle.runs_elision.specs.Laws.{IsElided}

-- in sequence the first branch traps, and what the second prints after it isn't shown
abbrev pub DividesElided : Type 0
DividesElided = (R : Run) × Legal (stepped divides (pos 0)) R × InOrder R × Comes (stepped divides (pos 0)) R (Came (Trapped Divide here) [] 6 3)

-- `print(1 + 2); return 7;`
abbrev pub sums : PlainProgram
sums = program_of [] [] 2 prints_sum

-- it has one task, so no legal run of it has conflicts; each that has ended prints 3 and ends with 7, as its elision does
pub record SumsElided : Type 0 where
  pub free : AllFree (stepped sums (pos 0))
  pub comes : (R : Run) (x : Ending) → Legal (stepped sums (pos 0)) R → Ended R [] x
      → Comes (stepped sums (pos 0)) R (Came (Returned (Int (pos 7))) (codes "3\n") 2 3)

-- where branches conflict, a finished schedule may come out otherwise than the elision
abbrev pub DeterminismNeedsFree : Type 0
DeterminismNeedsFree = (L : Limits) × (ks : List ℕ) × (o : Outcome) × Finished (stepped races (pos 0)) L ks o × (IsElided races (pos 0) L o → ⊥)
