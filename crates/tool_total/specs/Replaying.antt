-- What `trace` writes, and what its replay comes to.
use Rattle.std.specs.Prelude.{ℕ, ◌≡◌, ◌≤◌, List, length, Some}
use Rattle.lang_base.specs.declared.outcome.Outcome.{Outcome}
use Rattle.code_instrs.specs.Plain.{plain_code}
use Rattle.exec_run.specs.declared.history.record.Record.{Record}
use Rattle.tool_trace.specs.Reading.{IsTrace}
use Rattle.tool_trace.specs.declared.reading.Trace.{Trace}
use Rattle.tool_words.specs.declared.job.Job.{Job}
use Rattle.tool_words.specs.declared.verdict.Verdict.TheVariants.{Ran, Traced}
use Rattle.tool_top.specs.declared.answered.Answered.{Answered}
use Rattle.tool_top.specs.Answer.{IsAnswer, IsWithin, limits_of, max_trace}
use Rattle.tool_top.specs.Replaying.{IsReplayed, program_of}

-- the bytes are a trace of the run that was recorded, and of the text
pub record IsTraceOf (job : Job) (text : List ℕ) (made : Record) (bytes : List ℕ) : Type 0 where
  pub trace : Trace
  pub is_trace : IsTrace bytes trace
  pub argument : trace.arg ≡ job.arg
  pub limits : trace.limits ≡ limits_of job
  pub schedule : trace.schedule ≡ made.machine.schedule
  pub program : program_of bytes trace ≡ text

-- a run was recorded that is the first one over again: on the same code, in the same order, with the same outcome
pub record RepeatsRun (made : Record) (outcome : Outcome) (again : Answered) : Type 0 where
  pub repeated : Record
  pub is : again ≡ record { verdict = Ran outcome; recorded = Some repeated }
  pub code : plain_code repeated.machine.code ≡ plain_code made.machine.code
  pub limits : repeated.machine.limits ≡ made.machine.limits
  pub argument : repeated.machine.argument ≡ made.machine.argument
  pub schedule : repeated.machine.schedule ≡ made.machine.schedule
  pub came : repeated.machine.outcome ≡ made.machine.outcome

-- what is written is a trace of the run that is recorded, and each answer to its replay repeats that run
pub record WritesTrace (job : Job) (text : List ℕ) (answered : Answered) (outcome : Outcome) (bytes : List ℕ) : Type 0 where
  pub made : Record
  pub recorded : answered.recorded ≡ Some made
  pub came : made.machine.outcome ≡ Some outcome
  pub traced : IsTraceOf job text made bytes
  pub replays : length bytes ≤ max_trace → (again : Answered) → IsReplayed bytes again → RepeatsRun made outcome again

-- so of each job within its ranges, on each text
abbrev pub TracesReplay : Type 0
TracesReplay =
    (job : Job) (text : List ℕ) (answered : Answered) (outcome : Outcome) (bytes : List ℕ) → IsWithin job → IsAnswer job text answered
    → answered.verdict ≡ Traced outcome bytes → WritesTrace job text answered outcome bytes
