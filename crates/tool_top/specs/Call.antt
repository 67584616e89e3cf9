-- What a call of the whole tool does to its source and its sink.
use Rattle.std.specs.Prelude.{ℕ, ◌≡◌, ◌<◌, ◌≤◌, ◌++◌, Bool, true, false, cond, List, [], Option, Some, None, IfSome, MatchOption, length, take}
use Rattle.exec_run.specs.declared.history.record.Record.{Record}
use Rattle.tool_words.specs.Demo.{demo_text}
use Rattle.tool_words.specs.Jobs.{job}
use Rattle.tool_words.specs.declared.command.Command.{Command}
use Rattle.tool_words.specs.declared.command.Command.TheVariants.{Demo, Replay}
use Rattle.tool_words.specs.declared.job.Job.{Job}
use Rattle.tool_words.specs.Reports.{report_of, status_of}
use Rattle.tool_words.specs.declared.verdict.Status.{Status}
use Rattle.tool_words.specs.declared.verdict.Status.TheVariants as ended
use Rattle.tool_words.specs.declared.verdict.Verdict.TheVariants.{Usage}
use Rattle.tool_top.specs.declared.answered.Answered.{Answered}
use Rattle.tool_top.specs.Answer.{IsAnswer, only, most_bytes}
use Rattle.tool_top.specs.Replaying.{IsReplayed}

-- a demo makes its text, and every other job is on the text that the source holds
abbrev pub makes_text : Command → Bool
makes_text Demo = true
makes_text _ = false

abbrev pub text_for : Job → Option (List ℕ) → Option (List ℕ)
text_for job text = cond (makes_text job.command) (Some (demo_text job.n)) text

-- the answer to a job on a text: a replay is asked of the text of a trace, and all else of a program's
abbrev pub AnswersBy : Command → Job → List ℕ → Answered → Type 0
AnswersBy Replay job text answered = IsReplayed text answered
AnswersBy _ job text answered = IsAnswer job text answered

abbrev pub Answers : Job → List ℕ → Answered → Type 0
Answers job text answered = AnswersBy job.command job text answered

-- what was read to its end, and where nothing was, what the source says that it holds
abbrev pub known_by : Option (List ℕ) → Option (List ℕ) → Option (List ℕ)
known_by (Some read) left = Some read
known_by None left = left

-- the text is the one that is known, where one is
abbrev pub IsKnown : Option (List ℕ) → List ℕ → Type 0
IsKnown known text = IfSome known (λ one. text ≡ one)

-- the text that a job is on: the one that it makes, or that was read to its end, or that the source says it holds; and one that wasn't
-- read to its end is too long for the job
pub record IsTextOf (job : Job) (read left : Option (List ℕ)) (text : List ℕ) : Type 0 where
  pub is_known : IsKnown (text_for job (known_by read left)) text
  pub is_long : makes_text job.command ≡ false → read ≡ None → most_bytes job.command < length text

-- there is a text that the job is on, and this is the answer to the job on it
pub record AnswersSome (job : Job) (read left : Option (List ℕ)) (answered : Answered) : Type 0 where
  pub text : List ℕ
  pub is_text : IsTextOf job read left text
  pub answers : Answers job text answered

-- The answer to words, and to what was read or is known of the source: usage where they give no job, and else the answer to the job.
abbrev pub IsAnswered : List (List ℕ) → Option (List ℕ) → Option (List ℕ) → Answered → Type 0
IsAnswered words read left answered = MatchOption (job words) (answered ≡ only Usage) (λ job. AnswersSome job read left answered)

-- the words give a job on a text that the source holds
abbrev pub asks_text : Option Job → Bool
asks_text None = false
asks_text (Some job) = cond (makes_text job.command) false true

-- a status of a verdict, and not of the outside
abbrev pub IsVerdictStatus : Status → Type 0
IsVerdictStatus ended.ReadFault = ⊥
IsVerdictStatus ended.WriteFault = ⊥
IsVerdictStatus ended.NoMemory = ⊥
IsVerdictStatus _ = Unit {0}

-- what was held, and these bytes after it
abbrev pub Appends : Option (List ℕ) → Option (List ℕ) → List ℕ → Type 0
Appends before after bytes = IfSome before (λ held. after ≡ Some (held ++ bytes))

-- what was held, and a first part of these bytes after it
abbrev pub AppendsPart : Option (List ℕ) → Option (List ℕ) → List ℕ → Type 0
AppendsPart before after bytes =
    IfSome before (λ held. (count : ℕ) × (count ≤ length bytes) × (after ≡ Some (held ++ take count bytes)))

-- the status, the whole report and the record are those of the answer to the words and the text
pub record ReportsAnswer (words : List (List ℕ)) (read left before after : Option (List ℕ)) (status : Status) (recorded : Option Record) : Type 0 where
  pub answered : Answered
  pub is_answered : IsAnswered words read left answered
  pub status_reported : status ≡ status_of answered.verdict
  pub report_reported : Appends before after (report_of answered.verdict)
  pub run_recorded : recorded ≡ answered.recorded

-- a first part was written of the report of the answer to the words and the text, and where the sink says its
-- room, the whole report was too long for it
pub record BreaksOff (words : List (List ℕ)) (read left before after : Option (List ℕ)) (room : Option ℕ) (recorded : Option Record) : Type 0 where
  pub answered : Answered
  pub is_answered : IsAnswered words read left answered
  pub part_reported : AppendsPart before after (report_of answered.verdict)
  pub no_room : IfSome room (λ room. room < length (report_of answered.verdict))
  pub run_recorded : recorded ≡ answered.recorded

-- a source that says what it holds, and held a text that isn't too long for the job, holds nothing more
abbrev pub ReadToEnd : Option Job → Option (List ℕ) → Option (List ℕ) → Type 0
ReadToEnd None before after = Unit {0}
ReadToEnd (Some job) before after = IfSome before (λ text. length text ≤ most_bytes job.command → after ≡ Some [])
