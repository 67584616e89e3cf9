-- That each job on each text is answered.
use Rattle.std.specs.Prelude.{ℕ, ◌≢◌, List}
use Rattle.tool_words.specs.declared.command.Command.TheVariants.{Replay}
use Rattle.tool_words.specs.declared.job.Job.{Job}
use Rattle.tool_top.specs.declared.answered.Answered.{Answered}
use Rattle.tool_top.specs.Answer.{IsAnswer, IsWithin}
use Rattle.tool_top.specs.Replaying.{IsReplayed}

-- a job that is none of a replay has an answer, on each text, whatever is wrong with it
abbrev pub EachAnswered : Type 0
EachAnswered = (job : Job) (text : List ℕ) → IsWithin job → job.command ≢ Replay → (answered : Answered) × IsAnswer job text answered

-- so has a replay, of any bytes
abbrev pub EachReplayed : Type 0
EachReplayed = (bytes : List ℕ) → (answered : Answered) × IsReplayed bytes answered
