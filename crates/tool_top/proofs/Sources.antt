-- Answers on what a source holds, over plain variables.
use Rattle.std.proofs.Common.{◌≡◌, ◌≢◌, ◌∙◌, ◌<◌, ◌≤◌, ℕ, suc, true, false, List, [], length, Option, Some, None, IfSome, IfOk, IfErr, OnOk, Result, Ok, Err, MatchOption, cond, option_map, replicate, refl, sym, ap, subst, arith}
use Rattle.std.specs.Vec.{vec_items}
use Rattle.std.proofs.lemmas.Bool.{false≢true}
use Rattle.std.proofs.lemmas.List.{length-replicate}
use Rattle.lang_base.specs.declared.memory.NoMemory.{NoMemory}
use Rattle.lang_base.specs.declared.refusal.Kind.TheVariants.{TooLong}
use Rattle.tool_words.specs.declared.command.Command.{Command}
use Rattle.tool_words.specs.declared.command.Command.TheVariants as command
use Rattle.tool_words.specs.declared.job.Job.{Job}
use Rattle.tool_words.specs.declared.verdict.Status.TheVariants as ended
use Rattle.tool_words.specs.declared.verdict.Verdict.TheVariants.{Usage}
use Rattle.tool_words.specs.Demo.{demo_text}
use Rattle.tool_words.specs.Jobs.{job}
use Rattle.tool_words.specs.Reports.{status_of}
use Rattle.tool_top.specs.declared.answered.Answered.{Answered}
use Rattle.tool_top.specs.declared.call.Reply.{Reply}
use Rattle.tool_top.specs.declared.call.Unread.{Unread}
use Rattle.tool_top.specs.declared.call.Unread.TheVariants.{ReadFault}
use Rattle.tool_top.specs.Answer.{IsAnswer, too_long, only, refused_at_start, most_bytes, makes_run}
use Rattle.tool_top.specs.Call.{Answers, AnswersBy, AnswersSome, IsAnswered, IsKnown, ReadToEnd, asks_text, makes_text, text_for, known_by}
use Rattle.tool_top.specs.Replaying.{too_long as trace_too_long}
use Rattle.tool_top.proofs.Traces.{replay-no-usage}
use Rattle.tool_top.proofs.Verdicts.{answer-no-usage}

-- no answer to a job is reported as usage
by-no-usage : (c : Command) (asked : Job) (text : List ℕ) (answered : Answered) → AnswersBy c asked text answered → status_of answered.verdict ≡ ended.Usage → ⊥
by-no-usage command.Replay asked text answered is e = replay-no-usage text answered is e
by-no-usage command.Check asked text answered is e = answer-no-usage asked text answered is e
by-no-usage command.Run asked text answered is e = answer-no-usage asked text answered is e
by-no-usage command.Elide asked text answered is e = answer-no-usage asked text answered is e
by-no-usage command.«List» asked text answered is e = answer-no-usage asked text answered is e
by-no-usage command.Demo asked text answered is e = answer-no-usage asked text answered is e
by-no-usage command.Trace asked text answered is e = answer-no-usage asked text answered is e
by-no-usage command.Events asked text answered is e = answer-no-usage asked text answered is e
by-no-usage command.Effects asked text answered is e = answer-no-usage asked text answered is e
by-no-usage command.Cost asked text answered is e = answer-no-usage asked text answered is e

pub answers-no-usage : (asked : Job) (text : List ℕ) (answered : Answered) → Answers asked text answered → status_of answered.verdict ≡ ended.Usage → ⊥
answers-no-usage asked text answered is e = by-no-usage asked.command asked text answered is e

-- where more was left than a text may have for a job, the answer is that
long-answer : (asked : Job) (bytes : List ℕ) (answered : Answered) → answered ≡ only (refused_at_start TooLong) → 1048576 < length bytes → IsAnswer asked bytes answered
long-answer asked bytes answered is long = subst (λ a. IsAnswer asked bytes a) (sym is) (too_long long)

by-too-long : (c : Command) (asked : Job) (bytes : List ℕ) (answered : Answered) → answered ≡ only (refused_at_start TooLong) → most_bytes c < length bytes
    → AnswersBy c asked bytes answered
by-too-long command.Replay asked bytes answered is long = trace_too_long long is
by-too-long command.Check asked bytes answered is long = long-answer asked bytes answered is long
by-too-long command.Run asked bytes answered is long = long-answer asked bytes answered is long
by-too-long command.Elide asked bytes answered is long = long-answer asked bytes answered is long
by-too-long command.«List» asked bytes answered is long = long-answer asked bytes answered is long
by-too-long command.Demo asked bytes answered is long = long-answer asked bytes answered is long
by-too-long command.Trace asked bytes answered is long = long-answer asked bytes answered is long
by-too-long command.Events asked bytes answered is long = long-answer asked bytes answered is long
by-too-long command.Effects asked bytes answered is long = long-answer asked bytes answered is long
by-too-long command.Cost asked bytes answered is long = long-answer asked bytes answered is long

-- a job that makes no text is on the one that is known
known_unmade : (asked : Job) (known : Option (List ℕ)) (text : List ℕ) → makes_text asked.command ≡ false → IsKnown known text → IsKnown (text_for asked known) text
known_unmade asked known text unmade is = subst (λ made. IsKnown (cond made (Some (demo_text asked.n)) known) text) (sym unmade) is

long_text : (asked : Job) (left : Option (List ℕ)) (text : List ℕ) (answered : Answered) → makes_text asked.command ≡ false → answered ≡ only (refused_at_start TooLong)
    → IsKnown left text → most_bytes asked.command < length text → AnswersSome asked None left answered
long_text asked left text answered unmade is known long = record {
  text = text;
  is_text = record { is_known = known_unmade asked left text unmade known; is_long = λ _ _. long };
  answers = by-too-long asked.command asked text answered is long;
}

-- a source that says nothing held some text that is too long
source_too_long : (asked : Job) (left : Option (List ℕ)) (answered : Answered) → makes_text asked.command ≡ false → answered ≡ only (refused_at_start TooLong)
    → IfSome left (λ bytes. most_bytes asked.command < length bytes) → AnswersSome asked None left answered
source_too_long asked None answered unmade is long =
    let text : List ℕ = replicate (suc (most_bytes asked.command)) 0 in
    let many = length-replicate {A = ℕ} (suc (most_bytes asked.command)) 0 in
    long_text asked None text answered unmade is tt (omega (arith, many))
source_too_long asked (Some bytes) answered unmade is long = long_text asked (Some bytes) bytes answered unmade is refl long

pub source-too-long : (asked : Job) (read left : Option (List ℕ)) (most : ℕ) (answered reported : Answered) → makes_text asked.command ≡ false → read ≡ None → reported ≡ answered
    → most ≡ most_bytes asked.command → answered ≡ only (refused_at_start TooLong) → IfSome left (λ bytes. most < length bytes) → AnswersSome asked read left reported
source-too-long asked read left most answered reported unmade unread same limit is long =
    subst (λ r. AnswersSome asked r left reported) (sym unread)
    (source_too_long asked left reported unmade (same ∙ is) (subst (λ n. IfSome left (λ bytes. n < length bytes)) limit long))

some_read : {text : List ℕ} {P : Type 0} → Some text ≡ None → P
some_read e = absurd (cc e)

-- the answer to the text that was read
pub source-read : (asked : Job) (left : Option (List ℕ)) (text : List ℕ) (answered : Answered) → makes_text asked.command ≡ false → Answers asked text answered → AnswersSome asked (Some text) left answered
source-read asked left text answered unmade is = record {
  text = text;
  is_text = record { is_known = known_unmade asked (Some text) text unmade refl; is_long = λ _ e. some_read e };
  answers = is;
}

-- a demo is on the text that it makes
demo-read : (asked : Job) (read left : Option (List ℕ)) (answered : Answered) → asked.command ≡ command.Demo → IsAnswer asked (demo_text asked.n) answered → AnswersSome asked read left answered
demo-read asked read left answered demo is =
    let made : makes_text asked.command ≡ true = ap makes_text demo in
    record {
      text = demo_text asked.n;
      is_text = record {
        is_known = subst (λ b. IsKnown (cond b (Some (demo_text asked.n)) (known_by read left)) (demo_text asked.n)) (sym made) refl;
        is_long = λ unmade _. absurd (false≢true (sym unmade ∙ made));
      };
      answers = subst (λ c. AnswersBy c asked (demo_text asked.n) answered) (sym demo) is;
    }

pub demo-answered : (words : List (List ℕ)) (given : Job) → Some given ≡ job words → (left : Option (List ℕ)) (answered : Answered) → given.command ≡ command.Demo →
    IsAnswer given (demo_text given.n) answered → IsAnswered words None left answered
demo-answered words given is_job left answered demo is =
    subst (λ j. MatchOption j (answered ≡ only Usage) (λ asked. AnswersSome asked None left answered)) is_job (demo-read given None left answered demo is)

-- any command but a demo is on the text of the source
pub not-made : (c : Command) → c ≢ command.Demo → makes_text c ≡ false
not-made command.Demo demo = absurd (demo refl)
not-made command.Check demo = refl
not-made command.Run demo = refl
not-made command.Elide demo = refl
not-made command.«List» demo = refl
not-made command.Trace demo = refl
not-made command.Replay demo = refl
not-made command.Events demo = refl
not-made command.Effects demo = refl
not-made command.Cost demo = refl

-- and a demo alone makes one, of which a run is made
pub made-runs : (c : Command) → makes_text c ≡ true → makes_run c ≡ true
made-runs command.Demo made = refl
made-runs command.Check made = absurd (false≢true made)
made-runs command.Run made = absurd (false≢true made)
made-runs command.Elide made = absurd (false≢true made)
made-runs command.«List» made = absurd (false≢true made)
made-runs command.Trace made = absurd (false≢true made)
made-runs command.Replay made = absurd (false≢true made)
made-runs command.Events made = absurd (false≢true made)
made-runs command.Effects made = absurd (false≢true made)
made-runs command.Cost made = absurd (false≢true made)

-- the answer by a program is the answer to any job but a replay
by-program : (c : Command) (asked : Job) (text : List ℕ) (answered : Answered) → c ≢ command.Replay → IsAnswer asked text answered → AnswersBy c asked text answered
by-program command.Replay asked text answered other is = absurd (other refl)
by-program command.Check asked text answered other is = is
by-program command.Run asked text answered other is = is
by-program command.Elide asked text answered other is = is
by-program command.«List» asked text answered other is = is
by-program command.Demo asked text answered other is = is
by-program command.Trace asked text answered other is = is
by-program command.Events asked text answered other is = is
by-program command.Effects asked text answered other is = is
by-program command.Cost asked text answered other is = is

pub answers-by-program : (asked : Job) (text : List ℕ) (result : Result Answered NoMemory) → asked.command ≢ command.Replay → IfOk result (IsAnswer asked text) → IfOk result (Answers asked text)
answers-by-program asked text (Ok answered) other is = by-program asked.command asked text answered other is
answers-by-program asked text (Err none) other is = tt

module _ (words : List (List ℕ)) (given : Job) (is_job : Some given ≡ job words) (read : makes_text given.command ≡ false) where
  pub answered-so : (read left : Option (List ℕ)) (answered : Answered) → AnswersSome given read left answered → IsAnswered words read left answered
  answered-so read left answered is = subst (λ j. MatchOption j (answered ≡ only Usage) (λ asked. AnswersSome asked read left answered)) is_job is

  pub on-source : (left : Option (List ℕ)) (result : Result Reply Unread) → IfOk result (λ reply. AnswersSome given (option_map vec_items reply.read) left reply.answered)
      → IfOk result (λ reply. IsAnswered words (option_map vec_items reply.read) left reply.answered)
  on-source left (Ok reply) is = answered-so (option_map vec_items reply.read) left reply.answered is
  on-source left (Err unread) is = tt

  pub no-usage-so : (result : Result Reply Unread) → IfOk result (λ reply. status_of reply.answered.verdict ≢ ended.Usage)
      → IfOk result (λ reply. status_of reply.answered.verdict ≡ ended.Usage → job words ≡ None)
  no-usage-so (Ok reply) none = λ e. absurd (none e)
  no-usage-so (Err unread) none = tt

  asked-true : asks_text (job words) ≡ true
  asked-true = subst (λ j. asks_text j ≡ true) is_job (ap (λ b. cond b false true) read)

  pub asked-so : (result : Result Reply Unread) → IfErr result (λ unread. unread ≡ ReadFault → asks_text (job words) ≡ true)
  asked-so (Ok reply) = tt
  asked-so (Err unread) = λ e. asked-true

  pub never-untouched : {T : Type 0} → asks_text (job words) ≡ false → T
  never-untouched e = absurd (false≢true (sym e ∙ asked-true))

  end-so : (before after : Option (List ℕ)) → IfSome before (λ text. length text ≤ most_bytes given.command → after ≡ Some []) → ReadToEnd (job words) before after
  end-so before after is = subst (λ j. ReadToEnd j before after) is_job is

  pub read-to-end-so : (result : Result Reply Unread) (before after : Option (List ℕ))
      → OnOk result (IfSome before (λ text. length text ≤ most_bytes given.command → after ≡ Some []))
      → OnOk result (asks_text (job words) ≡ true → ReadToEnd (job words) before after)
  read-to-end-so (Ok reply) before after is = λ e. end-so before after is
  read-to-end-so (Err unread) before after is = tt

-- what has been read to its end is so whatever is asked of the text besides
pub read-to-end : (o : Option (List ℕ)) (P : List ℕ → Type 0) (Q : Type 0) → IfSome o (λ text. Q) → IfSome o (λ text. P text → Q)
read-to-end None P Q h = h
read-to-end (Some text) P Q h = λ short. h
