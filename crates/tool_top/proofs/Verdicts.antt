-- Answers, over plain variables.
use Rattle.std.proofs.Common.{◌≡◌, ◌≢◌, map, ◌∙◌, ◌≤◌, ◌⊎◌, ℕ, ℤ, true, false, List, length, Option, Some, IfOk, Result, Ok, Err, refl, sym, ap, subst, inl, inr}
use Rattle.std.specs.List.{All}
use Rattle.std.proofs.lemmas.Bool.{false≢true}
use Rattle.lang_base.specs.declared.memory.NoMemory.{NoMemory}
use Rattle.lang_base.specs.declared.outcome.Limits.{Limits}
use Rattle.lang_base.specs.declared.outcome.Outcome.{Outcome}
use Rattle.lang_base.specs.declared.outcome.Ending.{Ending}
use Rattle.lang_base.specs.declared.outcome.Ending.TheVariants.{Done, Trapped, Limited}
use Rattle.lang_base.specs.declared.place.Place.{Place}
use Rattle.lang_base.specs.declared.refusal.Refusal.{Refusal}
use Rattle.tool_words.specs.declared.command.Command.{Command}
use Rattle.tool_words.specs.declared.command.Command.TheVariants as command
use Rattle.tool_words.specs.declared.job.Job.{Job}
use Rattle.tool_words.specs.declared.key.Mode.{Mode}
use Rattle.tool_words.specs.declared.verdict.Status.TheVariants as ended
use Rattle.tool_words.specs.declared.verdict.Verdict.{Verdict}
use Rattle.tool_words.specs.declared.verdict.Verdict.TheVariants.{Effects, Listed, Refused}
use Rattle.tool_words.specs.Jobs.{job}
use Rattle.tool_words.specs.Reports.{status_of, ending_status}
use Rattle.code_instrs.specs.declared.code.Code.{Code}
use Rattle.code_instrs.specs.Plain.{plain_code}
use Rattle.code_compile.specs.Titles.{titles_of}
use Rattle.code_scheme.specs.Whole.{compiled}
use Rattle.body_infer.specs.PostFixpoint.{IsInferred}
use Rattle.body_infer.specs.Kept.{Keeping, program_kept}
use Rattle.body_infer.specs.Lines.{lines_of}
use Rattle.code_listing.specs.Laws.{ListsPlainCode}
use Rattle.code_listing.specs.Listing.{listing_of, plain_listing}
use Rattle.lang_typed.specs.Names.{ProgramNames}
use Rattle.lang_typed.specs.Plain.{PlainProgram}
use Rattle.exec_machine.specs.declared.made_event.MadeEvent.{MadeEvent}
use Rattle.exec_run.specs.Events.{AreEvents}
use Rattle.exec_run.specs.declared.showing.Shown.{Shown}
use Rattle.exec_run.specs.declared.showing.Shown.TheVariants.{Made, Unfit, Halted}
use Rattle.exec_run.specs.declared.recorded.Recorded.{Recorded}
use Rattle.tool_front.specs.Front.{AreFieldNames, AreNames, IsFault}
use Rattle.tool_trace.specs.events.Text.{events_text}
use Rattle.tool_top.specs.declared.answered.Answered.{Answered}
use Rattle.tool_top.specs.Answer.{IsAcceptedAs, IsAnswer, too_long, faulty, of_program, IsRan, IsRunBy, IsElided, IsListing, IsShown, IsAnswerOn, to_check, to_run, to_events, to_elide, to_list, to_effects, IsSummaries, verdict_by, verdict_of, limits_of, only, asks_run, makes_run, max_text, shown_verdict}
use Rattle.tool_top.specs.Keeps.{IsMade}

pub ending_status-no-usage : (ending : Ending) → ending_status ending ≡ ended.Usage → ⊥
ending_status-no-usage (Done value) e = cc
ending_status-no-usage (Trapped trap place) e = cc
ending_status-no-usage Limited e = cc

pub ending_status-no-refusal : (ending : Ending) → ending_status ending ≡ ended.Refused → ⊥
ending_status-no-refusal (Done value) e = cc
ending_status-no-refusal (Trapped trap place) e = cc
ending_status-no-refusal Limited e = cc

reported-no-usage : (c : Command) (job : Job) (text schedule : List ℕ) (rounds : ℕ) (outcome : Outcome) → status_of (verdict_by c job text schedule rounds outcome) ≡ ended.Usage → ⊥
reported-no-usage command.Demo job text schedule rounds outcome e = ending_status-no-usage outcome.ending e
reported-no-usage command.Trace job text schedule rounds outcome e = ending_status-no-usage outcome.ending e
reported-no-usage command.Check job text schedule rounds outcome e = ending_status-no-usage outcome.ending e
reported-no-usage command.Run job text schedule rounds outcome e = ending_status-no-usage outcome.ending e
reported-no-usage command.Elide job text schedule rounds outcome e = ending_status-no-usage outcome.ending e
reported-no-usage command.«List» job text schedule rounds outcome e = ending_status-no-usage outcome.ending e
reported-no-usage command.Replay job text schedule rounds outcome e = ending_status-no-usage outcome.ending e
reported-no-usage command.Events job text schedule rounds outcome e = ending_status-no-usage outcome.ending e
reported-no-usage command.Effects job text schedule rounds outcome e = ending_status-no-usage outcome.ending e
reported-no-usage command.Cost job text schedule rounds outcome e = ending_status-no-usage outcome.ending e

ran-no-usage : (job : Job) (text : List ℕ) (typed : PlainProgram) (answered : Answered) → IsRan job text typed answered
    → status_of answered.verdict ≡ ended.Usage → ⊥
ran-no-usage job text typed answered r e =
    reported-no-usage job.command job text r.made.record.machine.schedule r.made.record.rounds r.made.outcome (ap (λ (a : Answered). status_of a.verdict) (sym r.is) ∙ e)

shown-no-usage : (job : Job) (text : List ℕ) (typed : PlainProgram) (answered : Answered) → IsShown job text typed answered → status_of answered.verdict ≡ ended.Usage → ⊥
shown-no-usage job text typed answered s e = ending_status-no-usage s.made.outcome.ending (ap (λ (a : Answered). status_of a.verdict) (sym s.is) ∙ e)

listed-no-usage : (bytes : List ℕ) (answered : Answered) → answered ≡ only (Listed bytes) → status_of answered.verdict ≡ ended.Usage → ⊥
listed-no-usage bytes answered is e = let s : status_of (Listed bytes) ≡ ended.Usage = ap (λ (a : Answered). status_of a.verdict) (sym is) ∙ e in cc

effects-no-usage : (bytes : List ℕ) (answered : Answered) → answered ≡ only (Effects bytes) → status_of answered.verdict ≡ ended.Usage → ⊥
effects-no-usage bytes answered is e = let s : status_of (Effects bytes) ≡ ended.Usage = ap (λ (a : Answered). status_of a.verdict) (sym is) ∙ e in cc

program-no-usage : (job : Job) (text : List ℕ) (typed : PlainProgram) (answered : Answered) → IsAnswerOn job text typed answered
    → status_of answered.verdict ≡ ended.Usage → ⊥
program-no-usage job text typed answered (to_check asked is) e = cc
program-no-usage job text typed answered (to_run asked is) e = ran-no-usage job text typed answered is e
program-no-usage job text typed answered (to_events asked is) e = shown-no-usage job text typed answered is e
program-no-usage job text typed answered (to_elide asked is) e =
    ending_status-no-usage is.outcome.ending (ap (λ (a : Answered). status_of a.verdict) (sym is.is) ∙ e)
program-no-usage job text typed answered (to_list asked is) e = listed-no-usage _ answered is.lists e
program-no-usage job text typed answered (to_effects asked is) e = effects-no-usage _ answered is.is e

-- the answer to a job isn't reported as usage
pub answer-no-usage : (job : Job) (text : List ℕ) (answered : Answered) → IsAnswer job text answered → status_of answered.verdict ≡ ended.Usage → ⊥
answer-no-usage job text _ (too_long long) e = cc
answer-no-usage job text _ (faulty refusal short fault) e = cc
answer-no-usage job text _ (of_program place typed answered accepted is) e = program-no-usage job text typed answered is e

-- what is asked of an accepted program is carried out
run-answer : (asked : Job) (text : List ℕ) (typed : PlainProgram) (result : Result Answered NoMemory) → asks_run asked.command ≡ true
    → IfOk result (IsRan asked text typed) → IfOk result (IsAnswerOn asked text typed)
run-answer asked text typed (Ok answered) is run = to_run is run
run-answer asked text typed (Err none) is run = tt

pub elide-answer : (asked : Job) (text : List ℕ) (typed : PlainProgram) (result : Result Answered NoMemory) → asked.command ≡ command.Elide
    → IfOk result (IsElided asked typed) → IfOk result (IsAnswerOn asked text typed)
elide-answer asked text typed (Ok answered) is run = to_elide is run
elide-answer asked text typed (Err none) is run = tt

pub list-answer : (asked : Job) (text : List ℕ) (typed : PlainProgram) (result : Result Answered NoMemory) → asked.command ≡ command.«List»
    → IfOk result (IsListing text typed) → IfOk result (IsAnswerOn asked text typed)
list-answer asked text typed (Ok answered) is lists = to_list is lists
list-answer asked text typed (Err none) is lists = tt

pub effects-answer : (asked : Job) (text : List ℕ) (typed : PlainProgram) (result : Result Answered NoMemory) → asked.command ≡ command.Effects
    → IfOk result (IsSummaries text typed) → IfOk result (IsAnswerOn asked text typed)
effects-answer asked text typed (Ok answered) is summaries = to_effects is summaries
effects-answer asked text typed (Err none) is summaries = tt

-- any other command than these of which no run is made and that is no replay is to check
pub is-check : (c : Command) → makes_run c ≡ false → c ≢ command.Elide → c ≢ command.«List» → c ≢ command.Effects → c ≢ command.Replay → c ≡ command.Check
is-check command.Check unrun elide list effects replay = refl
is-check command.Run unrun elide list effects replay = absurd (false≢true (sym unrun))
is-check command.Demo unrun elide list effects replay = absurd (false≢true (sym unrun))
is-check command.Trace unrun elide list effects replay = absurd (false≢true (sym unrun))
is-check command.Events unrun elide list effects replay = absurd (false≢true (sym unrun))
is-check command.Cost unrun elide list effects replay = absurd (false≢true (sym unrun))
is-check command.Elide unrun elide list effects replay = absurd (elide refl)
is-check command.«List» unrun elide list effects replay = absurd (list refl)
is-check command.Effects unrun elide list effects replay = absurd (effects refl)
is-check command.Replay unrun elide list effects replay = absurd (replay refl)

-- the answer on an accepted program is an answer
pub program-answer : (asked : Job) (text : List ℕ) (place : Place) (typed : PlainProgram) (result : Result Answered NoMemory) → IsAcceptedAs text place typed
    → IfOk result (IsAnswerOn asked text typed) → IfOk result (IsAnswer asked text)
program-answer asked text place typed (Ok answered) accepted is = of_program place typed answered accepted is
program-answer asked text place typed (Err none) accepted is = tt

-- so is the run of an accepted program
pub ran-answer : (asked : Job) (text : List ℕ) (place : Place) (typed : PlainProgram) (result : Result Answered NoMemory) → IsAcceptedAs text place typed → asks_run asked.command ≡ true
    → IfOk result (IsRan asked text typed) → IfOk result (IsAnswer asked text)
ran-answer asked text place typed result accepted asks run = program-answer asked text place typed result accepted (run-answer asked text typed result asks run)

-- and so are its events
pub shown-answer : (asked : Job) (text : List ℕ) (place : Place) (typed : PlainProgram) (result : Result Answered NoMemory) → IsAcceptedAs text place typed → asked.command ≡ command.Events
    → IfOk result (IsShown asked text typed) → IfOk result (IsAnswer asked text)
shown-answer asked text place typed (Ok answered) accepted is shown = of_program place typed answered accepted (to_events is shown)
shown-answer asked text place typed (Err none) accepted is shown = tt

-- of which commands a run is made
pub makes : (c : Command) → (c ≡ command.Demo) ⊎ (c ≡ command.Run) ⊎ (c ≡ command.Trace) ⊎ (c ≡ command.Events) ⊎ (c ≡ command.Cost) → makes_run c ≡ true
makes c (inl demo) = ap makes_run demo
makes c (inr (inl run)) = ap makes_run run
makes c (inr (inr (inl trace))) = ap makes_run trace
makes c (inr (inr (inr (inl events)))) = ap makes_run events
makes c (inr (inr (inr (inr cost)))) = ap makes_run cost

-- and that of no other
pub makes-none : (c : Command) → c ≢ command.Demo → c ≢ command.Run → c ≢ command.Trace → c ≢ command.Events → c ≢ command.Cost → makes_run c ≡ false
makes-none command.Check demo run trace events cost = refl
makes-none command.Run demo run trace events cost = absurd (run refl)
makes-none command.Demo demo run trace events cost = absurd (demo refl)
makes-none command.Trace demo run trace events cost = absurd (trace refl)
makes-none command.Events demo run trace events cost = absurd (events refl)
makes-none command.Cost demo run trace events cost = absurd (cost refl)
makes-none command.Elide demo run trace events cost = refl
makes-none command.«List» demo run trace events cost = refl
makes-none command.Effects demo run trace events cost = refl
makes-none command.Replay demo run trace events cost = refl

-- it is asked by each of these but one
pub makes-asked : (c : Command) → makes_run c ≡ true → c ≢ command.Events → asks_run c ≡ true
makes-asked command.Check made other = absurd (false≢true made)
makes-asked command.Run made other = refl
makes-asked command.Demo made other = refl
makes-asked command.Trace made other = refl
makes-asked command.Events made other = absurd (other refl)
makes-asked command.Cost made other = refl
makes-asked command.Elide made other = absurd (false≢true made)
makes-asked command.«List» made other = absurd (false≢true made)
makes-asked command.Effects made other = absurd (false≢true made)
makes-asked command.Replay made other = absurd (false≢true made)

-- so is the first fault of a text
pub faulty-answer : (asked : Job) (text : List ℕ) (found reported : Refusal) (answered : Answered) → found ≡ reported → answered ≡ only (Refused reported) → length text ≤ max_text
    → IsFault text found → IsAnswer asked text answered
faulty-answer asked text found reported answered same is short fault =
    subst (λ a. IsAnswer asked text a) (sym is) (faulty reported short (subst (λ r. IsFault text r) same fault))

-- a run in the mode that is asked, under limits and an argument that equal the job's
pub run_in_mode : (asked made : Mode) (typed : PlainProgram) (L limits : Limits) (a argument : ℤ) (workers : ℕ) (result : Result (Option Recorded) NoMemory)
    → asked ≡ made → L ≡ limits → a ≡ argument → IfOk result (IsRunBy made typed L a workers) → IfOk result (IsRunBy asked typed limits argument workers)
run_in_mode asked made typed L limits a argument workers result is same given runs =
    subst (λ m. IfOk result (IsRunBy m typed limits argument workers)) (sym is)
    (subst (λ k. IfOk result (IsRunBy made typed k argument workers)) same (subst (λ k. IfOk result (IsRunBy made typed L k workers)) given runs))

-- the verdict on the run of a program
pub ran-so : (asked : Job) (text : List ℕ) (typed : PlainProgram) (r : Recorded) (schedule : List ℕ) (verdict : Verdict)
    → IsRunBy asked.mode typed (limits_of asked) asked.arg asked.workers (Some r) → schedule ≡ r.record.machine.schedule
    → verdict ≡ verdict_of asked text schedule r.record.rounds r.outcome → IsRan asked text typed (record { verdict = verdict; recorded = Some r.record })
ran-so asked text typed r schedule verdict runs same is =
    record { made = r; run = runs; is = ap (λ v. record { verdict = v; recorded = Some r.record }) (is ∙ ap (λ ks. verdict_of asked text ks r.record.rounds r.outcome) same) }

-- the listing of a code that is the compiled program's, with the titles that its names give
pub listing-so : (text : List ℕ) (made typed : PlainProgram) (own names : ProgramNames) (code : Code) (listed : List ℕ) (answered : Answered) → ListsPlainCode
    → made ≡ typed → own ≡ names → AreNames text names → plain_code code ≡ compiled made → map (λ body. body.title) code.bodies ≡ titles_of made own
    → All (λ body. length body.instrs ≡ length body.places) code.bodies → listed ≡ listing_of code → answered ≡ only (Listed listed) → IsListing text typed answered
listing-so text made typed own names code listed answered plain same named are_names is titles placed lists reported = record {
  names = names;
  are_names = are_names;
  lists = reported
      ∙ ap (λ l. only (Listed l))
      (lists ∙ plain code placed ∙ ap (λ ts. plain_listing ts (plain_code code)) titles ∙ ap (λ c. plain_listing (titles_of made own) c) is
      ∙ ap (λ P. plain_listing (titles_of P own) (compiled P)) same ∙ ap (λ n. plain_listing (titles_of typed n) (compiled typed)) named);
}

-- the lines of the inferred summaries of a program, with its names
pub effects-so : (text : List ℕ) (made typed : PlainProgram) (own names : ProgramNames) (kept : Keeping) (lines : List ℕ) (answered : Answered) → made ≡ typed → own ≡ names
    → AreNames text names → IsInferred made kept → lines ≡ lines_of (program_kept kept made) own → answered ≡ only (Effects lines) → IsSummaries text typed answered
effects-so text made typed own names kept lines answered same named are_names inferred is reported = record {
  names = names;
  are_names = are_names;
  kept = kept;
  inferred = subst (λ P. IsInferred P kept) same inferred;
  is = reported ∙ ap (λ l. only (Effects l)) (is ∙ ap (λ P. lines_of (program_kept kept P) own) same ∙ ap (lines_of (program_kept kept typed)) named);
}

-- the verdict on the run of a program whose events are shown
pub shown-so : (asked : Job) (text : List ℕ) (made typed : PlainProgram) (own names : ProgramNames) (given fields : List (List (List ℕ))) (r : Recorded) (schedule : List ℕ) (events : List MadeEvent) (verdict : Verdict)
    → made ≡ typed → own ≡ names → AreNames text names → given ≡ fields → AreFieldNames text fields
    → IsRunBy asked.mode typed (limits_of asked) asked.arg asked.workers (Some r) → schedule ≡ r.record.machine.schedule → AreEvents typed (limits_of asked) asked.arg schedule (Made events)
    → verdict ≡ shown_verdict asked (record { program = made; names = own; fields = given }) events r.outcome → IsShown asked text typed (record { verdict = verdict; recorded = Some r.record })
shown-so asked text made typed own names given fields r schedule events verdict same named are_names spelled are_fields runs by_schedule shows is = record {
  made = r;
  run = runs;
  events = events;
  are_events = subst (λ ks. AreEvents typed (limits_of asked) asked.arg ks (Made events)) by_schedule shows;
  names = names;
  are_names = are_names;
  fields = fields;
  are_fields = are_fields;
  is = ap (λ v. record { verdict = v; recorded = Some r.record })
      (is ∙ ap (λ P. shown_verdict asked (record { program = P; names = own; fields = given }) events r.outcome) same
      ∙ ap (λ n. shown_verdict asked (record { program = typed; names = n; fields = given }) events r.outcome) named
      ∙ ap (λ f. shown_verdict asked (record { program = typed; names = names; fields = f }) events r.outcome) spelled);
}

-- events under limits, an argument and a schedule that equal others
pub shown-as : (made typed : PlainProgram) (L limits : Limits) (a argument : ℤ) (schedule numbers : List ℕ) (shown : Shown) → made ≡ typed → L ≡ limits → a ≡ argument → schedule ≡ numbers
    → AreEvents made L a schedule shown → AreEvents typed limits argument numbers shown
shown-as made typed L limits a argument schedule numbers shown same within given by_schedule are =
    subst (λ P. AreEvents P limits argument numbers shown) same
    (subst (λ k. AreEvents made k argument numbers shown) within
    (subst (λ z. AreEvents made L z numbers shown) given (subst (λ ks. AreEvents made L a ks shown) by_schedule are)))

-- where a schedule makes its events, these are shown
pub shown-made : (shown : Shown) → IsMade shown → ((events : List MadeEvent) → shown ≡ Made events → ⊥) → ⊥
shown-made (Made events) made never = never events refl
shown-made (Unfit at) made never = made
shown-made Halted made never = made

-- the text of events on what equals an argument, limits, names and events
pub events-as : (typed : PlainProgram) (names : ProgramNames) (a argument : ℤ) (L limits : Limits) (given fields : List (List (List ℕ))) (made events : List MadeEvent) (ending : Ending)
    → a ≡ argument → L ≡ limits → given ≡ fields → made ≡ events
    → events_text a L (record { program = typed; names = names; fields = given }) made ending ≡ events_text argument limits (record { program = typed; names = names; fields = fields }) events ending
events-as typed names a argument L limits given fields made events ending same within spelled are =
    ap (λ z. events_text z L (record { program = typed; names = names; fields = given }) made ending) same
    ∙ ap (λ k. events_text argument k (record { program = typed; names = names; fields = given }) made ending) within
    ∙ ap (λ f. events_text argument limits (record { program = typed; names = names; fields = f }) made ending) spelled
    ∙ ap (λ xs. events_text argument limits (record { program = typed; names = names; fields = fields }) xs ending) are
