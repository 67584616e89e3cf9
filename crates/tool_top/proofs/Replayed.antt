-- What a call owes to a replay.
use Rattle.std.proofs.Common.{◌≡◌, ◌∙◌, ℕ, List, Option, None, Some, ap, refl, subst, sym}
use Rattle.lang_base.specs.declared.refusal.Refusal.{Refusal}
use Rattle.exec_run.specs.declared.history.record.Record.{Record}
use Rattle.tool_trace.specs.Reading.{IsTrace}
use Rattle.tool_trace.specs.declared.reading.Trace.{Trace}
use Rattle.tool_words.specs.Jobs.{job as job_of}
use Rattle.tool_words.specs.Reports.{report_of, status_of}
use Rattle.tool_words.specs.declared.command.Command.TheVariants as command
use Rattle.tool_words.specs.declared.job.Job.{Job}
use Rattle.tool_words.specs.declared.verdict.Status.{Status}
use Rattle.tool_words.specs.declared.verdict.Status.TheVariants as ended
use Rattle.tool_words.specs.declared.verdict.Verdict.{Verdict}
use Rattle.tool_words.specs.declared.verdict.Verdict.TheVariants.{Refused, Ran}
use Rattle.tool_top.specs.declared.answered.Answered.{Answered}
use Rattle.tool_top.specs.Answer.{only}
use Rattle.tool_top.specs.Call.{AnswersBy, AnswersSome, Appends, ReportsAnswer}
use Rattle.tool_top.specs.Guarantee.{IsReported, MustRefuse, MustReplay, RefusesReplay, ReportsReplay, WhyRefused, for_schedule, for_text, not_for_schedule}
use Rattle.tool_top.specs.Keeps.{KeepsGuarantee}
use Rattle.tool_top.specs.Replaying.{IsAnswerOnTrace, IsReplayed, faulty, followed, long_program, no_trace, of_trace, program_of, ran, too_long, unfit}
use Rattle.tool_top.proofs.Owed.{given_answer}
use Rattle.tool_top.proofs.Verdicts.{ending_status-no-refusal}

some_same : {A : Type 0} {x y : A} → Some x ≡ Some y → x ≡ y
some_same e = cc

none_some : {A : Type 0} {x : A} → None ≡ Some x → ⊥
none_some e = cc

-- the bytes that a replay is on, and the answer to them
module _ (words : List (List ℕ)) (read left before after : Option (List ℕ)) (status : Status) (recorded : Option Record)
    (reports : ReportsAnswer words read left before after status recorded) (job : Job) (said : job_of words ≡ Some job) (replays : job.command ≡ command.Replay) where
  there : AnswersSome job read left reports.answered
  there = given_answer words read left job reports.answered said reports.is_answered

  abbrev bytes : List ℕ
  bytes = there.text

  answer : IsReplayed bytes reports.answered
  answer = subst (λ c. AnswersBy c job bytes reports.answered) replays there.answers

  reported_so : (v : Verdict) → reports.answered.verdict ≡ v → IsReported v before after status
  reported_so v is = (reports.status_reported ∙ ap status_of is, subst (λ v. Appends before after (report_of v)) is reports.report_reported)

  -- of which a run is recorded
  module _ (keeps : KeepsGuarantee) (r : Record) (some : recorded ≡ Some r) where
    is_some : reports.answered.recorded ≡ Some r
    is_some = sym reports.run_recorded ∙ some

    no_record : (v : Verdict) → reports.answered ≡ only v → ⊥
    no_record v same = none_some (sym (ap (λ (a : Answered). a.recorded) same) ∙ is_some)

    on_trace : (trace : Trace) → IsTrace bytes trace → IsAnswerOnTrace bytes trace reports.answered → ReportsReplay job read left before after status r
    on_trace trace is (long_program long same) = absurd (no_record _ same)
    on_trace trace is (faulty refusal short fault same) = absurd (no_record _ same)
    on_trace trace is (followed place typed accepted (unfit at f same)) = absurd (no_record _ same)
    on_trace trace is (followed place typed accepted (ran made f same)) =
        let meant = keeps.means (program_of bytes trace) place typed accepted in
        let known = keeps.replay (program_of bytes trace) place typed trace.limits trace.arg trace.schedule made accepted is.limits is.arg f meant.1.well_typed in
        let same_record : r ≡ made.record = some_same (sym is_some ∙ ap (λ (a : Answered). a.recorded) same) in
        record {
          bytes = bytes;
          is_text = there.is_text;
          trace = trace;
          is_trace = is;
          tree = meant.0;
          typed = typed;
          accepts = meant.1;
          by_schedule = ap (λ (z : Record). z.machine.schedule) same_record ∙ known.by_schedule;
          outcome = made.outcome;
          comes = known.comes;
          elided = known.elided;
          reported = reported_so (Ran made.outcome) (ap (λ (a : Answered). a.verdict) same);
        }

    by_answer : IsReplayed bytes reports.answered → ReportsReplay job read left before after status r
    by_answer (too_long long same) = absurd (no_record _ same)
    by_answer (no_trace line short misfit same) = absurd (no_record _ same)
    by_answer (of_trace trace short is on) = on_trace trace is on

    replay_so : ReportsReplay job read left before after status r
    replay_so = by_answer answer

  -- that is refused
  module _ (keeps : KeepsGuarantee) (is_refused : status ≡ ended.Refused) where
    refused_so : (refusal : Refusal) → reports.answered ≡ only (Refused refusal) → WhyRefused bytes refusal → RefusesReplay job read left before after status
    refused_so refusal same why = record {
      bytes = bytes;
      is_text = there.is_text;
      refusal = refusal;
      why = why;
      reported = reported_so (Refused refusal) (ap (λ (a : Answered). a.verdict) same);
    }

    why_on_trace : (trace : Trace) → IsTrace bytes trace → IsAnswerOnTrace bytes trace reports.answered → RefusesReplay job read left before after status
    why_on_trace trace is (long_program long same) = refused_so _ same (not_for_schedule (λ e. cc))
    why_on_trace trace is (faulty refusal short fault same) = refused_so refusal same (for_text trace is fault)
    why_on_trace trace is (followed place typed accepted (ran made f same)) =
        absurd (ending_status-no-refusal made.outcome.ending (sym (ap (λ (a : Answered). status_of a.verdict) same) ∙ sym reports.status_reported ∙ is_refused))
    why_on_trace trace is (followed place typed accepted (unfit at f same)) =
        let meant = keeps.means (program_of bytes trace) place typed accepted in
        refused_so _ same (for_schedule (record {
          trace = trace;
          is_trace = is;
          tree = meant.0;
          typed = typed;
          accepts = meant.1;
          at = at;
          stops = keeps.unfit (program_of bytes trace) place typed trace.limits trace.arg trace.schedule at accepted is.limits is.arg f;
          is = refl;
        }))

    why_refused : IsReplayed bytes reports.answered → RefusesReplay job read left before after status
    why_refused (too_long long same) = refused_so _ same (not_for_schedule (λ e. cc))
    why_refused (no_trace line short misfit same) = refused_so _ same (not_for_schedule (λ e. cc))
    why_refused (of_trace trace short is on) = why_on_trace trace is on

    refusal_so : RefusesReplay job read left before after status
    refusal_so = why_refused answer

pub owed_replay : KeepsGuarantee → (words : List (List ℕ)) (read left before after : Option (List ℕ)) (status : Status) (recorded : Option Record)
    → ReportsAnswer words read left before after status recorded → MustReplay words read left before after status recorded
owed_replay keeps words read left before after status recorded reports job r said replays some =
    replay_so words read left before after status recorded reports job said replays keeps r some

pub owed_refusal : KeepsGuarantee → (words : List (List ℕ)) (read left before after : Option (List ℕ)) (status : Status) (recorded : Option Record)
    → ReportsAnswer words read left before after status recorded → status ≡ ended.Refused → MustRefuse words read left before after status
owed_refusal keeps words read left before after status recorded reports is_refused job said replays =
    refusal_so words read left before after status recorded reports job said replays keeps is_refused
