-- What a call that reports of a program owes to it, over plain variables.
use Rattle.std.proofs.Common.{◌≡◌, ◌∙◌, ℕ, true, false, List, [], Option, Some, MatchOption, inl, inr, refl, sym, ap, subst}
use Rattle.lang_base.specs.declared.place.Place.{Place}
use Rattle.exec_run.specs.declared.history.record.Record.{Record}
use Rattle.lang_typed.specs.Plain.{PlainProgram}
use Rattle.syntax_tree.specs.declared.class.Program.{Program}
use Rattle.syntax_means.specs.Accepts.{Accepts}
use Rattle.syntax_means.specs.Declares.{names_in}
use Rattle.body_infer.specs.Lines.{lines_of}
use Rattle.sound_infer.specs.Laws.{program_inferred}
use Rattle.sound_infer.proofs.Lines.{same_lines}
use Rattle.tool_front.specs.Judging.{field_names_in}
use Rattle.tool_words.specs.Jobs.{job}
use Rattle.tool_words.specs.Reports.{report_of, status_of}
use Rattle.tool_words.specs.declared.command.Command.{Command}
use Rattle.tool_words.specs.declared.command.Command.TheVariants as command
use Rattle.tool_words.specs.declared.job.Job.{Job}
use Rattle.tool_words.specs.declared.verdict.Status.{Status}
use Rattle.tool_words.specs.declared.verdict.Status.TheVariants as ended
use Rattle.tool_words.specs.declared.verdict.Verdict.{Verdict}
use Rattle.tool_words.specs.declared.verdict.Verdict.TheVariants.{Ran, Effects, Usage}
use Rattle.tool_top.specs.declared.answered.Answered.{Answered}
use Rattle.tool_top.specs.Answer.{IsAnswer, IsAnswerOn, IsAcceptedAs, IsElided, IsRan, IsShown, IsWithin, IsSummaries, asks_run, faulty, of_program, only, shown_verdict, verdict_by, verdict_of, to_check, to_effects, to_events, to_elide, to_list, to_run, too_long}
use Rattle.tool_top.specs.Call.{AnswersBy, AnswersSome, Appends, IsAnswered, ReportsAnswer, IsVerdictStatus}
use Rattle.tool_top.specs.Guarantee.{AsksElision, IsReported, MustReport, MustShow, ReportsElision, ReportsEvents, ReportsProgram, ReportsRun, ReportsSummaries, IsProgramStatus, elision_for}
use Rattle.tool_top.specs.Keeps.{KeepsGuarantee}
use Rattle.tool_top.proofs.Ranges.{words_within}

-- the status of a verdict isn't out of memory
pub verdict-has-memory : (status : Status) → IsVerdictStatus status → status ≡ ended.NoMemory → ⊥
verdict-has-memory status known e = subst IsVerdictStatus e known

-- the answer to the job that the words give
pub given_answer : (words : List (List ℕ)) (read left : Option (List ℕ)) (asked : Job) (answered : Answered) → job words ≡ Some asked → IsAnswered words read left answered
    → AnswersSome asked read left answered
given_answer words read left asked answered e is = subst (λ o. MatchOption o (answered ≡ only Usage) (λ j. AnswersSome j read left answered)) e is

-- where a run or an elision is asked, it is that to a program
asked_of_program : (c : Command) (asked : Job) (text : List ℕ) (answered : Answered) → (c ≡ command.Replay → ⊥) → AnswersBy c asked text answered → IsAnswer asked text answered
asked_of_program command.Replay asked text answered never a = absurd (never refl)
asked_of_program command.Check asked text answered never a = a
asked_of_program command.Run asked text answered never a = a
asked_of_program command.Elide asked text answered never a = a
asked_of_program command.«List» asked text answered never a = a
asked_of_program command.Demo asked text answered never a = a
asked_of_program command.Trace asked text answered never a = a
asked_of_program command.Events asked text answered never a = a
asked_of_program command.Effects asked text answered never a = a
asked_of_program command.Cost asked text answered never a = a

true_false : true ≡ false → ⊥
true_false e = cc

module _ (keeps : KeepsGuarantee) (words : List (List ℕ)) (read left before after : Option (List ℕ)) (status : Status) (recorded : Option Record)
    (reports : ReportsAnswer words read left before after status recorded) (of_program_so : IsProgramStatus status) (asked : Job) (said : job words ≡ Some asked)
    (never : asked.command ≡ command.Replay → ⊥) where
  within : IsWithin asked
  within = words_within words asked said

  some : AnswersSome asked read left reports.answered
  some = given_answer words read left asked reports.answered said reports.is_answered

  abbrev text : List ℕ
  text = some.text

  verdict_reported : (known : Verdict) → reports.answered.verdict ≡ known → IsReported known before after status
  verdict_reported known is = (reports.status_reported ∙ ap status_of is, subst (λ v. Appends before after (report_of v)) is reports.report_reported)

  -- the answer on the program as which the text is accepted
  module _ (place : Place) (typed : PlainProgram) (accepted : IsAcceptedAs text place typed) (on : IsAnswerOn asked text typed reports.answered) where
    meant : (tree : Program) × Accepts text tree typed
    meant = keeps.means text place typed accepted

    ran_so : asks_run asked.command ≡ true → IsRan asked text typed reports.answered
    ran_so run = by on
      where
        other : (c : Command) → asked.command ≡ c → asks_run c ≡ false → ⊥
        other c e none = true_false (sym run ∙ ap asks_run e ∙ none)

        by : IsAnswerOn asked text typed reports.answered → IsRan asked text typed reports.answered
        by (to_run c is) = is
        by (to_check c is) = absurd (other command.Check c refl)
        by (to_events c is) = absurd (other command.Events c refl)
        by (to_elide c is) = absurd (other command.Elide c refl)
        by (to_list c is) = absurd (other command.«List» c refl)
        by (to_effects c is) = absurd (other command.Effects c refl)

    elided_so : asked.command ≡ command.Elide → IsElided asked typed reports.answered
    elided_so elide = by on
      where
        by : IsAnswerOn asked text typed reports.answered → IsElided asked typed reports.answered
        by (to_elide c is) = is
        by (to_run c is) = absurd (true_false (sym c ∙ ap asks_run elide))
        by (to_check c is) = absurd (cc (sym elide ∙ c))
        by (to_events c is) = absurd (cc (sym elide ∙ c))
        by (to_list c is) = absurd (cc (sym elide ∙ c))
        by (to_effects c is) = absurd (cc (sym elide ∙ c))

    reported_elided : (c : Command) → c ≡ command.Elide → verdict_by c asked text [] 0 (elision_for asked typed) ≡ Ran (elision_for asked typed)
    reported_elided c e = ap (λ d. verdict_by d asked text [] 0 (elision_for asked typed)) e

    owed_elision : AsksElision asked typed → ReportsElision asked text typed before after status
    owed_elision (inl run) =
        let known = keeps.run asked text place typed reports.answered within accepted run.1 (ran_so run.0) in
        record { schedule = known.schedule; rounds = known.rounds; reported = verdict_reported (verdict_of asked text known.schedule known.rounds (elision_for asked typed)) known.is }
    owed_elision (inr elide) =
        let known = keeps.elide asked text place typed reports.answered within accepted (elided_so elide) in
        record {
          schedule = [];
          rounds = 0;
          reported = verdict_reported (verdict_of asked text [] 0 (elision_for asked typed)) (ap (λ (a : Answered). a.verdict) known ∙ sym (reported_elided asked.command elide));
        }

    owed_run : asks_run asked.command ≡ true → ReportsRun asked text typed meant.1.well_typed before after status recorded
    owed_run run =
        let known = keeps.reduce asked text place typed reports.answered within accepted (ran_so run) meant.1.well_typed in
        record {
          made = known.made.record;
          is = reports.run_recorded ∙ ap (λ (a : Answered). a.recorded) known.is;
          outcome = known.made.outcome;
          comes = known.comes;
          in_rounds = known.in_rounds;
          reported = verdict_reported (verdict_of asked text known.made.record.machine.schedule known.made.record.rounds known.made.outcome) (ap (λ (a : Answered). a.verdict) known.is);
        }

    shown_so : asked.command ≡ command.Events → IsShown asked text typed reports.answered
    shown_so events = by on
      where
        by : IsAnswerOn asked text typed reports.answered → IsShown asked text typed reports.answered
        by (to_events c is) = is
        by (to_run c is) = absurd (true_false (sym c ∙ ap asks_run events))
        by (to_check c is) = absurd (cc (sym events ∙ c))
        by (to_elide c is) = absurd (cc (sym events ∙ c))
        by (to_list c is) = absurd (cc (sym events ∙ c))
        by (to_effects c is) = absurd (cc (sym events ∙ c))

    owed_events : asked.command ≡ command.Events → ReportsEvents asked read left before after status recorded
    owed_events events =
        let shown = shown_so events in
        let known = keeps.made asked text place typed shown.made within accepted shown.run meant.1.well_typed in
        let named : shown.names ≡ names_in meant.0 = keeps.names text shown.names meant.0 accepted.0 shown.are_names meant.1.has_tree in
        let spelled : shown.fields ≡ field_names_in meant.0 = keeps.fields text shown.fields meant.0 shown.are_fields meant.1.has_tree in
        record {
          text = text;
          is_text = some.is_text;
          tree = meant.0;
          typed = typed;
          accepts = meant.1;
          made = shown.made.record;
          is = reports.run_recorded ∙ ap (λ (a : Answered). a.recorded) shown.is;
          outcome = shown.made.outcome;
          comes = known.comes;
          elided = known.elided;
          events = shown.events;
          are_events = known.are_events shown.events shown.are_events;
          reported = verdict_reported (shown_verdict asked (record { program = typed; names = names_in meant.0; fields = field_names_in meant.0 }) shown.events shown.made.outcome)
              (ap (λ (a : Answered). a.verdict) shown.is
              ∙ ap (λ n. shown_verdict asked (record { program = typed; names = n; fields = shown.fields }) shown.events shown.made.outcome) named
              ∙ ap (λ f. shown_verdict asked (record { program = typed; names = names_in meant.0; fields = f }) shown.events shown.made.outcome) spelled);
        }

    summaries_so : asked.command ≡ command.Effects → IsSummaries text typed reports.answered
    summaries_so effects = by on
      where
        by : IsAnswerOn asked text typed reports.answered → IsSummaries text typed reports.answered
        by (to_effects c is) = is
        by (to_run c is) = absurd (true_false (sym c ∙ ap asks_run effects))
        by (to_check c is) = absurd (cc (sym effects ∙ c))
        by (to_events c is) = absurd (cc (sym effects ∙ c))
        by (to_elide c is) = absurd (cc (sym effects ∙ c))
        by (to_list c is) = absurd (cc (sym effects ∙ c))

    owed_summaries : asked.command ≡ command.Effects → ReportsSummaries meant.0 typed before after status
    owed_summaries effects =
        let summaries = summaries_so effects in
        let named : summaries.names ≡ names_in meant.0 = keeps.names text summaries.names meant.0 accepted.0 summaries.are_names meant.1.has_tree in
        record {
          kept = summaries.kept;
          inferred = summaries.inferred;
          well_typed = keeps.summaries text place typed summaries.kept accepted summaries.inferred;
          reported = subst (λ n. IsReported (Effects (lines_of (program_inferred summaries.kept typed) n)) before after status) named
              (verdict_reported (Effects (lines_of (program_inferred summaries.kept typed) summaries.names))
              (ap (λ (a : Answered). a.verdict) summaries.is ∙ ap Effects (sym (same_lines summaries.kept typed summaries.names))));
        }

    owed_program : ReportsProgram asked read left before after status recorded
    owed_program = record {
      text = text;
      is_text = some.is_text;
      tree = meant.0;
      typed = typed;
      accepts = meant.1;
      elided = owed_elision;
      run = owed_run;
      summaries = owed_summaries;
    }

  -- it is no refusal, since its status is of a program
  not_refused : (answered : Answered) → answered ≡ reports.answered → status_of answered.verdict ≡ ended.Refused → ⊥
  not_refused answered same refused = subst IsProgramStatus (reports.status_reported ∙ ap (λ (a : Answered). status_of a.verdict) (sym same) ∙ refused) of_program_so

  -- so the text is accepted, and this is owed to its program
  of_accepted : {X : Type 0} → ((place : Place) (typed : PlainProgram) → IsAcceptedAs text place typed → IsAnswerOn asked text typed reports.answered → X) → X
  of_accepted {X} owes = by (asked_of_program asked.command asked text reports.answered never some.answers) refl
    where
      by : {answered : Answered} → IsAnswer asked text answered → answered ≡ reports.answered → X
      by (too_long h) same = absurd (not_refused _ same refl)
      by (faulty refusal short fault) same = absurd (not_refused _ same refl)
      by (of_program place typed answered accepted on) same = owes place typed accepted (subst (λ a. IsAnswerOn asked text typed a) same on)

  owed_so : ReportsProgram asked read left before after status recorded
  owed_so = of_accepted owed_program

  events_so : asked.command ≡ command.Events → ReportsEvents asked read left before after status recorded
  events_so events = of_accepted (λ place typed accepted on. owed_events place typed accepted on events)

pub owed : KeepsGuarantee → (words : List (List ℕ)) (read left before after : Option (List ℕ)) (status : Status) (recorded : Option Record)
    → ReportsAnswer words read left before after status recorded → IsProgramStatus status → MustReport words read left before after status recorded
owed keeps words read left before after status recorded reports of_program_so asked said never =
    owed_so keeps words read left before after status recorded reports of_program_so asked said never

pub owed_show : KeepsGuarantee → (words : List (List ℕ)) (read left before after : Option (List ℕ)) (status : Status) (recorded : Option Record)
    → ReportsAnswer words read left before after status recorded → IsProgramStatus status → MustShow words read left before after status recorded
owed_show keeps words read left before after status recorded reports of_program_so asked said events =
    events_so keeps words read left before after status recorded reports of_program_so asked said (λ replay. absurd (cc (sym events ∙ replay))) events

-- a status of a program is one of a verdict
pub program_verdict : (status : Status) → IsProgramStatus status → IsVerdictStatus status
program_verdict ended.Done h = tt
program_verdict ended.Trapped h = tt
program_verdict ended.Limited h = tt
program_verdict ended.Usage h = absurd h
program_verdict ended.Refused h = absurd h
program_verdict ended.ReadFault h = absurd h
program_verdict ended.WriteFault h = absurd h
program_verdict ended.NoMemory h = absurd h
