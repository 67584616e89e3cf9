-- What `trace` writes is a trace of its run, and its replay comes out the same.
use Rattle.std.proofs.Common.{◌≡◌, ◌∙◌, ◌+◌, ◌*◌, ◌≤◌, ℕ, ℤ, true, List, [], ◌++◌, codes, drop, length, reverse, Some, ap, refl, sym, subst, arith, length-append}
use Rattle.std.proofs.Math.Seq.{drop-append_seam}
use Rattle.std.proofs.lemmas.List.{length-reverse}
use Rattle.lang_base.specs.declared.outcome.Limits.{Limits}
use Rattle.lang_base.specs.declared.outcome.Outcome.{Outcome}
use Rattle.lang_base.specs.declared.place.Place.{Place}
use Rattle.exec_progress.specs.Progress.{CodeMakesProgress}
use Rattle.tool_front.specs.Front.{IsPassed}
use Rattle.exec_machine.specs.Keeping.{Played}
use Rattle.exec_machine.specs.Replay.{LeadsTo}
use Rattle.sound_text.specs.Laws.{Keeps, OnePassing, OneVerdict, PassedKeeps}
use Rattle.runs_simulation.specs.Laws.{SchedulesAreShort}
use Rattle.exec_run.specs.Run.{IsRecordOf, IsRunOf}
use Rattle.exec_run.specs.declared.recorded.Recorded.{Recorded}
use Rattle.exec_run.specs.Replays as following
use Rattle.runs_program.specs.Laws.{EachKeeps}
use Rattle.tool_trace.specs.Laws.{NoMisfitInTrace, OneReading}
use Rattle.tool_trace.specs.Reading.{AreLimits, IsTrace}
use Rattle.tool_trace.specs.Text.{events_text, line, schedule_text, settings_text, trace_text}
use Rattle.tool_trace.specs.declared.reading.Trace.{Trace}
use Rattle.lang_typed.specs.Plain.{PlainProgram}
use Rattle.tool_words.specs.declared.command.Command.{Command}
use Rattle.tool_words.specs.declared.command.Command.TheVariants as command
use Rattle.tool_words.specs.declared.job.Job.{Job}
use Rattle.tool_words.specs.declared.verdict.Verdict.{Verdict}
use Rattle.tool_words.specs.declared.verdict.Verdict.TheVariants.{Ran, Traced}
use Rattle.tool_top.specs.declared.answered.Answered.{Answered}
use Rattle.tool_top.specs.Answer.{IsAcceptedAs, IsAnswer, IsAnswerOn, IsRan, IsWithin, asks_run, faulty, limits_of, max_text, max_trace, of_program, only, shown_verdict, to_check, to_effects, to_elide, to_events, to_list, to_run, too_long, verdict_by}
use Rattle.tool_top.specs.Replaying as replay
use Rattle.tool_top.specs.Replaying.{IsAnswerOnTrace, IsReplayOf, IsReplayed, program_of}
use Rattle.tool_top.proofs.Following.{ran_once, right_not_wrong}
use Rattle.tool_top.proofs.Promised.{made_run}
use Rattle.tool_total.proofs.Numbers.{schedule_small}
use Rattle.tool_total.specs.Replaying.{IsTraceOf, RepeatsRun, WritesTrace, TracesReplay}

some_same : {A : Type 0} {x y : A} → Some x ≡ Some y → x ≡ y
some_same e = cc

-- a verdict that is a trace is one of a run
traced_by : (c : Command) (job : Job) (text schedule : List ℕ) (rounds : ℕ) (o outcome : Outcome) (bytes : List ℕ) → asks_run c ≡ true → verdict_by c job text schedule rounds o ≡ Traced outcome bytes
    → (o ≡ outcome) × (bytes ≡ trace_text job.arg (limits_of job) schedule text)
traced_by command.Trace job text schedule rounds o outcome bytes run e = ((let same : o ≡ outcome = cc in same), (let same : bytes ≡ trace_text job.arg (limits_of job) schedule text = cc in same))
traced_by command.Run job text schedule rounds o outcome bytes run e = absurd (cc)
traced_by command.Demo job text schedule rounds o outcome bytes run e = absurd (cc)
traced_by command.Check job text schedule rounds o outcome bytes run e = absurd (cc)
traced_by command.Elide job text schedule rounds o outcome bytes run e = absurd (cc)
traced_by command.«List» job text schedule rounds o outcome bytes run e = absurd (cc)
traced_by command.Replay job text schedule rounds o outcome bytes run e = absurd (cc)
traced_by command.Events job text schedule rounds o outcome bytes run e = absurd (cc)
traced_by command.Effects job text schedule rounds o outcome bytes run e = absurd (cc)
traced_by command.Cost job text schedule rounds o outcome bytes run e = absurd (cc)

-- the text of a trace in front of its program
head_text : ℤ → Limits → List ℕ → List ℕ
head_text arg L s = line (codes "dpj-trace 1") ++ line (settings_text arg L) ++ line (events_text (length s)) ++ schedule_text s ++ line (codes "program")

text_is : (arg : ℤ) (L : Limits) (s source : List ℕ) → trace_text arg L s source ≡ head_text arg L s ++ source
unfolding head_text
text_is arg L s source = refl

abbrev trace_of : ℤ → Limits → List ℕ → Trace
trace_of arg L s = record { arg = arg; limits = L; schedule = s; from = length (head_text arg L s) }

program_so : (bytes : List ℕ) (arg : ℤ) (L : Limits) (s source : List ℕ) → bytes ≡ trace_text arg L s source → drop (trace_of arg L s).from bytes ≡ source
program_so bytes arg L s source is =
    ap (λ b. drop (length (head_text arg L s)) b) (is ∙ text_is arg L s source) ∙ drop-append_seam (head_text arg L s) source

module _ (short : SchedulesAreShort) (keeps : EachKeeps) (going : CodeMakesProgress) (passed : PassedKeeps) (verdict : OneVerdict) (one : OnePassing) (reading : OneReading)
    (apart : NoMisfitInTrace) where
  -- a run of an accepted program, and what was written of it
  module _ (job : Job) (text : List ℕ) (place : Place) (typed : PlainProgram) (within : IsWithin job) (accepted : IsAcceptedAs text place typed) (r : Recorded)
      (run : IsRunOf typed (limits_of job) job.arg r.record.machine) (come : r.record.machine.outcome ≡ Some r.outcome) (bytes : List ℕ)
      (written : bytes ≡ trace_text job.arg (limits_of job) r.record.machine.schedule text) where
    abbrev p : Played
    p = r.record.machine

    kept : Keeps typed
    kept = passed text place typed accepted.0 accepted.1

    leads : LeadsTo p.code (limits_of job) job.arg (reverse p.schedule) run.replayed.moment
    leads =
        subst (λ a. LeadsTo p.code (limits_of job) a (reverse p.schedule) run.replayed.moment) run.is_argument
        (subst (λ l. LeadsTo p.code l p.argument (reverse p.schedule) run.replayed.moment) run.limits run.replayed.leads)

    events : length p.schedule ≤ 2 * job.steps + 2
    events =
        let s = short p.code typed (limits_of job) job.arg run.is_code kept.resolved kept.has_main within.0.steps_most (reverse p.schedule) run.replayed.moment leads in
        let n = length-reverse p.schedule in omega (arith, s, n)

    abbrev trace : Trace
    trace = trace_of job.arg (limits_of job) p.schedule

    allowed : AreLimits (limits_of job)
    allowed = record { steps_least = within.0.steps_least; steps_most = within.0.steps_most; cells_least = within.0.cells_least; cells_most = within.0.cells_most }

    source : program_of bytes trace ≡ text
    source = program_so bytes job.arg (limits_of job) p.schedule text written

    is_trace : IsTrace bytes trace
    is_trace = record {
      limits = allowed;
      arg = within.1;
      tasks = schedule_small p.code (limits_of job) job.arg p.schedule run.replayed.moment leads;
      events = events;
      within = (let size = ap (λ (b : List ℕ). length b) (written ∙ text_is job.arg (limits_of job) p.schedule text) in
          let parts = length-append (head_text job.arg (limits_of job) p.schedule) text in omega (arith, size, parts));
      is = written ∙ ap (λ t. trace_text job.arg (limits_of job) p.schedule t) (sym source);
    }

    -- the run as a replay records it, by the caller alone
    abbrev alone : Recorded
    alone = record { «record» = record { machine = r.record.machine; shares = []; own = length r.record.machine.schedule; rounds = 0 }; outcome = r.outcome }

    by_caller : IsRecordOf typed (limits_of job) job.arg 0 alone
    by_caller = record { is_run = run; came = come; seats = refl; counted = omega arith }

    repeats : (q : Recorded) → IsRecordOf typed (limits_of job) job.arg 0 q → q.record.machine.schedule ≡ r.record.machine.schedule → (again : Answered)
        → again ≡ record { verdict = Ran q.outcome; recorded = Some q.record } → RepeatsRun r.record r.outcome again
    repeats q so same again is =
        let outcome : q.outcome ≡ r.outcome =
        ran_once keeps going typed (limits_of job) job.arg kept.resolved kept.has_main within.0.steps_most r.record.machine.schedule q alone so same by_caller refl in record {
          repeated = q.record;
          is = is ∙ ap (λ (o : Outcome). record { verdict = Ran o; recorded = Some q.record }) outcome;
          code = so.is_run.is_code ∙ sym run.is_code;
          limits = so.is_run.limits ∙ sym run.limits;
          argument = so.is_run.is_argument ∙ sym run.is_argument;
          schedule = same;
          came = so.came ∙ ap Some outcome ∙ sym come;
        }

    followed_so : (again : Answered) → IsReplayOf trace typed again → RepeatsRun r.record r.outcome again
    followed_so again (replay.ran q (following.ran _ so same) is) = repeats q so same again is
    followed_so again (replay.unfit at (following.unfit _ q f wrong) is) =
        absurd (right_not_wrong keeps going typed (limits_of job) job.arg kept.resolved kept.has_main within.0.steps_most r.record.machine.schedule alone by_caller refl at q f wrong)

    on_trace : (again : Answered) → IsAnswerOnTrace bytes trace again → RepeatsRun r.record r.outcome again
    on_trace again (replay.long_program long is) =
        let short_text : length text ≤ max_text = accepted.0 in
        let size = ap (λ (t : List ℕ). length t) source in absurd (omega (arith, long, size, short_text))
    on_trace again (replay.faulty refusal few fault is) =
        absurd (verdict.not_both (program_of bytes trace) place typed refusal (subst (λ t. IsPassed t place typed) (sym source) accepted.1) fault)
    on_trace again (replay.followed other typed_so accepted_so on) =
        followed_so again (subst (λ t. IsReplayOf trace t again)
        (one text other place typed_so typed (subst (λ t. IsPassed t other typed_so) source accepted_so.1) accepted.1) on)

    replays : length bytes ≤ max_trace → (again : Answered) → IsReplayed bytes again → RepeatsRun r.record r.outcome again
    replays few again (replay.too_long long is) = absurd (omega (arith, few, long))
    replays few again (replay.no_trace at few_so misfit is) = absurd (apart bytes trace at is_trace misfit)
    replays few again (replay.of_trace other few_so is on) = on_trace again (subst (λ t. IsAnswerOnTrace bytes t again) (reading bytes other trace is is_trace) on)

    pub traced : IsTraceOf job text r.record bytes
    traced = record { trace = trace; is_trace = is_trace; argument = refl; limits = refl; schedule = refl; program = source }

  told : (job : Job) (text : List ℕ) (place : Place) (typed : PlainProgram) (answered : Answered) (outcome : Outcome) (bytes : List ℕ) → IsWithin job → IsAcceptedAs text place typed
      → asks_run job.command ≡ true → IsRan job text typed answered → answered.verdict ≡ Traced outcome bytes → WritesTrace job text answered outcome bytes
  told job text place typed answered outcome bytes within accepted asks ran is =
      let r = ran.made in
      let m = made_run job.mode typed (limits_of job) job.arg job.workers r ran.run in
      let w = traced_by job.command job text r.record.machine.schedule r.record.rounds r.outcome outcome bytes asks (sym (ap (λ (a : Answered). a.verdict) ran.is) ∙ is) in record {
        made = r.record;
        recorded = ap (λ (a : Answered). a.recorded) ran.is;
        came = m.1 ∙ ap Some w.0;
        traced = traced job text place typed within accepted r m.0 m.1 bytes w.1;
        replays = λ few again on. subst (λ o. RepeatsRun r.record o again) w.0 (replays job text place typed within accepted r m.0 m.1 bytes w.1 few again on);
      }

  pub traces_replay : TracesReplay
  traces_replay job text answered outcome bytes within is = by is
    where
      no_other : (v : Verdict) (a : Answered) → a ≡ only v → a.verdict ≡ Traced outcome bytes → v ≡ Traced outcome bytes
      no_other v a same e = sym (ap (λ (b : Answered). b.verdict) same) ∙ e

      on : (place : Place) (typed : PlainProgram) (a : Answered) → IsAcceptedAs text place typed → IsAnswerOn job text typed a → a.verdict ≡ Traced outcome bytes → WritesTrace job text a outcome bytes
      on place typed a accepted (to_check c same) e = absurd (let never = no_other _ a same e in cc)
      on place typed a accepted (to_run c ran) e = told job text place typed a outcome bytes within accepted c ran e
      on place typed a accepted (to_events c h) e = absurd (let never : shown_verdict job (record { program = typed; names = h.names; fields = h.fields }) h.events h.made.outcome ≡ Traced outcome bytes = sym (ap (λ (b : Answered). b.verdict) h.is) ∙ e in cc)
      on place typed a accepted (to_elide c h) e = absurd (let never = no_other _ a h.is e in cc)
      on place typed a accepted (to_list c h) e = absurd (let never = no_other _ a h.lists e in cc)
      on place typed a accepted (to_effects c h) e = absurd (let never = no_other _ a h.is e in cc)

      by : {a : Answered} → IsAnswer job text a → a.verdict ≡ Traced outcome bytes → WritesTrace job text a outcome bytes
      by (too_long h) e = absurd (cc e)
      by (faulty refusal few fault) e = absurd (cc e)
      by (of_program place typed a accepted h) e = on place typed a accepted h e
