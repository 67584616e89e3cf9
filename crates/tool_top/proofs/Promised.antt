-- Answers of runs by the source alone, over plain variables.
use Rattle.std.proofs.Common.{◌≡◌, ◌∙◌, ◌≤◌, ℕ, ℤ, FitsSigned, false, List, [], length, Some, None, ap, sym, refl, reverse, subst, arith}
use Rattle.std.specs.Int.{w32}
use Rattle.lang_base.specs.declared.outcome.Limits.{Limits}
use Rattle.lang_base.specs.declared.outcome.Outcome.{Outcome}
use Rattle.lang_base.specs.declared.place.Place.{Place}
use Rattle.exec_machine.specs.Keeping.{Played}
use Rattle.lang_typed.specs.Plain.{PlainProgram}
use Rattle.lang_typed.specs.WellTyped.{WellTyped}
use Rattle.body_infer.specs.PostFixpoint.{IsInferred}
use Rattle.body_infer.specs.Kept.{Keeping}
use Rattle.sound_infer.specs.Laws.{InferredIsWellTyped, program_inferred}
use Rattle.sound_text.specs.Laws.{Keeps, PassedKeeps}
use Rattle.runs_theorem.specs.Guarantee.{GreedyMachinesElide, MachinesAreNotStuck, MachinesComeOutAsElided, MachinesMakeProgress, elision}
use Rattle.runs_theorem.specs.Inside.{ComesOutElidedInside, MachinesElideInside}
use Rattle.runs_theorem.specs.Reduced.{ComesOutReduced, MachinesAreReduced}
use Rattle.exec_machine.specs.Keeping.{HaltsGreedily, HasEnded, IsStuckAt, WhyHaltedAt}
use Rattle.exec_machine.specs.declared.halted.Halted.{Halted}
use Rattle.exec_machine.specs.declared.halted.Halted.TheVariants as halt
use Rattle.exec_run.specs.rounds.Rounds.{BreaksOff, at_once, within as in_turn}
use Rattle.exec_run.specs.Run.{ComesOut, HasNoRun, IsElision, IsRunOf, finished, halted, never_begun, no_record, recorded_so, stuck, unfinished}
use Rattle.exec_run.specs.Run.{not_at_all as never}
use Rattle.exec_progress.specs.Progress.{CodeMakesProgress}
use Rattle.exec_run.specs.Events.{AreEvents}
use Rattle.exec_run.specs.declared.showing.Shown.{Shown}
use Rattle.exec_run.specs.Replays.{IsFollowed}
use Rattle.runs_program.specs.Laws.{EachKeeps}
use Rattle.runs_simulation.specs.Laws.{EventForEvent, MachinesRecord, SomeTaskIsReady}
use Rattle.runs_theorem.specs.Readiness.{MachinesAreReadyAsTheirRuns}
use Rattle.tool_top.proofs.Following.{right_not_wrong}
use Rattle.tool_top.proofs.Rounds.{rounds_in_source}
use Rattle.tool_top.proofs.MadeEvents.{made_events}
use Rattle.exec_run.specs.declared.replaying.Replayed.TheVariants as replayed
use Rattle.tool_trace.specs.Reading.{AreLimits}
use Rattle.code_instrs.specs.Plain.{plain_code}
use Rattle.code_scheme.specs.Whole.{compiled}
use Rattle.exec_run.specs.Rounding.{HasNoRounds, by_rounds, no_rounds}
use Rattle.exec_run.specs.Rounding.{HasNoRounds as rounds}
use Rattle.exec_run.specs.Seeding.{HasNoSeeded, by_seed, no_seeded}
use Rattle.exec_run.specs.Seeding.{HasNoSeeded as seeded}
use Rattle.exec_run.specs.declared.recorded.Recorded.{Recorded}
use Rattle.tool_words.specs.declared.key.Mode.{Mode}
use Rattle.tool_words.specs.declared.key.Mode.TheVariants as mode
use Rattle.tool_words.specs.declared.job.Job.{Job}
use Rattle.tool_words.specs.declared.verdict.Verdict.TheVariants.{Ran}
use Rattle.tool_top.specs.declared.answered.Answered.{Answered}
use Rattle.tool_top.specs.Answer.{IsAcceptedAs, IsElided, IsRan, IsRunBy, IsWithin, limits_of, only, verdict_of}
use Rattle.sound_means.specs.Laws.{FieldNamesMean, NamesMean, PassedMeans}
use Rattle.tool_top.specs.Guarantee.{ComesOutBy, elision_for}
use Rattle.tool_top.specs.Refusing.{RefusalsAreRight}
use Rattle.tool_top.specs.Keeps.{FollowsReduced, GoesOn, IsMade, KeepsGuarantee, MadeReduced, VerdictIsElision, VerdictIsReduced}

module _ (typed : PlainProgram) (keeps : Keeps typed) (L : Limits) (argument : ℤ) (few : L.steps ≤ 20000000) (fits : FitsSigned w32 argument) where
  few_steps : (p : Played) → IsRunOf typed L argument p → p.limits.steps ≤ 20000000
  few_steps p is = subst (λ (k : Limits). k.steps ≤ 20000000) (sym is.limits) few

  fits_there : (p : Played) → IsRunOf typed L argument p → FitsSigned w32 p.argument
  fits_there p is = subst (λ a. FitsSigned w32 a) (sym is.is_argument) fits

  same_elision : (p : Played) → IsRunOf typed L argument p → elision typed p.limits p.argument ≡ elision typed L argument
  same_elision p is = ap (λ k. elision typed k p.argument) is.limits ∙ ap (λ a. elision typed L a) is.is_argument

  -- a machine that has finished a run has the outcome of the elision
  pub reported_elision : MachinesComeOutAsElided → typed.uses_nd ≡ false → (p : Played) (o : Outcome) → IsRunOf typed L argument p → p.outcome ≡ Some o → o ≡ elision typed L argument
  reported_elision machines none p o is come =
      machines typed p o keeps.well_typed none keeps.resolved keeps.has_main is.is_code (few_steps p is) (fits_there p is) is.replayed come ∙ same_elision p is

  -- so does one that has made an elision, of any program
  pub reported_greedy : GreedyMachinesElide → (p : Played) (o : Outcome) → IsElision typed L argument p → p.outcome ≡ Some o → o ≡ elision typed L argument
  reported_greedy greedy p o e come =
      greedy typed e.start p o keeps.resolved keeps.has_main e.is_run.is_code (few_steps p e.is_run) e.nothing e.steps e.is_run.replayed come ∙ same_elision p e.is_run

  pub reduced_so : MachinesAreReduced → (p : Played) (o : Outcome) → IsRunOf typed L argument p → p.outcome ≡ Some o → ComesOutReduced typed keeps.well_typed L argument p.schedule o
  reduced_so machines p o is come =
      subst (λ k. ComesOutReduced typed keeps.well_typed k argument p.schedule o) is.limits
      (subst (λ a. ComesOutReduced typed keeps.well_typed p.limits a p.schedule o) is.is_argument
      (machines typed keeps.well_typed p o keeps.resolved keeps.has_main is.is_code (few_steps p is) (fits_there p is) is.replayed come))

  pub inside_so : MachinesElideInside → (p : Played) (o : Outcome) → IsRunOf typed L argument p → p.outcome ≡ Some o → ComesOutElidedInside typed L argument p.schedule o
  inside_so machines p o is come =
      subst (λ k. ComesOutElidedInside typed k argument p.schedule o) is.limits
      (subst (λ a. ComesOutElidedInside typed p.limits a p.schedule o) is.is_argument
      (machines typed p o keeps.well_typed keeps.resolved keeps.has_main is.is_code (few_steps p is) (fits_there p is) is.replayed come))

  -- and none can't go on
  module _ (never_stuck : MachinesAreNotStuck) (machines : MachinesMakeProgress) (cells : L.cells ≤ 16777216) where
    few_cells : (p : Played) → IsRunOf typed L argument p → p.limits.cells ≤ 16777216
    few_cells p is = subst (λ (k : Limits). k.cells ≤ 16777216) (sym is.limits) cells

    going : (p : Played) → IsRunOf typed L argument p → (HaltsGreedily p halt.Stuck → ⊥) × (p.outcome ≡ None → HasEnded p → ⊥)
    going p is = machines typed p keeps.well_typed keeps.resolved keeps.has_main is.is_code (keeps.narrow p.code is.is_code) (few_steps p is) (few_cells p is) (fits_there p is) is.replayed

    not_stuck : (p : Played) → IsRunOf typed L argument p → (k : ℕ) → IsStuckAt p k → ⊥
    not_stuck p is k s =
        never_stuck typed p.code p.limits p.argument keeps.well_typed keeps.resolved keeps.has_main is.is_code (keeps.narrow p.code is.is_code) (few_steps p is) (few_cells p is) (fits_there p is)
        (reverse p.schedule) s.replayed.moment s.replayed.leads k s.stuck

    pub goes_on : HasNoRun typed L argument → ⊥
    goes_on (never_begun wide) = wide.wide (keeps.narrow wide.code wide.is_code)
    goes_on (halted p is (stuck halts)) = (going p is).0 halts
    goes_on (halted p is (unfinished none ended)) = (going p is).1 none ended

    -- nor can a number of a schedule, where it is that of a ready task
    pub follows_on : (schedule : List ℕ) → IsFollowed typed L argument schedule replayed.Halted → ⊥
    follows_on schedule (IsFollowed.halted at p followed why) =
        not_stuck p (record {
          is_code = subst (λ c. plain_code c ≡ compiled typed) (sym followed.made.is_at.is_code) followed.is_code;
          limits = followed.made.is_at.is_limits;
          is_argument = followed.made.is_at.is_argument;
          replayed = followed.made.is_at.replayed;
        }) why.task why.stuck
    follows_on schedule (IsFollowed.too_wide wide) = wide.wide (keeps.narrow wide.code wide.is_code)

    no_break : (before p : Played) (h : Halted) → h ≡ halt.Stuck → IsRunOf typed L argument p → BreaksOff before p h → ⊥
    no_break before p h same is at_once = absurd (cc same)
    no_break before p h same is (in_turn _ _ tasks ready breaks) = by h same breaks.why
      where
        by : (h : Halted) → h ≡ halt.Stuck → WhyHaltedAt p breaks.task h → ⊥
        by halt.Stuck same why = not_stuck p is breaks.task why
        by halt.NoMemory same why = absurd (cc same)

    pub goes_on_in_rounds : HasNoRounds typed L argument → ⊥
    goes_on_in_rounds (rounds.never_begun wide) = wide.wide (keeps.narrow wide.code wide.is_code)
    goes_on_in_rounds (rounds.unfinished p is none ended) = (going p is.is_run).1 none ended
    goes_on_in_rounds (rounds.broken_off p is) = no_break is.broken.middle p halt.Stuck refl is.is_run is.broken.breaks

    pub goes_on_by_seed : (seed : ℕ) → HasNoSeeded typed L argument seed → ⊥
    goes_on_by_seed seed (seeded.never_begun wide) = wide.wide (keeps.narrow wide.code wide.is_code)
    goes_on_by_seed seed (seeded.unfinished p is none ended) = (going p is.is_run).1 none ended
    goes_on_by_seed seed (seeded.broken_off p is) = not_stuck p is.is_run is.broken.task is.broken.why

    pub goes_on_by : (m : Mode) (workers : ℕ) → IsRunBy m typed L argument workers None → ⊥
    goes_on_by mode.Steps workers (no_record halts) = goes_on halts
    goes_on_by mode.Rounds workers (no_rounds halts) = goes_on_in_rounds halts
    goes_on_by (mode.Seeded seed) workers (no_seeded halts) = goes_on_by_seed seed halts

-- what was made by workers, in rounds or by a seed is a run
pub made_run : (m : Mode) (typed : PlainProgram) (L : Limits) (argument : ℤ) (workers : ℕ) (r : Recorded) → IsRunBy m typed L argument workers (Some r)
    → IsRunOf typed L argument r.record.machine × (r.record.machine.outcome ≡ Some r.outcome)
made_run mode.Steps typed L argument workers r (recorded_so _ is) = (is.is_run, is.came)
made_run mode.Rounds typed L argument workers r (by_rounds _ p is alone) =
    (subst (λ q. IsRunOf typed L argument q) (sym alone.machine) is.is_run, ap (λ (q : Played). q.outcome) alone.machine ∙ alone.came)
made_run (mode.Seeded seed) typed L argument workers r (by_seed _ p is alone) =
    (subst (λ q. IsRunOf typed L argument q) (sym alone.machine) is.is_run, ap (λ (q : Played). q.outcome) alone.machine ∙ alone.came)

pub keeps_guarantee : MachinesComeOutAsElided → GreedyMachinesElide → MachinesAreReduced → MachinesElideInside → MachinesAreNotStuck → MachinesMakeProgress → PassedKeeps → InferredIsWellTyped → PassedMeans → NamesMean → FieldNamesMean → EachKeeps → CodeMakesProgress
    → MachinesRecord → EventForEvent → RefusalsAreRight → SomeTaskIsReady → MachinesAreReadyAsTheirRuns → KeepsGuarantee
keeps_guarantee machines greedy reduce inside never_stuck goes passed with_inferred means naming spelling each going records alike refusals some_ready as_runs = record { means = λ text place typed accepted. means text place typed accepted.0 accepted.1; names = naming; fields = spelling; typed_well = typed_well; goes_on = goes_further; follows = follows; replay = replay; unfit = refusals; run = run; reduce = reduces; made = made_reduced; shows = shows; elide = elide; greedy = greedily; summaries = summaries }
  where
    kept : (text : List ℕ) (place : Place) (typed : PlainProgram) → IsAcceptedAs text place typed → Keeps typed
    kept text place typed accepted = passed text place typed accepted.0 accepted.1

    typed_well : (text : List ℕ) (place : Place) (typed : PlainProgram) → IsAcceptedAs text place typed → WellTyped typed
    typed_well text place typed accepted = (kept text place typed accepted).well_typed

    never_halts : (job : Job) (text : List ℕ) (place : Place) (typed : PlainProgram) → IsWithin job → IsAcceptedAs text place typed → HasNoRun typed (limits_of job) job.arg → ⊥
    never_halts job text place typed within accepted =
        goes_on typed (kept text place typed accepted) (limits_of job) job.arg within.0.steps_most within.1 never_stuck goes within.0.cells_most

    never_halts_by : (job : Job) (text : List ℕ) (place : Place) (typed : PlainProgram) → IsWithin job → IsAcceptedAs text place typed →
        IsRunBy job.mode typed (limits_of job) job.arg job.workers None → ⊥
    never_halts_by job text place typed within accepted =
        goes_on_by typed (kept text place typed accepted) (limits_of job) job.arg within.0.steps_most within.1 never_stuck goes within.0.cells_most job.mode job.workers

    made : (job : Job) (typed : PlainProgram) (r : Recorded) → IsRunBy job.mode typed (limits_of job) job.arg job.workers (Some r) →
        IsRunOf typed (limits_of job) job.arg r.record.machine × (r.record.machine.outcome ≡ Some r.outcome)
    made job typed r is = made_run job.mode typed (limits_of job) job.arg job.workers r is

    goes_further : (job : Job) (text : List ℕ) (place : Place) (typed : PlainProgram) → IsWithin job → IsAcceptedAs text place typed → GoesOn job typed
    goes_further job text place typed within accepted = record {
      runs = never_halts_by job text place typed within accepted;
      greedily = λ comes. by comes (never_halts job text place typed within accepted);
    }
      where
        by : ComesOut typed (limits_of job) job.arg None → (HasNoRun typed (limits_of job) job.arg → ⊥) → ⊥
        by (never halts) none = none halts

    follows : (text : List ℕ) (place : Place) (typed : PlainProgram) (limits : Limits) (argument : ℤ) (schedule : List ℕ) → IsAcceptedAs text place typed → AreLimits limits → FitsSigned w32 argument
        → IsFollowed typed limits argument schedule replayed.Halted → ⊥
    follows text place typed limits argument schedule accepted allowed fits =
        follows_on typed (kept text place typed accepted) limits argument allowed.steps_most fits never_stuck goes allowed.cells_most schedule

    replay : (text : List ℕ) (place : Place) (typed : PlainProgram) (limits : Limits) (argument : ℤ) (schedule : List ℕ) (made : Recorded) → IsAcceptedAs text place typed → AreLimits limits
        → FitsSigned w32 argument → IsFollowed typed limits argument schedule (replayed.Ran made) → (well_typed : WellTyped typed) → FollowsReduced typed well_typed limits argument schedule made
    replay text place typed limits argument schedule made accepted allowed fits (IsFollowed.ran _ is same) well_typed =
        let keeps = record (kept text place typed accepted) { well_typed = well_typed } in
        record {
          by_schedule = same;
          comes = subst (λ ks. ComesOutBy typed well_typed limits argument ks made.outcome) same
              (record {
                reduced = reduced_so typed keeps limits argument allowed.steps_most fits reduce made.record.machine made.outcome is.is_run is.came;
                inside = inside_so typed keeps limits argument allowed.steps_most fits inside made.record.machine made.outcome is.is_run is.came;
              });
          elided = λ none. reported_elision typed keeps limits argument allowed.steps_most fits machines none made.record.machine made.outcome is.is_run is.came;
        }

    run : (job : Job) (text : List ℕ) (place : Place) (typed : PlainProgram) (answered : Answered) → IsWithin job → IsAcceptedAs text place typed
        → typed.uses_nd ≡ false → IsRan job text typed answered → VerdictIsElision job text typed answered
    run job text place typed answered within accepted none ran =
        let r = ran.made in
        let m = made job typed r ran.run in
        record {
          schedule = r.record.machine.schedule;
          rounds = r.record.rounds;
          is = ap (λ (a : Answered). a.verdict) ran.is ∙ ap (λ o. verdict_of job text r.record.machine.schedule r.record.rounds o)
              (reported_elision typed (kept text place typed accepted) (limits_of job) job.arg within.0.steps_most within.1 machines none r.record.machine r.outcome m.0 m.1);
        }

    reduces : (job : Job) (text : List ℕ) (place : Place) (typed : PlainProgram) (answered : Answered) → IsWithin job → IsAcceptedAs text place typed
        → IsRan job text typed answered → (well_typed : WellTyped typed) → VerdictIsReduced job text typed well_typed answered
    reduces job text place typed answered within accepted ran well_typed =
        let keeps = record (kept text place typed accepted) { well_typed = well_typed } in
        let r = ran.made in
        let m = made job typed r ran.run in
        record {
          made = r;
          is = ran.is;
          comes = record {
            reduced = reduced_so typed keeps (limits_of job) job.arg within.0.steps_most within.1 reduce r.record.machine r.outcome m.0 m.1;
            inside = inside_so typed keeps (limits_of job) job.arg within.0.steps_most within.1 inside r.record.machine r.outcome m.0 m.1;
          };
          in_rounds = λ rounds.
              rounds_in_source each records some_ready as_runs typed (limits_of job) job.arg keeps.resolved keeps.has_main within.0.steps_most job.workers r
              (subst (λ m. IsRunBy m typed (limits_of job) job.arg job.workers (Some r)) rounds ran.run);
        }

    made_reduced : (job : Job) (text : List ℕ) (place : Place) (typed : PlainProgram) (r : Recorded) → IsWithin job → IsAcceptedAs text place typed
        → IsRunBy job.mode typed (limits_of job) job.arg job.workers (Some r) → (well_typed : WellTyped typed) → MadeReduced job typed well_typed r
    made_reduced job text place typed r within accepted run well_typed =
        let keeps = record (kept text place typed accepted) { well_typed = well_typed } in
        let m = made job typed r run in
        let reduced = reduced_so typed keeps (limits_of job) job.arg within.0.steps_most within.1 reduce r.record.machine r.outcome m.0 m.1 in
        record {
          comes = record {
            reduced = reduced;
            inside = inside_so typed keeps (limits_of job) job.arg within.0.steps_most within.1 inside r.record.machine r.outcome m.0 m.1;
          };
          elided = λ none. reported_elision typed keeps (limits_of job) job.arg within.0.steps_most within.1 machines none r.record.machine r.outcome m.0 m.1;
          are_events = made_events each records alike typed (limits_of job) job.arg keeps.resolved keeps.has_main within.0.steps_most r.record.machine.schedule reduced.outcome reduced.finished;
        }

    shows : (job : Job) (text : List ℕ) (place : Place) (typed : PlainProgram) (r : Recorded) (shown : Shown) → IsWithin job → IsAcceptedAs text place typed
        → IsRunBy job.mode typed (limits_of job) job.arg job.workers (Some r) → AreEvents typed (limits_of job) job.arg r.record.machine.schedule shown → IsMade shown
    shows job text place typed r shown within accepted run are = by are
      where
        ks : Keeps typed
        ks = kept text place typed accepted

        on : IsFollowed typed (limits_of job) job.arg r.record.machine.schedule replayed.Halted → ⊥
        on = follows_on typed ks (limits_of job) job.arg within.0.steps_most within.1 never_stuck goes within.0.cells_most r.record.machine.schedule

        -- the same run as one of which the caller made all events
        alone : Recorded
        alone = record { «record» = record { machine = r.record.machine; shares = []; own = length r.record.machine.schedule; rounds = 0 }; outcome = r.outcome }

        by : {s : Shown} → AreEvents typed (limits_of job) job.arg r.record.machine.schedule s → IsMade s
        by (AreEvents.made code xs m is those some) = tt
        by (AreEvents.unfit at p followed wrong) =
            right_not_wrong each going typed (limits_of job) job.arg ks.resolved ks.has_main within.0.steps_most r.record.machine.schedule alone
            (record { is_run = (made job typed r run).0; came = (made job typed r run).1; seats = refl; counted = omega arith }) refl at p followed wrong
        by (AreEvents.halted at p followed why) = on (IsFollowed.halted at p followed why)
        by (AreEvents.too_wide wide) = on (IsFollowed.too_wide wide)

    elide : (job : Job) (text : List ℕ) (place : Place) (typed : PlainProgram) (answered : Answered) → IsWithin job → IsAcceptedAs text place typed
        → IsElided job typed answered → answered ≡ only (Ran (elision_for job typed))
    elide job text place typed answered within accepted e = e.is ∙ ap (λ k. only (Ran k)) e.comes

    greedily : (job : Job) (text : List ℕ) (place : Place) (typed : PlainProgram) (outcome : Outcome) → IsWithin job → IsAcceptedAs text place typed
        → ComesOut typed (limits_of job) job.arg (Some outcome) → outcome ≡ elision_for job typed
    greedily job text place typed outcome within accepted (finished p o is come) =
        reported_greedy typed (kept text place typed accepted) (limits_of job) job.arg within.0.steps_most within.1 greedy p o is come

    summaries : (text : List ℕ) (place : Place) (typed : PlainProgram) (S : Keeping) → IsAcceptedAs text place typed → IsInferred typed S → WellTyped (program_inferred S typed)
    summaries text place typed S accepted is = with_inferred typed S (typed_well text place typed accepted) is
