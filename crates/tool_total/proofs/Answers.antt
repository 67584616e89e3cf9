-- Each job on each text is answered.
use Rattle.std.proofs.Common.{◌≡◌, ◌≢◌, ◌<◌, ◌≤◌, ℕ, List, length, Some, ⊎_elim, ap, refl, true}
use Rattle.std.proofs.lemmas.Bool.{cases_lt}
use Rattle.lang_base.specs.declared.place.Place.{Place}
use Rattle.lang_base.specs.declared.refusal.Kind.TheVariants.{TooLong}
use Rattle.body_assembly.specs.Named.{names_in}
use Rattle.code_compile.specs.Titles.{titles_of}
use Rattle.tool_front.specs.Front.{AreFieldNames, AreNames, IsPassed}
use Rattle.tool_front.specs.Judging.{Judged, field_names_in}
use Rattle.tool_front.proofs.Judged.{names_there, parts}
use Rattle.code_scheme.specs.Whole.{compiled}
use Rattle.exec_progress.specs.Progress.{CodeMakesProgress}
use Rattle.body_infer.specs.Kept.{program_kept}
use Rattle.body_infer.specs.Lines.{lines_of}
use Rattle.code_listing.specs.Listing.{plain_listing}
use Rattle.sound_text.specs.Laws.{HasVerdict, Keeps, OneVerdict, PassedKeeps}
use Rattle.runs_theorem.specs.Guarantee.{MachinesAreNotStuck}
use Rattle.runs_simulation.specs.Laws.{SchedulesAreShort, SomeTaskIsReady}
use Rattle.lang_typed.specs.Names.{ProgramNames}
use Rattle.lang_typed.specs.Plain.{PlainProgram}
use Rattle.tool_words.specs.declared.command.Command.{Command}
use Rattle.tool_words.specs.declared.command.Command.TheVariants as command
use Rattle.tool_words.specs.declared.job.Job.{Job}
use Rattle.tool_words.specs.declared.verdict.Verdict.TheVariants.{Accepted, Effects, Listed, Ran, Refused}
use Rattle.tool_top.specs.declared.answered.Answered.{Answered}
use Rattle.tool_top.specs.Answer.{IsAcceptedAs, IsAnswer, IsAnswerOn, IsWithin, asks_run, faulty, limits_of, max_text, of_program, only, refused_at_start, shown_verdict, to_check, to_effects, to_events, to_elide, to_list, to_run, too_long, verdict_of}
use Rattle.lang_meaning.specs.Elision.{elided}
use Rattle.tool_total.proofs.Effects.{inferred}
use Rattle.tool_total.proofs.Runs.{run_by}
use Rattle.tool_total.proofs.Shown.{events_of}
use Rattle.tool_total.specs.Answering.{EachAnswered}
use Rattle.lang_meaning.specs.Reported.{reported}

-- a text that passes has names
named : (text : List ℕ) (place : Place) (typed : PlainProgram) → IsPassed text place typed → (names : ProgramNames) × AreNames text names
named text place typed passed =
    let h = passed.has_program in
    let a = parts (λ (j : Judged). j.typed) h.program typed h.accepted in (
      names_in a.table h.program.names a.bodies,
      record {
        tokens = passed.tokens;
        end = passed.end;
        cut = passed.cut;
        has_named = record {
          program = h.program;
          derived = h.derived;
          has_names = names_there h.program a;
        };
      },
    )

-- and its classes declare fields by names
spelled : (text : List ℕ) (place : Place) (typed : PlainProgram) → IsPassed text place typed → (fields : List (List (List ℕ))) × AreFieldNames text fields
spelled text place typed passed =
    let h = passed.has_program in (
      field_names_in h.program,
      record { tokens = passed.tokens; end = passed.end; cut = passed.cut; has_names = record { program = h.program; derived = h.derived; named_so = refl } },
    )

module _ (passed : PassedKeeps) (verdict : OneVerdict) (going : CodeMakesProgress) (some : SomeTaskIsReady) (short : SchedulesAreShort) (never_stuck : MachinesAreNotStuck) where
  module _ (job : Job) (text : List ℕ) (place : Place) (typed : PlainProgram) (within : IsWithin job) (accepted : IsAcceptedAs text place typed) where
    kept : Keeps typed
    kept = passed text place typed accepted.0 accepted.1

    abbrev Answer : Type 0
    Answer = (answered : Answered) × IsAnswerOn job text typed answered

    ran : asks_run job.command ≡ true → Answer
    ran asks =
        let r = run_by going some short never_stuck typed kept (limits_of job) job.arg within.0.steps_most within.0.cells_most within.1 job.mode job.workers in (
          record { verdict = verdict_of job text r.0.record.machine.schedule r.0.record.rounds r.0.outcome; recorded = Some r.0.record },
          to_run asks (record { made = r.0; run = r.1; is = refl }),
        )

    shown : job.command ≡ command.Events → Answer
    shown asks =
        let r = run_by going some short never_stuck typed kept (limits_of job) job.arg within.0.steps_most within.0.cells_most within.1 job.mode job.workers in
        let names = named text place typed accepted.1 in
        let fields = spelled text place typed accepted.1 in
        let told = events_of typed (limits_of job) job.arg job.mode job.workers r.0 r.1 in (
          record {
            verdict = shown_verdict job (record { program = typed; names = names.0; fields = fields.0 }) told.0 r.0.outcome;
            recorded = Some r.0.record;
          },
          to_events asks
              (record { made = r.0; run = r.1; events = told.0; are_events = told.1; names = names.0; are_names = names.1; fields = fields.0; are_fields = fields.1; is = refl }),
        )

    walked : job.command ≡ command.Elide → Answer
    walked is = (
      only (Ran (reported (elided typed job.arg (limits_of job)))),
      to_elide is (record { outcome = reported (elided typed job.arg (limits_of job)); comes = refl; is = refl }),
    )

    listed : job.command ≡ command.«List» → Answer
    listed is =
        let names = named text place typed accepted.1 in (
          only (Listed (plain_listing (titles_of typed names.0) (compiled typed))),
          to_list is (record { names = names.0; are_names = names.1; lists = refl }),
        )

    told : job.command ≡ command.Effects → Answer
    told is =
        let names = named text place typed accepted.1 in
        let least = inferred typed in (
          only (Effects (lines_of (program_kept least.0 typed) names.0)),
          to_effects is (record { names = names.0; are_names = names.1; kept = least.0; inferred = least.1; is = refl }),
        )

    by_command : (c : Command) → job.command ≡ c → c ≢ command.Replay → Answer
    by_command command.Check is never = (only Accepted, to_check is refl)
    by_command command.Run is never = ran (ap asks_run is)
    by_command command.Elide is never = walked is
    by_command command.«List» is never = listed is
    by_command command.Demo is never = ran (ap asks_run is)
    by_command command.Trace is never = ran (ap asks_run is)
    by_command command.Events is never = shown is
    by_command command.Replay is never = absurd (never refl)
    by_command command.Effects is never = told is
    by_command command.Cost is never = ran (ap asks_run is)

  abbrev Answers : Job → List ℕ → Type 0
  Answers job text = (answered : Answered) × IsAnswer job text answered

  with_verdict : (job : Job) (text : List ℕ) → IsWithin job → job.command ≢ command.Replay → length text ≤ max_text → HasVerdict text → Answers job text
  with_verdict job text within never few judged =
      ⊎_elim
      (λ h. (let on = by_command job text h.0 h.1 within (few, h.2) job.command refl never in (on.0, of_program h.0 h.1 on.0 (few, h.2) on.1)))
      (λ h. (only (Refused h.0), faulty h.0 few h.1)) judged

  pub each_answered : EachAnswered
  each_answered job text within never =
      ⊎_elim (λ (long : max_text < length text). (only (refused_at_start TooLong), too_long long))
      (λ (few : length text ≤ max_text). with_verdict job text within never few (verdict.some text few)) (cases_lt max_text (length text))
