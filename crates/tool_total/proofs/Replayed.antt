-- Each replay is answered.
use Rattle.std.proofs.Common.{◌≡◌, ◌∙◌, ◌⊎◌, ◌+◌, ◌<◌, ◌≤◌, ℕ, FitsSigned, IsSome, List, [], ◌∷◌, ◌++◌, length, reverse, take, Option, Some, None, inl, inr, ⊎_elim, refl, ap, sym, subst, arith, append_assoc, append-nil, length-append}
use Rattle.std.specs.Int.{w32}
use Rattle.std.specs.Prelude.{slice_get}
use Rattle.std.proofs.Math.Seq.{take-append_seam}
use Rattle.std.proofs.lemmas.Bool.{cases_lt}
use Rattle.std.proofs.lemmas.List.{reverse-append}
use Rattle.lang_base.specs.declared.outcome.Outcome.{Outcome}
use Rattle.lang_base.specs.declared.refusal.Kind.TheVariants.{Schedule, TooLong}
use Rattle.lang_base.specs.declared.refusal.Kind.TheVariants.{Trace as no_trace_kind}
use Rattle.code_instrs.specs.declared.code.Code.{Code}
use Rattle.exec_progress.specs.Progress.{CodeMakesProgress}
use Rattle.exec_run.specs.history.Replaying.{GoesWrong, after_end, not_ready, too_early}
use Rattle.exec_machine.specs.Replay.{LeadsTo, Moment}
use Rattle.sound_text.specs.Laws.{HasVerdict, Keeps, OneVerdict, PassedKeeps}
use Rattle.runs_theorem.specs.Guarantee.{MachinesAreNotStuck}
use Rattle.runs_simulation.specs.Laws.{SchedulesAreShort, SomeTaskIsReady}
use Rattle.exec_run.specs.Replays.{HasFollowed}
use Rattle.exec_run.specs.Replays as following
use Rattle.exec_run.specs.declared.recorded.Recorded.{Recorded}
use Rattle.tool_trace.specs.Reading.{AreLimits, IsTrace}
use Rattle.tool_trace.specs.Runs.{line_of}
use Rattle.tool_trace.specs.declared.reading.Trace.{Trace}
use Rattle.lang_typed.specs.Plain.{PlainProgram}
use Rattle.tool_words.specs.declared.verdict.Verdict.TheVariants.{Ran, Refused}
use Rattle.exec_world.specs.Ready.{IsReady}
use Rattle.tool_top.specs.declared.answered.Answered.{Answered}
use Rattle.tool_top.specs.Answer.{max_text, max_trace, only, refused_at, refused_at_start}
use Rattle.tool_top.specs.Replaying as replay
use Rattle.tool_top.specs.Replaying.{IsAnswerOnTrace, IsReplayOf, IsReplayed, program_of}
use Rattle.tool_total.proofs.Finishing.{next, played, replayed, starts}
use Rattle.tool_total.proofs.Reading.{ReadSo, read_so}
use Rattle.tool_total.proofs.Readiness.{ready_or}
use Rattle.tool_total.proofs.Runs.{code, goes, is_code, run_of, unstuck}
use Rattle.tool_total.specs.Answering.{EachReplayed}

there : (xs ys : List ℕ) (y : ℕ) → slice_get (xs ++ y ∷ ys) (length xs) ≡ Some y
there [] ys y = refl
there (x ∷ xs) ys y = there xs ys y

module _ (going : CodeMakesProgress) (some : SomeTaskIsReady) (short : SchedulesAreShort) (never_stuck : MachinesAreNotStuck) (typed : PlainProgram) (kept : Keeps typed) (trace : Trace)
    (allowed : AreLimits trace.limits) (fits : FitsSigned w32 trace.arg) where
  abbrev C : Code
  C = code going some short never_stuck typed kept trace.limits trace.arg allowed.steps_most allowed.cells_most fits

  abbrev Leads : List ℕ → Moment → Type 0
  Leads js m = LeadsTo C trace.limits trace.arg js m

  abbrev Followed : Type 0
  Followed = (answered : Answered) × IsReplayOf trace typed answered

  has_followed : (js : List ℕ) (m : Moment) → Leads js m → (xs ys : List ℕ) → trace.schedule ≡ xs ++ ys → reverse js ≡ xs
      → HasFollowed typed trace.limits trace.arg trace.schedule (length xs) (played C trace.limits trace.arg js m)
  has_followed js m leads xs ys all made = record {
    code = C;
    is_code = is_code going some short never_stuck typed kept trace.limits trace.arg allowed.steps_most allowed.cells_most fits;
    made = record {
      within = (let size = ap (λ (l : List ℕ). length l) all in let parts = length-append xs ys in omega (arith, size, parts));
      is_at = record {
        is_code = refl;
        is_limits = refl;
        is_argument = refl;
        is_schedule = made ∙ sym (ap (λ (l : List ℕ). take (length xs) l) all ∙ take-append_seam xs ys);
        replayed = replayed C trace.limits trace.arg js m leads;
      };
    };
  }

  unfit_at : (js : List ℕ) (m : Moment) → Leads js m → (xs ys : List ℕ) → trace.schedule ≡ xs ++ ys → reverse js ≡ xs
      → GoesWrong trace.schedule (length xs) (played C trace.limits trace.arg js m) → Followed
  unfit_at js m leads xs ys all made wrong = (
    only (refused_at Schedule (line_of trace.schedule (length xs))),
    replay.unfit (length xs) (following.unfit (length xs) (played C trace.limits trace.arg js m) (has_followed js m leads xs ys all made) wrong) refl,
  )

  at_number : (xs ys : List ℕ) (y : ℕ) → trace.schedule ≡ xs ++ y ∷ ys → slice_get trace.schedule (length xs) ≡ Some y
  at_number xs ys y all = ap (λ (l : List ℕ). slice_get l (length xs)) all ∙ there xs ys y

  came_out : (js : List ℕ) (m : Moment) → Leads js m → (xs : List ℕ) → trace.schedule ≡ xs ++ [] → reverse js ≡ xs → (o : Outcome) → m.outcome ≡ Some o → Followed
  came_out js m leads xs all made o come =
      let r : Recorded = record { «record» = record { machine = played C trace.limits trace.arg js m; shares = []; own = length (reverse js); rounds = 0 }; outcome = o } in (
        record { verdict = Ran o; recorded = Some r.record },
        replay.ran r (following.ran r (record {
          is_run = run_of going some short never_stuck typed kept trace.limits trace.arg allowed.steps_most allowed.cells_most fits js m leads;
          came = come;
          seats = refl;
          counted = omega arith;
        }) (made ∙ sym (all ∙ append-nil xs))) refl,
      )

  abbrev Further : List ℕ → Type 0
  Further ys = (xs js : List ℕ) (m : Moment) → Leads js m → trace.schedule ≡ xs ++ ys → reverse js ≡ xs → Followed

  at_end : (xs js : List ℕ) (m : Moment) → Leads js m → trace.schedule ≡ xs ++ [] → reverse js ≡ xs → (o : Option Outcome) → m.outcome ≡ o → Followed
  at_end xs js m leads all made None none =
      unfit_at js m leads xs [] all made (too_early (let size = ap (λ (l : List ℕ). length l) (all ∙ append-nil xs) in sym size) none)
  at_end xs js m leads all made (Some o) come = came_out js m leads xs all made o come

  at_next : (y : ℕ) (ys : List ℕ) → Further ys → (xs js : List ℕ) (m : Moment) → Leads js m → trace.schedule ≡ xs ++ y ∷ ys → reverse js ≡ xs
      → (o : Option Outcome) → m.outcome ≡ o → IsReady m.world y ⊎ (IsReady m.world y → ⊥) → Followed
  at_next y ys more xs js m leads all made (Some o) come ready = unfit_at js m leads xs (y ∷ ys) all made (after_end y (at_number xs ys y all) (subst IsSome (sym come) refl))
  at_next y ys more xs js m leads all made None none (inr never) = unfit_at js m leads xs (y ∷ ys) all made (not_ready y (at_number xs ys y all) never)
  at_next y ys more xs js m leads all made None none (inl ready) =
      let n =
      next C trace.limits trace.arg (goes going some short never_stuck typed kept trace.limits trace.arg allowed.steps_most allowed.cells_most fits)
      (unstuck going some short never_stuck typed kept trace.limits trace.arg allowed.steps_most allowed.cells_most fits) js m leads none y ready in
      more (xs ++ y ∷ []) (y ∷ js) n.0 (m, leads, n.1) (all ∙ sym (append_assoc xs (y ∷ []) ys)) (reverse-append (y ∷ []) js ∙ ap (λ (l : List ℕ). l ++ y ∷ []) made)

  follow : (ys : List ℕ) → Further ys
  follow [] xs js m leads all made = at_end xs js m leads all made m.outcome refl
  follow (y ∷ ys) xs js m leads all made = at_next y ys (follow ys) xs js m leads all made m.outcome refl (ready_or m.world y)

  pub followed : Followed
  followed = follow trace.schedule [] [] (starts C trace.limits trace.arg).0 (starts C trace.limits trace.arg).1 refl refl

module _ (passed : PassedKeeps) (verdict : OneVerdict) (going : CodeMakesProgress) (some : SomeTaskIsReady) (short : SchedulesAreShort) (never_stuck : MachinesAreNotStuck) where
  on_verdict : (bytes : List ℕ) (trace : Trace) → IsTrace bytes trace → length (program_of bytes trace) ≤ max_text → HasVerdict (program_of bytes trace) → (answered : Answered) × IsAnswerOnTrace bytes trace answered
  on_verdict bytes trace is few judged =
      ⊎_elim
      (λ h. (let f = followed going some short never_stuck h.1 (passed (program_of bytes trace) h.0 h.1 few h.2) trace is.limits is.arg in
      (f.0, replay.followed h.0 h.1 (few, h.2) f.1)))
      (λ h. (only (Refused h.0), replay.faulty h.0 few h.1 refl)) judged

  on_trace : (bytes : List ℕ) (trace : Trace) → IsTrace bytes trace → (answered : Answered) × IsAnswerOnTrace bytes trace answered
  on_trace bytes trace is =
      ⊎_elim (λ (long : max_text < length (program_of bytes trace)). (only (refused_at_start TooLong), replay.long_program long refl))
      (λ (few : length (program_of bytes trace) ≤ max_text). on_verdict bytes trace is few (verdict.some (program_of bytes trace) few)) (cases_lt max_text (length (program_of bytes trace)))

  on_reading : (bytes : List ℕ) → length bytes ≤ max_trace → ReadSo bytes → (answered : Answered) × IsReplayed bytes answered
  on_reading bytes few reading =
      ⊎_elim (λ h. (let on = on_trace bytes h.0 h.1 in (on.0, replay.of_trace h.0 few h.1 on.1)))
      (λ h. (only (refused_at no_trace_kind h.0), replay.no_trace h.0 few h.1 refl)) reading

  pub each_replayed : EachReplayed
  each_replayed bytes =
      ⊎_elim (λ (long : max_trace < length bytes). (only (refused_at_start TooLong), replay.too_long long refl))
      (λ (few : length bytes ≤ max_trace). on_reading bytes few (read_so bytes)) (cases_lt max_trace (length bytes))
