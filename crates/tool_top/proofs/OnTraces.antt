-- There is one verdict at most on bytes of which a replay is asked, and one answer for each run that was recorded.
use Rattle.std.proofs.Common.{◌≡◌, ◌∙◌, ℕ, List, length, ap, sym, refl, subst, arith, ◌<◌, ◌≤◌}
use Rattle.lang_base.specs.declared.refusal.Kind.TheVariants.{Schedule}
use Rattle.lang_base.specs.declared.refusal.Kind.TheVariants.{Trace as no_trace_kind}
use Rattle.lang_typed.specs.Plain.{PlainProgram}
use Rattle.exec_progress.specs.Progress.{CodeMakesProgress}
use Rattle.sound_text.specs.Laws.{Keeps, OnePassing, OneVerdict, PassedKeeps}
use Rattle.exec_run.specs.Replays.{IsFollowed}
use Rattle.runs_program.specs.Laws.{EachKeeps}
use Rattle.tool_trace.specs.Laws.{NoMisfitInTrace, OneMisfit, OneReading}
use Rattle.tool_trace.specs.Reading.{IsTrace}
use Rattle.tool_trace.specs.Runs.{line_of}
use Rattle.tool_trace.specs.declared.reading.Trace.{Trace}
use Rattle.tool_words.specs.declared.verdict.Verdict.TheVariants.{Ran, Refused}
use Rattle.tool_top.specs.declared.answered.Answered.{Answered}
use Rattle.tool_top.specs.Answer.{refused_at}
use Rattle.tool_top.specs.Replaying.{IsAnswerOnTrace, IsReplayOf, IsReplayed, OneReplay, faulty, followed, long_program, no_trace, of_trace, program_of, ran, too_long, unfit}
use Rattle.tool_top.proofs.Following.{ran_once, right_not_wrong, wrong_once}

answer_same : (a b : Answered) → a.verdict ≡ b.verdict → a.recorded ≡ b.recorded → a ≡ b
answer_same a b v r = ap (λ x. record { verdict = x; recorded = a.recorded }) v ∙ ap (λ x. record { verdict = b.verdict; recorded = x }) r

-- answers that are given so have the same verdict, where that is the same
same_verdict : {a b c d : Answered} → a ≡ c → b ≡ d → c.verdict ≡ d.verdict → a.verdict ≡ b.verdict
same_verdict is so same = ap (λ (x : Answered). x.verdict) is ∙ same ∙ sym (ap (λ (x : Answered). x.verdict) so)

module _ (keeps : EachKeeps) (going : CodeMakesProgress) (typed : PlainProgram) (kept : Keeps typed) (trace : Trace) (bytes : List ℕ) (is : IsTrace bytes trace) where
  follows_once : {a b : Answered} → IsReplayOf trace typed a → IsReplayOf trace typed b → a.verdict ≡ b.verdict
  follows_once (ran r (IsFollowed.ran _ f same) is_a) (ran q (IsFollowed.ran _ g alike) is_b) =
      same_verdict is_a is_b (ap Ran (ran_once keeps going typed trace.limits trace.arg kept.resolved kept.has_main is.limits.steps_most trace.schedule r q f same g alike))
  follows_once (ran r (IsFollowed.ran _ f same) is_a) (unfit at (IsFollowed.unfit _ p g wrong) is_b) =
      absurd (right_not_wrong keeps going typed trace.limits trace.arg kept.resolved kept.has_main is.limits.steps_most trace.schedule r f same at p g wrong)
  follows_once (unfit at (IsFollowed.unfit _ p g wrong) is_a) (ran r (IsFollowed.ran _ f same) is_b) =
      absurd (right_not_wrong keeps going typed trace.limits trace.arg kept.resolved kept.has_main is.limits.steps_most trace.schedule r f same at p g wrong)
  follows_once (unfit at (IsFollowed.unfit _ p f wrong) is_a) (unfit other (IsFollowed.unfit _ q g wrong_so) is_b) =
      same_verdict is_a is_b (ap (λ n. refused_at Schedule (line_of trace.schedule n))
      (wrong_once keeps going typed trace.limits trace.arg kept.resolved kept.has_main is.limits.steps_most trace.schedule at other p q f wrong g wrong_so))

module _ (keeps : EachKeeps) (going : CodeMakesProgress) (passed : PassedKeeps) (verdict : OneVerdict) (one : OnePassing) where
  on_trace_once : (bytes : List ℕ) (trace : Trace) → IsTrace bytes trace → {a b : Answered} → IsAnswerOnTrace bytes trace a → IsAnswerOnTrace bytes trace b → a.verdict ≡ b.verdict
  on_trace_once bytes trace is {a} {b} = by
    where
      short_long : {P : Type 0} → 1048576 < length (program_of bytes trace) → length (program_of bytes trace) ≤ 1048576 → P
      short_long long short = absurd (omega (arith, long, short))

      by : IsAnswerOnTrace bytes trace a → IsAnswerOnTrace bytes trace b → a.verdict ≡ b.verdict
      by (long_program h is_a) (long_program k is_b) = same_verdict is_a is_b refl
      by (long_program h is_a) (faulty refusal short fault is_b) = short_long h short
      by (long_program h is_a) (followed place typed accepted on) = short_long h accepted.0
      by (faulty refusal short fault is_a) (long_program k is_b) = short_long k short
      by (faulty refusal short fault is_a) (faulty other k others is_b) =
          same_verdict is_a is_b (ap Refused (verdict.one_fault (program_of bytes trace) refusal other fault others))
      by (faulty refusal short fault is_a) (followed place typed accepted on) = absurd (verdict.not_both (program_of bytes trace) place typed refusal accepted.1 fault)
      by (followed place typed accepted on) (long_program k is_b) = short_long k accepted.0
      by (followed place typed accepted on) (faulty refusal short fault is_b) = absurd (verdict.not_both (program_of bytes trace) place typed refusal accepted.1 fault)
      by (followed place typed accepted on) (followed other typed_so another on_so) =
          follows_once keeps going typed (passed (program_of bytes trace) place typed accepted.0 accepted.1) trace bytes is on
          (subst (λ t. IsReplayOf trace t b) (one (program_of bytes trace) other place typed_so typed another.1 accepted.1) on_so)

  verdict_once : OneReading → OneMisfit → NoMisfitInTrace → (bytes : List ℕ) {a b : Answered} → IsReplayed bytes a → IsReplayed bytes b → a.verdict ≡ b.verdict
  verdict_once reading misfit apart bytes {a} {b} = by
    where
      by : IsReplayed bytes a → IsReplayed bytes b → a.verdict ≡ b.verdict
      by (too_long h is_a) (too_long k is_b) = same_verdict is_a is_b refl
      by (too_long h is_a) (no_trace line short m is_b) = absurd (omega (arith, h, short))
      by (too_long h is_a) (of_trace trace short is on) = absurd (omega (arith, h, short))
      by (no_trace line short m is_a) (too_long k is_b) = absurd (omega (arith, k, short))
      by (no_trace line short m is_a) (no_trace other k n is_b) = same_verdict is_a is_b (ap (λ l. refused_at no_trace_kind l) (misfit bytes line other m n))
      by (no_trace line short m is_a) (of_trace trace k is on) = absurd (apart bytes trace line is m)
      by (of_trace trace short is on) (too_long k is_b) = absurd (omega (arith, k, short))
      by (of_trace trace short is on) (no_trace line k m is_b) = absurd (apart bytes trace line is m)
      by (of_trace trace short is on) (of_trace other k so on_so) =
          on_trace_once bytes trace is on (subst (λ t. IsAnswerOnTrace bytes t b) (reading bytes other trace so is) on_so)

  pub replay_once : OneReading → OneMisfit → NoMisfitInTrace → OneReplay
  replay_once reading misfit apart bytes first second a b =
      let same = verdict_once reading misfit apart bytes a b in (same, λ recorded. answer_same first second same recorded)
