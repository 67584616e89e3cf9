-- Answers to traces, over plain variables.
use Rattle.std.proofs.Common.{◌≡◌, ◌∙◌, ◌≤◌, ℕ, ℤ, List, length, IfOk, Result, Ok, Err, sym, ap, subst}
use Rattle.lang_base.specs.declared.memory.NoMemory.{NoMemory}
use Rattle.lang_base.specs.declared.place.Place.{Place}
use Rattle.lang_base.specs.declared.refusal.Refusal.{Refusal}
use Rattle.lang_base.specs.declared.refusal.Kind.TheVariants.{Trace as trace_kind}
use Rattle.lang_typed.specs.Plain.{PlainProgram}
use Rattle.tool_trace.specs.Reading.{IsMisfit, IsTrace}
use Rattle.tool_trace.specs.declared.reading.Trace.{Trace}
use Rattle.lang_base.specs.declared.outcome.Limits.{Limits}
use Rattle.exec_run.specs.Replays.{IsFollowed}
use Rattle.exec_run.specs.declared.replaying.Replayed.{Replayed}
use Rattle.tool_front.specs.Front.{IsPassed, IsFault}
use Rattle.tool_words.specs.declared.verdict.Status.TheVariants as ended
use Rattle.tool_words.specs.declared.verdict.Verdict.TheVariants.{Refused}
use Rattle.tool_words.specs.Reports.{status_of}
use Rattle.tool_top.specs.declared.answered.Answered.{Answered}
use Rattle.tool_top.specs.Answer.{max_text, max_trace, only, refused_at}
use Rattle.tool_top.specs.Replaying.{IsReplayed, too_long, no_trace, of_trace, IsAnswerOnTrace, long_program, faulty, followed, IsReplayOf, ran, unfit, program_of}
use Rattle.tool_top.proofs.Verdicts.{ending_status-no-usage}

same-status : (answered reported : Answered) → answered ≡ reported → status_of answered.verdict ≡ ended.Usage → status_of reported.verdict ≡ ended.Usage
same-status answered reported is e = ap (λ (a : Answered). status_of a.verdict) (sym is) ∙ e

on-trace-no-usage : (bytes : List ℕ) (trace : Trace) (answered : Answered) → IsAnswerOnTrace bytes trace answered → status_of answered.verdict ≡ ended.Usage → ⊥
on-trace-no-usage bytes trace answered (long_program long is) e = let s = same-status answered _ is e in cc
on-trace-no-usage bytes trace answered (faulty refusal short fault is) e = let s = same-status answered _ is e in cc
on-trace-no-usage bytes trace answered (followed place typed accepted (ran r f is)) e = ending_status-no-usage r.outcome.ending (same-status answered _ is e)
on-trace-no-usage bytes trace answered (followed place typed accepted (unfit at f is)) e = let s = same-status answered _ is e in cc

-- the answer to a replay isn't reported as usage
pub replay-no-usage : (bytes : List ℕ) (answered : Answered) → IsReplayed bytes answered → status_of answered.verdict ≡ ended.Usage → ⊥
replay-no-usage bytes answered (too_long long is) e = let s = same-status answered _ is e in cc
replay-no-usage bytes answered (no_trace line short misfit is) e = let s = same-status answered _ is e in cc
replay-no-usage bytes answered (of_trace trace short is on) e = on-trace-no-usage bytes trace answered on e

-- bytes that are a trace, and bytes that are none
pub trace-answer : (bytes : List ℕ) (trace : Trace) (result : Result Answered NoMemory) → length bytes ≤ max_trace → IsTrace bytes trace → IfOk result (IsAnswerOnTrace bytes trace)
    → IfOk result (IsReplayed bytes)
trace-answer bytes trace (Ok answered) short is on = of_trace trace short is on
trace-answer bytes trace (Err none) short is on = tt

pub misfit-answer : (bytes : List ℕ) (found reported : ℕ) (answered : Answered) → found ≡ reported → answered ≡ only (refused_at trace_kind reported) → length bytes ≤ max_trace → IsMisfit bytes found
    → IsReplayed bytes answered
misfit-answer bytes found reported answered same is short misfit = no_trace reported short (subst (λ l. IsMisfit bytes l) same misfit) is

-- the program of a trace, read off the bytes
pub follow-answer : (bytes text : List ℕ) (trace : Trace) (place : Place) (typed : PlainProgram) (result : Result Answered NoMemory) → text ≡ program_of bytes trace
    → length text ≤ max_text → IsPassed text place typed → IfOk result (IsReplayOf trace typed) → IfOk result (IsAnswerOnTrace bytes trace)
follow-answer bytes text trace place typed (Ok answered) same short passed r =
    followed place typed (subst (λ (t : List ℕ). length t ≤ max_text) same short, subst (λ t. IsPassed t place typed) same passed) r
follow-answer bytes text trace place typed (Err none) same short passed r = tt

pub fault-answer : (bytes text : List ℕ) (trace : Trace) (found reported : Refusal) (answered : Answered) → text ≡ program_of bytes trace → found ≡ reported → answered ≡ only (Refused reported)
    → length text ≤ max_text → IsFault text found → IsAnswerOnTrace bytes trace answered
fault-answer bytes text trace found reported answered same alike is short fault =
    faulty reported (subst (λ (t : List ℕ). length t ≤ max_text) same short) (subst (λ t. IsFault t reported) same (subst (λ r. IsFault text r) alike fault)) is

-- what a schedule comes to, of an equal program under an equal argument
pub followed_as : (made typed : PlainProgram) (L : Limits) (a argument : ℤ) (schedule numbers : List ℕ) (found : Replayed) → made ≡ typed → a ≡ argument → schedule ≡ numbers →
    IsFollowed made L a schedule found → IsFollowed typed L argument numbers found
followed_as made typed L a argument schedule numbers found is given same f =
    subst (λ P. IsFollowed P L argument numbers found) is (subst (λ b. IsFollowed made L b numbers found) given (subst (λ ks. IsFollowed made L a ks found) same f))
