-- There is one answer at most to a job on a text, for each run that was recorded.
use Rattle.std.proofs.Common.{◌≡◌, ◌∙◌, ℕ, true, false, List, Some, ap, sym, refl, subst, arith}
use Rattle.lang_base.specs.declared.outcome.Outcome.{Outcome}
use Rattle.lang_base.specs.declared.place.Place.{Place}
use Rattle.exec_run.specs.declared.history.record.Record.{Record}
use Rattle.lang_typed.specs.Plain.{PlainProgram}
use Rattle.code_scheme.specs.Whole.{compiled}
use Rattle.code_compile.specs.Titles.{titles_of}
use Rattle.body_infer.specs.Kept.{program_kept}
use Rattle.body_infer.specs.Lines.{lines_of}
use Rattle.body_infer.specs.Once.{OneInferred}
use Rattle.code_listing.specs.Listing.{plain_listing}
use Rattle.sound_text.specs.Laws.{OneNaming, OnePassing, OneVerdict}
use Rattle.tool_words.specs.declared.command.Command.{Command}
use Rattle.tool_words.specs.declared.command.Command.TheVariants as command
use Rattle.tool_words.specs.declared.job.Job.{Job}
use Rattle.tool_words.specs.Reports.{ending_status, status_of}
use Rattle.tool_words.specs.declared.verdict.Verdict.TheVariants.{Effects, Listed, Refused}
use Rattle.tool_top.specs.declared.answered.Answered.{Answered}
use Rattle.tool_top.specs.Answer.{IsAcceptedAs, AreAlike, IsAnswer, IsAnswerOn, IsListing, IsRan, IsShown, IsWithin, OneAnswer, asks_run, faulty, limits_of, of_program, only, verdict_of, to_check, to_effects, to_events, to_elide, to_list, to_run, too_long, IsSummaries}
use Rattle.tool_top.specs.Keeps.{KeepsGuarantee}
use Rattle.tool_top.proofs.Promised.{made_run}

some_same : {A : Type 0} {x y : A} → Some x ≡ Some y → x ≡ y
some_same e = cc

not_true_false : true ≡ false → ⊥
not_true_false e = cc

ran_once : (job : Job) (text : List ℕ) (typed : PlainProgram) (first second : Answered) → IsRan job text typed first → IsRan job text typed second → first.recorded ≡ second.recorded → first ≡ second
ran_once job text typed first second a b same =
    let r = a.made in
    let q = b.made in
    let record_same : r.record ≡ q.record = some_same (sym (ap (λ (x : Answered). x.recorded) a.is) ∙ same ∙ ap (λ (x : Answered). x.recorded) b.is) in
    let come = (made_run job.mode typed (limits_of job) job.arg job.workers r a.run).1 in
    let came = (made_run job.mode typed (limits_of job) job.arg job.workers q b.run).1 in
    let outcome_same : r.outcome ≡ q.outcome = some_same (sym come ∙ ap (λ (k : Record). k.machine.outcome) record_same ∙ came) in
    a.is ∙ ap (λ (k : Record). record { verdict = verdict_of job text k.machine.schedule k.rounds r.outcome; recorded = Some k }) record_same
    ∙ ap (λ (o : Outcome). record { verdict = verdict_of job text q.record.machine.schedule q.record.rounds o; recorded = Some q.record }) outcome_same ∙ sym b.is

shown_once : (job : Job) (text : List ℕ) (typed : PlainProgram) (first second : Answered) → IsShown job text typed first → IsShown job text typed second → first.recorded ≡ second.recorded
    → status_of first.verdict ≡ status_of second.verdict
shown_once job text typed first second a b same =
    let r = a.made in
    let q = b.made in
    let record_same : r.record ≡ q.record = some_same (sym (ap (λ (x : Answered). x.recorded) a.is) ∙ same ∙ ap (λ (x : Answered). x.recorded) b.is) in
    let come = (made_run job.mode typed (limits_of job) job.arg job.workers r a.run).1 in
    let came = (made_run job.mode typed (limits_of job) job.arg job.workers q b.run).1 in
    let outcome_same : r.outcome ≡ q.outcome = some_same (sym come ∙ ap (λ (k : Record). k.machine.outcome) record_same ∙ came) in
    ap (λ (x : Answered). status_of x.verdict) a.is ∙ ap (λ (o : Outcome). ending_status o.ending) outcome_same ∙ sym (ap (λ (x : Answered). status_of x.verdict) b.is)

-- answers that are the same are alike
alike_same : (c : Command) (first second : Answered) → first ≡ second → AreAlike c first second
alike_same command.Check first second same = same
alike_same command.Run first second same = same
alike_same command.Elide first second same = same
alike_same command.«List» first second same = same
alike_same command.Demo first second same = same
alike_same command.Trace first second same = same
alike_same command.Events first second same = ap (λ (x : Answered). status_of x.verdict) same
alike_same command.Replay first second same = same
alike_same command.Effects first second same = same
alike_same command.Cost first second same = same

listed_once : OneNaming → (text : List ℕ) (typed : PlainProgram) (first second : Answered) → IsListing text typed first → IsListing text typed second → first ≡ second
listed_once naming text typed first second a b =
    a.lists ∙ ap (λ names. only (Listed (plain_listing (titles_of typed names) (compiled typed)))) (naming text a.names b.names a.are_names b.are_names) ∙ sym b.lists

effects_once : OneNaming → OneInferred → (text : List ℕ) (typed : PlainProgram) (first second : Answered) → IsSummaries text typed first → IsSummaries text typed second → first ≡ second
effects_once naming least text typed first second a b =
    a.is ∙ ap (λ P. only (Effects (lines_of P a.names))) (least typed a.kept b.kept a.inferred b.inferred)
    ∙ ap (λ names. only (Effects (lines_of (program_kept b.kept typed) names))) (naming text a.names b.names a.are_names b.are_names) ∙ sym b.is

-- an answer on a program, by its command
unlike : (job : Job) (c d : Command) → job.command ≡ c → job.command ≡ d → (c ≡ d → ⊥) → ⊥
unlike job c d e f different = different (sym e ∙ f)

no_run : (job : Job) (c : Command) → asks_run job.command ≡ true → job.command ≡ c → asks_run c ≡ false → ⊥
no_run job c run e none = not_true_false (sym run ∙ ap asks_run e ∙ none)

module _ (keeps : KeepsGuarantee) (naming : OneNaming) (least : OneInferred) (job : Job) (text : List ℕ) (place : Place) (typed : PlainProgram) (within : IsWithin job)
    (accepted : IsAcceptedAs text place typed) where
  same_so : {first second : Answered} → first ≡ second → AreAlike job.command first second
  same_so {first} {second} same = alike_same job.command first second same

  on_once : (first second : Answered) → IsAnswerOn job text typed first → IsAnswerOn job text typed second → first.recorded ≡ second.recorded → AreAlike job.command first second
  on_once first second (to_check c is) (to_check d so) same = same_so (is ∙ sym so)
  on_once first second (to_check c is) (to_run d so) same = absurd (no_run job command.Check d c refl)
  on_once first second (to_check c is) (to_events d so) same = absurd (unlike job command.Check command.Events c d (λ e. absurd (cc e)))
  on_once first second (to_check c is) (to_elide d so) same = absurd (unlike job command.Check command.Elide c d (λ e. absurd (cc e)))
  on_once first second (to_check c is) (to_list d so) same = absurd (unlike job command.Check command.«List» c d (λ e. absurd (cc e)))
  on_once first second (to_check c is) (to_effects d so) same = absurd (unlike job command.Check command.Effects c d (λ e. absurd (cc e)))
  on_once first second (to_run c is) (to_check d so) same = absurd (no_run job command.Check c d refl)
  on_once first second (to_run c is) (to_run d so) same = same_so (ran_once job text typed first second is so same)
  on_once first second (to_run c is) (to_events d so) same = absurd (no_run job command.Events c d refl)
  on_once first second (to_run c is) (to_elide d so) same = absurd (no_run job command.Elide c d refl)
  on_once first second (to_run c is) (to_list d so) same = absurd (no_run job command.«List» c d refl)
  on_once first second (to_run c is) (to_effects d so) same = absurd (no_run job command.Effects c d refl)
  on_once first second (to_events c is) (to_check d so) same = absurd (unlike job command.Events command.Check c d (λ e. absurd (cc e)))
  on_once first second (to_events c is) (to_run d so) same = absurd (no_run job command.Events d c refl)
  on_once first second (to_events c is) (to_events d so) same = subst (λ k. AreAlike k first second) (sym c) (shown_once job text typed first second is so same)
  on_once first second (to_events c is) (to_elide d so) same = absurd (unlike job command.Events command.Elide c d (λ e. absurd (cc e)))
  on_once first second (to_events c is) (to_list d so) same = absurd (unlike job command.Events command.«List» c d (λ e. absurd (cc e)))
  on_once first second (to_events c is) (to_effects d so) same = absurd (unlike job command.Events command.Effects c d (λ e. absurd (cc e)))
  on_once first second (to_elide c is) (to_check d so) same = absurd (unlike job command.Elide command.Check c d (λ e. absurd (cc e)))
  on_once first second (to_elide c is) (to_run d so) same = absurd (no_run job command.Elide d c refl)
  on_once first second (to_elide c is) (to_events d so) same = absurd (unlike job command.Elide command.Events c d (λ e. absurd (cc e)))
  on_once first second (to_elide c is) (to_elide d so) same = same_so (keeps.elide job text place typed first within accepted is ∙ sym (keeps.elide job text place typed second within accepted so))
  on_once first second (to_elide c is) (to_list d so) same = absurd (unlike job command.Elide command.«List» c d (λ e. absurd (cc e)))
  on_once first second (to_elide c is) (to_effects d so) same = absurd (unlike job command.Elide command.Effects c d (λ e. absurd (cc e)))
  on_once first second (to_list c is) (to_check d so) same = absurd (unlike job command.«List» command.Check c d (λ e. absurd (cc e)))
  on_once first second (to_list c is) (to_run d so) same = absurd (no_run job command.«List» d c refl)
  on_once first second (to_list c is) (to_events d so) same = absurd (unlike job command.«List» command.Events c d (λ e. absurd (cc e)))
  on_once first second (to_list c is) (to_elide d so) same = absurd (unlike job command.«List» command.Elide c d (λ e. absurd (cc e)))
  on_once first second (to_list c is) (to_list d so) same = same_so (listed_once naming text typed first second is so)
  on_once first second (to_list c is) (to_effects d so) same = absurd (unlike job command.«List» command.Effects c d (λ e. absurd (cc e)))
  on_once first second (to_effects c is) (to_check d so) same = absurd (unlike job command.Effects command.Check c d (λ e. absurd (cc e)))
  on_once first second (to_effects c is) (to_run d so) same = absurd (no_run job command.Effects d c refl)
  on_once first second (to_effects c is) (to_events d so) same = absurd (unlike job command.Effects command.Events c d (λ e. absurd (cc e)))
  on_once first second (to_effects c is) (to_elide d so) same = absurd (unlike job command.Effects command.Elide c d (λ e. absurd (cc e)))
  on_once first second (to_effects c is) (to_list d so) same = absurd (unlike job command.Effects command.«List» c d (λ e. absurd (cc e)))
  on_once first second (to_effects c is) (to_effects d so) same = same_so (effects_once naming least text typed first second is so)

pub answer_once : KeepsGuarantee → OneVerdict → OnePassing → OneNaming → OneInferred → OneAnswer
answer_once keeps verdict one naming least job text first second within = by
  where
    same_so : {x y : Answered} → x ≡ y → AreAlike job.command x y
    same_so {x} {y} same = alike_same job.command x y same

    by : {x y : Answered} → IsAnswer job text x → IsAnswer job text y → x.recorded ≡ y.recorded → AreAlike job.command x y
    by (too_long h) (too_long k) same = same_so refl
    by (too_long h) (faulty refusal short fault) same = absurd (omega (arith, h, short))
    by (too_long h) (of_program place typed answered accepted on) same = let short = accepted.0 in absurd (omega (arith, h, short))
    by (faulty refusal short fault) (too_long h) same = absurd (omega (arith, h, short))
    by (faulty refusal short fault) (faulty other k others) same = same_so (ap (λ r. only (Refused r)) (verdict.one_fault text refusal other fault others))
    by (faulty refusal short fault) (of_program place typed answered accepted on) same = absurd (verdict.not_both text place typed refusal accepted.1 fault)
    by (of_program place typed answered accepted on) (too_long h) same = let short = accepted.0 in absurd (omega (arith, h, short))
    by (of_program place typed answered accepted on) (faulty refusal short fault) same = absurd (verdict.not_both text place typed refusal accepted.1 fault)
    by (of_program place typed answered accepted on) (of_program other typed_so another passed on_so) same =
        on_once keeps naming least job text place typed within accepted answered another on
        (subst (λ t. IsAnswerOn job text t another) (one text other place typed_so typed passed.1 accepted.1) on_so) same
