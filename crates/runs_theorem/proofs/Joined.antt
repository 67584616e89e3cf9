-- The machine's records and the determinism of schedules, joined.
use Rattle.std.proofs.Common.{rules, ℕ, ◌≡◌, List, Option, Some, None, refl, sym, ap, ◌∙◌, subst, slice_get, reverse}
use Rattle.lang_meaning.specs.Actions.{Returned, Assigned, Trapped}
use Rattle.lang_meaning.specs.Counts.{number}
use Rattle.lang_meaning.specs.Elision.{elided}
use Rattle.lang_meaning.specs.Outcomes.{Outcome as ElidedOutcome, Came as came_out, Limited}
use Rattle.lang_meaning.specs.Values.{Value, Int, Boolean, Null, Object}
use Rattle.runs_elision.specs.Laws.{IsElided}
use Rattle.runs_elision.specs.Renamed.{object_named, renamed, renamed_value}
use Rattle.runs_theory.specs.Objects.{Name}
use Rattle.runs_program.specs.Steps.{stepped}
use Rattle.runs_theorem.specs.Laws.{SchedulesComeOutAsElided}
use Rattle.runs_simulation.specs.Laws.{MachinesRecord, Records}
use Rattle.runs_theorem.specs.Guarantee.{MachinesComeOutAsElided}
use Rattle.lang_meaning.specs.Reported.{reported}

-- the names of objects don't show in an outcome
number_named : (x : Option Name) → number (object_named x) ≡ number {N = Name} Null
number_named None = refl
number_named (Some x) = refl

number_renamed : (names : List Name) (v : Value ℕ) → number (renamed_value names v) ≡ number v
number_renamed names (Object n) = number_named (slice_get names n)
number_renamed names (Int k) = refl
number_renamed names (Boolean b) = refl
number_renamed names Null = refl

pub reported_renamed : (names : List Name) (o : ElidedOutcome ℕ) → reported (renamed names o) ≡ reported o
reported_renamed names (came_out (Returned v) output steps cells) = search (rules, number_renamed names v)
reported_renamed names (came_out (Assigned locals) output steps cells) = refl
reported_renamed names (came_out (Trapped trap place) output steps cells) = refl
reported_renamed names (Limited steps cells) = refl

-- a machine's schedule records a run of the source, which comes out as the elision
pub machines_come_out : MachinesRecord → SchedulesComeOutAsElided → MachinesComeOutAsElided
machines_come_out records schedules P p o wt none resolved main code_is small fits replayed came =
    let ks = reverse p.schedule in
    let finished = subst (λ z. Records (stepped P p.argument) p.limits ks z) (sym replayed.outcome ∙ came)
    (records p.code P p.limits p.argument code_is resolved main small ks replayed.moment replayed.leads) in
    let is : IsElided P p.argument p.limits finished.0 = schedules P wt none p.argument fits p.limits ks finished.0 finished.1 in
    finished.2 ∙ ap reported is.is ∙ reported_renamed is.names (elided P p.argument p.limits)
