-- The events that a schedule makes are those of the run of the source that it has recorded.
use Rattle.std.proofs.Common.{◌≡◌, ◌∙◌, ◌≤◌, ℕ, ℤ, List, [], ◌∷◌, map, Some, None, refl, sym, ap, subst, reverse}
use Rattle.lang_base.specs.declared.outcome.Ending.TheVariants as came
use Rattle.lang_base.specs.declared.outcome.Limits.{Limits}
use Rattle.lang_base.specs.declared.outcome.Outcome.{Outcome as Declared}
use Rattle.lang_typed.specs.Plain.{PlainProgram}
use Rattle.lang_typed.specs.Resolved.{Resolved, HasMain}
use Rattle.lang_meaning.specs.Actions.{Ending as EndingOf, Assigned, Returned, Trapped}
use Rattle.lang_meaning.specs.Reported.{reported, reported_ending}
use Rattle.code_instrs.specs.Plain.{plain_code}
use Rattle.code_instrs.specs.declared.code.Code.{Code}
use Rattle.code_scheme.specs.Whole.{compiled}
use Rattle.exec_machine.specs.declared.made_event.MadeEvent.{MadeEvent}
use Rattle.exec_machine.specs.Events.{Makes, makes, meets_limit, opens}
use Rattle.exec_machine.specs.Replay.{LeadsTo, Moment, limited}
use Rattle.exec_machine.specs.Replay.{made as made_so, over as over_so}
use Rattle.exec_run.specs.Events.{AreEvents}
use Rattle.exec_run.specs.declared.showing.Shown.TheVariants.{Made}
use Rattle.runs_theory.specs.Actions.{Program}
use Rattle.runs_theory.specs.Meaning.{Disciplined}
use Rattle.runs_theory.specs.Objects.{Name}
use Rattle.runs_theory.specs.Order.{Outcome, ending_of, trapped}
use Rattle.runs_theory.specs.Runs.{Run}
use Rattle.runs_theory.specs.Schedules.{Finished, Ran, Within, ended, no_room, over}
use Rattle.runs_theory.proofs.runs.Schedules.{one_run}
use Rattle.runs_program.specs.Laws.{EachKeeps}
use Rattle.runs_program.specs.Steps.{stepped}
use Rattle.runs_simulation.specs.Alike.{EventsAlike, each_none}
use Rattle.runs_simulation.specs.Laws.{EventForEvent, MachinesRecord, Records}
use Rattle.tool_top.specs.Events.{AreEventsOf, recorded_run}
use Rattle.tool_top.proofs.Schedules.{finished_once, over_not_ran}

abbrev tasks_in : List MadeEvent → List ℕ
tasks_in xs = map (λ x. x.event.task) xs

-- before the end each number of a schedule has made an event of its task
each_made : {code : Code} {L : Limits} {arg : ℤ} {ks : List ℕ} {xs : List MadeEvent} {m : Moment} → Makes code L arg ks xs m → m.outcome ≡ None → tasks_in xs ≡ ks
each_made (opens h) none = refl
each_made {ks = j ∷ js} {xs = z ∷ zs} (makes k x y h can within is) none = ap (λ i. i ∷ tasks_in zs) y.next.stands.number ∙ ap (λ is. k ∷ is) (each_made h y.next.unfinished)
each_made {L = L} (meets_limit k x y h can beyond is) none = absurd (let both : None ≡ Some (limited L) = sym none ∙ ap (λ (n : Moment). n.outcome) is in cc)

-- each of all numbers, or of all but a last one that meets a limit
data Numbers (L : Limits) (ks : List ℕ) (xs : List MadeEvent) (m : Moment) : Type 0 where
  all_made : tasks_in xs ≡ ks → Numbers L ks xs m
  but_last : (k : ℕ) → k ∷ tasks_in xs ≡ ks → m.outcome ≡ Some (limited L) → Numbers L ks xs m

numbers : {code : Code} {L : Limits} {arg : ℤ} {ks : List ℕ} {xs : List MadeEvent} {m : Moment} → Makes code L arg ks xs m → Numbers L ks xs m
numbers (opens h) = all_made refl
numbers {ks = j ∷ js} {xs = z ∷ zs} (makes k x y h can within is) = all_made (ap (λ i. i ∷ tasks_in zs) y.next.stands.number ∙ ap (λ is. k ∷ is) (each_made h y.next.unfinished))
numbers (meets_limit k x y h can beyond is) = but_last k (ap (λ is. k ∷ is) (each_made h y.next.unfinished)) (ap (λ (n : Moment). n.outcome) is)

makes_leads : {code : Code} {L : Limits} {arg : ℤ} {ks : List ℕ} {xs : List MadeEvent} {m : Moment} → Makes code L arg ks xs m → LeadsTo code L arg ks m
makes_leads (opens h) = h
makes_leads (makes {before} k x y h can within is) = (before, makes_leads h, made_so x.event y.next can within is)
makes_leads (meets_limit {before} k x y h can beyond is) = (before, makes_leads h, over_so x.event y.next can beyond is)

none_made : (xs : List MadeEvent) → tasks_in xs ≡ [] → xs ≡ []
none_made [] e = refl
none_made (x ∷ xs) e = absurd (let both : x.event.task ∷ tasks_in xs ≡ [] = e in cc)

some_made : (k : ℕ) (ks : List ℕ) (xs : List MadeEvent) → tasks_in xs ≡ k ∷ ks → xs ≡ [] → ⊥
some_made k ks xs e none = let both : [] ≡ k ∷ ks = sym (ap tasks_in none) ∙ e in cc

tail_same : {j k : ℕ} {js ks : List ℕ} → j ∷ js ≡ k ∷ ks → js ≡ ks
tail_same e = cc

not_limited : (x : EndingOf Name) → came.Limited ≡ reported_ending x → ⊥
not_limited (Returned v) e = cc
not_limited (Assigned ls) e = cc
not_limited (Trapped trap place) e = cc

module _ (keeps : EachKeeps) (records : MachinesRecord) (alike : EventForEvent) (P : PlainProgram) (L : Limits) (arg : ℤ) (resolved : Resolved P) (main : HasMain P) (few : L.steps ≤ 20000000) where
  abbrev Q : Program
  Q = stepped P arg

  abbrev D : Disciplined Q
  D = (keeps P arg).disciplined

  at_start : (R : Run) → Ran Q L [] R → Within Q L []
  at_start [] ran = ran
  at_start (e ∷ R) ran = absurd ran

  no_events : (events : List MadeEvent) → reverse events ≡ [] → AreEventsOf [] events
  no_events events none = record {
    sight = record { names = []; paths = [] };
    is_sight = record {
      distinct = record { one = λ n m x a b. absurd (let both : None ≡ Some x = a in cc) };
      numbered = λ k p a. absurd (let both : None ≡ Some p = a in cc);
    };
    alike = subst (λ xs. EventsAlike (record { names = []; paths = [] }) xs []) (sym none) each_none;
  }

  module _ (code : Code) (is : plain_code code ≡ compiled P) (ks : List ℕ) (events : List MadeEvent) (m : Moment) (made : Makes code L arg ks (reverse events) m) where
    -- they are those of each run that their tasks record
    of_run : (R : Run) → Ran Q L (tasks_in (reverse events)) R → AreEventsOf R events
    of_run R ran =
        let A = alike code P L arg is resolved main few ks (reverse events) m made (λ none. at_start R (subst (λ xs. Ran Q L (tasks_in xs) R) none ran)) in
        subst (λ S. AreEventsOf S events) (one_run Q D L (tasks_in (reverse events)) A.0 R A.2 ran) (record { sight = A.1; is_sight = A.3; alike = A.4 })

    -- where the run has ended, its schedule has met no limit
    within_limit : (o : Outcome) → Finished Q L ks o → (x : EndingOf Name) → (reported o).ending ≡ reported_ending x → m.outcome ≡ Some (limited L) → ⊥
    within_limit o finished x same come =
        let h = subst (λ z. Records Q L ks z) come (records code P L arg is resolved main few ks m (makes_leads made)) in
        not_limited x (ap (λ (z : Declared). z.ending) (h.2 ∙ ap reported (finished_once Q D L ks ks h.0 o refl h.1 finished)) ∙ same)

  are_events : {ks : List ℕ} {o : Outcome} (code : Code) → plain_code code ≡ compiled P → (events : List MadeEvent) (m : Moment) → Makes code L arg ks (reverse events) m
      → (finished : Finished Q L ks o) → AreEventsOf (recorded_run finished) events
  are_events {ks = ks} {o = o} code is events m made (ended R ran comes) = by (numbers made)
    where
      by : Numbers L ks (reverse events) m → AreEventsOf R events
      by (all_made same) = of_run code is ks events m made R (subst (λ js. Ran Q L js R) (sym same) ran)
      by (but_last k same come) =
          absurd (within_limit code is ks events m made o (ended R ran comes) (ending_of (trapped comes.sorted) comes.end) (ap (λ (z : Outcome). (reported z).ending) comes.outcome) come)
  are_events code is events m made (over k js R e ran ready beyond) = by (numbers made)
    where
      by : Numbers L (k ∷ js) (reverse events) m → AreEventsOf R events
      by (all_made same) =
          let A = alike code P L arg is resolved main few (k ∷ js) (reverse events) m made (λ none. absurd (some_made k js (reverse events) same none)) in
          absurd (over_not_ran Q D L k js R e A.0 ran ready beyond (subst (λ is. Ran Q L is A.0) same A.2))
      by (but_last j same come) = of_run code is (k ∷ js) events m made R (subst (λ is. Ran Q L is R) (sym (tail_same same)) ran)
  are_events code is events m made (no_room beyond) = by (numbers made)
    where
      by : Numbers L [] (reverse events) m → AreEventsOf [] events
      by (all_made same) = no_events events (none_made (reverse events) same)
      by (but_last j same come) = absurd (cc)

  pub made_events : (schedule : List ℕ) (o : Outcome) (finished : Finished Q L (reverse schedule) o) (events : List MadeEvent) → AreEvents P L arg schedule (Made events)
      → AreEventsOf (recorded_run finished) events
  made_events schedule o finished events (AreEvents.made code _ m is those come) = are_events code is events m those finished
