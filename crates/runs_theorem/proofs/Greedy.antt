-- A machine that always lets the greatest ready task go on records the greedy run, which is that of the elision.
use Rattle.std.proofs.Common.{ℕ, ℤ, ◌≡◌, ◌≤◌, inl, inr, List, [], ◌∷◌, None, sym, ap, ◌∙◌, subst, reverse, arith}
use Rattle.std.proofs.lemmas.Bool.{cases_lt}
use Rattle.std.proofs.lemmas.List.{reverse-append}
use Rattle.lang_typed.specs.Plain.{PlainProgram}
use Rattle.lang_typed.specs.Resolved.{Resolved, HasMain}
use Rattle.lang_meaning.specs.Elision.{elided}
use Rattle.lang_meaning.specs.Outcomes.{Limited as LimitedIn}
use Rattle.code_instrs.specs.Plain.{plain_code}
use Rattle.code_instrs.specs.declared.code.Code.{Code}
use Rattle.code_scheme.specs.Whole.{compiled}
use Rattle.runs_theory.specs.Actions.{Program}
use Rattle.runs_theory.specs.Blocks.{Allowed, Legal}
use Rattle.runs_theory.specs.Objects.{Name}
use Rattle.runs_theory.specs.Order.{Limited, Outcome}
use Rattle.runs_theory.specs.Runs.{Event, Run}
use Rattle.runs_theory.specs.Schedules.{Finished, Greatest, Greedy, Limits, Numbered, Ran, Ready, Within, ended, no_room, over}
use Rattle.runs_theory.proofs.events.Numbers.{number_same}
use Rattle.runs_theory.proofs.runs.Schedules.{ran_legal}
use Rattle.runs_theory.proofs.Theorems.{comes_one_way}
use Rattle.runs_program.specs.Laws.{EachKeeps}
use Rattle.runs_program.specs.Steps.{stepped}
use Rattle.runs_elision.specs.Laws.{ComesOutAsElided, GreedyIsElided, GreedyOverIsLimited, in_limits, over_limits}
use Rattle.exec_world.specs.Ready.{IsGreatestReady, IsReady}
use Rattle.exec_world.specs.declared.world.World.{World}
use Rattle.exec_machine.specs.Keeping.{GreedilyOn, IsAfter, Played, further, here}
use Rattle.exec_machine.specs.Replay.{LeadsTo, Moment, Moves}
use Rattle.exec_machine.specs.Replay.{made as made_so, over as over_so}
use Rattle.runs_simulation.specs.Laws.{MachinesRecord, ReadyTasksAreReady, Records}
use Rattle.runs_theorem.specs.Guarantee.{GreedyMachinesElide}
use Rattle.runs_theorem.proofs.Joined.{reported_renamed}
use Rattle.lang_meaning.specs.Reported.{reported}

unfinished_before : {code : Code} {L : Limits} {m n : Moment} {k : ℕ} → Moves code L m k n → m.outcome ≡ None
unfinished_before (made_so e x can within is) = x.unfinished
unfinished_before (over_so e x can beyond is) = x.unfinished

ran_within : (Q : Program) (L : Limits) (ks : List ℕ) (R : Run) → Ran Q L ks R → Within Q L R
ran_within Q L [] [] r = r
ran_within Q L [] (e ∷ R) r = absurd r
ran_within Q L (k ∷ ks) [] r = absurd r
ran_within Q L (k ∷ ks) (e ∷ R) r = r.2

-- up to the event of its last number, within the limits or not, the run of a schedule is greedy
abbrev RecordsGreedy : Program → Limits → List ℕ → Type 0
RecordsGreedy Q L [] = Unit {0}
RecordsGreedy Q L (k ∷ ks) = (R : Run) (e : Event) → Ran Q L ks R → Ready Q R k e → Greedy Q (e ∷ R)

greedy_run : (Q : Program) (L : Limits) (ks : List ℕ) (R : Run) → RecordsGreedy Q L ks → Ran Q L ks R → Greedy Q R
greedy_run Q L [] [] h ran = tt
greedy_run Q L [] (e ∷ R) h ran = absurd ran
greedy_run Q L (k ∷ ks) [] h ran = absurd ran
greedy_run Q L (k ∷ ks) (e ∷ R) h ran = h R e ran.0 ran.1

module _ (all_ready : ReadyTasksAreReady) (P : PlainProgram) (resolved : Resolved P) (main : HasMain P) where
  module _ (code : Code) (L : Limits) (arg : ℤ) (is : plain_code code ≡ compiled P) (few : L.steps ≤ 20000000) where
    abbrev Q : Program
    Q = stepped P arg

    -- the greatest of the machine is the greatest of the run
    greatest_so : (ks : List ℕ) (m : Moment) (w : World) (k : ℕ) → LeadsTo code L arg ks m → m.outcome ≡ None → w ≡ m.world → IsGreatestReady w k
        → (R : Run) (e : Event) → Ran Q L ks R → Ready Q R k e → Greatest Q R e
    greatest_so ks m w k leads none same most R e ran ready = record { none = below }
      where
        below : (f : Event) (j i : ℕ) → Allowed Q R f → Numbered R j f.path → Numbered R i e.path → j ≤ i
        below f j i allowed there own = elim (cases_lt k j) [
          | inl l ↦ absurd (let next : Ready Q R j f = record { allowed = allowed; number = there } in
              most.greatest j l (subst (λ v. IsReady v j) (sym same) (all_ready code P L arg is resolved main few ks m leads none R ran j f next)))
          | inr g ↦ (let n : k ≡ i = number_same ready.number own in omega (arith, g, n))
        ]

  -- a step more of the greatest ready task
  greedy_next : {middle p : Played} {k : ℕ} (step : IsAfter middle k p) → IsGreatestReady middle.world k → (is : plain_code middle.code ≡ compiled P)
      (few : middle.limits.steps ≤ 20000000) → RecordsGreedy (stepped P middle.argument) middle.limits (reverse middle.schedule)
      → RecordsGreedy (stepped P p.argument) p.limits (reverse p.schedule)
  greedy_next {middle} {p} {k} step most is few before =
      subst (λ ks. RecordsGreedy (stepped P p.argument) p.limits ks) (sym (ap reverse step.schedule ∙ reverse-append middle.schedule (k ∷ [])))
      (subst (λ L. RecordsGreedy (stepped P p.argument) L (k ∷ reverse middle.schedule)) (sym step.limits)
      (subst (λ a. RecordsGreedy (stepped P a) middle.limits (k ∷ reverse middle.schedule)) (sym step.argument) next))
    where
      next : RecordsGreedy (stepped P middle.argument) middle.limits (k ∷ reverse middle.schedule)
      next R e ran ready = (
        greatest_so middle.code middle.limits middle.argument is few (reverse middle.schedule) step.replayed.moment middle.world k step.replayed.leads
            (unfinished_before step.moves) step.replayed.world most R e ran ready,
        greedy_run (stepped P middle.argument) middle.limits (reverse middle.schedule) R before ran,
      )

  records_greedy : {start p : Played} → start.schedule ≡ [] → GreedilyOn start p → plain_code p.code ≡ compiled P → p.limits.steps ≤ 20000000
      → RecordsGreedy (stepped P p.argument) p.limits (reverse p.schedule)
  records_greedy {start} empty here is few =
      subst (λ ks. RecordsGreedy (stepped P start.argument) start.limits (reverse ks)) (sym empty) tt
  records_greedy empty (further middle p k on most step) is few =
      let code_is : plain_code middle.code ≡ compiled P = ap plain_code (sym step.code) ∙ is in
      let small : middle.limits.steps ≤ 20000000 = subst (λ (L : Limits). L.steps ≤ 20000000) step.limits few in
      greedy_next step most code_is small (records_greedy empty on code_is small)

-- and it comes out as the elision, however its last step came
module _ (keeps : EachKeeps) (greedy : GreedyIsElided) (beyond_too : GreedyOverIsLimited) (P : PlainProgram) (arg : ℤ) (L : Limits) where
  limited_so : elided P arg L ≡ LimitedIn L.steps L.cells → reported {N = Name} (Limited L.steps L.cells) ≡ reported (elided P arg L)
  limited_so e = ap reported (sym e)

  comes_out : {ks : List ℕ} {q : Outcome} → RecordsGreedy (stepped P arg) L ks → Finished (stepped P arg) L ks q
      → reported q ≡ reported (elided P arg L)
  comes_out {ks} {q} h (ended R ran comes) =
      by_run (greedy P arg L R comes.end legal (greedy_run (stepped P arg) L ks R h ran) comes.ended)
    where
      legal : Legal (stepped P arg) R
      legal = ran_legal (stepped P arg) L ks R ran

      by_run : ComesOutAsElided P arg L R → reported q ≡ reported (elided P arg L)
      by_run (in_limits o c within is) =
          ap reported (comes_one_way (stepped P arg) (keeps P arg).disciplined R q o legal comes c ∙ is.is) ∙ reported_renamed is.names (elided P arg L)
      by_run (over_limits beyond e) = absurd (beyond (ran_within (stepped P arg) L ks R ran))
  comes_out h (over k ks R e ran ready beyond) =
      limited_so (beyond_too P arg L (e ∷ R) (ready.allowed, ran_legal (stepped P arg) L ks R ran) (h R e ran ready) beyond)
  comes_out h (no_room beyond) = limited_so (beyond_too P arg L [] tt tt beyond)

pub greedy_machines_elide : MachinesRecord → ReadyTasksAreReady → EachKeeps → GreedyIsElided → GreedyOverIsLimited → GreedyMachinesElide
greedy_machines_elide records all_ready keeps greedy beyond P start p o resolved main code_is small empty on replayed came =
    let finished = subst (λ z. Records (stepped P p.argument) p.limits (reverse p.schedule) z) (sym replayed.outcome ∙ came)
    (records p.code P p.limits p.argument code_is resolved main small (reverse p.schedule) replayed.moment replayed.leads) in
    let schedule = records_greedy all_ready P resolved main empty on code_is small in
    finished.2 ∙ comes_out keeps greedy beyond P p.argument p.limits schedule finished.1
