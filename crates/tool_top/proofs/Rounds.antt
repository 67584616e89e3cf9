-- What a machine makes in rounds is made in rounds of the run of the source.
use Rattle.std.proofs.Common.{◌≡◌, ◌∙◌, ◌≤◌, ℕ, ℤ, List, [], ◌∷◌, IsSome, Option, Some, None, refl, sym, ap, subst, reverse}
use Rattle.std.proofs.lemmas.Bool.{false≢true}
use Rattle.std.proofs.lemmas.List.{reverse-append}
use Rattle.lang_base.specs.declared.outcome.Limits.{Limits}
use Rattle.lang_base.specs.declared.outcome.Outcome.{Outcome as Declared}
use Rattle.lang_typed.specs.Plain.{PlainProgram}
use Rattle.lang_typed.specs.Resolved.{Resolved, HasMain}
use Rattle.code_instrs.specs.Plain.{plain_code}
use Rattle.code_scheme.specs.Whole.{compiled}
use Rattle.exec_machine.specs.Keeping.{Played}
use Rattle.exec_machine.specs.Replay.{LeadsTo}
use Rattle.exec_world.specs.Ready.{IsReady}
use Rattle.exec_run.specs.rounds.Rounds as machine
use Rattle.exec_run.specs.Run.{IsRunOf}
use Rattle.exec_run.specs.Rounding.{ComesByRounds, by_rounds}
use Rattle.exec_run.specs.declared.recorded.Recorded.{Recorded}
use Rattle.runs_theory.specs.Actions.{Ending, Program}
use Rattle.runs_theory.specs.Meaning.{Disciplined}
use Rattle.runs_theory.specs.Order.{Outcome}
use Rattle.runs_theory.specs.Runs.{Ended}
use Rattle.runs_theory.specs.Schedules.{Finished}
use Rattle.runs_theory.proofs.Theorems.{nothing_after}
use Rattle.runs_theory.proofs.runs.Schedules.{ran_legal}
use Rattle.runs_program.specs.Laws.{EachKeeps}
use Rattle.runs_program.specs.Steps.{stepped}
use Rattle.runs_simulation.specs.Laws.{MachinesRecord, Records, SomeTaskIsReady}
use Rattle.runs_theorem.specs.Readiness.{IsReadyAsItsRun, MachinesAreReadyAsTheirRuns}
use Rattle.tool_top.specs.Rounds.{HadTurns, IsByRounds, IsTurn, finished, made, none, not_ready, one_more}

module _ (keeps : EachKeeps) (records : MachinesRecord) (some_ready : SomeTaskIsReady) (as_runs : MachinesAreReadyAsTheirRuns) (P : PlainProgram) (L : Limits) (arg : ℤ)
    (resolved : Resolved P) (main : HasMain P) (few : L.steps ≤ 20000000) where
  abbrev Q : Program
  Q = stepped P arg

  abbrev D : Disciplined Q
  D = (keeps P arg).disciplined

  abbrev IsHere : Played → Type 0
  IsHere p = IsRunOf P L arg p

  ready_as : (p : Played) → IsHere p → p.outcome ≡ None → IsReadyAsItsRun Q L p
  ready_as p is none_yet =
      subst (λ l. IsReadyAsItsRun Q l p) is.limits
      (subst (λ a. IsReadyAsItsRun (stepped P a) p.limits p) is.is_argument
      (as_runs P p resolved main is.is_code (subst (λ (l : Limits). l.steps ≤ 20000000) (sym is.limits) few) is.replayed none_yet))

  led_here : (p : Played) (is : IsHere p) → LeadsTo p.code L arg (reverse p.schedule) is.replayed.moment
  led_here p is =
      subst (λ a. LeadsTo p.code L a (reverse p.schedule) is.replayed.moment) is.is_argument
      (subst (λ l. LeadsTo p.code l p.argument (reverse p.schedule) is.replayed.moment) is.limits is.replayed.leads)

  finished_as : (p : Played) → IsHere p → (o : Declared) → p.outcome ≡ Some o → (q : Outcome) × Finished Q L (reverse p.schedule) q
  finished_as p is o come =
      let h = records p.code P L arg is.is_code resolved main few (reverse p.schedule) is.replayed.moment (led_here p is) in
      let g = subst (λ z. Records Q L (reverse p.schedule) z) (sym is.replayed.outcome ∙ come) h in (g.0, g.1)

  -- until a machine has come out the root of its run goes on, since some task is ready
  goes_on : (p : Played) (is : IsHere p) (unfinished : p.outcome ≡ None) (x : Ending) → Ended (ready_as p is unfinished).run [] x → ⊥
  goes_on p is unfinished x over =
      let A = ready_as p is unfinished in
      let some = some_ready p.code P L arg is.is_code resolved main few (reverse p.schedule) is.replayed.moment (led_here p is) (sym is.replayed.outcome ∙ unfinished) in
      let next = (A.ready some.0).0 (subst (λ w. IsReady w some.0) (sym is.replayed.world) some.1) in
      nothing_after Q D A.run x next.0 (ran_legal Q L (reverse p.schedule) A.run A.ran) over next.1.allowed

  before_turn : (a b : Played) (k : ℕ) → machine.IsTurn a k b → IsHere b → IsHere a
  before_turn a _ k (machine.finished some) is = is
  before_turn a _ k (machine.not_ready unready) is = is
  before_turn a _ k (machine.made b unfinished ready after) is = record {
    is_code = subst (λ c. plain_code c ≡ compiled P) after.code is.is_code;
    limits = sym after.limits ∙ is.limits;
    is_argument = sym after.argument ∙ is.is_argument;
    replayed = after.replayed;
  }

  left_out : (p : Played) (k : ℕ) → IsHere p → (p.outcome ≡ None → IsReady p.world k → ⊥) → IsTurn Q L (reverse p.schedule) k (reverse p.schedule)
  left_out p k is unready = by p.outcome refl
    where
      by : (o : Option Declared) → p.outcome ≡ o → IsTurn Q L (reverse p.schedule) k (reverse p.schedule)
      by None e = let A = ready_as p is e in not_ready A.run A.ran (λ ready. unready e ((A.ready k).1 ready))
      by (Some o) e = let f = finished_as p is o e in finished f.0 f.1

  turn : (a b : Played) (k : ℕ) → machine.IsTurn a k b → IsHere a → IsTurn Q L (reverse a.schedule) k (reverse b.schedule)
  turn a _ k (machine.finished some) is = left_out a k is (λ e ready. false≢true (subst IsSome e some))
  turn a _ k (machine.not_ready unready) is = left_out a k is (λ e. unready)
  turn a _ k (machine.made b unfinished ready after) is =
      let A = ready_as a is unfinished in
      subst (λ s. IsTurn Q L (reverse a.schedule) k s) (sym (ap reverse after.schedule ∙ reverse-append a.schedule (k ∷ []))) (made A.run A.ran ((A.ready k).0 ready))

  turns : (a b : Played) (ks : List ℕ) → machine.HadTurns a ks b → IsHere b → IsHere a × HadTurns Q L (reverse a.schedule) ks (reverse b.schedule)
  turns a b [] same is = (subst IsHere same is, ap (λ (p : Played). reverse p.schedule) same)
  turns a b (k ∷ ks) (middle, first, others) is =
      let later = turns middle b ks others is in
      let here = before_turn a middle k first later.0 in (here, (reverse middle.schedule, turn a middle k first here, later.1))

  rounds : (start p : Played) (n : ℕ) → machine.RoundsOn start n p → start.schedule ≡ [] → IsHere p → IsByRounds Q L n (reverse p.schedule)
  rounds start _ _ machine.here nothing is = subst (λ s. IsByRounds Q L 0 s) (sym (ap reverse nothing)) none
  rounds start _ _ (machine.further n middle after before more round) nothing is =
      let t = turns middle after round.tasks round.turns is in
      let A = ready_as middle t.0 round.unfinished in
      one_more n (reverse middle.schedule) (reverse after.schedule) (rounds start middle n before nothing t.0) (record {
        run = A.run;
        ran = A.ran;
        goes_on = goes_on middle t.0 round.unfinished;
        tasks = round.tasks;
        ascending = round.ready.ascending;
        ready = λ k. (λ there. (A.ready k).0 ((round.ready.all k).0 there), λ ready. (round.ready.all k).1 ((A.ready k).1 ready));
        turns = t.1;
      })

  pub rounds_in_source : (workers : ℕ) (r : Recorded) → ComesByRounds P L arg workers (Some r) → IsByRounds Q L r.record.rounds (reverse r.record.machine.schedule)
  rounds_in_source workers r (by_rounds _ p is alone) =
      subst (λ n. IsByRounds Q L n (reverse r.record.machine.schedule)) (sym alone.rounds)
      (subst (λ (q : Played). IsByRounds Q L is.count (reverse q.schedule)) (sym alone.machine) (rounds is.start p is.count is.rounds is.nothing is.is_run))
