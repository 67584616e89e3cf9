-- A machine on compiled code has a ready task until its run has come out, and its schedules are short.
use Rattle.std.proofs.Common.{inl, inr, ◌⊎◌, ℤ, ◌≡◌, ◌≤◌, ◌<◌, ℕ, ◌+◌, ◌*◌, ◌^◌, List, [], ◌∷◌, length, sym, subst, Option, Some, None, arith}
use Rattle.std.specs.FinMap.{get}
use Rattle.lang_base.specs.declared.outcome.Outcome.{Outcome as DeclaredOutcome}
use Rattle.lang_typed.specs.Plain.{PlainProgram}
use Rattle.lang_typed.specs.Resolved.{Resolved, HasMain}
use Rattle.runs_theory.specs.Actions.{Branches, Do, Ending, Exit, Fork, Program}
use Rattle.runs_theory.specs.Blocks.{Legal, Out_of, hold}
use Rattle.runs_theory.specs.Objects.{Path}
use Rattle.runs_theory.specs.Runs.{Ended, Event, Run, mine}
use Rattle.runs_theory.specs.Schedules.{Limits, Numbered, Ran, Ready, Within, branch_is, root_is}
use Rattle.runs_theory.proofs.runs.Bound.{finished_bounded, ran_bounded}
use Rattle.runs_theory.proofs.runs.Schedules.{one_run, ran_legal}
use Rattle.runs_theory.proofs.Theorems.{some_ready_event}
use Rattle.runs_program.specs.Interfering.{lets}
use Rattle.runs_program.specs.Laws.{EachKeeps}
use Rattle.runs_program.specs.Steps.{stepped}
use Rattle.runs_elision.specs.Laws.{NamesAreKnown}
use Rattle.code_instrs.specs.Plain.{plain_code}
use Rattle.code_instrs.specs.declared.code.Code.{Code}
use Rattle.code_scheme.specs.Whole.{compiled}
use Rattle.exec_task.specs.declared.action.Action.{Action}
use Rattle.exec_task.specs.declared.action.Action.TheVariants as action
use Rattle.exec_task.specs.declared.action.Own.TheVariants as own
use Rattle.exec_heap.specs.Heap.{object_at, values_of}
use Rattle.exec_progress.specs.Progress.{CodeMakesProgress}
use Rattle.exec_tasks.specs.declared.task.Task.{Task as Live}
use Rattle.exec_world.specs.declared.event.Event.{Event as DeclaredEvent}
use Rattle.exec_machine.specs.Premise.{CanProgress}
use Rattle.exec_machine.specs.Replay.{CanBeMade, IsStuck, LeadsTo, Moment, NextOf}
use Rattle.runs_simulation.specs.Laws.{LeftOpen, NoOthersAreReady, ReadyTasksAreReady, Records, SchedulesAreShort, SomeTaskIsReady, StuckForFewReasons}
use Rattle.runs_simulation.proofs.events.Acting.{IsScoped, event_of}
use Rattle.runs_simulation.proofs.events.Blocks.{some_there}
use Rattle.runs_simulation.proofs.events.NextEvents.{next_event}
use Rattle.runs_simulation.proofs.ready.Ready.{ready_there}
use Rattle.runs_simulation.proofs.Recorded.{FJ, LedTo, led_to, ready_as_recorded, recorded, right}
use Rattle.runs_simulation.proofs.tied.Sizes.{all_charged, object_charged}
use Rattle.runs_simulation.proofs.ready.Unstuck.{exit_next, fork_next, scoped_can, stuck_any}
use Rattle.runs_simulation.proofs.tied.Waiting.{all_noted, all_rest}

ran_within : (Q : Program) (L : Limits) (ks : List ℕ) (R : Run) → Ran Q L ks R → Within Q L R
ran_within Q L [] [] h = h
ran_within Q L [] (e ∷ R) h = absurd h
ran_within Q L (k ∷ ks) [] h = absurd h
ran_within Q L (k ∷ ks) (e ∷ R) h = h.2

root_path : {R : List Event} {p : Path} → Numbered R 0 p → p ≡ []
root_path (root_is a b) = a
root_path (branch_is q u G g a b c d n i) = absurd (omega (arith, i))

module _ (keeps : EachKeeps) (known : NamesAreKnown) (going : CodeMakesProgress) where
  pub all_ready : ReadyTasksAreReady
  all_ready code P L arg is resolved main few ks m leads none R ran j f ready =
      ready_there code P arg L (right code P L arg is resolved main few) A.tied A.blocks A.lives (all_rest code L arg goes ks m leads)
      (λ k t e. (goes ks m leads).all_go k t e) j f
      (subst (λ S. Ready (stepped P arg) S j f) (one_run (stepped P arg) (keeps P arg).disciplined L ks R A.run ran A.ran) ready)
    where
      A : LedTo code P L arg is resolved main few ks m
      A = led_to code P L arg is resolved main few ks m leads none

      goes : CanProgress code L arg
      goes = going code P L arg is resolved main few

  pub no_others : NoOthersAreReady
  no_others code P L arg is resolved main few ks m leads none R ran k ready =
      (r.0, subst (λ S. Ready (stepped P arg) S k r.0) (one_run (stepped P arg) (keeps P arg).disciplined L ks A.run R A.ran ran) r.1)
    where
      A : LedTo code P L arg is resolved main few ks m
      A = led_to code P L arg is resolved main few ks m leads none

      goes : CanProgress code L arg
      goes = going code P L arg is resolved main few

      next : (e : DeclaredEvent) × NextOf (plain_code code) m k e
      next = next_event (plain_code code) m k (goes ks m leads) none ready

      can : IsScoped next.0.action → CanBeMade (plain_code code) m.world next.0 next.1.stands.state
      can scoped =
          subst (λ j. (x : NextOf (plain_code code) m j next.0) → CanBeMade (plain_code code) m.world next.0 x.stands.state) next.1.stands.number
          (λ x. scoped_can code P arg lets L (right code P L arg is resolved main few) (FJ code P L arg is resolved main few) A.tied A.short A.blocks A.lives (all_noted code L arg ks m leads)
          (keeps P arg).lively (keeps P arg).in_turn next.0.task next.0.ticks next.0.wants next.0.action x scoped) next.1

      r : (e : Event) × Ready (stepped P arg) A.run k e
      r = ready_as_recorded code P L arg is resolved main few leads A next.0 next.1 can

  pub some_ready : SomeTaskIsReady
  some_ready code P L arg is resolved main few ks m leads none = (r.0, all_ready code P L arg is resolved main few ks m leads none A.run A.ran r.0 r.1 r.2)
    where
      A : LedTo code P L arg is resolved main few ks m
      A = led_to code P L arg is resolved main few ks m leads none

      root : (x : Live) × (get m.world.tree.tasks 0 ≡ Some x)
      root = some_there (get m.world.tree.tasks 0) (A.lives.root none)

      root_unended : (z : Ending) → Ended A.run [] z → ⊥
      root_unended z g =
          let V = A.tied.live 0 root.0 root.1 in
          let path : V.path ≡ [] = root_path (A.tied.numbers.numbered 0 V.path V.there) in
          A.lives.unended 0 root.0 V.path root.1 V.there z (subst (λ p. Ended A.run p z) (sym path) g)

      r : (k : ℕ) × (e : Event) × Ready (stepped P arg) A.run k e
      r = some_ready_event (stepped P arg) (keeps P arg).disciplined (keeps P arg).lively (known P arg) A.run (ran_legal (stepped P arg) L ks A.run A.ran) root_unended

  pub short : SchedulesAreShort
  short code P L arg is resolved main few ks m leads = go m.outcome (recorded code P L arg is resolved main few ks m leads)
    where
      go : (o : Option DeclaredOutcome) → Records (stepped P arg) L ks o → length ks ≤ 2 * L.steps + 2
      go None h = (let b = ran_bounded (stepped P arg) (keeps P arg).disciplined (keeps P arg).paced L ks h.0 h.1 in omega (arith, b))
      go (Some o) h = finished_bounded (stepped P arg) (keeps P arg).disciplined (keeps P arg).paced L ks h.0 h.1

  -- no object has more fields or elements than are counted
  small_values : (code : Code) (P : PlainProgram) (L : Limits) (arg : ℤ) (is : plain_code code ≡ compiled P) (resolved : Resolved P) (main : HasMain P) (few : L.steps ≤ 20000000)
      → L.cells ≤ 16777216 → (ks : List ℕ) (m : Moment) → LeadsTo code L arg ks m → LedTo code P L arg is resolved main few ks m
      → (n : ℕ) → length (values_of (object_at m.world.heap n)) < 2 ^ 31
  small_values code P L arg is resolved main few cells ks m leads A n =
      let c = object_charged m.world.heap n (all_charged code L arg ks m leads) in
      let u = A.tied.costs.cells in
      let w = (ran_within (stepped P arg) L ks A.run A.ran).cells in omega (arith, c, u, w, cells)

  pub few_reasons : StuckForFewReasons
  few_reasons code P L arg is resolved main few cells ks m leads k s =
      subst (λ j. (x : NextOf (plain_code code) m j s.event) → (CanBeMade (plain_code code) m.world s.event x.stands.state → ⊥)
      → LeftOpen m.world j s.event.action) s.next.stands.number
      (λ x unmade. stuck_any code P arg lets L (right code P L arg is resolved main few) (FJ code P L arg is resolved main few) A.tied A.short A.blocks A.lives (all_noted code L arg ks m leads)
      (keeps P arg).lively (keeps P arg).in_turn s.event.task s.event.ticks s.event.wants (small_values code P L arg is resolved main few cells ks m leads A) s.event.action x unmade) s.next s.unmade
    where
      A : LedTo code P L arg is resolved main few ks m
      A = led_to code P L arg is resolved main few ks m leads s.next.unfinished

  -- where a machine is stuck its run has a next event that leaves a block and has none open, or forks more branches than are counted
  pub record StuckRun (P : PlainProgram) (arg : ℤ) : Type 0 where
    pub run : Run
    pub event : Event
    pub legal : Legal (stepped P arg) (event ∷ run)
    pub what : ((event.act ≡ Do Exit) × (hold (mine run event.path) ≡ Out_of)) ⊎ ((ts : Branches) × (event.act ≡ Fork ts) × (2 ^ 32 ≤ length ts.tasks))

  pub stuck_run : (code : Code) (P : PlainProgram) (L : Limits) (arg : ℤ) → plain_code code ≡ compiled P → Resolved P → HasMain P → L.steps ≤ 20000000
      → L.cells ≤ 16777216 → (ks : List ℕ) (m : Moment) → LeadsTo code L arg ks m → (k : ℕ) → IsStuck (plain_code code) m k → StuckRun P arg
  stuck_run code P L arg is resolved main few cells ks m leads k s =
      subst (λ j. (x : NextOf (plain_code code) m j s.event) → LeftOpen m.world j s.event.action → StuckRun P arg) s.next.stands.number
      (λ x left. by_action s.event.action x left) s.next (few_reasons code P L arg is resolved main few cells ks m leads k s)
    where
      A : LedTo code P L arg is resolved main few ks m
      A = led_to code P L arg is resolved main few ks m leads s.next.unfinished

      legal : Legal (stepped P arg) A.run
      legal = ran_legal (stepped P arg) L ks A.run A.ran

      by_action : (a : Action) (x : NextOf (plain_code code) m s.event.task (event_of s.event.task s.event.ticks s.event.wants a)) → LeftOpen m.world s.event.task a → StuckRun P arg
      by_action (action.Do own.Exit) x left =
          let h = exit_next code P arg lets L (right code P L arg is resolved main few) (FJ code P L arg is resolved main few) A.tied A.short A.blocks A.lives (all_noted code L arg ks m leads)
          (keeps P arg).lively (keeps P arg).in_turn s.event.task s.event.ticks s.event.wants x left in
          record { run = A.run; event = h.0; legal = (h.1, legal); what = inl (h.2, h.3) }
      by_action (action.Fork forking many) x left =
          let h = fork_next code P arg lets L (right code P L arg is resolved main few) (FJ code P L arg is resolved main few) A.tied A.short A.blocks A.lives (all_noted code L arg ks m leads)
          (keeps P arg).lively (keeps P arg).in_turn s.event.task s.event.ticks s.event.wants forking many x in
          record { run = A.run; event = h.0; legal = (h.1, legal); what = inr (h.2, h.3, (let n = h.4 in omega (arith, n, left))) }
      by_action a x left = absurd left
