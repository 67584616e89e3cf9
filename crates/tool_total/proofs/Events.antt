-- A ready task that isn't stuck makes its next event.
use Rattle.std.proofs.Common.{◌≡◌, ◌⊎◌, ◌+◌, ◌<◌, ◌≤◌, ℕ, Bool, true, false, IsTrue, List, [], ◌∷◌, length, Option, Some, None, slice_get, inl, inr, ⊎_elim, refl, sym, subst, arith}
use Rattle.std.proofs.lemmas.Bool.{cases_lt}
use Rattle.std.specs.FinMap.{get}
use Rattle.lang_base.specs.declared.effect.Effect.{Effect}
use Rattle.lang_base.specs.declared.outcome.Limits.{Limits}
use Rattle.lang_base.specs.declared.region.Head.{Head}
use Rattle.lang_base.specs.declared.region.Head.TheVariants.{Param, Root}
use Rattle.code_instrs.specs.declared.code.Code.{Code}
use Rattle.code_instrs.specs.Machine.{Start, State}
use Rattle.code_instrs.specs.Plain.{PlainCode, plain_code}
use Rattle.exec_task.specs.Branches.{starts_at}
use Rattle.exec_task.specs.declared.action.Action.{Action}
use Rattle.exec_task.specs.declared.action.Action.TheVariants as action
use Rattle.exec_task.specs.declared.action.Own.TheVariants as own
use Rattle.exec_locks.specs.Locks.{AllRoot, HasEntry, Standings}
use Rattle.exec_locks.specs.declared.standing.Standing.{Standing as Lock}
use Rattle.exec_locks.specs.declared.standing.Standing.TheVariants.{Adopted, Opener}
use Rattle.exec_tasks.specs.Scope.{all_begun, all_ended}
use Rattle.exec_tasks.specs.Tree.{OfScope, OfTask}
use Rattle.exec_tasks.specs.declared.task.State.{State as TaskState}
use Rattle.exec_tasks.specs.declared.task.State.TheVariants.{Forked, Running as Runs}
use Rattle.exec_tasks.specs.declared.task.Task.{Task}
use Rattle.exec_world.specs.Costs.{Within, cells_of, steps_of}
use Rattle.exec_world.specs.Ready.{IsFreeFor, IsReady}
use Rattle.exec_world.specs.Waits.{wanted}
use Rattle.exec_world.specs.World.{CanEnter, FitsAt}
use Rattle.exec_world.specs.declared.event.Event.{Event}
use Rattle.exec_world.specs.declared.world.World.{World}
use Rattle.exec_machine.specs.Premise.{GoesOn}
use Rattle.exec_machine.specs.Replay.{CanBeMade, HasStart, IsStuck, Moment, Moves, NextOf, StartsIn, after, limited, made, over}
use Rattle.runs_simulation.proofs.events.NextEvents.{next_event}

-- what is not ruled out is so
abbrev Stable : Type 0 → Type 0
Stable A = ((A → ⊥) → ⊥) → A

unit_so : Stable (Unit {0})
unit_so nn = tt

never_so : Stable ⊥
never_so nn = absurd (nn (λ h. h))

both_so : {A B : Type 0} → Stable A → Stable B → Stable (A × B)
both_so a b nn = (a (λ never. nn (λ h. never h.0)), b (λ never. nn (λ h. never h.1)))

less_so : (a b : ℕ) → Stable (a < b)
less_so a b nn = ⊎_elim (λ (h : a < b). h) (λ (h : b ≤ a). absurd (nn (λ less. omega (arith, h, less)))) (cases_lt a b)

true_so : (b : Bool) → Stable (b ≡ true)
true_so true nn = refl
true_so false nn = absurd (nn (λ e. cc))

false_so : (b : Bool) → Stable (b ≡ false)
false_so true nn = absurd (nn (λ e. cc))
false_so false nn = refl

task_so : (o : Option Task) (P : Task → Type 0) → ((t : Task) → Stable (P t)) → Stable (OfTask o P)
task_so None P so = never_so
task_so (Some t) P so = so t

runs_so : (s : TaskState) → Stable (s ≡ Runs)
runs_so Runs nn = refl
runs_so (Forked scope) nn = absurd (nn (λ e. cc))

begins_so : (s : TaskState) → Stable (OfScope s (λ scope. length scope.ends < scope.count))
begins_so Runs = never_so
begins_so (Forked scope) = less_so (length scope.ends) scope.count

joins_so : (s : TaskState) → Stable (OfScope s (λ scope. IsTrue (all_begun scope) × IsTrue (all_ended scope)))
joins_so Runs = never_so
joins_so (Forked scope) = both_so (true_so (all_begun scope)) (true_so (all_ended scope))

root_so : (h : Head) → Stable (h ≡ Root)
root_so Root nn = refl
root_so (Param n) nn = absurd (nn (λ e. cc))

roots_so : (es : List Effect) → Stable (AllRoot es)
roots_so [] = unit_so
roots_so (e ∷ es) = both_so (root_so e.rpl.head) (roots_so es)

entry_so : (o : Option Lock) → Stable (HasEntry o)
entry_so None = never_so
entry_so (Some (Opener effects depth)) = unit_so
entry_so (Some (Adopted opener depth)) = less_so 0 depth

enter_so : (locks : Standings) (k : ℕ) (o : Option (List Effect)) → IsFreeFor locks k o → Stable (CanEnter locks k o)
enter_so locks k None free = never_so
enter_so locks k (Some effects) free = λ nn. free

fits_so : (w : World) (k : ℕ) (wants : Option (List Effect)) (a : Action) → IsFreeFor w.locks k (get w.waits k) → Stable (FitsAt w k wants a)
fits_so w k wants (action.Do own.Rest) free = roots_so (wanted wants)
fits_so w k wants (action.Do (own.Read n j)) free = less_so _ _
fits_so w k wants (action.Do (own.Write n j v)) free = less_so _ _
fits_so w k wants (action.Do (own.Look n)) free = both_so (less_so _ _) (less_so _ _)
fits_so w k wants (action.Do (own.Enter effects)) free = enter_so w.locks k (get w.waits k) free
fits_so w k wants (action.Do own.Exit) free = entry_so (get w.locks k)
fits_so w k wants (action.Do o) free = unit_so
fits_so w k wants (action.Fork forking many) free = both_so (task_so (get w.tree.tasks k) (λ task. task.state ≡ Runs) (λ t. runs_so t.state)) (less_so _ _)
fits_so w k wants (action.Begin b) free = λ nn. (
  task_so (get w.tree.tasks k) (λ task. OfScope task.state (λ scope. length scope.ends < scope.count)) (λ t. begins_so t.state) (λ never. nn (λ h. never h.0)),
  less_so _ _ (λ never. nn (λ h. never h.1)),
  false_so _ (λ never. nn (λ h. never h.2)),
)
fits_so w k wants action.Join free =
    task_so (get w.tree.tasks k) (λ task. OfScope task.state (λ scope. IsTrue (all_begun scope) × IsTrue (all_ended scope))) (λ t. joins_so t.state)
fits_so w k wants (action.End e) free = task_so (get w.tree.tasks k) (λ task. task.state ≡ Runs) (λ t. runs_so t.state)

start_in_so : (C : PlainCode) (o : Option (Start ℕ (ℕ × ℕ))) → Stable (StartsIn C o)
start_in_so C None = never_so
start_in_so C (Some b) = less_so _ _

start_so : (C : PlainCode) (z : State ℕ (ℕ × ℕ)) (a : Action) → Stable (HasStart C z a)
start_so C z (action.Begin b) = start_in_so C (slice_get (starts_at C z) b)
start_so C z a = unit_so

within_or : (code : Code) (w : World) (e : Event) → Within code w e ⊎ (Within code w e → ⊥)
within_or code w e =
    ⊎_elim (λ (h : w.most_steps < w.steps + (e.ticks + steps_of e.action)). inr (λ both. (let fits = both.0 in omega (arith, h, fits))))
    (λ (h : w.steps + (e.ticks + steps_of e.action) ≤ w.most_steps).
    ⊎_elim (λ (g : w.heap.limit < w.heap.used + cells_of code e.action). inr (λ both. (let fits = both.1 in omega (arith, g, fits))))
    (λ (g : w.heap.used + cells_of code e.action ≤ w.heap.limit). inl (h, g)) (cases_lt w.heap.limit (w.heap.used + cells_of code e.action)))
    (cases_lt w.most_steps (w.steps + (e.ticks + steps_of e.action)))

module _ (code : Code) (L : Limits) (m : Moment) (k : ℕ) (ready : IsReady m.world k) (unstuck : IsStuck (plain_code code) m k → ⊥) (e : Event) (x : NextOf (plain_code code) m k e) where
  no_less : (CanBeMade (plain_code code) m.world e x.stands.state → ⊥) → ⊥
  no_less never = unstuck (record { event = e; next = x; unmade = never })

  free : IsFreeFor m.world.locks e.task (get m.world.waits e.task)
  free = subst (λ j. IsFreeFor m.world.locks j (get m.world.waits j)) (sym x.stands.number) ready.1

  can : CanBeMade (plain_code code) m.world e x.stands.state
  can = record {
    fits = fits_so m.world e.task e.wants e.action free (λ never. no_less (λ c. never c.fits));
    starts = start_so (plain_code code) x.stands.state e.action (λ never. no_less (λ c. never c.starts));
  }

  moved : (n : Moment) × Moves code L m k n
  moved =
      ⊎_elim (λ (fits : Within code m.world e). (after code m e x.stands.state x.stands.made, made e x can fits refl))
      (λ (beyond : Within code m.world e → ⊥). (record { world = m.world; tasks = m.tasks; outcome = Some (limited L) }, over e x can beyond refl))
      (within_or code m.world e)

pub next_moment : (code : Code) (L : Limits) (m : Moment) (k : ℕ) → GoesOn (plain_code code) m → m.outcome ≡ None → IsReady m.world k → (IsStuck (plain_code code) m k → ⊥)
    → (n : Moment) × Moves code L m k n
next_moment code L m k goes unfinished ready unstuck =
    let E = next_event (plain_code code) m k goes unfinished ready in moved code L m k ready unstuck E.0 E.1
