-- The end of a task, as it is noted.
use Rattle.std.proofs.Common.{◌≡◌, ◌≢◌, ℕ, if◌then◌else◌, List, [], ◌∷◌, ◌++◌, inl, inr, sym, ap, ◌∙◌, Option, Some, None}
use Rattle.std.proofs.lemmas.Bool.Decides.{eqb_tells}
use Rattle.std.specs.FinMap.{FinMap, remove}
use Rattle.std.specs.Ordering.{nat_cmp}
use Rattle.lang_base.specs.declared.outcome.Ending.{Ending as Came}
use Rattle.lang_base.specs.declared.outcome.Limits.{Limits}
use Rattle.lang_base.specs.declared.outcome.Outcome.{Outcome}
use Rattle.code_instrs.specs.declared.code.Code.{Code}
use Rattle.exec_task.specs.declared.action.Action.TheVariants as action
use Rattle.exec_task.specs.declared.action.Answer.{Answer}
use Rattle.exec_task.specs.declared.action.Ending.{Ending}
use Rattle.exec_tasks.specs.Tree.{task_at, out_of}
use Rattle.exec_world.specs.World.{world_after}
use Rattle.exec_world.specs.declared.event.Event.{Event}
use Rattle.exec_world.specs.declared.world.World.{World}
use Rattle.exec_machine.specs.declared.run.Run.{Run}
use Rattle.exec_machine.specs.declared.slot.Slot.{Slot}
use Rattle.exec_machine.specs.Replay.{ended, outcome_after, came_to}
use Rattle.exec_machine.specs.Keeping.{Recorded, Comes, made}

abbrev run_of : World → FinMap nat_cmp Slot → List ℕ → Option Outcome → Run
run_of world slots schedule outcome = record { world = world; slots = slots; schedule = schedule; outcome = outcome }

abbrev outcome_of : Came → List ℕ → World → Outcome
outcome_of came out w = record { ending = came; out = out; steps = w.steps; cells = w.heap.used }

not_ended : (before after : World) (k : ℕ) (y : Ending) → k ≢ 0 → ended before after k y ≡ None
not_ended before after k y apart = elim (eqb_tells k 0) [
  | inl same ↦ absurd (apart same.1)
  | inr other ↦ ap (λ b. if b then Some (outcome_of (came_to y) (out_of (task_at before.tree 0)) after) else None) other.0
]

module _ (code : Code) (L : Limits) (old mid new : Run) (e : Event) (x : Answer) (y : Ending) (slots : FinMap nat_cmp Slot) where
  pub ends_other : Recorded code L old e (Some x) mid → e.action ≡ action.End y → e.task ≢ 0 → slots ≡ remove mid.slots e.task → old.outcome ≡ None
      → new ≡ record { world = mid.world; slots = slots; schedule = mid.schedule; outcome = mid.outcome }
      → Comes code L old e (remove old.slots e.task) (outcome_after old.world (world_after code old.world e) e.task e.action) new
  ends_other r act apart slots_is unfinished is =
      made r.0
      (is ∙ ap (λ s. run_of mid.world s mid.schedule mid.outcome) slots_is
      ∙ ap (λ (q : Run). run_of q.world (remove q.slots e.task) q.schedule q.outcome) r.2
      ∙ ap (run_of (world_after code old.world e) (remove old.slots e.task) (old.schedule ++ e.task ∷ []))
      (unfinished ∙ sym (not_ended old.world (world_after code old.world e) e.task y apart)
      ∙ sym (ap (outcome_after old.world (world_after code old.world e) e.task) act)))
