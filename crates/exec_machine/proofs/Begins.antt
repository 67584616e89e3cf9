-- The begin of a branch, as it is noted.
use Rattle.std.proofs.Common.{◌≡◌, ◌≢◌, ℕ, List, [], ◌∷◌, ◌++◌, ap, ◌∙◌, Option, Some, None}
use Rattle.std.specs.FinMap.{FinMap, get, insert, remove}
use Rattle.std.specs.Ordering.{nat_cmp}
use Rattle.lang_base.specs.declared.outcome.Limits.{Limits}
use Rattle.lang_base.specs.declared.outcome.Outcome.{Outcome}
use Rattle.code_instrs.specs.declared.code.Code.{Code}
use Rattle.exec_task.specs.declared.action.Answer.{Answer}
use Rattle.exec_task.specs.declared.task.Start.{Start}
use Rattle.exec_world.specs.World.{answer_to, world_after}
use Rattle.exec_world.specs.declared.event.Event.{Event}
use Rattle.exec_world.specs.declared.world.World.{World}
use Rattle.exec_machine.specs.declared.run.Run.{Run}
use Rattle.exec_machine.specs.declared.slot.Slot.{Slot}
use Rattle.exec_machine.specs.Replay.{limited}
use Rattle.exec_machine.specs.Keeping.{Recorded, Comes, made, over, with_answer, with_slots}
use Rattle.exec_machine.specs.Running.{OfSlot, IsFirst}
use Rattle.exec_world.proofs.Maps.{taken_back as map_taken_back}
use Rattle.exec_machine.proofs.Maps.{beside_put}

abbrev run_of : World → FinMap nat_cmp Slot → List ℕ → Option Outcome → Run
run_of world slots schedule outcome = record { world = world; slots = slots; schedule = schedule; outcome = outcome }

-- what is begun: the child stands in the map of slots, and its begin is recorded
module _ (code : Code) (L : Limits) (old new : Run) (e : Event) (n : ℕ) (start : Start) (child : Slot) (slots : FinMap nat_cmp Slot)
    (put : slots ≡ insert old.slots n child) where
  pub slot_there : (x : Answer) → Recorded code L (with_slots old slots) e (Some x) new → e.task ≢ n → get new.slots e.task ≡ get old.slots e.task
  slot_there x r apart =
      ap (λ (q : Run). get q.slots e.task) r.2 ∙ ap (λ (ss : FinMap nat_cmp Slot). get ss e.task) put ∙ beside_put old.slots n child e.task apart

  pub begun_so : (x : Answer) (o : Option Slot) (settled : FinMap nat_cmp Slot) → Recorded code L (with_slots old slots) e (Some x) new
      → OfSlot o (λ s. Unit {0}) → OfSlot o (λ s. settled ≡ insert new.slots e.task (record { task = s.task; pending = Some x })) → IsFirst n start child
      → OfSlot o (λ s. (y : Slot) × IsFirst n start y × Comes code L old e (with_answer (insert old.slots n y) e.task s (answer_to old.world e)) old.outcome
      (record { world = new.world; slots = settled; schedule = new.schedule; outcome = new.outcome }))
  begun_so x None settled r there is first = absurd there
  begun_so x (Some s) settled r there is first = (
    child,
    first,
    made r.0
        (ap (λ ss. run_of new.world ss new.schedule new.outcome) is
        ∙ ap (λ (q : Run). run_of q.world (insert q.slots e.task (record { task = s.task; pending = Some x })) q.schedule q.outcome) r.2
        ∙ ap (λ ss. run_of (world_after code old.world e) (insert ss e.task (record { task = s.task; pending = Some x })) (old.schedule ++ e.task ∷ []) old.outcome) put
        ∙ ap (λ a. run_of (world_after code old.world e) (with_answer (insert old.slots n child) e.task s a) (old.schedule ++ e.task ∷ []) old.outcome) r.1),
  )

  pub over_so : (o : Option Slot) (removed : FinMap nat_cmp Slot) → Recorded code L (with_slots old slots) e None new → OfSlot o (λ s. Unit {0})
      → removed ≡ remove new.slots n → get old.slots n ≡ None → IsFirst n start child
      → OfSlot o (λ s. (y : Slot) × IsFirst n start y × Comes code L old e (with_answer (insert old.slots n y) e.task s (answer_to old.world e)) old.outcome
      (record { world = new.world; slots = removed; schedule = new.schedule; outcome = new.outcome }))
  over_so None removed r there is none first = absurd there
  over_so (Some s) removed r there is none first = (
    child,
    first,
    over r.0
        (ap (λ ss. run_of new.world ss new.schedule new.outcome) is
        ∙ ap (λ (q : Run). run_of q.world (remove q.slots n) q.schedule q.outcome) r.1
        ∙ ap (λ ss. run_of old.world ss (old.schedule ++ e.task ∷ []) (Some (limited L))) (ap (λ ss. remove ss n) put ∙ map_taken_back old.slots n child none)),
  )

  -- where it wasn't made the slots are as they were
  pub taken_back : (removed : FinMap nat_cmp Slot) → new ≡ with_slots old slots → removed ≡ remove new.slots n → get old.slots n ≡ None
      → run_of new.world removed new.schedule new.outcome ≡ old
  taken_back removed same is none =
      ap (λ ss. run_of new.world ss new.schedule new.outcome) is
      ∙ ap (λ (q : Run). run_of q.world (remove q.slots n) q.schedule q.outcome) same
      ∙ ap (λ ss. run_of old.world ss old.schedule old.outcome) (ap (λ ss. remove ss n) put ∙ map_taken_back old.slots n child none)
