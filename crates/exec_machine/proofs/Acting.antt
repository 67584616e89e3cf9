-- Actions after which a task goes on, and the answers to them.
use Rattle.std.proofs.Common.{◌≡◌, ◌<◌, ◌^◌, ℕ, ℤ, pos, negsuc, Bool, true, false, cond, List, length, refl, Option, Some, None, slice_get}
use Rattle.lang_base.specs.declared.effect.Effect.{Effect}
use Rattle.lang_base.specs.declared.place.Place.{Place}
use Rattle.lang_base.specs.declared.value.SlotValue.{SlotValue}
use Rattle.lang_base.specs.declared.value.Trap.{Trap}
use Rattle.lang_base.specs.declared.value.Value.{Value}
use Rattle.lang_meaning.specs.Actions as meaning
use Rattle.code_instrs.specs.RunsToActions.{Halt, Asks, Finished, Dead}
use Rattle.code_instrs.specs.Machine.{State}
use Rattle.code_instrs.specs.Plain.{PlainCode}
use Rattle.exec_heap.specs.Heap.{Object, instance, array, object_at, values_of}
use Rattle.exec_task.specs.Answers.{IsCounted}
use Rattle.exec_task.specs.Halts.{IsActionOf}
use Rattle.exec_task.specs.declared.action.Action.{Action}
use Rattle.exec_task.specs.declared.action.Action.TheVariants as action
use Rattle.exec_task.specs.declared.action.Own.TheVariants as own
use Rattle.exec_task.specs.declared.action.Answer.{Answer}
use Rattle.exec_task.specs.declared.action.Answer.TheVariants as answer
use Rattle.exec_task.specs.declared.action.Ending.{Ending}
use Rattle.exec_tasks.specs.Join.{first_trap, all_slots}
use Rattle.exec_tasks.specs.Tree.{ends_in, task_at}
use Rattle.exec_world.specs.World.{got, read_at, has_index, seen, fell_or, answer_at, FitsAt}
use Rattle.exec_world.specs.declared.world.World.{World}
use Rattle.exec_machine.specs.Running.{Running, answered}
use Rattle.exec_machine.specs.Replay.{goes_on, with_branch, outcome_after, HasStart}

-- an action that neither begins a branch nor ends its task
pub record IsOrdinary (a : Action) : Type 0 where
  pub branch : (C : PlainCode) (z : State ℕ (ℕ × ℕ)) (n : ℕ) (tasks : ℕ → Option Running) → with_branch C z a n tasks ≡ tasks
  pub on : (h : Halt ℕ (ℕ × ℕ)) (x : Answer) → goes_on a h x ≡ answered h x
  pub out : (v w : World) (k : ℕ) → outcome_after v w k a ≡ None
  pub start : (C : PlainCode) (z : State ℕ (ℕ × ℕ)) → HasStart C z a
  pub no_end : (e : Ending) → a ≡ action.End e → ⊥

pub ordinary : (a : Action) → ((b : ℕ) → a ≡ action.Begin b → ⊥) → ((e : Ending) → a ≡ action.End e → ⊥) → IsOrdinary a
ordinary (action.Begin n) b e = absurd (b n refl)
ordinary (action.End x) b e = absurd (e x refl)
ordinary a b e = record { branch = λ C z n tasks. refl; on = λ h x. refl; out = λ v w k. refl; start = λ C z. tt; no_end = e }

-- a task that makes an action which isn't its end stands where it is answered
not_finished : (C : PlainCode) (a : Action) (ticks : ℕ) (x : meaning.Ending ℕ) → ((e : Ending) → a ≡ action.End e → ⊥) → IsActionOf C a (Finished ticks x) → ⊥
not_finished C (action.Do o) ticks x n t = cc
not_finished C (action.Fork forking many) ticks x n t = let e = t.1 in cc
not_finished C (action.Begin b) ticks x n t = cc
not_finished C action.Join ticks x n t = cc
not_finished C (action.End e) ticks x n t = n e refl

pub goes_further : (C : PlainCode) (a : Action) (h : Halt ℕ (ℕ × ℕ)) (x : Answer) → ((e : Ending) → a ≡ action.End e → ⊥) → IsActionOf C a h
    → (t : Running) × (answered h x ≡ Some t)
goes_further C a (Asks ticks made act on) x n t = (_, refl)
goes_further C a (Finished ticks e) x n t = absurd (not_finished C a ticks e n t)
goes_further C a Dead x n t = absurd t

counted_got : (o : Option Value) → IsCounted (got o)
counted_got None = tt
counted_got (Some v) = tt

counted_read : (o : Object) (j : ℤ) → IsCounted (read_at o j)
counted_read o (pos k) = counted_got (slice_get (values_of o) k)
counted_read o (negsuc k) = tt

counted_write : (b : Bool) → IsCounted (cond b answer.Went answer.Out)
counted_write true = tt
counted_write false = tt

counted_seen : (o : Object) → length (values_of o) < 2 ^ 31 → IsCounted (seen o)
counted_seen (instance c rs fs) h = tt
counted_seen (array p es) h = h

counted_join : (o : Option (Trap × Place)) (slots : List SlotValue) → IsCounted (fell_or o slots)
counted_join None slots = tt
counted_join (Some trap) slots = tt

-- an answer counts no more than a value holds
pub counted : (w : World) (k : ℕ) (wants : Option (List Effect)) (a : Action) → FitsAt w k wants a → IsCounted (answer_at w k a)
counted w k wants (action.Do (own.Read n j)) f = counted_read (object_at w.heap n) j
counted w k wants (action.Do (own.Write n j v)) f = counted_write (has_index (object_at w.heap n) j)
counted w k wants (action.Do (own.Look n)) f = counted_seen (object_at w.heap n) f.1
counted w k wants action.Join f = counted_join (first_trap (ends_in (task_at w.tree k))) (all_slots (ends_in (task_at w.tree k)))
counted w k wants a f = tt
