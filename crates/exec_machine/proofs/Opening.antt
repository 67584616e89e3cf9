-- A run at its start, where the root alone has begun.
use Rattle.std.proofs.Common.{arith, ◌≡◌, ℕ, ℤ, List, [], refl, sym, ap, subst, Option, Some, None}
use Rattle.std.specs.FinMap.{FinMap, insert, empty, get-empty}
use Rattle.std.specs.Ordering.{nat_cmp}
use Rattle.lang_base.specs.declared.outcome.Limits.{Limits}
use Rattle.lang_base.specs.declared.outcome.Outcome.{Outcome}
use Rattle.code_instrs.specs.declared.code.Code.{Code}
use Rattle.code_instrs.specs.Machine.{root_start}
use Rattle.code_instrs.specs.Plain.{PlainCode, plain_code}
use Rattle.exec_heap.specs.Heap.{Contents, instance, with_object}
use Rattle.exec_task.specs.Names.{names_of}
use Rattle.exec_task.specs.Tasks.{plain_start}
use Rattle.exec_task.specs.declared.task.Start.{Start}
use Rattle.exec_world.specs.Costs.{first_fields}
use Rattle.exec_world.specs.World.{at_start as world_at_start, with_heap}
use Rattle.exec_machine.specs.declared.slot.Slot.{Slot}
use Rattle.exec_machine.specs.Running.{at_start, Goes, StandsForOne, AllStand, AllGo, IsFirst}
use Rattle.exec_machine.specs.Replay.{Moment, Opens, opened, no_room, root_alone, limited}
use Rattle.exec_machine.specs.Keeping.{Keeps, MakesMain}
use Rattle.exec_machine.proofs.Tasks.{stand_put}

nothing_stands : (C : PlainCode) → AllStand C empty (λ q. None)
nothing_stands C q = subst (λ o. StandsForOne C q o None) (sym (get-empty nat_cmp q)) (tt {0})

module _ (code : Code) (L : Limits) (argument : ℤ) (root : Start) (slot : Slot) (slots : FinMap nat_cmp Slot) where
  root_stands : slots ≡ insert empty 0 slot → IsFirst 0 root slot → plain_start root ≡ root_start (names_of 0) (plain_code code) 0 argument
      → AllGo (plain_code code) (root_alone code argument) → AllStand (plain_code code) slots (root_alone code argument)
  root_stands is first starts go =
      subst (λ ss. AllStand (plain_code code) ss (root_alone code argument)) (sym is)
      (stand_put (plain_code code) empty (λ q. None) 0 slot (Some (at_start (root_start (names_of 0) (plain_code code) 0 argument))) (nothing_stands (plain_code code)) here)
    where
      here : StandsForOne (plain_code code) 0 (Some slot) (Some (at_start (root_start (names_of 0) (plain_code code) 0 argument)))
      here =
          subst (λ b. StandsForOne (plain_code code) 0 (Some slot) (Some (at_start b))) starts
          (first (plain_code code) (subst (λ b. Goes (plain_code code) 0 (at_start b)) (sym starts) (go 0)))

  pub opens : (heap : Contents) (schedule : List ℕ) (o : Option Outcome) → MakesMain code L (world_at_start L).heap heap o → slots ≡ insert empty 0 slot
      → IsFirst 0 root slot → plain_start root ≡ root_start (names_of 0) (plain_code code) 0 argument
      → (m : Moment) × Opens code L argument m × (AllGo (plain_code code) m.tasks
      → Keeps (plain_code code) (record { world = with_heap (world_at_start L) heap; slots = slots; schedule = schedule; outcome = o }) m)
  opens heap schedule None made is first starts = (
    record {
      world = with_heap (world_at_start L) (with_object (world_at_start L).heap (instance code.main_class [] (first_fields code code.main_class)));
      tasks = root_alone code argument;
      outcome = None;
    },
    opened (omega (arith, made.0)) refl,
    λ go. record { world = ap (with_heap (world_at_start L)) made.1; outcome = refl; stand = root_stands is first starts go },
  )
  opens heap schedule (Some come) full is first starts = (
    record { world = world_at_start L; tasks = root_alone code argument; outcome = Some (limited L) },
    no_room (omega (arith, full.0)) refl,
    λ go. record { world = ap (with_heap (world_at_start L)) full.1; outcome = ap Some full.2; stand = root_stands is first starts go },
  )
