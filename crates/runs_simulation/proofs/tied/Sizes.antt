-- No object of a machine has more cells than were charged.
use Rattle.std.proofs.Common.{◌≡◌, ◌≤◌, ⊎_elim, ℕ, zero, suc, ℤ, pos, negsuc, Bool, true, false, cond, nat_lt, List, [], ◌∷◌, length, refl, sym, ap, subst, Option, Some, None, slice_get, arith}
use Rattle.std.specs.Prelude.{replicate, slice_index_or, slice_set}
use Rattle.lang_base.specs.declared.effect.Effect.{Effect as PathEffect}
use Rattle.lang_base.specs.declared.outcome.Limits.{Limits}
use Rattle.lang_base.specs.declared.value.Value.{Value as Constant}
use Rattle.code_instrs.specs.declared.code.Code.{Code}
use Rattle.exec_heap.specs.Heap.{Contents, Object, array, instance, no_object, object_at, values_of, with_object, with_values}
use Rattle.exec_heap.specs.Heap.{written as contents_written}
use Rattle.exec_task.specs.declared.action.Action.{Action}
use Rattle.exec_task.specs.declared.action.Action.TheVariants as action
use Rattle.exec_task.specs.declared.action.Own.TheVariants as own
use Rattle.exec_world.specs.Costs.{first_fields}
use Rattle.exec_world.specs.World.{world_after, written_at}
use Rattle.exec_world.specs.declared.world.World.{World}
use Rattle.exec_machine.specs.Replay.{LeadsTo, Moment, made, no_room, opened, over}
use Rattle.runs_simulation.proofs.events.Acting.{event_of}
use Rattle.runs_simulation.proofs.tied.Heaps.{last_cases, set_cases, set_count, values_with}

abbrev pub AllCharged : Contents → Type 0
AllCharged heap = (n : ℕ) (o : Object) → slice_get heap.objects n ≡ Some o → length (values_of o) ≤ heap.used

-- what stands under a number, or nothing
charged_at : (objects : List Object) (n used : ℕ) → ((o : Object) → slice_get objects n ≡ Some o → length (values_of o) ≤ used)
    → length (values_of (slice_index_or objects n no_object)) ≤ used
charged_at [] n used h = omega arith
charged_at (o ∷ os) zero used h = h o refl
charged_at (o ∷ os) (suc n) used h = charged_at os n used h

pub object_charged : (heap : Contents) (n : ℕ) → AllCharged heap → length (values_of (object_at heap n)) ≤ heap.used
object_charged heap n h = charged_at heap.objects n heap.used (h n)

more_charged : (heap : Contents) (o : Object) → AllCharged heap → AllCharged (with_object heap o)
more_charged heap o h n z e = ⊎_elim
    (λ old. (let l = h n z old in omega (arith, l)))
    (λ new. (let same = ap (λ o. length (values_of o)) new.1 in omega (arith, same))) (last_cases heap.objects o z n e)

written_charged : (heap : Contents) (n i : ℕ) (v : Constant) → AllCharged heap → AllCharged (contents_written heap n i v)
written_charged heap n i v h m z e = ⊎_elim
    (λ new. (let l = object_charged heap n h in
    let a = ap (λ o. length (values_of o)) new.1 in
    let b = ap length (values_with (object_at heap n) (slice_set (values_of (object_at heap n)) i v)) in
    let c = set_count (values_of (object_at heap n)) i v in omega (arith, l, a, b, c)))
    (λ old. h m z old) (set_cases heap.objects n m (with_values (object_at heap n) (slice_set (values_of (object_at heap n)) i v)) z e)

write_charged : (heap : Contents) (n : ℕ) (j : ℤ) (v : Constant) → AllCharged heap → AllCharged (written_at heap n j v)
write_charged heap n (negsuc i) v h = h
write_charged heap n (pos i) v h = go (nat_lt i (length (values_of (object_at heap n))))
  where
    go : (b : Bool) → AllCharged (cond b (contents_written heap n i v) heap)
    go true = written_charged heap n i v h
    go false = h

event_charged : (code : Code) (w : World) (k ticks : ℕ) (wants : Option (List PathEffect)) (a : Action) → AllCharged w.heap
    → AllCharged (world_after code w (event_of k ticks wants a)).heap
event_charged code w k ticks wants (action.Do (own.Write n j v)) h = write_charged w.heap n j v h
event_charged code w k ticks wants (action.Do (own.NewObject c rs constructor)) h = more_charged w.heap (instance c rs (first_fields code c)) h
event_charged code w k ticks wants (action.Do (own.NewArray region len first)) h = more_charged w.heap (array region (replicate len first)) h
event_charged code w k ticks wants (action.Do (own.Print bytes)) h = λ n o e. (let l = h n o e in omega (arith, l))
event_charged code w k ticks wants a h = h

-- wherever a schedule leads
pub all_charged : (code : Code) (L : Limits) (arg : ℤ) (ks : List ℕ) (m : Moment) → LeadsTo code L arg ks m → AllCharged m.world.heap
all_charged code L arg [] m (opened room is) =
    subst (λ (m : Moment). AllCharged m.world.heap) (sym is)
    (more_charged (record { objects = []; used = 0; limit = L.cells }) (instance code.main_class [] (first_fields code code.main_class)) (λ n o e. absurd (let both : None ≡ Some o = e in cc)))
all_charged code L arg [] m (no_room full is) =
    subst (λ (m : Moment). AllCharged m.world.heap) (sym is) (λ n o e. absurd (let both : None ≡ Some o = e in cc))
all_charged code L arg (k ∷ ks) m (before, leads, made e x can within is) =
    subst (λ (m : Moment). AllCharged m.world.heap) (sym is) (event_charged code before.world e.task e.ticks e.wants e.action (all_charged code L arg ks before leads))
all_charged code L arg (k ∷ ks) m (before, leads, over e x can beyond is) =
    subst (λ (m : Moment). AllCharged m.world.heap) (sym is) (all_charged code L arg ks before leads)
