-- The store after an action holds what the elision's does.
use Rattle.std.proofs.Common.{◌≡◌, ◌∙◌, ℕ, suc, ◌<◌, ◌≤◌, ◌+◌, List, [], ◌∷◌, ◌++◌, map, length, replicate, refl, sym, ap, ap₂, subst, arith, Bool, true, false, cond, ℤ, pos, negsuc, ltb, zero, Result, Ok, Err}
use Rattle.std.specs.Prelude.{slice_get, slice_set, nat_lt, All}
use Rattle.std.proofs.lemmas.List.{map-append, length-set, length-replicate, append-nil}
use Rattle.std.proofs.lemmas.List.Elements.{All-set, All-get_or, All-push}
use Rattle.lang_base.specs.declared.value.Value.{Value as Constant}
use Rattle.lang_base.specs.declared.region.Region.{Region}
use Rattle.lang_base.specs.declared.outcome.Limits.{Limits}
use Rattle.exec_heap.specs.declared.stop.HeapStop.{HeapStop}
use Rattle.exec_heap.specs.declared.stop.HeapStop.TheVariants.{Full}
use Rattle.std.proofs.lemmas.Bool.{ltb-true, ltb-false}
use Rattle.exec_heap.specs.Heap.{Object, instance, array, Contents, object_at, values_of, with_values, with_object, cost, no_object, IsOver}
use Rattle.exec_heap.specs.Heap.{written as code_written}
use Rattle.lang_meaning.specs.Values.{Value, Thing, An_array}
use Rattle.lang_meaning.specs.Actions.{Write, New, Length}
use Rattle.lang_meaning.specs.Costs.{size, own_steps}
use Rattle.lang_meaning.specs.Elision.{LocalRegion, held, after, one_step, written}
use Rattle.lang_meaning.specs.Elision.{Store as Elided}
use Rattle.exec_frames.specs.Names.{plain_value, plain_region}
use Rattle.exec_walker.specs.declared.store.Store.{Store}
use Rattle.exec_walker.specs.Cells.{cell_set}
use Rattle.exec_walker.specs.Stores.{Holds, IsSmall, Sight, object_seen, held_seen, counted}

-- the same but for the heap
pub record Beside (s t : Store) : Type 0 where
  pub output : t.output ≡ s.output
  pub trap : t.trap ≡ s.trap
  pub steps : t.steps ≡ s.steps
  pub regions : t.regions ≡ s.regions
  pub limit : t.limit ≡ s.limit

pub set_used : (heap : Contents) (n : ℕ) (i : ℤ) (v : Constant) → (cell_set heap n i v).used ≡ heap.used
set_used heap n (negsuc k) v = refl
set_used heap n (pos k) v = by_bound (nat_lt k (length (values_of (object_at heap n))))
  where
    by_bound : (b : Bool) → (cond b (code_written heap n k v) heap).used ≡ heap.used
    by_bound true = refl
    by_bound false = refl

pub set_limit : (heap : Contents) (n : ℕ) (i : ℤ) (v : Constant) → (cell_set heap n i v).limit ≡ heap.limit
set_limit heap n (negsuc k) v = refl
set_limit heap n (pos k) v = by_bound (nat_lt k (length (values_of (object_at heap n))))
  where
    by_bound : (b : Bool) → (cond b (code_written heap n k v) heap).limit ≡ heap.limit
    by_bound true = refl
    by_bound false = refl

small_with : (o : Object) (vs : List Constant) → length vs ≤ 16777216 → IsSmall (with_values o vs)
small_with (instance c rs fs) vs h = h
small_with (array p es) vs h = h

pub set_small : (heap : Contents) (n : ℕ) (i : ℤ) (v : Constant) → n < length heap.objects → All IsSmall heap.objects → All IsSmall (cell_set heap n i v).objects
set_small heap n (negsuc k) v l h = h
set_small heap n (pos k) v l h = by_bound (nat_lt k (length (values_of (object_at heap n))))
  where
    now : length (values_of (object_at heap n)) ≤ 16777216
    now = All-get_or IsSmall heap.objects n no_object l h

    same : length (slice_set (values_of (object_at heap n)) k v) ≤ 16777216
    same = omega (arith, length-set (values_of (object_at heap n)) k v, now)

    by_bound : (b : Bool) → All IsSmall (cond b (code_written heap n k v) heap).objects
    by_bound true = All-set IsSmall heap.objects n _ (small_with (object_at heap n) _ same) h
    by_bound false = h

pub after_write : (L : Limits) (s t : Store) (w : Elided) (n : ℕ) (i : ℤ) (v : Value ℕ) → Holds L s (one_step w) → Beside s t
    → map object_seen t.heap.objects ≡ map held_seen (written w.heap n (slice_get w.heap n) i v) → All IsSmall t.heap.objects
    → t.heap.used ≡ s.heap.used → t.heap.limit ≡ s.heap.limit → Holds L t (after (Write n i v) w)
after_write L s t w n i v h same heap small used limit = record {
  heap = heap;
  small = small;
  cells_limit = limit ∙ h.cells_limit;
  cells_small = h.cells_small;
  steps_limit = same.limit ∙ h.steps_limit;
  regions = same.regions ∙ h.regions;
  output = same.output ∙ h.output ∙ sym (append-nil w.output);
  trap = same.trap ∙ h.trap;
  steps = omega (arith, same.steps, h.steps);
  cells = omega (arith, used, h.cells);
  cells_within = omega (arith, used, h.cells_within);
  ticks = omega (arith, h.ticks);
}

pub creation_steps : {N M : Type 0} (t : Thing N M) (c : Bool) → own_steps (New t c) ≡ cond c 2 1
creation_steps t true = refl
creation_steps t false = refl

pub after_new : (L : Limits) (s t : Store) (w : Elided) (x : Thing ℕ LocalRegion) (c : Bool) (o : Object) → Holds L s (counted (cond c 2 1) w) → Beside s t
    → t.heap ≡ with_object s.heap o → s.heap.used + cost o ≤ s.heap.limit → size x ≡ length (values_of o) → object_seen o ≡ held_seen (held x)
    → Holds L t (after (New x c) w)
after_new L s t w x c o h same is room sized seen =
    let within : length (values_of o) ≤ 16777216 = omega (arith, room, h.cells_limit, h.cells_small) in
    record {
      heap = ap (λ (m : Contents). map object_seen m.objects) is ∙ map-append object_seen s.heap.objects (o ∷ []) ∙ ap₂ (λ xs y. xs ++ y ∷ []) h.heap seen
          ∙ sym (map-append held_seen w.heap (held x ∷ []));
      small = subst (λ (m : Contents). All IsSmall m.objects) (sym is) (All-push IsSmall s.heap.objects o h.small within);
      cells_limit = ap (λ (m : Contents). m.limit) is ∙ h.cells_limit;
      cells_small = h.cells_small;
      steps_limit = same.limit ∙ h.steps_limit;
      regions = same.regions ∙ h.regions;
      output = same.output ∙ h.output ∙ sym (append-nil w.output);
      trap = same.trap ∙ h.trap;
      steps = same.steps ∙ h.steps ∙ ap (λ k. k + w.steps) (sym (creation_steps x c));
      cells = omega (arith, ap (λ (m : Contents). m.used) is, h.cells, sized);
      cells_within = omega (arith, ap (λ (m : Contents). m.used) is, room, h.cells_limit);
      ticks = omega (arith, h.ticks, creation_steps x c);
    }

replicated : (n : ℕ) (v : Constant) → map plain_value (replicate n v) ≡ replicate n (plain_value v)
replicated zero v = refl
replicated (suc n) v = ap (λ vs. plain_value v ∷ vs) (replicated n v)

pub array_seen : (r : Region) (n : ℕ) (v : Constant) → object_seen (array r (replicate n v)) ≡ held_seen (held (An_array (plain_region r) n (plain_value v)))
array_seen r n v = ap₂ (λ k vs. (let s : Sight = (Length k, vs) in s)) (length-replicate n v) (replicated n v)

-- an object is made only where there is room
pub has_room : (heap : Contents) (n : ℕ) (o : Object) (r : Result ℕ HeapStop) → r ≡ Ok n → (r ≡ Err Full → IsOver heap (cost o)) × (IsOver heap (cost o) → r ≡ Err Full)
    → heap.used + cost o ≤ heap.limit
has_room heap n o r is full = by_room (ltb heap.limit (heap.used + cost o)) refl
  where
    by_room : (b : Bool) → ltb heap.limit (heap.used + cost o) ≡ b → heap.used + cost o ≤ heap.limit
    by_room true e = let over = full.1 (ltb-true heap.limit (heap.used + cost o) e) in absurd (cc)
    by_room false e = ltb-false heap.limit (heap.used + cost o) e
