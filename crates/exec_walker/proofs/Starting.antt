-- The start of a walk, and its end.
use Rattle.std.proofs.Common.{◌≡◌, ◌∙◌, ◌≤◌, ◌+◌, ℕ, zero, suc, ℤ, [], ◌∷◌, map, refl, sym, ap, subst, arith, inl, inr, Option, Some, None, Ok, Err, Bool, false, true, cond, ◌||◌}
use Rattle.std.specs.Prelude.{nat_lt, All}
use Rattle.std.proofs.lemmas.Bool.{lt-ltb, le-ltb}
use Rattle.std.proofs.lemmas.List.Elements.{All-nil}
use Rattle.lang_base.specs.declared.outcome.Limits.{Limits}
use Rattle.exec_heap.specs.Heap.{Contents}
use Rattle.lang_typed.specs.Plain.{PlainProgram, PlainMember, TypedStmts, no_stmts}
use Rattle.lang_meaning.specs.Actions.{Frame, New}
use Rattle.lang_meaning.specs.Core.{Done, Stopped, Lost}
use Rattle.lang_meaning.specs.Core.{Out as out}
use Rattle.lang_meaning.specs.Costs.{size}
use Rattle.lang_meaning.specs.Elision.{LocalRegion, Store, after, at_start, elided, enters_main, in_order, main_object}
use Rattle.lang_meaning.specs.Expressions.{entered}
use Rattle.lang_meaning.specs.Outcomes.{Came, Limited}
use Rattle.lang_meaning.specs.Values.{Int, Object, Thing}
use Rattle.exec_walker.specs.Laws.{EndsAsElision, StaysOver}
use Rattle.exec_walker.specs.Walk.{State, At, Off, beginning, root_level, start, step, walk}
use Rattle.exec_walker.specs.declared.halt.Halt.{Halt}
use Rattle.exec_walker.specs.declared.halt.Halt.TheVariants as halt
use Rattle.exec_walker.specs.declared.store.Store.{Store as CodeStore}
use Rattle.exec_walker.specs.Halts.{IsOver, After}
use Rattle.exec_walker.specs.Stores.{Holds, IsSmall, object_seen}
use Rattle.exec_walker.specs.declared.walker.Over.{Over}
use Rattle.exec_walker.specs.declared.walker.Walker.{Walker}
use Rattle.exec_walker.specs.Outcome.{Begun, Walked, nothing}
use Rattle.exec_walker.specs.Walks.{Walks}
use Rattle.exec_walker.specs.States.{EndsAt, IsOverAt, StandsAt, plain_level, plain_over, plain_waiting}
use Rattle.lang_meaning.specs.Reported.{reported}

or_true : (b : Bool) → (b || true) ≡ true
or_true true = refl
or_true false = refl

pub holds_nothing : (L : Limits) (s : CodeStore) → s.heap ≡ record { objects = []; used = 0; limit = L.cells } → s.output ≡ [] → s.trap ≡ None → s.steps ≡ 0
    → s.regions ≡ 0 → s.limit ≡ L.steps → L.cells ≤ 16777216 → Holds L s (nothing (suc L.steps))
holds_nothing L s heap output trap steps regions limit cells = record {
  heap = ap (λ (h : Contents). map object_seen h.objects) heap;
  small = subst (λ (h : Contents). All IsSmall h.objects) (sym heap) (All-nil IsSmall);
  cells_limit = ap (λ (h : Contents). h.limit) heap;
  cells_small = cells;
  steps_limit = limit;
  regions = regions;
  output = output;
  trap = trap;
  steps = steps;
  cells = ap (λ (h : Contents). h.used) heap;
  cells_within = let none : s.heap.used ≡ 0 = ap (λ (h : Contents). h.used) heap in omega (arith, none);
  ticks = omega arith;
}

module _ (P : PlainProgram) where
  -- the first object is made
  pub first_made : (n : ℕ) (x : Thing ℕ LocalRegion) → x ≡ main_object P → after (New x false) (nothing n) ≡ at_start P n
  first_made n x e =
      let more : suc (size (main_object {N = ℕ} {M = LocalRegion} P)) + 0 ≡ suc (size (main_object {N = ℕ} {M = LocalRegion} P)) = omega arith in
      ap (λ y. after (New y false) (nothing n)) e ∙ ap (λ k. record (at_start P n) { cells = k }) more

  pub start_refused : (A : Type 0) (arg : ℤ) (L : Limits) (x : Halt) (Q : Store → Type 0) (w : Store) → w ≡ at_start P (suc L.steps)
      → After {A = A} L (Err x) Q w → Begun P arg L (Err x)
  start_refused A arg L halt.Limited Q w e h = subst (IsOver L) e h
  start_refused A arg L halt.NoMemory Q w e h = tt

  pub main_is : (arg : ℤ) (o : Option PlainMember) (m : PlainMember) (ss : TypedStmts) (f : Frame ℕ LocalRegion) → Some m ≡ o → ss ≡ m.body
      → f ≡ entered in_order m (Object 0 ∷ Int arg ∷ []) [] 499 → beginning ss f f.left ≡ root_level (enters_main in_order 0 arg o)
  main_is arg o m ss f is body frame =
      ap (λ x. beginning x f f.left) body ∙ ap (λ k. beginning m.body k k.left) frame ∙ ap (λ x. root_level (enters_main in_order 0 arg x)) is

  pub no_main : (arg : ℤ) (o : Option PlainMember) (f : Frame ℕ LocalRegion) → None ≡ o → f ≡ record { values = []; regions = []; locals = []; left = 499 }
      → beginning no_stmts f f.left ≡ root_level (enters_main in_order 0 arg o)
  no_main arg o f is frame = ap (λ k. beginning no_stmts k k.left) frame ∙ ap (λ x. root_level (enters_main in_order 0 arg x)) is

  walk_sum : (n m : ℕ) (s : State) → walk P (n + m) s ≡ walk P m (walk P n s)
  walk_sum zero m s = let e : zero + m ≡ m = omega arith in ap (λ k. walk P k s) e
  walk_sum (suc n) m s = let e : suc n + m ≡ suc (n + m) = omega arith in ap (λ k. walk P k s) e ∙ walk_sum n m (step P s)

  module _ (arg : ℤ) (L : Limits) where
    -- the walk has come to where the walker is
    abbrev pub Reached : Walker → Type 0
    Reached k =
        (n : ℕ) × (w : Store) × (walk P n (start P arg (suc L.steps)) ≡ At (plain_level k.level) (map plain_waiting k.waiting) w) × Holds L k.store w

    reached : (k : Walker) (n : ℕ) (s : State) → walk P n (start P arg (suc L.steps)) ≡ s → StandsAt L k s → Reached k
    reached k n (At g ws w) e x =
        (n, w, e ∙ ap (λ h. At h ws w) (sym x.0) ∙ ap (λ us. At (plain_level k.level) us w) (sym x.1), x.2)
    reached k n (Off o) e x = absurd x

    pub reached_first : (k : Walker) → Begun P arg L (Ok k) → Reached k
    reached_first k x = reached k 0 (start P arg (suc L.steps)) refl x

    next_is : (k : Walker) (x : Reached k) (m : ℕ)
        → walk P (x.0 + m) (start P arg (suc L.steps)) ≡ walk P m (At (plain_level k.level) (map plain_waiting k.waiting) x.1)
    next_is k x m = walk_sum x.0 m (start P arg (suc L.steps)) ∙ ap (walk P m) x.2

    pub reached_next : (k j : Walker) (x : Reached k) → Walks P k (Ok None) j → Reached j
    reached_next k j x c = let there = c L x.1 x.3 in reached j (x.0 + there.0) _ (next_is k x there.0) there.1

    -- a walk that is over a limit, and one that is over
    limited_at : EndsAsElision → StaysOver → (n : ℕ) (s : State) → walk P n (start P arg (suc L.steps)) ≡ s → IsOverAt L s
        → elided P arg L ≡ Limited L.steps L.cells
    limited_at ends stays n (At g ws w) e h = stays P arg L n g ws w e h
    limited_at ends stays n (Off (Done x w)) e (inl h) =
        ends P arg L n (Done x w) e
        ∙ ap (λ b. cond (b || nat_lt L.cells w.cells) (Limited L.steps L.cells) (Came x w.output w.steps w.cells)) (lt-ltb L.steps w.steps h)
    limited_at ends stays n (Off (Done x w)) e (inr h) =
        ends P arg L n (Done x w) e
        ∙ ap (λ b. cond b (Limited L.steps L.cells) (Came x w.output w.steps w.cells))
        (ap (λ b. nat_lt L.steps w.steps || b) (lt-ltb L.cells w.cells h) ∙ or_true (nat_lt L.steps w.steps))
    limited_at ends stays n (Off (out.Trapped t p w)) e h = ends P arg L n (out.Trapped t p w) e
    limited_at ends stays n (Off (Stopped m a)) e h = ends P arg L n (Stopped m a) e
    limited_at ends stays n (Off (Lost w)) e h = ends P arg L n (Lost w) e

    pub limited_first : EndsAsElision → StaysOver → (x : Halt) → Begun P arg L (Err x) → Walked P arg L (Err x)
    limited_first ends stays halt.Limited h = limited_at ends stays 0 (start P arg (suc L.steps)) refl h
    limited_first ends stays halt.NoMemory h = tt

    pub limited_next : EndsAsElision → StaysOver → (x : Halt) (k j : Walker) (r : Reached k) → Walks P k (Err x) j → Walked P arg L (Err x)
    limited_next ends stays halt.Limited k j r c =
        let there = c L r.1 r.3 in limited_at ends stays (r.0 + there.0) _ (next_is k r there.0) there.1
    limited_next ends stays halt.NoMemory k j r c = tt

    over_at : EndsAsElision → (x : Over) (k : Walker) (n : ℕ) (s : State) → walk P n (start P arg (suc L.steps)) ≡ s → EndsAt L x k s → k.store.steps ≤ k.store.limit
        → reported (Came (plain_over x) k.store.output k.store.steps k.store.heap.used) ≡ reported (elided P arg L)
    over_at ends x k n (At g ws w) e h few = absurd h
    over_at ends x k n (Off (Done y w)) e h few =
        let holds = h.1 in
        let within : w.steps ≤ L.steps = omega (arith, few, holds.steps, holds.steps_limit) in
        let room : w.cells ≤ L.cells = omega (arith, holds.cells, holds.cells_within) in
        ap reported
        (ap (λ z. Came z k.store.output k.store.steps k.store.heap.used) h.0 ∙ ap (λ bytes. Came y bytes k.store.steps k.store.heap.used) holds.output
        ∙ ap (λ m. Came y w.output m k.store.heap.used) holds.steps ∙ ap (λ m. Came y w.output w.steps m) holds.cells
        ∙ sym (ap (λ b. cond (b || nat_lt L.cells w.cells) (Limited L.steps L.cells) (Came y w.output w.steps w.cells)) (le-ltb L.steps w.steps within)
        ∙ ap (λ b. cond b (Limited L.steps L.cells) (Came y w.output w.steps w.cells)) (le-ltb L.cells w.cells room))
        ∙ sym (ends P arg L n (Done y w) e))
    over_at ends x k n (Off (out.Trapped t p w)) e h few = absurd h
    over_at ends x k n (Off (Stopped m a)) e h few = absurd h
    over_at ends x k n (Off (Lost w)) e h few = absurd h

    pub over_next : EndsAsElision → (x : Over) (k j : Walker) (r : Reached k) → Walks P k (Ok (Some x)) j → j.store.steps ≤ j.store.limit
        → reported (Came (plain_over x) j.store.output j.store.steps j.store.heap.used) ≡ reported (elided P arg L)
    over_next ends x k j r c few = let there = c L r.1 r.3 in over_at ends x j (r.0 + there.0) _ (next_is k r there.0) there.1 few
