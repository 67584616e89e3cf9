-- A machine's heap is what the events of the run so far have made and written.
use Rattle.std.proofs.Common.{◌≡◌, ℕ, zero, suc, ◌+◌, ◌≤◌, ◌⊎◌, inl, inr, ⊎_elim, ℤ, pos, negsuc, Bool, true, false, cond, List, [], ◌∷◌, ◌++◌, map, length, refl, sym, ap, ◌∙◌, subst, arith, Option, Some, None, slice_get, nat_lt, append-nil, append_assoc, length-append}
use Rattle.std.specs.Prelude.{slice_set, slice_index_or}
use Rattle.std.proofs.lemmas.List.{length-map}
use Rattle.std.proofs.lemmas.Bool.{ltb-true, lt-ltb, cases_lt}
use Rattle.std.proofs.lemmas.Option.{slice_get_past, slice_get_within, slice_get-get_or}
use Rattle.lang_base.specs.declared.value.Value.{Value as Constant}
use Rattle.lang_meaning.specs.Values.{Value, Null, Thing as ThingOver}
use Rattle.lang_meaning.specs.Actions.{Own as OwnOver, Answer as AnswerOver, Read, Write, Look, New}
use Rattle.lang_meaning.specs.Actions.{Went, Got, Out, Class, Length, Named, Joined, Fell}
use Rattle.lang_meaning.specs.Elision.{LocalRegion as Counted, Held, held, Heap, Store, at_index, set_at, read_of, write_of, answer as elided_answer, heap_after, after}
use Rattle.lang_meaning.specs.Elision.{written as heap_written}
use Rattle.lang_base.specs.declared.place.Place.{Place}
use Rattle.lang_base.specs.declared.value.Trap.{Trap}
use Rattle.runs_theory.specs.Actions.{Own, Answer, Do, Program, cells, steps}
use Rattle.runs_theory.specs.Order.{printed_by, trap_in}
use Rattle.runs_theory.specs.Objects.{Cell, Path, Name, Thing, An_object, An_array}
use Rattle.runs_theory.specs.Runs.{Event, Run, reply, seen, thing_of, made, made_by, written_by, mine, things, at_start, now, later, answered_by}
use Rattle.runs_theory.proofs.events.Mine.{mine_same}
use Rattle.runs_theory.proofs.events.Things.{thing_later, same_some}
use Rattle.exec_heap.specs.Heap.{Object, instance, array, values_of, with_values, object_at, no_object, Contents}
use Rattle.exec_heap.specs.Heap.{written as contents_written}
use Rattle.exec_frames.specs.Names.{plain_value}
use Rattle.exec_task.specs.Names.{plain_region}
use Rattle.exec_task.specs.Tasks.{plain_answer}
use Rattle.exec_task.specs.declared.action.Answer.{Answer as DeclaredAnswer}
use Rattle.exec_task.specs.declared.action.Answer.TheVariants as answer
use Rattle.exec_world.specs.World.{read_at, got, wrote_at, written_at}
use Rattle.exec_world.specs.World.{seen as object_seen}
use Rattle.runs_elision.proofs.Worlds.{Names, Later, name_later, ValueLike}
use Rattle.runs_elision.proofs.Worlds as elided
use Rattle.runs_elision.proofs.Memory.{Holds, Stands}
use Rattle.runs_elision.proofs.Doing.{Answered, own_step, structure_step}
use Rattle.runs_elision.proofs.NewThings.{things_step}
use Rattle.runs_elision.proofs.Writes.{last_there}
use Rattle.runs_simulation.proofs.alike.Sights.{Sight, Wider, wider_none, RegionsLike, regions_later}
use Rattle.runs_simulation.proofs.alike.Sights.{AnswerLike, went_like, got_like, out_like, class_like, length_like, named_like, joined_like, fell_like}

-- lists
pub map_there : {A B : Type 0} (f : A → B) (xs : List A) (n : ℕ) {x : A} → slice_get xs n ≡ Some x → slice_get (map f xs) n ≡ Some (f x)
map_there f [] n {x} e = absurd (let none : None ≡ Some x = e in cc)
map_there f (y ∷ xs) zero {x} e = (let same : y ≡ x = cc in ap (λ z. Some (f z)) same)
map_there f (y ∷ xs) (suc n) e = map_there f xs n e

map_set : {A B : Type 0} (f : A → B) (xs : List A) (n : ℕ) (x : A) → map f (slice_set xs n x) ≡ slice_set (map f xs) n (f x)
map_set f [] n x = refl
map_set f (y ∷ xs) zero x = refl
map_set f (y ∷ xs) (suc n) x = ap (λ l. f y ∷ l) (map_set f xs n x)

set_same : {A : Type 0} (xs : List A) (n : ℕ) (x : A) → slice_get xs n ≡ Some x → slice_set xs n x ≡ xs
set_same [] n x e = refl
set_same (y ∷ xs) zero x e = (let same : y ≡ x = cc in ap (λ z. z ∷ xs) (sym same))
set_same (y ∷ xs) (suc n) x e = ap (λ l. y ∷ l) (set_same xs n x e)

set_past : {A : Type 0} (xs : List A) (n : ℕ) (x : A) → length xs ≤ n → slice_set xs n x ≡ xs
set_past [] n x l = refl
set_past (y ∷ xs) zero x l = absurd (omega arith)
set_past (y ∷ xs) (suc n) x l = ap (λ k. y ∷ k) (set_past xs n x (omega arith))

pub set_count : {A : Type 0} (xs : List A) (n : ℕ) (x : A) → length (slice_set xs n x) ≡ length xs
set_count [] n x = refl
set_count (y ∷ xs) zero x = refl
set_count (y ∷ xs) (suc n) x = ap (λ k. suc k) (set_count xs n x)

pub set_cases : {A : Type 0} (xs : List A) (n m : ℕ) (x y : A) → slice_get (slice_set xs n x) m ≡ Some y → ((n ≡ m) × (x ≡ y)) ⊎ (slice_get xs m ≡ Some y)
set_cases [] n m x y e = inr e
set_cases (z ∷ xs) zero zero x y e = inl (refl, (let same : Some x ≡ Some y = e in cc))
set_cases (z ∷ xs) zero (suc m) x y e = inr e
set_cases (z ∷ xs) (suc n) zero x y e = inr e
set_cases (z ∷ xs) (suc n) (suc m) x y e = ⊎_elim (λ k. inl (ap (λ j. suc j) k.0, k.1)) (λ k. inr k) (set_cases xs n m x y e)

map_append : {A B : Type 0} (f : A → B) (xs ys : List A) → map f (xs ++ ys) ≡ map f xs ++ map f ys
map_append f [] ys = refl
map_append f (x ∷ xs) ys = ap (λ l. f x ∷ l) (map_append f xs ys)

pub last_cases : {A : Type 0} (xs : List A) (x y : A) (n : ℕ) → slice_get (xs ++ x ∷ []) n ≡ Some y → (slice_get xs n ≡ Some y) ⊎ ((n ≡ length xs) × (x ≡ y))
last_cases [] x y zero h = inr (refl, (let k : Some x ≡ Some y = h in cc))
last_cases [] x y (suc n) h = absurd (let k : None ≡ Some y = h in cc)
last_cases (z ∷ xs) x y zero h = inl h
last_cases (z ∷ xs) x y (suc n) h = ⊎_elim (λ k. inl k) (λ k. inr (ap (λ m. suc m) k.0, k.1)) (last_cases xs x y n h)

no_more : {A : Type 0} (more : List A) → length more ≡ 0 → more ≡ []
no_more [] e = refl
no_more (x ∷ xs) e = absurd (omega arith)

same_names : {ns ms : Names} → Later ns ms → length ms ≡ length ns → ms ≡ ns
same_names {ns} {ms} l e =
    l.is ∙ ap (λ z. ns ++ z) (no_more l.more (let a = ap length l.is in let b = length-append ns l.more in omega (arith, a, b, e))) ∙ append-nil ns

-- the same answer, of a world that counts local regions otherwise; none of an object, whose regions it shows
abbrev SameAnswer : AnswerOver ℕ Counted → AnswerOver ℕ (ℕ × ℕ) → Type 0
SameAnswer Went c = c ≡ Went
SameAnswer (Got v) c = c ≡ Got v
SameAnswer Out c = c ≡ Out
SameAnswer (Class k rs) c = ⊥
SameAnswer (Length n) c = c ≡ Length n
SameAnswer (Named n) c = c ≡ Named n
SameAnswer (Joined ls) c = c ≡ Joined ls
SameAnswer (Fell t p) c = c ≡ Fell t p

same_answer : {w : Sight} {a : AnswerOver ℕ Counted} {b : Answer} {c : AnswerOver ℕ (ℕ × ℕ)} → elided.AnswerLike w.names a b → SameAnswer a c → AnswerLike w c b
same_answer {w} {b = b} elided.went_like s = subst (λ c. AnswerLike w c Went) (sym s) went_like
same_answer {w} (elided.got_like {u = u} h) s = subst (λ c. AnswerLike w c (Got u)) (sym s) (got_like h)
same_answer {w} elided.out_like s = subst (λ c. AnswerLike w c Out) (sym s) out_like
same_answer (elided.class_like c h) s = absurd s
same_answer {w} (elided.length_like n) s = subst (λ c. AnswerLike w c (Length n)) (sym s) (length_like n)
same_answer {w} (elided.named_like n x h) s = subst (λ c. AnswerLike w c (Named x)) (sym s) (named_like n x h)
same_answer {w} (elided.joined_like {us = us} h) s = subst (λ c. AnswerLike w c (Joined us)) (sym s) (joined_like h)
same_answer {w} (elided.fell_like t p) s = subst (λ c. AnswerLike w c (Fell t p)) (sym s) (fell_like t p)

abbrev read_or : Option (Value ℕ) → AnswerOver ℕ Counted
read_or o = elim o as (λ o. AnswerOver ℕ Counted) [ None ↦ Out | Some v ↦ Got v ]

read_same : (vs : List Constant) (k : ℕ) → SameAnswer (read_or (slice_get (map plain_value vs) k)) (plain_answer (got (slice_get vs k)))
read_same [] k = refl
read_same (v ∷ vs) zero = refl
read_same (v ∷ vs) (suc k) = read_same vs k

read_same_at : (o : Object) (i : ℤ) → SameAnswer (read_or (at_index (map plain_value (values_of o)) i)) (plain_answer (read_at o i))
read_same_at o (pos k) = read_same (values_of o) k
read_same_at o (negsuc k) = refl

abbrev written_or : Option (Value ℕ) → AnswerOver ℕ Counted
written_or o = elim o as (λ o. AnswerOver ℕ Counted) [ None ↦ Out | Some v ↦ Went ]

write_same : (vs : List Constant) (k : ℕ) → SameAnswer (written_or (slice_get (map plain_value vs) k)) (plain_answer (cond (nat_lt k (length vs)) answer.Went answer.Out))
write_same vs k = go (nat_lt k (length vs)) refl
  where
    go : (b : Bool) → nat_lt k (length vs) ≡ b → SameAnswer (written_or (slice_get (map plain_value vs) k)) (plain_answer (cond b answer.Went answer.Out))
    go true e =
        subst (λ o. SameAnswer (written_or o) Went)
        (sym (slice_get-get_or (map plain_value vs) k Null (let m = length-map vs plain_value in let l = ltb-true k (length vs) e in omega (arith, m, l)))) refl
    go false e =
        subst (λ o. SameAnswer (written_or o) Out)
        (sym (slice_get_past (map plain_value vs) k (let m = length-map vs plain_value in let l = past e in omega (arith, m, l)))) refl
      where
        past : nat_lt k (length vs) ≡ false → length vs ≤ k
        past f = ⊎_elim (λ l. absurd (let t = lt-ltb k (length vs) l in let z : true ≡ false = sym t ∙ f in cc)) (λ l. l) (cases_lt k (length vs))

write_same_at : (o : Object) (i : ℤ) → SameAnswer (written_or (at_index (map plain_value (values_of o)) i)) (plain_answer (wrote_at o i))
write_same_at o (pos k) = write_same (values_of o) k
write_same_at o (negsuc k) = refl

-- the class and the regions of an object, or the length of an array
abbrev pub SeenTied : Sight → Object → Thing → Type 0
SeenTied w (instance c rs fields) (An_object d qs us) = (c ≡ d) × RegionsLike w (map plain_region rs) qs
SeenTied w (instance c rs fields) (An_array r len u) = ⊥
SeenTied w (array pattern es) (An_object d qs us) = ⊥
SeenTied w (array pattern es) (An_array r len u) = length es ≡ len

seen_later : {v w : Sight} (o : Object) (t : Thing) → Wider v w → SeenTied v o t → SeenTied w o t
seen_later (instance c rs fields) (An_object d qs us) h s = (s.0, regions_later h s.1)
seen_later (instance c rs fields) (An_array r len u) h s = s
seen_later (array pattern es) (An_object d qs us) h s = s
seen_later (array pattern es) (An_array r len u) h s = s

seen_set : (w : Sight) (o : Object) (t : Thing) (k : ℕ) (v : Constant) → SeenTied w o t → SeenTied w (with_values o (slice_set (values_of o) k v)) t
seen_set w (instance c rs fields) (An_object d qs us) k v s = s
seen_set w (instance c rs fields) (An_array r len u) k v s = s
seen_set w (array pattern es) (An_object d qs us) k v s = s
seen_set w (array pattern es) (An_array r len u) k v s = set_count es k v ∙ s

pub values_with : (o : Object) (vs : List Constant) → values_of (with_values o vs) ≡ vs
values_with (instance c rs fields) vs = refl
values_with (array pattern es) vs = refl

abbrev pub values_in : List Object → List (List (Value ℕ))
values_in os = map (λ o. map plain_value (values_of o)) os

abbrev pub values_held : Heap → List (List (Value ℕ))
values_held hs = map (λ h. h.values) hs

module _ (Q : Program) where
  -- what is seen of the object with a name
  pub record Shown (w : Sight) (R : Run) (o : Object) (x : Name) : Type 0 where
    pub thing : Thing
    pub is_thing : thing_of Q R x ≡ Some thing
    pub seen : SeenTied w o thing

  -- the objects in their order are those of a heap that holds what the run has made and written
  pub record HeapTied (w : Sight) (R : Run) (objects : List Object) : Type 0 where
    pub store : Store
    pub holds : Holds Q R w.names 0 store
    pub values : values_held store.heap ≡ values_in objects
    pub shown : (n : ℕ) (x : Name) (o : Object) → slice_get w.names n ≡ Some x → slice_get objects n ≡ Some o → Shown w R o x

  shown_later : {v w : Sight} {R : Run} {o : Object} {x : Name} (e : Event) → Wider v w → Shown v R o x → Shown w (e ∷ R) o x
  shown_later {o = o} {x = x} e h s = record {
    thing = s.thing;
    is_thing = thing_later Q x s.thing (later now) s.is_thing;
    seen = seen_later o s.thing h s.seen;
  }

  -- the same, with more tasks
  pub heap_wider : {v w : Sight} {R : Run} {objects : List Object} → HeapTied v R objects → Wider v w → v.names ≡ w.names → HeapTied w R objects
  heap_wider {v} {w} {R} {objects} T h same = record {
    store = T.store;
    holds = subst (λ ns. Holds Q R ns 0 T.store) same T.holds;
    values = T.values;
    shown = λ n x o a b. (let s = T.shown n x o (subst (λ ns. slice_get ns n ≡ Some x) (sym same) a) b in
        record { thing = s.thing; is_thing = s.is_thing; seen = seen_later o s.thing h s.seen });
  }

  -- what a machine answers to an action of a task's own, and keeps then, is what the run does
  pub record OwnTied (w : Sight) (R : Run) (p : Path) (ticks : ℕ) (q : Own) (x : DeclaredAnswer) (objects : List Object) : Type 0 where
    pub answer : Answer
    pub sight : Sight
    pub wider : Wider w sight
    pub paths : sight.paths ≡ w.paths
    pub replies : reply Q R p q ≡ Some answer
    pub like : AnswerLike sight (plain_answer x) answer
    pub heap : HeapTied sight (record { path = p; ticks = ticks; act = Do q; ans = answer } ∷ R) objects

  module _ {w : Sight} {R : Run} {objects : List Object} (T : HeapTied w R objects) (p : Path) (ticks : ℕ) where
    abbrev Ticked : Store
    Ticked = record T.store { steps = T.store.steps + ticks }

    ticked : Holds Q R w.names ticks Ticked
    ticked = record {
      many = T.holds.many;
      distinct = T.holds.distinct;
      there = T.holds.there;
      unwritten = T.holds.unwritten;
      output = T.holds.output;
      trap = T.holds.trap;
      steps = (let x = T.holds.steps in omega (arith, x));
      cells = T.holds.cells;
    }

    many : length w.names ≡ length objects
    many =
        T.holds.many ∙ sym (length-map T.store.heap (λ h. h.values)) ∙ ap length T.values
        ∙ length-map objects (λ o. map plain_value (values_of o))

    -- the object of a name, and its values
    object_there : (n : ℕ) (x : Name) → slice_get w.names n ≡ Some x → (heap : Contents) → heap.objects ≡ objects → slice_get objects n ≡ Some (object_at heap n)
    object_there n x e heap same =
        subst (λ os. slice_get os n ≡ Some (object_at heap n)) same
        (slice_get-get_or heap.objects n no_object
        (let l = slice_get_within w.names n x e in let m = many in let s = ap length same in omega (arith, l, m, s)))

    values_there : (n : ℕ) (o : Object) (h : Held) → slice_get objects n ≡ Some o → slice_get T.store.heap n ≡ Some h → h.values ≡ map plain_value (values_of o)
    values_there n o h a b =
        same_some (map_there (λ h. h.values) T.store.heap n b)
        (ap (λ l. slice_get l n) T.values ∙ map_there (λ o. map plain_value (values_of o)) objects n a)

    -- an action that leaves the objects as they are
    quiet : {o : OwnOver ℕ Counted} {q : Own} (x : DeclaredAnswer) → elided.OwnLike w.names o q → heap_after o T.store.heap ≡ T.store.heap
        → ((b : Answer) → reply Q R p q ≡ Some b → elided.AnswerLike w.names (elided_answer T.store.heap o) b → AnswerLike w (plain_answer x) b)
        → OwnTied w R p ticks q x objects
    quiet {o} {q} x like still f = record {
      answer = A.answer;
      sight = w;
      wider = wider_none T.holds.distinct;
      paths = refl;
      replies = A.replies;
      like = f A.answer A.replies (subst (λ ns. elided.AnswerLike ns (elided_answer T.store.heap o) A.answer) same A.like);
      heap = record {
        store = after o Ticked;
        holds = subst (λ ns. Holds Q (e ∷ R) ns 0 (after o Ticked)) same A.holds;
        values = ap values_held still ∙ T.values;
        shown = λ n y z a b. shown_later e (wider_none T.holds.distinct) (T.shown n y z a b);
      };
    }
      where
        A : Answered Q R w.names ticks Ticked p o q
        A = own_step Q ticked p like

        e : Event
        e = record { path = p; ticks = ticks; act = Do q; ans = A.answer }

        same : A.names ≡ w.names
        same = same_names A.later (A.holds.many ∙ ap length still ∙ sym T.holds.many)

    pub went : {o : OwnOver ℕ Counted} {q : Own} → elided.OwnLike w.names o q → heap_after o T.store.heap ≡ T.store.heap
        → elided_answer T.store.heap o ≡ Went → OwnTied w R p ticks q answer.Went objects
    went {o} like still e = quiet answer.Went like still (λ b r k. same_answer k (subst (λ a. SameAnswer a Went) (sym e) refl))

    -- a fork, a begin, a join or an end
    pub structural : (e : Event) → e.ticks ≡ ticks → ((c : Cell) → written_by c e.act ≡ None) → ((f : Option (Trap × Place)) → printed_by e.act f ≡ [])
        → cells e.act ≡ 0 → HeapTied w (e ∷ R) objects
    structural e same writes prints free = record {
      store = record Ticked { trap = trap_in e.act T.store.trap; steps = Ticked.steps + steps e.act };
      holds = structure_step Q ticked p e same writes prints free (record Ticked { trap = trap_in e.act T.store.trap; steps = Ticked.steps + steps e.act })
          refl refl refl refl refl;
      values = T.values;
      shown = λ n y z a b. shown_later e (wider_none T.holds.distinct) (T.shown n y z a b);
    }

    pub reads : (n : ℕ) (x : Name) (i : ℤ) (heap : Contents) → heap.objects ≡ objects → slice_get w.names n ≡ Some x
        → OwnTied w R p ticks (Read x i) (read_at (object_at heap n) i) objects
    reads n x i heap same e =
        quiet (read_at (object_at heap n) i) (elided.read_like n x i e) refl (λ b r k. same_answer k
        (subst (λ a. SameAnswer a (plain_answer (read_at (object_at heap n) i))) (sym is) (read_same_at (object_at heap n) i)))
      where
        S : Stands Q R w.names T.store.heap n x
        S = T.holds.there n x e

        is : read_of (slice_get T.store.heap n) i ≡ read_or (at_index (map plain_value (values_of (object_at heap n))) i)
        is = ap (λ o. read_of o i) S.is_held ∙ ap (λ vs. read_or (at_index {A = Value ℕ} vs i)) (values_there n (object_at heap n) S.held (object_there n x e heap same) S.is_held)

    -- a look shows the class and the regions of an object, or the length of an array
    seen_like : (o : Object) (t : Thing) → SeenTied w o t → AnswerLike w (plain_answer (object_seen o)) (seen t)
    seen_like (instance c rs fields) (An_object d qs us) s = subst (λ (k : ℕ). AnswerLike w (Class c (map plain_region rs)) (Class k qs)) s.0 (class_like c s.1)
    seen_like (instance c rs fields) (An_array r len u) s = absurd s
    seen_like (array pattern es) (An_object d qs us) s = absurd s
    seen_like (array pattern es) (An_array r len u) s = subst (λ (k : ℕ). AnswerLike w (Length (length es)) (Length k)) s (length_like (length es))

    pub looks : (n : ℕ) (x : Name) (heap : Contents) → heap.objects ≡ objects → slice_get w.names n ≡ Some x
        → OwnTied w R p ticks (Look x) (object_seen (object_at heap n)) objects
    looks n x heap same e =
        quiet (object_seen (object_at heap n)) (elided.look_like n x e) refl (λ b r k.
        subst (λ b. AnswerLike w (plain_answer (object_seen (object_at heap n))) b)
        (let is : Some (seen S.thing) ≡ Some b = ap (λ o. answered_by o seen) (sym S.is_thing) ∙ r in cc) (seen_like (object_at heap n) S.thing S.seen))
      where
        S : Shown w R (object_at heap n) x
        S = T.shown n x (object_at heap n) e (object_there n x e heap same)

    -- a write
    written_values : (heap : Contents) (n : ℕ) (i : ℤ) (v : Constant) → slice_get heap.objects n ≡ Some (object_at heap n)
        → slice_set (values_in heap.objects) n (set_at (map plain_value (values_of (object_at heap n))) i (plain_value v)) ≡ values_in (written_at heap n i v).objects
    written_values heap n (negsuc k) v e = set_same (values_in heap.objects) n _ (map_there (λ o. map plain_value (values_of o)) heap.objects n e)
    written_values heap n (pos k) v e = go (nat_lt k (length (values_of (object_at heap n)))) refl
      where
        go : (b : Bool) → nat_lt k (length (values_of (object_at heap n))) ≡ b
            → slice_set (values_in heap.objects) n (slice_set (map plain_value (values_of (object_at heap n))) k (plain_value v))
            ≡ values_in (cond b (contents_written heap n k v) heap).objects
        go true a =
            ap (λ vs. slice_set (values_in heap.objects) n vs) (sym (ap (λ vs. map plain_value vs) (values_with (object_at heap n) (slice_set (values_of (object_at heap n)) k v)) ∙ map_set plain_value (values_of (object_at heap n)) k v))
            ∙ sym (map_set (λ o. map plain_value (values_of o)) heap.objects n (with_values (object_at heap n) (slice_set (values_of (object_at heap n)) k v)))
        go false a =
            ap (λ vs. slice_set (values_in heap.objects) n vs) (set_past (map plain_value (values_of (object_at heap n))) k (plain_value v)
            (let m = length-map (values_of (object_at heap n)) plain_value in let l = past a in omega (arith, m, l)))
            ∙ set_same (values_in heap.objects) n _ (map_there (λ o. map plain_value (values_of o)) heap.objects n e)
          where
            past : nat_lt k (length (values_of (object_at heap n))) ≡ false → length (values_of (object_at heap n)) ≤ k
            past f = ⊎_elim (λ l. absurd (let t = lt-ltb k (length (values_of (object_at heap n))) l in let z : true ≡ false = sym t ∙ f in cc)) (λ l. l) (cases_lt k (length (values_of (object_at heap n))))

    written_cases : (heap : Contents) (n : ℕ) (i : ℤ) (v : Constant) (m : ℕ) (o : Object) → slice_get (written_at heap n i v).objects m ≡ Some o
        → (slice_get heap.objects m ≡ Some o) ⊎ ((n ≡ m) × (k : ℕ) × (with_values (object_at heap n) (slice_set (values_of (object_at heap n)) k v) ≡ o))
    written_cases heap n (negsuc k) v m o e = inl e
    written_cases heap n (pos k) v m o e = go (nat_lt k (length (values_of (object_at heap n)))) e
      where
        go : (b : Bool) → slice_get (cond b (contents_written heap n k v) heap).objects m ≡ Some o
            → (slice_get heap.objects m ≡ Some o) ⊎ ((n ≡ m) × (k : ℕ) × (with_values (object_at heap n) (slice_set (values_of (object_at heap n)) k v) ≡ o))
        go true a = ⊎_elim (λ z. inr (z.0, k, z.1)) (λ z. inl z)
            (set_cases heap.objects n m (with_values (object_at heap n) (slice_set (values_of (object_at heap n)) k v)) o a)
        go false a = inl a

    pub writes : (n : ℕ) (x : Name) (i : ℤ) (v : Constant) {u : Value Name} (heap : Contents) → heap.objects ≡ objects → slice_get w.names n ≡ Some x
        → ValueLike w.names (plain_value v) u → OwnTied w R p ticks (Write x i u) (wrote_at (object_at heap n) i) (written_at heap n i v).objects
    writes n x i v {u} heap same e like = record {
      answer = A.answer;
      sight = w;
      wider = wider_none T.holds.distinct;
      paths = refl;
      replies = A.replies;
      like = same_answer (subst (λ ns. elided.AnswerLike ns (elided_answer T.store.heap (Write n i (plain_value v))) A.answer) names_are A.like)
          (subst (λ a. SameAnswer a (plain_answer (wrote_at o i))) (sym answer_is) (write_same_at o i));
      heap = record {
        store = after (Write n i (plain_value v)) Ticked;
        holds = subst (λ ns. Holds Q (event ∷ R) ns 0 (after (Write n i (plain_value v)) Ticked)) names_are A.holds;
        values = ap values_held heap_is ∙ map_set (λ h. h.values) T.store.heap n now_held ∙ ap (λ l. slice_set l n now_held.values) (T.values ∙ ap values_in (sym same))
            ∙ ap (λ vs. slice_set (values_in heap.objects) n (set_at vs i (plain_value v))) (values_there n o S.held here S.is_held)
            ∙ written_values heap n i v (subst (λ os. slice_get os n ≡ Some o) (sym same) here);
        shown = shown_now;
      };
    }
      where
        o : Object
        o = object_at heap n

        S : Stands Q R w.names T.store.heap n x
        S = T.holds.there n x e

        here : slice_get objects n ≡ Some o
        here = object_there n x e heap same

        A : Answered Q R w.names ticks Ticked p (Write n i (plain_value v)) (Write x i u)
        A = own_step Q ticked p (elided.write_like n x i e like)

        event : Event
        event = record { path = p; ticks = ticks; act = Do (Write x i u); ans = A.answer }

        now_held : Held
        now_held = record S.held { values = set_at S.held.values i (plain_value v) }

        heap_is : heap_after (Write n i (plain_value v)) T.store.heap ≡ slice_set T.store.heap n now_held
        heap_is = ap (λ z. heap_written T.store.heap n z i (plain_value v)) S.is_held

        names_are : A.names ≡ w.names
        names_are = same_names A.later (A.holds.many ∙ ap length heap_is ∙ set_count T.store.heap n now_held ∙ sym T.holds.many)

        answer_is : write_of (slice_get T.store.heap n) i ≡ written_or (at_index (map plain_value (values_of o)) i)
        answer_is = ap (λ z. write_of z i) S.is_held ∙ ap (λ vs. written_or (at_index {A = Value ℕ} vs i)) (values_there n o S.held here S.is_held)

        shown_now : (m : ℕ) (y : Name) (z : Object) → slice_get w.names m ≡ Some y → slice_get (written_at heap n i v).objects m ≡ Some z → Shown w (event ∷ R) z y
        shown_now m y z a b = ⊎_elim
            (λ c. shown_later event (wider_none T.holds.distinct) (T.shown m y z a (subst (λ os. slice_get os m ≡ Some z) same c)))
            (λ c. (let d : Shown w R o y = T.shown m y o a (subst (λ k. slice_get objects k ≡ Some o) c.0 here) in
            shown_later event (wider_none T.holds.distinct) (subst (λ z. Shown w R z y) c.2 (record { thing = d.thing; is_thing = d.is_thing; seen = seen_set w o d.thing c.1 v d.seen }))))
            (written_cases heap n i v m z b)

    -- a new object or array
    made_now : (e : Event) (s : Thing) → e.path ≡ p → made_by e.act ≡ s ∷ [] → thing_of Q (e ∷ R) (record { maker = p; count = length (made Q R p) }) ≡ Some s
    made_now e s same makes = ap (λ l. slice_get l (length (made Q R p))) are ∙ last_there (made Q R p) s
      where
        are : made Q (e ∷ R) p ≡ made Q R p ++ s ∷ []
        are = ap (λ l. at_start Q p ++ things l) (mine_same e R p same) ∙ ap (λ l. at_start Q p ++ l) (things_step e (mine R p) ∙ ap (λ l. things (mine R p) ++ l) makes)
            ∙ sym (append_assoc (at_start Q p) (things (mine R p)) (s ∷ []))

    named_at : {ns : Names} {n : ℕ} {x : Name} → elided.AnswerLike ns (Named n) (Named x) → slice_get ns n ≡ Some x
    named_at (elided.named_like n x h) = h

    pub makes : (object : Object) (t : ThingOver ℕ Counted) (s : Thing) (c : Bool) → elided.ThingLike w.names t s
        → (held t).values ≡ map plain_value (values_of object) → SeenTied w object s
        → OwnTied w R p ticks (New s c) (answer.Made (length objects)) (objects ++ object ∷ [])
    makes object t s c like values sees = record {
      answer = A.answer;
      sight = now_sight;
      wider = wide;
      paths = refl;
      replies = A.replies;
      like = same_answer A.like (ap (λ n. Named n) (sym many ∙ T.holds.many));
      heap = record {
        store = after (New t c) Ticked;
        holds = A.holds;
        values = map_append (λ h. h.values) T.store.heap (held t ∷ []) ∙ ap (λ l. l ++ (held t).values ∷ []) T.values ∙ ap (λ vs. values_in objects ++ vs ∷ []) values
            ∙ sym (map_append (λ o. map plain_value (values_of o)) objects (object ∷ []));
        shown = shown_now;
      };
    }
      where
        A : Answered Q R w.names ticks Ticked p (New t c) (New s c)
        A = own_step Q ticked p (elided.new_like c like)

        now_sight : Sight
        now_sight = record { names = A.names; paths = w.paths }

        wide : Wider w now_sight
        wide = record { names = A.later; paths = λ k p h. h }

        event : Event
        event = record { path = p; ticks = ticks; act = Do (New s c); ans = A.answer }

        name : Name
        name = record { maker = p; count = length (made Q R p) }

        answer_is : Named name ≡ A.answer
        answer_is = (let is : Some (Named name) ≡ Some A.answer = A.replies in cc)

        placed : slice_get A.names (length T.store.heap) ≡ Some name
        placed = named_at (subst (λ a. elided.AnswerLike A.names (Named (length T.store.heap)) a) (sym answer_is) A.like)

        shown_now : (n : ℕ) (x : Name) (o : Object) → slice_get A.names n ≡ Some x → slice_get (objects ++ object ∷ []) n ≡ Some o → Shown now_sight (event ∷ R) o x
        shown_now n x o a b = ⊎_elim old new (last_cases objects object o n b)
          where
            old : slice_get objects n ≡ Some o → Shown now_sight (event ∷ R) o x
            old h =
                let l = slice_get_within objects n o h in
                let m = many in
                let y : slice_get w.names n ≡ Some (slice_index_or w.names n name) = slice_get-get_or w.names n name (omega (arith, l, m)) in
                let same : slice_index_or w.names n name ≡ x = same_some (name_later n (slice_index_or w.names n name) A.later y) a in
                subst (λ x. Shown now_sight (event ∷ R) o x) same (shown_later event wide (T.shown n (slice_index_or w.names n name) o y h))

            new : (n ≡ length objects) × (object ≡ o) → Shown now_sight (event ∷ R) o x
            new h =
                let same : name ≡ x = same_some placed (subst (λ k. slice_get A.names k ≡ Some x) (h.0 ∙ sym many ∙ T.holds.many) a) in
                subst (λ x. Shown now_sight (event ∷ R) o x) same (subst (λ o. Shown now_sight (event ∷ R) o name) h.1
                (record { thing = s; is_thing = made_now event s refl refl; seen = seen_later object s wide sees }))
