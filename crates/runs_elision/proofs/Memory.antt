-- What the elision keeps in its heap, and has printed and spent, is what the events of the run so far say.
use Rattle.std.proofs.Common.{◌≡◌, ℕ, suc, ◌+◌, ℤ, pos, negsuc, List, [], ◌∷◌, ◌++◌, length}
use Rattle.std.proofs.Common.{refl, sym, ap, ◌∙◌, subst, Option, Some, None, slice_get}
use Rattle.lang_base.specs.declared.place.Place.{Place}
use Rattle.lang_base.specs.declared.value.Trap.{Trap}
use Rattle.lang_meaning.specs.Values.{Value as ValueOver, Thing as ThingOver}
use Rattle.lang_meaning.specs.Elision.{LocalRegion as Counted, Held, Heap, Store, at_index}
use Rattle.lang_meaning.specs.Elision.{seen as elided_seen}
use Rattle.runs_theory.specs.Actions.{Action, Answer, Class, Fell, Got, Joined, Length, Named, Out}
use Rattle.runs_theory.specs.Actions.{Program, Went}
use Rattle.runs_theory.specs.Objects.{Cell, Name, Thing, Value, first_value, or_else, size, slot_of}
use Rattle.runs_theory.specs.Order.{printed, printed_by, trapped}
use Rattle.runs_theory.specs.Runs.{Event, Run, cells_of, event_steps, first_some, last_written, later, made_by, now}
use Rattle.runs_theory.specs.Runs.{read_at, seen, thing_of, total, unless_out, value_in, wrote_at, written_by}
use Rattle.runs_theory.proofs.events.Cells.{last_step}
use Rattle.runs_theory.proofs.events.Things.{thing_later}
use Rattle.runs_elision.proofs.Worlds.{Names, Distinct, Later, still_there, value_later, ValuesLike, no_values, more_values}
use Rattle.runs_elision.proofs.Worlds.{thing_later as thing_like_later, ThingLike, an_object_like, an_array_like}
use Rattle.runs_elision.proofs.Worlds.{AnswerLike, went_like, got_like, out_like, class_like, length_like}
use Rattle.runs_elision.proofs.Counts.{MaybeLike, none_like, some_like}

abbrev pub ThingIn : Type 0
ThingIn = ThingOver ℕ Counted

abbrev pub ValueIn : Type 0
ValueIn = ValueOver ℕ

pub maybe_later : {ns ms : Names} {o : Option ValueIn} {r : Option Value} → Later ns ms → MaybeLike ns o r → MaybeLike ms o r
maybe_later l none_like = none_like
maybe_later l (some_like h) = some_like (value_later l h)

pub values_length : {ns : Names} {vs : List ValueIn} {us : List Value} → ValuesLike ns vs us → length vs ≡ length us
values_length no_values = refl
values_length (more_values h k) = ap (λ n. suc n) (values_length k)

pub size_like : {ns : Names} {t : ThingIn} {s : Thing} → ThingLike ns t s → size t ≡ size s
size_like (an_object_like c r v) = values_length v
size_like (an_array_like len v) = refl

-- the value in a cell of a thing, where there is such a cell
abbrev pub cell_value : Run → Thing → Name → Option ℕ → Option Value
cell_value R t x None = None
cell_value R t x (Some slot) = Some (value_in R t (record { object = x; slot = slot }))

-- what the heap holds at a number is what has its name in the run, with the values that were last written
pub record Stands (P : Program) (R : Run) (ns : Names) (heap : Heap) (n : ℕ) (x : Name) : Type 0 where
  pub held : Held
  pub is_held : slice_get heap n ≡ Some held
  pub thing : Thing
  pub is_thing : thing_of P R x ≡ Some thing
  pub like : ThingLike ns held.thing thing
  pub values : (k : ℕ) → MaybeLike ns (slice_get held.values k) (cell_value R thing x (slot_of (pos k) (size thing)))

pub record Holds (P : Program) (R : Run) (ns : Names) (since : ℕ) (w : Store) : Type 0 where
  pub many : length ns ≡ length w.heap
  pub distinct : Distinct ns
  pub there : (n : ℕ) (x : Name) → slice_get ns n ≡ Some x → Stands P R ns w.heap n x
  pub unwritten : (c : Cell) → thing_of P R c.object ≡ None → last_written R c ≡ None
  pub output : w.output ≡ printed R
  pub trap : w.trap ≡ trapped R
  pub steps : w.steps ≡ suc (total event_steps R + since)
  pub cells : w.cells ≡ cells_of P R

-- an event that writes nothing and makes nothing
pub record Quiet (a : Action) : Type 0 where
  pub writes : (c : Cell) → written_by c a ≡ None
  pub makes : made_by a ≡ []
  pub prints : (o : Option (Trap × Place)) → printed_by a o ≡ []

pub unless_none : (a : Answer) → unless_out {A = Value} a None ≡ None
unless_none Out = refl
unless_none Went = refl
unless_none (Got v) = refl
unless_none (Class k rs) = refl
unless_none (Length n) = refl
unless_none (Named n) = refl
unless_none (Joined ls) = refl
unless_none (Fell t p) = refl

pub last_quiet : (e : Event) (R : Run) (c : Cell) → written_by c e.act ≡ None → last_written (e ∷ R) c ≡ last_written R c
last_quiet e R c h = last_step e R c ∙ ap (λ o. first_some (unless_out e.ans o) (last_written R c)) h
    ∙ ap (λ o. first_some o (last_written R c)) (unless_none e.ans)

pub cell_same : (e : Event) (R : Run) (t : Thing) (x : Name) (s : Option ℕ)
    → ((slot : ℕ) → last_written (e ∷ R) (record { object = x; slot = slot }) ≡ last_written R (record { object = x; slot = slot }))
    → cell_value R t x s ≡ cell_value (e ∷ R) t x s
cell_same e R t x None h = refl
cell_same e R t x (Some slot) h = ap (λ o. Some (or_else o (first_value t slot))) (sym (h slot))

-- what has a name has it after one more event
module _ (P : Program) where
  abbrev later_thing : (e : Event) (R : Run) (x : Name) (t : Thing) → thing_of P R x ≡ Some t → thing_of P (e ∷ R) x ≡ Some t
  later_thing e R x t h = thing_later P x t (later now) h

  pub still_none : (e : Event) (R : Run) (x : Name) → thing_of P (e ∷ R) x ≡ None → thing_of P R x ≡ None
  still_none e R x h = go (thing_of P R x) refl
    where
      go : (o : Option Thing) → thing_of P R x ≡ o → thing_of P R x ≡ None
      go None k = k
      go (Some t) k = absurd (let z : None ≡ Some t = sym h ∙ later_thing e R x t k in cc)

  pub stands_quiet : {R : Run} {ns : Names} {heap : Heap} {n : ℕ} {x : Name} (e : Event) → ((c : Cell) → written_by c e.act ≡ None)
      → Stands P R ns heap n x → Stands P (e ∷ R) ns heap n x
  stands_quiet {R} {ns} {heap} {n} {x} e q h = record {
    held = h.held;
    is_held = h.is_held;
    thing = h.thing;
    is_thing = later_thing e R x h.thing h.is_thing;
    like = h.like;
    values = λ k. subst (λ (r : Option Value). MaybeLike ns (slice_get h.held.values k) r)
        (cell_same e R h.thing x (slot_of (pos k) (size h.thing)) (λ slot. last_quiet e R (record { object = x; slot = slot }) (q
        (record { object = x; slot = slot }))))
        (h.values k);
  }

  pub stands_later : {R : Run} {ns ms : Names} {heap : Heap} {n : ℕ} {x : Name} (more : Heap) → Later ns ms → Stands P R ns heap n x
      → Stands P R ms (heap ++ more) n x
  stands_later {heap = heap} {n = n} more l h = record {
    held = h.held;
    is_held = still_there heap more n h.held h.is_held;
    thing = h.thing;
    is_thing = h.is_thing;
    like = thing_like_later l h.like;
    values = λ k. maybe_later l (h.values k);
  }

-- answers to accesses
pub read_answer : {ns : Names} (R : Run) (t : Thing) (x : Name) (o : Option ValueIn) (s : Option ℕ) → MaybeLike ns o (cell_value R t x s)
    → AnswerLike ns (elim o [ None ↦ Out | Some v ↦ Got v ]) (read_at R t x s)
read_answer R t x None None h = out_like
read_answer {ns} R t x None (Some k) h = absurd (none_some h)
  where
    none_some : {v : Value} → MaybeLike ns None (Some v) → ⊥
    none_some h = elim h [ ]
read_answer {ns} R t x (Some v) None h = absurd (some_none h)
  where
    some_none : {v : ValueIn} → MaybeLike ns (Some v) None → ⊥
    some_none h = elim h [ ]
read_answer R t x (Some v) (Some k) (some_like h) = got_like h

pub write_answer : {ns : Names} (R : Run) (t : Thing) (x : Name) (o : Option ValueIn) (s : Option ℕ) → MaybeLike ns o (cell_value R t x s)
    → AnswerLike ns (elim o [ None ↦ Out | Some v ↦ Went ]) (wrote_at s)
write_answer R t x None None h = out_like
write_answer {ns} R t x None (Some k) h = absurd (none_some h)
  where
    none_some : {v : Value} → MaybeLike ns None (Some v) → ⊥
    none_some h = elim h [ ]
write_answer {ns} R t x (Some v) None h = absurd (some_none h)
  where
    some_none : {v : ValueIn} → MaybeLike ns (Some v) None → ⊥
    some_none h = elim h [ ]
write_answer R t x (Some v) (Some k) h = went_like

pub seen_answer : {ns : Names} {t : ThingIn} {s : Thing} → ThingLike ns t s → AnswerLike ns (elided_seen t) (seen s)
seen_answer (an_object_like c r v) = class_like c r
seen_answer (an_array_like len v) = length_like len

-- at an index of a held thing
pub at_cell : {P : Program} {R : Run} {ns : Names} {heap : Heap} {n : ℕ} {x : Name} (h : Stands P R ns heap n x) (i : ℤ)
    → MaybeLike ns (at_index h.held.values i) (cell_value R h.thing x (slot_of i (size h.thing)))
at_cell h (pos k) = h.values k
at_cell h (negsuc k) = none_like
