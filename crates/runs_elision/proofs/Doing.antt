-- What the elision answers to what a task does, and keeps then, is what the run does.
use Rattle.std.proofs.Common.{◌≡◌, ℕ, suc, ◌+◌, true, false, [], ◌∷◌, ◌++◌, length}
use Rattle.std.proofs.Common.{refl, sym, ap, ◌∙◌, subst, arith, Option, Some, None, slice_get, append-nil, length-append}
use Rattle.std.specs.Prelude.{slice_set}
use Rattle.lang_base.specs.declared.place.Place.{Place}
use Rattle.lang_base.specs.declared.value.Trap.{Trap}
use Rattle.lang_meaning.specs.Actions.{Own as OwnOver, Answer as AnswerOver}
use Rattle.lang_meaning.specs.Elision.{LocalRegion as Counted, Held, held, Heap, Store, set_at, read_of, write_of, answer as elided_answer}
use Rattle.lang_meaning.specs.Elision.{written as heap_written}
use Rattle.lang_meaning.specs.Elision.{heap_after, after, printed as elided_printed, look_of}
use Rattle.runs_theory.specs.Actions.{Answer, Do, Named, Own}
use Rattle.runs_theory.specs.Actions.{Program, Went, Write, steps, cells, own_steps, own_cells}
use Rattle.runs_theory.specs.Objects.{Cell, Name, Path, size, slot_of}
use Rattle.runs_theory.specs.Order.{printed, printed_by, trap_in, trapped}
use Rattle.runs_theory.specs.Runs.{Event, Run, answered_by, event_cells, event_steps, last_written}
use Rattle.runs_theory.specs.Runs.{read_at, reply, seen, thing_of, wrote_at, written_by}
use Rattle.runs_theory.proofs.events.Cost.{total_step}
use Rattle.runs_elision.proofs.Worlds.{Names, Distinct, Later, later_none}
use Rattle.runs_elision.proofs.Worlds.{OwnLike, rest_like, read_like, write_like, look_like}
use Rattle.runs_elision.proofs.Worlds.{new_like, print_like, enter_like, exit_like, AnswerLike, went_like, named_like}
use Rattle.runs_elision.proofs.Memory.{Stands, Holds, size_like, last_quiet, still_none, stands_quiet, read_answer, write_answer, seen_answer, at_cell}
use Rattle.runs_elision.proofs.Writes.{set_length, last_there, stands_written, unwritten_still}
use Rattle.runs_elision.proofs.NewThings.{name, newly, names_now, now_later, distinct_now, there_now}

-- printing
prints_like : {ns : Names} {o : OwnOver ℕ Counted} {q : Own} → OwnLike ns o q → (f : Option (Trap × Place)) → elided_printed o f ≡ printed_by (Do q) f
prints_like rest_like None = refl
prints_like rest_like (Some f) = refl
prints_like (read_like n x i h) None = refl
prints_like (read_like n x i h) (Some f) = refl
prints_like (write_like n x i h k) None = refl
prints_like (write_like n x i h k) (Some f) = refl
prints_like (look_like n x h) None = refl
prints_like (look_like n x h) (Some f) = refl
prints_like (new_like c h) None = refl
prints_like (new_like c h) (Some f) = refl
prints_like (print_like bytes) None = refl
prints_like (print_like bytes) (Some f) = refl
prints_like (enter_like E F) None = refl
prints_like (enter_like E F) (Some f) = refl
prints_like exit_like None = refl
prints_like exit_like (Some f) = refl

steps_like : {ns : Names} {o : OwnOver ℕ Counted} {q : Own} → OwnLike ns o q → own_steps o ≡ own_steps q
steps_like rest_like = refl
steps_like (read_like n x i h) = refl
steps_like (write_like n x i h k) = refl
steps_like (look_like n x h) = refl
steps_like (new_like true h) = refl
steps_like (new_like false h) = refl
steps_like (print_like bytes) = refl
steps_like (enter_like E F) = refl
steps_like exit_like = refl

cells_like : {ns : Names} {o : OwnOver ℕ Counted} {q : Own} → OwnLike ns o q → own_cells o ≡ own_cells q
cells_like rest_like = refl
cells_like (read_like n x i h) = refl
cells_like (write_like n x i h k) = refl
cells_like (look_like n x h) = refl
cells_like (new_like c h) = ap (λ n. suc n) (size_like h)
cells_like (print_like bytes) = refl
cells_like (enter_like E F) = refl
cells_like exit_like = refl

printed_step : (e : Event) (R : Run) → printed (e ∷ R) ≡ printed R ++ printed_by e.act (trapped R)
unfolding printed
printed_step e R = refl

trapped_step : (e : Event) (R : Run) → trapped (e ∷ R) ≡ trap_in e.act (trapped R)
unfolding trapped
trapped_step e R = refl

-- what the elision answers to an action, and keeps then, is what the run does
pub record Answered (P : Program) (R : Run) (ns : Names) (since : ℕ) (w : Store) (p : Path) (o : OwnOver ℕ Counted) (q : Own) : Type 0 where
  pub answer : Answer
  pub names : Names
  pub later : Later ns names
  pub replies : reply P R p q ≡ Some answer
  pub like : AnswerLike names (elided_answer w.heap o) answer
  pub holds : Holds P (record { path = p; ticks = since; act = Do q; ans = answer } ∷ R) names 0 (after o w)

module _ (P : Program) {R : Run} {ns : Names} {since : ℕ} {w : Store} (h : Holds P R ns since w) (p : Path) where
  -- where nothing is written or made
  abbrev event : Own → Answer → Event
  event q a = record { path = p; ticks = since; act = Do q; ans = a }

  holds_own : {o : OwnOver ℕ Counted} {q : Own} (ms : Names) → OwnLike ns o q → (a : Answer) → length ms ≡ length (heap_after o w.heap) → Distinct ms
      → ((n : ℕ) (x : Name) → slice_get ms n ≡ Some x → Stands P (event q a ∷ R) ms (heap_after o w.heap) n x)
      → ((c : Cell) → thing_of P (event q a ∷ R) c.object ≡ None → last_written (event q a ∷ R) c ≡ None) → Holds P (event q a ∷ R) ms 0 (after o w)
  holds_own {o} {q} ms like a many d there unwritten = record {
    many = many;
    distinct = d;
    there = there;
    unwritten = unwritten;
    output = (λ z. h.output z ++ elided_printed o (h.trap z)) ∙ ap (λ l. printed R ++ l) (prints_like like (trapped R)) ∙ sym (printed_step (event q a) R);
    trap = h.trap ∙ sym (trapped_step (event q a) R);
    steps = (let x = h.steps in let y = steps_like like in let z = total_step event_steps (event q a) R in omega arith);
    cells = (let x = h.cells in let y = cells_like like in let z = total_step event_cells (event q a) R in omega arith);
  }

  holds_quiet : {o : OwnOver ℕ Counted} {q : Own} → OwnLike ns o q → (a : Answer) → heap_after o w.heap ≡ w.heap → ((c : Cell) → written_by c (Do q) ≡ None)
      → Holds P (event q a ∷ R) ns 0 (after o w)
  holds_quiet {o} {q} like a e n =
      holds_own ns like a (h.many ∙ ap length (sym e)) h.distinct
      (λ m x b. subst (λ (l : Heap). Stands P (event q a ∷ R) ns l m x) (sym e) (stands_quiet P (event q a) n (h.there m x b)))
      (λ c b. last_quiet (event q a) R c (n c) ∙ h.unwritten c (still_none P (event q a) R c.object b))

  -- an action that changes nothing and is answered by itself
  went_step : {o : OwnOver ℕ Counted} {q : Own} → OwnLike ns o q → heap_after o w.heap ≡ w.heap → ((c : Cell) → written_by c (Do q) ≡ None)
      → (elided_answer w.heap o ≡ Went) × (reply P R p q ≡ Some Went) → Answered P R ns since w p o q
  went_step {o} like e n a = record {
    answer = Went;
    names = ns;
    later = later_none h.distinct;
    replies = a.1;
    like = subst (λ (x : AnswerOver ℕ Counted). AnswerLike ns x Went) (sym a.0) went_like;
    holds = holds_quiet like Went e n;
  }

  pub own_step : {o : OwnOver ℕ Counted} {q : Own} → OwnLike ns o q → Answered P R ns since w p o q
  own_step rest_like = went_step rest_like refl (λ c. refl) (refl, refl)
  own_step (print_like bytes) = went_step (print_like bytes) refl (λ c. refl) (refl, refl)
  own_step (enter_like E F) = went_step (enter_like E F) refl (λ c. refl) (refl, refl)
  own_step exit_like = went_step exit_like refl (λ c. refl) (refl, refl)
  own_step (read_like n x i e) =
      let g = h.there n x e in
      record {
        answer = read_at R g.thing x (slot_of i (size g.thing));
        names = ns;
        later = later_none h.distinct;
        replies = ap (λ o. answered_by o (λ t. read_at R t x (slot_of i (size t)))) g.is_thing;
        like = subst (λ (o : Option Held). AnswerLike ns (read_of o i) (read_at R g.thing x (slot_of i (size g.thing)))) (sym g.is_held)
            (read_answer R g.thing x _ _ (at_cell g i));
        holds = holds_quiet (read_like n x i e) _ refl (λ c. refl);
      }
  own_step (look_like n x e) =
      let g = h.there n x e in
      record {
        answer = seen g.thing;
        names = ns;
        later = later_none h.distinct;
        replies = ap (λ o. answered_by o seen) g.is_thing;
        like = subst (λ (o : Option Held). AnswerLike ns (look_of o) (seen g.thing)) (sym g.is_held) (seen_answer g.like);
        holds = holds_quiet (look_like n x e) _ refl (λ c. refl);
      }
  own_step (write_like n x i {v} {u} e k) =
      let g = h.there n x e in
      let heap : heap_after (Write n i v) w.heap ≡ slice_set w.heap n (record g.held { values = set_at g.held.values i v }) = ap
      (λ o. heap_written w.heap n o i v) g.is_held in
      record {
        answer = wrote_at (slot_of i (size g.thing));
        names = ns;
        later = later_none h.distinct;
        replies = ap (λ o. answered_by o (λ t. wrote_at (slot_of i (size t)))) g.is_thing;
        like = subst (λ (o : Option Held). AnswerLike ns (write_of o i) (wrote_at (slot_of i (size g.thing)))) (sym g.is_held)
            (write_answer R g.thing x _ _ (at_cell g i));
        holds = holds_own ns (write_like n x i e k) _ (h.many ∙ sym (ap length heap ∙ set_length w.heap n _)) h.distinct
            (λ m y b. subst (λ (l : Heap). Stands P (event (Write x i u) (wrote_at (slot_of i (size g.thing))) ∷ R) ns l m y) (sym heap)
            (stands_written P h.distinct e g i k p since m y b (h.there m y b)))
            (unwritten_still P h.distinct e g i k p since h.unwritten);
      }
  own_step (new_like {t} {s} c k) =
      record {
        answer = Named (name P h p c k since);
        names = names_now P h p c k since;
        later = now_later P h p c k since;
        replies = refl;
        like = subst (λ (m : ℕ). AnswerLike (names_now P h p c k since) (Named m) (Named (name P h p c k since))) h.many
            (named_like (length ns) (name P h p c k since) (last_there ns (name P h p c k since)));
        holds = holds_own (names_now P h p c k since) (new_like c k) _
            (omega (arith, length-append ns (name P h p c k since ∷ []), length-append w.heap (held t ∷ []), h.many)) (distinct_now P h p c k since)
            (there_now P h p c k since)
            (λ z b. last_quiet (newly P h p c k since) R z refl ∙ h.unwritten z (still_none P (newly P h p c k since) R z.object b));
      }

  -- an event of which the heap knows nothing
  module _ (e : Event) (ticks : e.ticks ≡ since) (writes : (c : Cell) → written_by c e.act ≡ None) (prints : (f : Option (Trap × Place))
      → printed_by e.act f ≡ [])
      (free : cells e.act ≡ 0) where
    pub structure_step : (v : Store) → v.heap ≡ w.heap → v.output ≡ w.output → v.trap ≡ trap_in e.act w.trap → v.cells ≡ w.cells
        → v.steps ≡ w.steps + steps e.act → Holds P (e ∷ R) ns 0 v
    structure_step v heap output trap cells steps = record {
      many = h.many ∙ ap length (sym heap);
      distinct = h.distinct;
      there = λ n x a. subst (λ (l : Heap). Stands P (e ∷ R) ns l n x) (sym heap) (stands_quiet P e writes (h.there n x a));
      unwritten = λ c a. last_quiet e R c (writes c) ∙ h.unwritten c (still_none P e R c.object a);
      output = output ∙ h.output ∙ sym (append-nil (printed R)) ∙ ap (λ l. printed R ++ l) (sym (prints (trapped R))) ∙ sym (printed_step e R);
      trap = trap ∙ ap (λ f. trap_in e.act f) h.trap ∙ sym (trapped_step e R);
      steps = (let x = h.steps in let z = total_step event_steps e R in omega arith);
      cells = (let x = h.cells in let z = total_step event_cells e R in omega arith);
    }

  -- a tick without an event
  pub tick_step : (v : Store) → v.heap ≡ w.heap → v.output ≡ w.output → v.trap ≡ w.trap → v.cells ≡ w.cells → v.steps ≡ suc w.steps → Holds P R ns (suc since) v
  tick_step v heap output trap cells steps = record {
    many = h.many ∙ ap length (sym heap);
    distinct = h.distinct;
    there = λ n x a. subst (λ (l : Heap). Stands P R ns l n x) (sym heap) (h.there n x a);
    unwritten = h.unwritten;
    output = output ∙ h.output;
    trap = trap ∙ h.trap;
    steps = (let x = h.steps in omega arith);
    cells = cells ∙ h.cells;
  }
