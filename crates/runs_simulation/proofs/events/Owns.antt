-- What a task does by itself, in a machine and in the run: one clause an action.
use Rattle.std.proofs.Common.{◌≡◌, ℕ, zero, suc, ◌+◌, ℤ, Bool, true, false, cond, List, [], ◌∷◌, map, length, refl, sym, ap, ap₂, ◌∙◌, Option, arith, nat_lt, pos, negsuc}
use Rattle.std.specs.Prelude.{replicate}
use Rattle.std.proofs.lemmas.List.{length-map}
use Rattle.lang_base.specs.declared.effect.Effect.{Effect}
use Rattle.lang_base.specs.declared.outcome.Limits.{Limits}
use Rattle.lang_base.specs.declared.value.Value.{Value as Constant}
use Rattle.lang_typed.specs.Plain.{PlainProgram}
use Rattle.lang_meaning.specs.Values.{Part, Any_index, Region, An_object, An_array}
use Rattle.lang_meaning.specs.Costs.{own_cells, own_steps}
use Rattle.lang_meaning.specs.Elision.{LocalRegion as Counted}
use Rattle.code_instrs.specs.Machine.{held_first}
use Rattle.code_instrs.specs.Plain.{PlainCode, plain_code, class_at, fields_of}
use Rattle.code_instrs.specs.declared.code.Code.{Code}
use Rattle.runs_theory.specs.Actions.{Own, Rule}
use Rattle.runs_theory.specs.Objects.{Path, LocalRegion}
use Rattle.runs_theory.specs.Runs.{Run}
use Rattle.exec_heap.specs.Heap.{instance, array, Contents, object_at, values_of}
use Rattle.exec_heap.specs.Heap.{written as contents_written}
use Rattle.exec_frames.specs.Names.{plain_value}
use Rattle.exec_task.specs.Tasks.{plain_own}
use Rattle.exec_task.specs.declared.action.Action.TheVariants as action
use Rattle.exec_task.specs.declared.action.Own.{Own as DeclaredOwn}
use Rattle.exec_task.specs.declared.action.Own.TheVariants as own
use Rattle.exec_tasks.specs.Tree.{printed_task}
use Rattle.exec_world.specs.Costs.{first_fields}
use Rattle.exec_world.specs.World.{own_acted, own_answer, world_after, written_at}
use Rattle.exec_world.specs.declared.world.World.{World}
use Rattle.exec_machine.specs.Replay.{Moment, NextOf, after}
use Rattle.runs_elision.proofs.Worlds as elided
use Rattle.runs_elision.proofs.Memory.{values_length}
use Rattle.runs_simulation.proofs.alike.Sights.{Sight, an_object, an_array, OwnLike, rest_like, read_like, write_like, look_like, new_like, print_like, enter_like, exit_like}
use Rattle.runs_simulation.proofs.tied.Heaps.{OwnTied, went, reads, writes, looks, makes}
use Rattle.runs_simulation.proofs.tied.Ties.{Q, Tied}
use Rattle.runs_simulation.proofs.tied.Trees.{changed_own, changed_other}
use Rattle.runs_simulation.proofs.events.Acting.{RightFor, bytes_of, found, event_of, Matched, OwnCosts, SameLive, same_live, own_next}

-- a world that counts local regions keeps the lengths of regions alone
any_part : Part LocalRegion → Part Counted
any_part p = Any_index

counted : List (Region LocalRegion) → List (Region Counted)
counted qs = map (λ q. map any_part q) qs

counted_lengths : (qs : List (Region LocalRegion)) → map length (counted qs) ≡ map length qs
unfolding counted
counted_lengths [] = refl
counted_lengths (q ∷ qs) = ap₂ (λ n ns. n ∷ ns) (length-map q any_part) (counted_lengths qs)

pub length_replicate : {A : Type 0} (n : ℕ) (x : A) → length (replicate n x) ≡ n
length_replicate zero x = refl
length_replicate (suc n) x = ap (λ k. suc k) (length_replicate n x)

map_repeated : (n : ℕ) (x : Constant) → map plain_value (replicate n x) ≡ replicate n (plain_value x)
map_repeated zero x = refl
map_repeated (suc n) x = ap (λ l. plain_value x ∷ l) (map_repeated n x)

-- a write keeps the cells and their limit
pub write_used : (heap : Contents) (n : ℕ) (j : ℤ) (v : Constant) → (written_at heap n j v).used ≡ heap.used
write_used heap n (negsuc l) v = refl
write_used heap n (pos l) v = at (nat_lt l (length (values_of (object_at heap n))))
  where
    at : (b : Bool) → (cond b (contents_written heap n l v) heap).used ≡ heap.used
    at true = refl
    at false = refl

write_limit : (heap : Contents) (n : ℕ) (j : ℤ) (v : Constant) → (written_at heap n j v).limit ≡ heap.limit
write_limit heap n (negsuc l) v = refl
write_limit heap n (pos l) v = at (nat_lt l (length (values_of (object_at heap n))))
  where
    at : (b : Bool) → (cond b (contents_written heap n l v) heap).limit ≡ heap.limit
    at true = refl
    at false = refl

-- the first values of the fields of a class, as both see them
abbrev pub FieldsFor : Code → Type 0
FieldsFor code = (c : ℕ) → map plain_value (first_fields code c) ≡ map held_first (fields_of (class_at (plain_code code) c))

module _ (code : Code) (P : PlainProgram) (arg : ℤ) (rule : Rule) (L : Limits) (right : RightFor (plain_code code) P) (fields : FieldsFor code) where
  abbrev C : PlainCode
  C = plain_code code

  few_fields : (c : ℕ) → length (first_fields code c) ≡ length (map (held_first {N = ℕ}) (fields_of (class_at C c)))
  few_fields c = sym (length-map (first_fields code c) plain_value) ∙ ap length (fields c)

  module _ {m : Moment} {w : Sight} {R : Run} (T : Tied P arg rule C L m w R) (k ticks : ℕ) (wants : Option (List Effect)) where
    own_does : (o : DeclaredOwn) (p : Path) (q : Own) → OwnLike w (plain_own C o) q
        → OwnTied (Q P arg rule C) w R p ticks q (own_answer m.world o) (own_acted code m.world k wants o).heap.objects
    own_does own.Rest p q rest_like = went (Q P arg rule C) T.heap p ticks elided.rest_like refl refl
    own_does (own.Read i j) p q (read_like i' y j' e) = reads (Q P arg rule C) T.heap p ticks i y j m.world.heap refl e
    own_does (own.Write i j v) p q (write_like i' y j' e l) = writes (Q P arg rule C) T.heap p ticks i y j v m.world.heap refl e l
    own_does (own.Look i) p q (look_like i' y e) = looks (Q P arg rule C) T.heap p ticks i y m.world.heap refl e
    own_does (own.NewObject c rs constructor) p q (new_like k' (an_object c' {qs = qs} {us = us} r v)) =
        makes (Q P arg rule C) T.heap p ticks (instance c rs (first_fields code c)) (An_object c (counted qs) (map held_first (fields_of (class_at C c)))) (An_object c qs us)
        constructor (elided.an_object_like c (record { lengths = counted_lengths qs }) v) (sym (fields c)) (refl, r)
    own_does (own.NewArray region len first) p q (new_like k' (an_array {q = r} len' {u = u} l v)) =
        makes (Q P arg rule C) T.heap p ticks (array region (replicate len first)) (An_array [] len (plain_value first)) (An_array r len u) false
        (elided.an_array_like len v) (sym (map_repeated len first)) (length_replicate len first)
    own_does (own.Print bytes) p q (print_like b) = went (Q P arg rule C) T.heap p ticks (elided.print_like bytes) refl refl
    own_does (own.Enter effects) p q (enter_like {F = F} l) = went (Q P arg rule C) T.heap p ticks (elided.enter_like [] F) refl refl
    own_does own.Exit p q exit_like = went (Q P arg rule C) T.heap p ticks elided.exit_like refl refl

    abbrev next_world : DeclaredOwn → World
    next_world o = world_after code m.world (event_of k ticks wants (action.Do o))

    -- it keeps the heap's limit, and uses as many cells as it costs
    costs_of : (n : World) (q : Own) → n.steps ≡ m.world.steps + (ticks + own_steps q) → n.heap.used ≡ m.world.heap.used + own_cells q
        → n.most_steps ≡ m.world.most_steps → n.heap.limit ≡ m.world.heap.limit → OwnCosts code P arg rule L right m.world n ticks q
    costs_of n q steps used most limit = record { steps = steps; cells = used; most_steps = most; most_cells = limit }

    own_costs : (o : DeclaredOwn) (q : Own) → OwnLike w (plain_own C o) q → OwnCosts code P arg rule L right m.world (next_world o) ticks q
    own_costs own.Rest q rest_like = costs_of (next_world own.Rest) _ refl (omega arith) refl refl
    own_costs (own.Read i j) q (read_like i' y j' e) = costs_of (next_world (own.Read i j)) _ refl (omega arith) refl refl
    own_costs (own.Write i j v) q (write_like i' y j' e l) =
        costs_of (next_world (own.Write i j v)) _ refl (let u = write_used m.world.heap i j v in omega (arith, u)) refl (write_limit m.world.heap i j v)
    own_costs (own.Look i) q (look_like i' y e) = costs_of (next_world (own.Look i)) _ refl (omega arith) refl refl
    own_costs (own.NewObject c rs true) q (new_like k' (an_object c' r v)) =
        costs_of (next_world (own.NewObject c rs true)) _ refl (let f = few_fields c in let g = values_length v in omega (arith, f, g)) refl refl
    own_costs (own.NewObject c rs false) q (new_like k' (an_object c' r v)) =
        costs_of (next_world (own.NewObject c rs false)) _ refl (let f = few_fields c in let g = values_length v in omega (arith, f, g)) refl refl
    own_costs (own.NewArray region len first) q (new_like k' (an_array len' a v)) =
        costs_of (next_world (own.NewArray region len first)) _ refl (let g = length_replicate len first in omega (arith, g)) refl refl
    own_costs (own.Print bytes) q (print_like b) = costs_of (next_world (own.Print bytes)) _ refl refl refl refl
    own_costs (own.Enter effects) q (enter_like l) = costs_of (next_world (own.Enter effects)) _ refl (omega arith) refl refl
    own_costs own.Exit q exit_like = costs_of (next_world own.Exit) _ refl (omega arith) refl refl

    own_begins : (o : DeclaredOwn) → (own_acted code m.world k wants o).tree.begun ≡ m.world.tree.begun
    own_begins (own.Print bytes) = refl
    own_begins o = refl

    own_live : (o : DeclaredOwn) → NextOf C m k (event_of k ticks wants (action.Do o))
        → SameLive code P arg rule L right m.world.tree.tasks (own_acted code m.world k wants o).tree.tasks k (bytes_of (plain_own C o))
    own_live (own.Print bytes) x = record {
      others = λ j apart. changed_other m.world.tree.tasks k (printed_task bytes) j (found code P arg rule L right T k ticks wants (action.Do (own.Print bytes)) x).1 apart;
      itself = λ y e. (printed_task bytes y, changed_own m.world.tree.tasks k (printed_task bytes) e, refl, refl, refl);
    }
    own_live o x = same_live code P arg rule L right m.world.tree.tasks k

    pub does_next : (o : DeclaredOwn) (x : NextOf C m k (event_of k ticks wants (action.Do o)))
        → Matched code P arg rule L right m (event_of k ticks wants (action.Do o)) w R k (after code m (event_of k ticks wants (action.Do o)) x.stands.state x.stands.made)
    does_next o x = own_next code P arg rule L right T k ticks wants o x (own_does o) (own_costs o) (own_begins o) (own_live o x)
