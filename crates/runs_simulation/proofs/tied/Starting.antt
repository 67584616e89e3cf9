-- A machine at its start, and the run before its first event.
use Rattle.std.proofs.Common.{◌≡◌, inl, inr, ℕ, zero, suc, if◌then◌else◌, ℤ, Bool, true, false, List, [], ◌∷◌, map, length, refl, sym, ap, ap₂, ◌∙◌, subst, Option, Some, None, slice_get, arith, cond}
use Rattle.std.proofs.lemmas.Bool.Decides.{eqb_tells}
use Rattle.std.proofs.lemmas.List.{length-map}
use Rattle.std.specs.Option.{option_map_or}
use Rattle.std.specs.Cmp.{nat_cmp_total}
use Rattle.std.specs.FinMap.{empty, get, get-empty, get-insert}
use Rattle.std.specs.Ordering.{nat_cmp, eq_by_cmp}
use Rattle.lang_base.specs.Types.{PlainType}
use Rattle.lang_base.specs.Types.{PlainType as ty}
use Rattle.lang_base.specs.declared.outcome.Limits.{Limits}
use Rattle.lang_base.specs.FirstValues.{constant_of, first_value}
use Rattle.lang_typed.specs.Plain.{PlainProgram, PlainMember, PlainClass, PlainField}
use Rattle.lang_typed.specs.Resolved.{Resolved, HasMain}
use Rattle.lang_typed.specs.Scope.{member_at}
use Rattle.lang_meaning.specs.Elision.{at_start, enters_main, main_object, root_task}
use Rattle.lang_meaning.specs.Expressions.{entered, class_fields, first_of}
use Rattle.lang_meaning.specs.Regions.{unmade_from}
use Rattle.lang_meaning.specs.Counts.{padded}
use Rattle.lang_meaning.specs.Values.{Int, Object}
use Rattle.code_instrs.specs.Machine.{begins_at, held_first, root_start}
use Rattle.code_instrs.specs.Plain.{PlainCode, plain_code, plain_class, body_at, class_at, fields_of}
use Rattle.code_instrs.specs.declared.code.ClassCode.{ClassCode}
use Rattle.code_instrs.specs.declared.code.Code.{Code}
use Rattle.code_instrs.specs.declared.code.MethodCode.{MethodCode}
use Rattle.code_scheme.specs.Compiled.{Compiled}
use Rattle.code_scheme.specs.Scheme.{class_code}
use Rattle.code_scheme.specs.Stands.{MemberIs}
use Rattle.code_scheme.specs.Whole.{compiled, number_in}
use Rattle.code_scheme.proofs.Whole.{laid_out, members_are_compiled}
use Rattle.runs_theory.specs.Actions.{Rule}
use Rattle.runs_theory.specs.Objects.{Name, Path, size}
use Rattle.runs_simulation.proofs.tied.Segments.{Seg, seg_none}
use Rattle.runs_simulation.proofs.tied.Sorted.{printed_nil, trapped_nil}
use Rattle.runs_theory.specs.Runs.{answers, event_cells, event_steps, root, thing_of, things}
use Rattle.runs_theory.specs.Schedules.{Numbered, root_is}
use Rattle.runs_theory.proofs.events.Cost.{total_nil}
use Rattle.runs_theory.proofs.events.Mine.{mine_nil}
use Rattle.runs_theory.proofs.events.Numbers.{begins_nil}
use Rattle.runs_program.specs.Steps.{first_name, named_by, stepped}
use Rattle.exec_heap.specs.Heap.{instance, with_object}
use Rattle.exec_heap.specs.Heap.{Object as HeapObject}
use Rattle.exec_frames.specs.Names.{plain_value}
use Rattle.exec_task.specs.Names.{names_of}
use Rattle.exec_task.proofs.FirstValues.{all_held}
use Rattle.exec_tasks.specs.Tree.{Tasks, fresh, only_root}
use Rattle.exec_tasks.specs.declared.task.Task.{Task as Live}
use Rattle.exec_tasks.proofs.Numbers.{get_inserted, same_number}
use Rattle.exec_world.specs.Costs.{first_fields}
use Rattle.exec_world.specs.Costs.{fields_of as declared_fields}
use Rattle.exec_world.specs.World.{with_heap}
use Rattle.exec_world.specs.World.{at_start as world_at_start}
use Rattle.exec_machine.specs.Replay.{Moment, root_alone}
use Rattle.exec_machine.specs.Running.{at_start as running_at_start}
use Rattle.runs_elision.proofs.Memory.{Holds}
use Rattle.runs_elision.proofs.Theorems.{holds_first}
use Rattle.runs_elision.proofs.Worlds.{int_like, object_like, no_values, more_values}
use Rattle.runs_elision.proofs.Counts.{padded_like}
use Rattle.runs_simulation.proofs.alike.Sights.{Sight, each_none, on_like}
use Rattle.runs_simulation.proofs.alike.Readings.{unmade_from_like}
use Rattle.runs_simulation.proofs.alike.RunsToActions.{StandsAfter, at_first}
use Rattle.runs_simulation.proofs.tied.Heaps.{HeapTied, Shown}
use Rattle.runs_simulation.proofs.tied.Ties.{Q, LiveTied, NumbersTied, TaskTied, Tied}
use Rattle.runs_simulation.proofs.events.Owns.{FieldsFor}

-- the fields of a class in the code and in the program
fields_at : (members : List MethodCode) (ks : List ClassCode) (c : ℕ) → fields_of (slice_get (map (plain_class members) ks) c) ≡ declared_fields (slice_get ks c)
fields_at members [] c = refl
fields_at members (k ∷ ks) zero = refl
fields_at members (k ∷ ks) (suc c) = fields_at members ks c

first_is : (t : PlainType) → plain_value (constant_of (first_value t)) ≡ first_of t
first_is ty.int = refl
first_is ty.boolean = refl
first_is ty.void = refl
first_is ty.null = refl
first_is (ty.class c args) = refl
first_is (ty.array t a named) = refl

firsts_are : (fs : List PlainField) → map plain_value (map constant_of (map (λ f. first_value f.ty) fs)) ≡ map (λ f. first_of f.ty) fs
firsts_are [] = refl
firsts_are (f ∷ fs) = ap₂ (λ v vs. v ∷ vs) (first_is f.ty) (firsts_are fs)

class_first_of : (P : PlainProgram) (number : ℕ → ℕ) (c : ℕ)
    → map plain_value (map constant_of (fields_of (slice_get (map (class_code P number) P.classes) c))) ≡ map (λ f. first_of f.ty) (class_fields P c)
class_first_of P number c = go P.classes c
  where
    go : (ks : List PlainClass) (c : ℕ) → map plain_value (map constant_of (fields_of (slice_get (map (class_code P number) ks) c)))
        ≡ map (λ f. first_of f.ty) (option_map_or (λ k. k.fields) (slice_get ks c) [])
    go [] c = refl
    go (k ∷ ks) zero = firsts_are k.fields
    go (k ∷ ks) (suc c) = go ks c

main_class_of : (P : PlainProgram) → (compiled P).main_class ≡ P.main_class
unfolding compiled
main_class_of P = refl

main_body_of : (P : PlainProgram) → (compiled P).main_body ≡ number_in P P.main_member
unfolding compiled
main_body_of P = refl

module _ (code : Code) (P : PlainProgram) (is : plain_code code ≡ compiled P) where
  fields_same : (c : ℕ) → declared_fields (slice_get code.classes c) ≡ fields_of (class_at (compiled P) c)
  fields_same c = sym (fields_at code.members code.classes c) ∙ ap (λ (C : PlainCode). fields_of (class_at C c)) is

  classes_are : (compiled P).classes ≡ map (class_code P (number_in P)) P.classes
  classes_are = (laid_out P).classes

  pub fields_for : FieldsFor code
  fields_for c = all_held (declared_fields (slice_get code.classes c)) ∙ ap (map held_first) (sym (fields_at code.members code.classes c))

  main_is : code.main_class ≡ P.main_class
  main_is = ap (λ (C : PlainCode). C.main_class) is ∙ main_class_of P

  main_fields : map plain_value (first_fields code code.main_class) ≡ map (λ f. first_of f.ty) (class_fields P P.main_class)
  main_fields =
      ap (λ c. map plain_value (first_fields code c)) main_is
      ∙ ap (λ fs. map plain_value (map constant_of fs)) (fields_same P.main_class ∙ ap (λ ks. fields_of (slice_get ks P.main_class)) classes_are) ∙ class_first_of P (number_in P) P.main_class

abbrev no_tasks : Tasks
no_tasks = empty

-- `main` is compiled
root_frame : (P : PlainProgram) (m : PlainMember) → member_at P P.main_member ≡ Some m → (arg : ℤ)
    → root_start (named_by []) (compiled P) first_name arg ≡ record { body = number_in P P.main_member; frame = entered (named_by []) m (Object first_name ∷ Int arg ∷ []) [] 499 }
root_frame P m e arg = λ z. record {
  body = body_is z;
  frame = record {
    values = padded (slots_are z) (Object first_name ∷ Int arg ∷ []);
    regions = [];
    locals = unmade_from (named_by []) 0 (locals_are z);
    left = 499;
  };
}
  where
    body_is : (compiled P).main_body ≡ number_in P P.main_member
    body_is = main_body_of P

    at : MemberIs (compiled P) (body_at (compiled P) (number_in P P.main_member)) m
    at = (laid_out P).members P.main_member m e

    slots_are : (body_at (compiled P) (compiled P).main_body).slots ≡ m.slots
    slots_are = ap (λ j. (body_at (compiled P) j).slots) body_is ∙ at.slots

    locals_are : (body_at (compiled P) (compiled P).main_body).local_regions ≡ m.local_regions
    locals_are = ap (λ j. (body_at (compiled P) j).local_regions) body_is ∙ at.local_regions

root_compiled : (P : PlainProgram) → Resolved P → HasMain P → (arg : ℤ)
    → Compiled (compiled P) P (root_start (named_by []) (compiled P) first_name arg) (root_task (named_by []) P first_name arg)
root_compiled P resolved main arg =
    subst (λ (o : Option PlainMember). Compiled (compiled P) P (root_start (named_by []) (compiled P) first_name arg) (enters_main (named_by []) first_name arg o)) (sym main.1)
    (subst (λ b. Compiled (compiled P) P b (enters_main (named_by []) first_name arg (Some main.0))) (sym (root_frame P main.0 main.1 arg))
    (members_are_compiled P resolved P.main_member main.0 main.1 (entered (named_by []) main.0 (Object first_name ∷ Int arg ∷ []) [] 499)))

module _ (code : Code) (P : PlainProgram) (arg : ℤ) (rule : Rule) (L : Limits) (is : plain_code code ≡ compiled P) (resolved : Resolved P) (main : HasMain P) where
  abbrev C : PlainCode
  C = plain_code code

  abbrev pub first_sight : Sight
  first_sight = record { names = first_name ∷ []; paths = [] ∷ [] }

  abbrev pub first_moment : Moment
  first_moment = record {
    world = with_heap (world_at_start L) (with_object (world_at_start L).heap (instance code.main_class [] (first_fields code code.main_class)));
    tasks = root_alone code arg;
    outcome = None;
  }

  holds : Holds (Q P arg rule C) [] (first_name ∷ []) 0 (at_start P 0)
  holds = record {
    many = H.many;
    distinct = H.distinct;
    there = λ n x e. (let s = H.there n x e in record { held = s.held; is_held = s.is_held; thing = s.thing; is_thing = s.is_thing; like = s.like; values = s.values });
    unwritten = H.unwritten;
    output = H.output;
    trap = H.trap;
    steps = H.steps;
    cells = H.cells;
  }
    where
      H : Holds (stepped P arg) [] (first_name ∷ []) 0 (at_start P 0)
      H = holds_first P arg 0

  heap : HeapTied (Q P arg rule C) first_sight [] first_moment.world.heap.objects
  heap = record {
    store = at_start P 0;
    holds = holds;
    values = ap (λ vs. vs ∷ []) (sym (main_fields code P is));
    shown = shown;
  }
    where
      shown : (n : ℕ) (x : Name) (o : HeapObject) → slice_get (first_name ∷ []) n ≡ Some x
          → slice_get (instance code.main_class [] (first_fields code code.main_class) ∷ []) n ≡ Some o → Shown (Q P arg rule C) first_sight [] o x
      shown (suc n) x o a b = absurd (let none : None ≡ Some x = a in cc)
      shown zero x o a b =
          let same : first_name ≡ x = cc in
          let object : instance code.main_class [] (first_fields code code.main_class) ≡ o = cc in
          subst (λ x. Shown (Q P arg rule C) first_sight [] o x) same (subst (λ o. Shown (Q P arg rule C) first_sight [] o first_name) object
          (record { thing = main_object P; is_thing = thing_there; seen = (main_is code P is, each_none) }))
        where
          thing_there : thing_of (Q P arg rule C) [] first_name ≡ Some (main_object P)
          thing_there = ap (λ es. slice_get (main_object P ∷ things es) 0) (mine_nil [])

  numbers : NumbersTied first_sight [] 1
  numbers = record {
    many = refl;
    count = ap (λ n. suc n) (sym begins_nil);
    numbered = numbered;
    entered = inr refl;
  }
    where
      numbered : (k : ℕ) (p : Path) → slice_get ([] ∷ []) k ≡ Some p → Numbered [] k p
      numbered zero p e = root_is (let same : [] ≡ p = cc in sym same) refl
      numbered (suc k) p e = absurd (let none : None ≡ Some p = e in cc)

  task : TaskTied P arg rule C first_sight [] [] (running_at_start (root_start (names_of 0) C 0 arg))
  task = record {
    task = root_task (named_by []) P first_name arg;
    begun = root refl refl;
    start = root_start (named_by []) C first_name arg;
    compiled = subst (λ (K : PlainCode). Compiled K P (root_start (named_by []) K first_name arg) (root_task (named_by []) P first_name arg)) (sym is) (root_compiled P resolved main arg);
    state = begins_at (root_start (named_by []) C first_name arg);
    stands = subst (λ es. StandsAfter C [] (root_start (named_by []) C first_name arg) (answers es) (begins_at (root_start (named_by []) C first_name arg)) 0) (sym (mine_nil [])) at_first;
    like = on_like (record {
      body = refl;
      at = refl;
      frame = record {
        values = padded_like (body_at C C.main_body).slots (more_values (object_like 0 first_name refl) (more_values (int_like arg) no_values));
        regions = each_none;
        locals = unmade_from_like 0 [] 0 (body_at C C.main_body).local_regions;
        left = refl;
      };
      stack = no_values;
    }) each_none;
  }

  live : (k : ℕ) (x : Live) → get only_root.tasks k ≡ Some x → LiveTied P arg rule C first_sight [] only_root.tasks (root_alone code arg) k x
  live k x e = elim (eqb_tells k 0) [
    | inl s ↦ (let f : get only_root.tasks 0 ≡ Some x = subst (λ i. get only_root.tasks i ≡ Some x) s.1 e in
        let same : fresh None ≡ x = (let both : Some (fresh None) ≡ Some x = sym (get_inserted empty 0 (fresh None)) ∙ f in cc) in
        subst (λ i. LiveTied P arg rule C first_sight [] only_root.tasks (root_alone code arg) i x) (sym s.1)
        (subst (λ x. LiveTied P arg rule C first_sight [] only_root.tasks (root_alone code arg) 0 x) same root_live))
    | inr s ↦ absurd (s.1 (live_root k x e))
  ]
    where
      root_live : LiveTied P arg rule C first_sight [] only_root.tasks (root_alone code arg) 0 (fresh None)
      root_live = record {
        path = [];
        there = refl;
        runs = running_at_start (root_start (names_of 0) C 0 arg);
        runs_so = elim (eqb_tells 0 0) [
          | inl y ↦ ap (λ b. if b then Some (running_at_start (root_start (names_of 0) C 0 arg)) else None) y.0
          | inr y ↦ absurd (y.1 refl)
        ];
        task = task;
        origin = refl;
        scope = tt;
        out = record { segment = []; seg = subst (λ es. Seg [] [] es []) (sym (mine_nil [])) seg_none; out_is = sym printed_nil; fine = inl trapped_nil };
      }

      live_root : (k : ℕ) (x : Live) → get only_root.tasks k ≡ Some x → k ≡ 0
      live_root k x e = go (eq_by_cmp nat_cmp k 0) refl (sym (get-insert nat_cmp_total empty 0 (fresh None) k) ∙ e)
        where
          go : (b : Bool) → eq_by_cmp nat_cmp k 0 ≡ b → cond b (Some (fresh None)) (get no_tasks k) ≡ Some x → k ≡ 0
          go true i f = same_number k 0 i
          go false i f = absurd (let none : None ≡ Some x = sym (get-empty nat_cmp k) ∙ f in cc)

  pub main_size : length (first_fields code code.main_class) ≡ size (Q P arg rule C).object
  main_size = sym (length-map (first_fields code code.main_class) plain_value) ∙ ap length (main_fields code P is)
      ∙ length-map (class_fields P P.main_class) (λ f. first_of {N = ℕ} f.ty) ∙ sym (length-map (class_fields P P.main_class) (λ f. first_of {N = Name} f.ty))

  pub first_tied : Tied P arg rule C L first_moment first_sight []
  first_tied = record {
    heap = heap;
    numbers = numbers;
    costs = record {
      steps = (let z = total_nil event_steps in omega (arith, z));
      cells = (let z = total_nil event_cells in let f = main_size in omega (arith, z, f));
      most_steps = refl;
      most_cells = refl;
    };
    faithful = tt;
    live = live;
  }
