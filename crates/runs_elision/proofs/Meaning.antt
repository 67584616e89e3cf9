-- What a task does is like in the elision and in a run, whatever names objects and local regions.
use Rattle.std.proofs.Common.{◌≡◌, ℕ, zero, suc, ◌+◌, ◌-◌, ℤ, pos, negsuc, Bool, true, false, cond, List, [], ◌∷◌, map, length, refl, sym}
use Rattle.std.proofs.Common.{ap, ◌∙◌, subst, arith, Option, Some, None}
use Rattle.std.specs.Prelude.{slice_get, nat_lt}
use Rattle.lang_base.specs.declared.place.Place.{Place}
use Rattle.lang_base.specs.declared.value.Trap.TheVariants as trap
use Rattle.lang_base.specs.Types.{PlainType}
use Rattle.lang_base.specs.Types.{PlainType as ty}
use Rattle.lang_typed.specs.declared.stmt.Forking.{Forking}
use Rattle.lang_typed.specs.Plain.{PlainProgram, PlainMember, PlainField, of_array, of_part, TypedExpr, typed, TypedExprs, no_exprs, more_exprs, TypedStmt}
use Rattle.lang_typed.specs.Plain.{statement}
use Rattle.lang_typed.specs.Plain.{TypedStmts, no_stmts, more_stmts, TypedBranches, no_branches, more_branches}
use Rattle.lang_typed.specs.Plain.{ExprForm as form}
use Rattle.lang_typed.specs.Plain.{StmtForm as stmt}
use Rattle.lang_typed.specs.Scope.{row_at, member_at, constructor_of, parent_of}
use Rattle.lang_meaning.specs.Values.{Value, Region, Naming}
use Rattle.lang_meaning.specs.Actions.{Frame, Task, New}
use Rattle.lang_meaning.specs.Asking.{meaning, does}
use Rattle.lang_meaning.specs.Counts.{number, name_made, part_place}
use Rattle.lang_meaning.specs.Counts.{Brought, how_many, line}
use Rattle.lang_meaning.specs.Core.{Result, Prog, Traps, Act, on, next_of, and_then}
use Rattle.lang_meaning.specs.Elision.{LocalRegion as Counted, in_order}
use Rattle.lang_meaning.specs.Regions.{around, most_parts}
use Rattle.lang_meaning.specs.Expressions.{Deeper, gives, unless_null, read_cell, entered, back, enter, called, created, new_object, made_array, class_in}
use Rattle.lang_meaning.specs.Expressions.{part_element, of_expr, of_exprs, first_of, class_fields}
use Rattle.lang_meaning.specs.Statements.{with_value, write_cell, prints, makes, joined, tasks_of, branch_at, branch_of, begun, iterations, numbered_frame}
use Rattle.lang_meaning.specs.Statements.{forks}
use Rattle.lang_meaning.specs.Statements.{part_taken_over, parts, parts_of_array, of_stmt, of_stmts}
use Rattle.runs_theory.specs.Objects.{Path, Name, LocalRegion}
use Rattle.runs_program.specs.Steps.{named_by}
use Rattle.runs_elision.proofs.Worlds.{Names, Later, later_none, later_then, name_later, ValueLike, int_like, boolean_like, null_like, object_like}
use Rattle.runs_elision.proofs.Worlds.{value_later, ValuesLike, no_values, more_values, values_later, RegionsLike, FrameLike, frame_later, TaskLike}
use Rattle.runs_elision.proofs.Worlds.{TasksLike, no_tasks, more_tasks, ThingLike, an_object_like, an_array_like, rest_like, read_like, write_like}
use Rattle.runs_elision.proofs.Worlds.{look_like, new_like, print_like, enter_like, exit_like, BroughtLike, back_like, trap_like, ResultLike}
use Rattle.runs_elision.proofs.Worlds.{goes_on_like, returns_like, result_distinct, Alike, alike_ret, alike_traps, alike_act, alike_makes, alike_again}
use Rattle.runs_elision.proofs.Worlds.{alike_split}
use Rattle.runs_elision.proofs.Counts.{number_like, truth_like, text_like, int_of, slot_like, set_like, padded_like, reverse_like, copied_like, part_place_like}
use Rattle.runs_elision.proofs.Counts.{part_taken_like, numbered_like, MaybeLike, none_like, some_like, operated_like, unary_like, read_alike, out_alike}
use Rattle.runs_elision.proofs.Counts.{length_alike, name_alike, SeenLike, seen_like, entered_alike, concrete_length, concretes, regions_above_like}
use Rattle.runs_elision.proofs.Counts.{regions_append}
use Rattle.runs_elision.proofs.Counts.{some_long_like, number_at}

abbrev pub In : Type 0
In = Prog ℕ Counted

abbrev pub Of : Type 0
Of = Prog Name LocalRegion

abbrev pub FrameIn : Type 0
FrameIn = Frame ℕ Counted

abbrev pub FrameOf : Type 0
FrameOf = Frame Name LocalRegion

alike_on : {P : PlainProgram} {c d : ℕ} {ns : Names} {p : In} {q : Of} (k : Result ℕ Counted → In) (j : Result Name LocalRegion → Of) → Alike P c ns p q
    → ((ms : Names) (r : Result ℕ Counted) (s : Result Name LocalRegion) → Later ns ms → ResultLike c ms r s → Alike P d ms (k r) (j s))
    → Alike P d ns (on p k) (on q j)
alike_on {ns = ns} k j (alike_ret {r = r} {s = s} h) f = f ns r s (later_none (result_distinct h)) h
alike_on k j (alike_traps trap p) f = alike_traps trap p
alike_on k j (alike_act o h) f = alike_act o (λ ms x y l a. alike_on k j (h ms x y l a) (λ ls r s m b. f ls r s (later_then l m) b))
alike_on k j (alike_makes h) f = alike_makes (λ m l. alike_on k j (h m l) f)
alike_on k j (alike_again d t b g h) f = alike_again d t b g (λ ms r s l a. alike_on k j (h ms r s l a) (λ ls u v m e. f ls u v (later_then l m) e))
alike_on k j (alike_split forking ts b e h) f = alike_split forking ts b (λ trap p. ap (λ q. on q k) (e trap p)) (λ ms x y l a. alike_on k j (h ms x y l a)
    (λ ls r s m b. f ls r s (later_then l m) b))

abbrev Next : PlainProgram → ℕ → Names → (Value ℕ → FrameIn → In) → (Value Name → FrameOf → Of) → Type 0
Next P c ns k j = (ms : Names) (v : Value ℕ) (u : Value Name) (f : FrameIn) (g : FrameOf) → Later ns ms → ValueLike ms v u → FrameLike c ms f g
    → Alike P c ms (k v f) (j u g)

alike_then : {P : PlainProgram} {c : ℕ} {ns : Names} {p : In} {q : Of} {k : Value ℕ → FrameIn → In} {j : Value Name → FrameOf → Of} → Alike P c ns p q
    → Next P c ns k j
    → Alike P c ns (and_then p k) (and_then q j)
alike_then {P} {c} {ns} {p} {q} {k} {j} h f = alike_on (next_of k) (next_of j) h next
  where
    next : (ms : Names) (r : Result ℕ Counted) (s : Result Name LocalRegion) → Later ns ms → ResultLike c ms r s → Alike P c ms (next_of k r) (next_of j s)
    next ms r s l (goes_on_like {v} {u} {f = x} {g = y} a b) = f ms v u x y l a b
    next ms r s l (returns_like d a) = alike_ret (returns_like d a)

alike_gives : {P : PlainProgram} {c : ℕ} {ns : Names} {v : Value ℕ} {u : Value Name} {f : FrameIn} {g : FrameOf} → ValueLike ns v u → FrameLike c ns f g
    → Alike P c ns (gives v f) (gives u g)
alike_gives h k = alike_ret (goes_on_like h k)

alike_or : {P : PlainProgram} {c : ℕ} {ns : Names} {A : Type 0} (o : Option A) {p : In} {q : Of} {k : A → In} {j : A → Of} → Alike P c ns p q → ((x : A)
    → Alike P c ns (k x) (j x))
    → Alike P c ns (elim o as (λ o. In) [ None ↦ p | Some x ↦ k x ]) (elim o as (λ o. Of) [ None ↦ q | Some x ↦ j x ])
alike_or None h f = h
alike_or (Some x) h f = f x

alike_maybe : {P : PlainProgram} {c : ℕ} {ns : Names} {o : Option (Value ℕ)} {r : Option (Value Name)} {p : In} {q : Of} {k : Value ℕ → In} {j : Value Name
    → Of}
    → MaybeLike ns o r → Alike P c ns p q → ((v : Value ℕ) (u : Value Name) → ValueLike ns v u → Alike P c ns (k v) (j u))
    → Alike P c ns (elim o as (λ o. In) [ None ↦ p | Some x ↦ k x ]) (elim r as (λ o. Of) [ None ↦ q | Some x ↦ j x ])
alike_maybe none_like h f = h
alike_maybe (some_like {v} {u} a) h f = f v u a

alike_cond : {P : PlainProgram} {c : ℕ} {ns : Names} (a b : Bool) → a ≡ b → {p r : In} {q s : Of} → Alike P c ns p q → Alike P c ns r s
    → Alike P c ns (cond a p r) (cond b q s)
alike_cond true true e h k = h
alike_cond true false e h k = absurd (cc)
alike_cond false true e h k = absurd (cc)
alike_cond false false e h k = k

alike_by : {P : PlainProgram} {c : ℕ} {ns : Names} (a b : Bool) → a ≡ b → {p r : In} {q s : Of} → Alike P c ns p q → Alike P c ns r s
    → Alike P c ns (elim a as (λ b. In) [ false ↦ p | true ↦ r ]) (elim b as (λ b. Of) [ false ↦ q | true ↦ s ])
alike_by true true e h k = k
alike_by true false e h k = absurd (cc)
alike_by false true e h k = absurd (cc)
alike_by false false e h k = h

alike_unless : {P : PlainProgram} {c : ℕ} {ns : Names} (at : Place) {v : Value ℕ} {u : Value Name} {k : ℕ → In} {j : Name → Of} → ValueLike ns v u
    → ((n : ℕ) (x : Name) → slice_get ns n ≡ Some x → Alike P c ns (k n) (j x)) → Alike P c ns (unless_null at v k) (unless_null at u j)
alike_unless at (int_like i) f = alike_traps trap.Null at
alike_unless at (boolean_like b) f = alike_traps trap.Null at
alike_unless at null_like f = alike_traps trap.Null at
alike_unless at (object_like n x h) f = f n x h

alike_read : {P : PlainProgram} {c : ℕ} {ns : Names} (at : Place) (n : ℕ) (x : Name) (i : ℤ) {f : FrameIn} {g : FrameOf} → slice_get ns n ≡ Some x
    → FrameLike c ns f g
    → Alike P c ns (read_cell at n i f) (read_cell at x i g)
alike_read at n x i h k = alike_act (read_like n x i h) (λ ms a b l e. alike_maybe (read_alike e) (alike_traps trap.Index at) (λ v u m. alike_gives m
    (frame_later l k)))

alike_write : {P : PlainProgram} {c : ℕ} {ns : Names} (at : Place) (n : ℕ) (x : Name) (i : ℤ) {v : Value ℕ} {u : Value Name} {f : FrameIn} {g : FrameOf}
    → slice_get ns n ≡ Some x
    → ValueLike ns v u → FrameLike c ns f g → Alike P c ns (write_cell at n i v f) (write_cell at x i u g)
alike_write at n x i h m k = alike_act (write_like n x i h m)
    (λ ms a b l e. alike_cond _ _ (out_alike e) (alike_traps trap.Index at) (alike_gives null_like (frame_later l k)))

alike_same : {P : PlainProgram} {c : ℕ} {ns : Names} (at : Place) {o r : Option ℤ} {k : ℤ → In} {j : ℤ → Of} → o ≡ r → ((i : ℤ) → Alike P c ns (k i) (j i))
    → Alike P c ns (elim o as (λ o. In) [ None ↦ Traps trap.Index at | Some x ↦ k x ]) (elim r as (λ o. Of) [ None ↦ Traps trap.Index at | Some x ↦ j x ])
alike_same {P} {c} {ns} at {o} {r} {k} {j} e f =
    subst (λ (z : Option ℤ). Alike P c ns (elim o as (λ o. In) [ None ↦ Traps trap.Index at | Some x ↦ k x ])
    (elim z as (λ o. Of) [ None ↦ Traps trap.Index at | Some x ↦ j x ])) e (alike_or o (alike_traps trap.Index at) f)

alike_part : {P : PlainProgram} {c : ℕ} {ns : Names} (at : Place) (k : ℕ) {i l : ℤ} {f : FrameIn} {g : FrameOf} {m : ℕ → ℤ → In} {j : Name → ℤ → Of} → i ≡ l
    → FrameLike c ns f g
    → ((n : ℕ) (x : Name) (p : ℤ) → slice_get ns n ≡ Some x → Alike P c ns (m n p) (j x p)) → Alike P c ns (part_element at k i f m) (part_element at k l g j)
alike_part at k {i} {l} {f} {g} e h more =
    alike_same at (part_place_like k i h.values ∙ ap (λ z. part_place k z g.values) e) (λ p. alike_unless at (slot_like h.values k) (λ n x a. more n x p a))

alike_prints : {P : PlainProgram} {c : ℕ} {ns : Names} {s t : List ℕ} {f : FrameIn} {g : FrameOf} → s ≡ t → FrameLike c ns f g
    → Alike P c ns (prints s f) (prints t g)
alike_prints {P} {c} {ns} {s} {t} {f} {g} e h = subst (λ (z : List ℕ). Alike P c ns (prints s f) (prints z g)) e
    (alike_act (print_like (line s)) (λ ms a b l m. alike_gives null_like (frame_later l h)))

with_like : {c : ℕ} {ns : Names} {f : FrameIn} {g : FrameOf} {v : Value ℕ} {u : Value Name} → FrameLike c ns f g → (x : ℕ) → ValueLike ns v u
    → FrameLike c ns (with_value f x v) (with_value g x u)
with_like h x m = record { values = set_like h.values x m; regions = h.regions; left = h.left; left_too = h.left_too; distinct = h.distinct }

alike_makes_all : {P : PlainProgram} {c : ℕ} {ns : Names} (rs : List ℕ) {f : FrameIn} {g : FrameOf} → FrameLike c ns f g
    → Alike P c ns (makes rs f) (makes rs g)
alike_makes_all [] h = alike_gives null_like h
alike_makes_all (r ∷ rs) h = alike_makes (λ m l. alike_makes_all rs
    (record { values = h.values; regions = h.regions; left = h.left; left_too = h.left_too; distinct = h.distinct }))

alike_joined : {P : PlainProgram} {c : ℕ} {ns : Names} (slots : List ℕ) {f : FrameIn} {g : FrameOf} {x : Brought ℕ} {y : Brought Name} → FrameLike c ns f g
    → BroughtLike ns x y
    → Alike P c ns (joined slots f x) (joined slots g y)
alike_joined slots h (back_like m) = alike_gives null_like
    (record { values = copied_like slots m h.values; regions = h.regions; left = h.left; left_too = h.left_too; distinct = h.distinct })
alike_joined slots h (trap_like trap p) = alike_traps trap p

-- one call deeper
less_left : {c d : ℕ} {ns : Names} {f : FrameIn} {g : FrameOf} → c ≡ suc d → FrameLike c ns f g
    → FrameLike d ns (record f { left = f.left - 1 }) (record g { left = g.left - 1 })
less_left e h = record {
  values = h.values;
  regions = h.regions;
  left = (let a = h.left in omega arith);
  left_too = (let a = h.left_too in omega arith);
  distinct = h.distinct;
}

begun_like : {c : ℕ} {ns : Names} (takes : Option ℕ) {f : FrameIn} {g : FrameOf} → FrameLike c ns f g → FrameLike c ns (begun takes f) (begun takes g)
begun_like None h = h
begun_like (Some k) h = record { values = part_taken_like k h.values; regions = h.regions; left = h.left; left_too = h.left_too; distinct = h.distinct }

branch_like : {c d : ℕ} {ns : Names} (takes : Option ℕ) (copies : List ℕ) (s : TypedStmt) {f : FrameIn} {g : FrameOf} → c ≡ suc d → FrameLike c ns f g
    → TaskLike ns (branch_of takes copies s f) (branch_of takes copies s g)
branch_like {d = d} takes copies s e h = record { left = d; work = refl; frame = less_left e h }

branches_like : {c d : ℕ} {ns : Names} (bs : TypedBranches) {f : FrameIn} {g : FrameOf} → c ≡ suc d → FrameLike c ns f g
    → TasksLike ns (tasks_of bs f) (tasks_of bs g)
branches_like no_branches e h = no_tasks
branches_like (more_branches copies s bs) e h = more_tasks (branch_like None copies s e h) (branches_like bs e h)

iterations_like : {c d : ℕ} {ns : Names} (takes : Option ℕ) (x : ℕ) (s : TypedStmt) {f : FrameIn} {g : FrameOf} (start : ℤ) (i n : ℕ) → c ≡ suc d
    → FrameLike c ns f g → TasksLike ns (iterations takes x s f start i n) (iterations takes x s g start i n)
iterations_like takes x s start i zero e h = no_tasks
iterations_like takes x s start i (suc n) e h =
    more_tasks (branch_like takes [] s e (record {
      values = numbered_like x start i h.values;
      regions = h.regions;
      left = h.left;
      left_too = h.left_too;
      distinct = h.distinct;
    })) (iterations_like takes x s start (suc i) n e h)

first_like : {ns : Names} (t : PlainType) → ValueLike ns (first_of t) (first_of t)
first_like ty.int = int_like (pos 0)
first_like ty.boolean = boolean_like false
first_like ty.void = null_like
first_like ty.null = null_like
first_like (ty.class c args) = null_like
first_like (ty.array t a named) = null_like

firsts_like : {ns : Names} (fs : List PlainField) → ValuesLike ns (map (λ f. first_of f.ty) fs) (map (λ f. first_of f.ty) fs)
firsts_like [] = no_values
firsts_like (f ∷ fs) = more_values (first_like f.ty) (firsts_like fs)

pub object_alike : {ns : Names} (P : PlainProgram) (c : ℕ) {rs : List (Region Counted)} {qs : List (Region LocalRegion)} → RegionsLike rs qs
    → ThingLike ns (new_object P c rs) (new_object P c qs)
object_alike P c h = an_object_like c h (firsts_like (class_fields P c))

module _ (path : Path) (P : PlainProgram) where
  abbrev others : Naming Name LocalRegion
  others = named_by path

  abbrev DeeperIn : Type 0
  DeeperIn = Deeper ℕ Counted

  abbrev DeeperOf : Type 0
  DeeperOf = Deeper Name LocalRegion

  abbrev DeeperLike : Option DeeperIn → Option DeeperOf → ℕ → Type 0
  DeeperLike None None c = Unit {0}
  DeeperLike None (Some q) c = ⊥
  DeeperLike (Some p) None c = ⊥
  DeeperLike (Some p) (Some q) c = (d : ℕ) × (c ≡ suc d) × (p ≡ meaning in_order P d) × ((ns : Names) (ss : TypedStmts) (f : FrameIn) (g : FrameOf)
      → FrameLike d ns f g
      → Alike P d ns (p ss f) (q ss g))

  entered_like : {c d : ℕ} {ns : Names} (m : PlainMember) {vs : List (Value ℕ)} {us : List (Value Name)} {rs : List (Region Counted)}
      {qs : List (Region LocalRegion)} {f : FrameIn} {g : FrameOf} → c ≡ suc d → FrameLike c ns f g → ValuesLike ns vs us → RegionsLike rs qs
      → FrameLike d ns (entered in_order m vs rs (f.left - 1)) (entered others m us qs (g.left - 1))
  entered_like m e h vs rs = record {
    values = padded_like m.slots vs;
    regions = rs;
    left = (let a = h.left in omega arith);
    left_too = (let a = h.left_too in omega arith);
    distinct = h.distinct;
  }

  -- a body that is entered
  alike_body : {c : ℕ} {ns : Names} (p : DeeperIn) (q : DeeperOf) → DeeperLike (Some p) (Some q) c → (ss : TypedStmts) {x : FrameIn} {y : FrameOf}
      {k : Result ℕ Counted → In} {j : Result Name LocalRegion → Of}
      → ((d : ℕ) → c ≡ suc d → FrameLike d ns x y)
      → ((d : ℕ) (ms : Names) (r : Result ℕ Counted) (s : Result Name LocalRegion) → Later ns ms → ResultLike d ms r s → Alike P c ms (k r) (j s))
      → Alike P c ns (on (p ss x) k) (on (q ss y) j)
  alike_body {c} {ns} p q h ss {x} {y} {k} {j} e more = alike_on k j (h.3 ns ss x y (e h.0 h.1)) (λ ms r s l a. more h.0 ms r s l a)

  alike_back : {c d : ℕ} {ns : Names} {f : FrameIn} {g : FrameOf} {r : Result ℕ Counted} {s : Result Name LocalRegion} → FrameLike c ns f g
      → ResultLike d ns r s → Alike P c ns (back f r) (back g s)
  alike_back h (goes_on_like a b) = alike_gives null_like h
  alike_back h (returns_like d a) = alike_gives a h

  alike_enter : {c : ℕ} {ns : Names} (p : DeeperIn) (q : DeeperOf) → DeeperLike (Some p) (Some q) c → {s : ℕ × List (Region Counted)}
      {t : ℕ × List (Region LocalRegion)} (r : ℕ) {vs : List (Value ℕ)} {us : List (Value Name)} {own : List (Region Counted)} {its : List (Region LocalRegion)}
      {f : FrameIn} {g : FrameOf} → SeenLike s t → ValuesLike ns vs us → RegionsLike own its → FrameLike c ns f g
      → Alike P c ns (enter in_order P p s r vs own f) (enter others P q t r us its g)
  alike_enter {c} {ns} p q h r {vs} {us} {own} {its} {f} {g} (seen_like k {rs} {qs} m) a b w =
      alike_or (row_at P k r) (alike_gives null_like w) (λ n. alike_or (member_at P n) (alike_gives null_like w) (λ m'.
      alike_body p q h m'.body (λ d e. entered_like m' e w a (regions_append _ own _ its (regions_above_like in_order others (parent_of P)
      (length P.classes) k rs qs m m'.class) b))
      (λ d ms x y l z. alike_back (frame_later l w) z)))

  alike_called : {c : ℕ} {ns : Names} (p : Option DeeperIn) (q : Option DeeperOf) → DeeperLike p q c → (at : Place) (k r : ℕ) {own : List (Region Counted)}
      {its : List (Region LocalRegion)} (n : ℕ) (x : Name) {vs : List (Value ℕ)} {us : List (Value Name)} {f : FrameIn} {g : FrameOf} → RegionsLike own its
      → slice_get ns n ≡ Some x → ValuesLike ns vs us → FrameLike c ns f g
      → Alike P c ns (called in_order P p at k r own n vs f) (called others P q at k r its x us g)
  alike_called None None h at k r n x b e a w = alike_traps trap.Stack at
  alike_called None (Some q) h at k r n x b e a w = absurd h
  alike_called (Some p) None h at k r n x b e a w = absurd h
  alike_called (Some p) (Some q) h at k r {own} {its} n x b e a w =
      alike_cond _ _ (some_long_like own its b) (alike_traps trap.Stack at) (alike_act (look_like n x e) (λ ms y z l i.
      alike_enter p q h r (entered_alike (parent_of P) (length P.classes) k i) (more_values (object_like n x (name_later n x l e)) (values_later l a)) b
      (frame_later l w)))

  alike_made : {c : ℕ} {ns : Names} (p : Option DeeperIn) (q : Option DeeperOf) → DeeperLike p q c → (at : Place) (k n : ℕ) {rs : List (Region Counted)}
      {qs : List (Region LocalRegion)} {vs : List (Value ℕ)} {us : List (Value Name)} {f : FrameIn} {g : FrameOf} → RegionsLike rs qs → ValuesLike ns vs us
      → FrameLike c ns f g
      → Alike P c ns (elim p as (λ o. In) [
        | None ↦ Traps trap.Stack at
        | Some deeper ↦ Act (New (new_object P k rs) true) (λ a. elim (member_at P n) [
          | None ↦ gives (name_made a) f
          | Some m ↦ on (deeper m.body (entered in_order m (name_made a ∷ vs) rs (f.left - 1))) (λ r. gives (name_made a) f)
        ])
      ]) (elim q as (λ o. Of) [
        | None ↦ Traps trap.Stack at
        | Some deeper ↦ Act (New (new_object P k qs) true) (λ a. elim (member_at P n) [
          | None ↦ gives (name_made a) g
          | Some m ↦ on (deeper m.body (entered others m (name_made a ∷ us) qs (g.left - 1))) (λ r. gives (name_made a) g)
        ])
      ])
  alike_made None None h at k n b a w = alike_traps trap.Stack at
  alike_made None (Some q) h at k n b a w = absurd h
  alike_made (Some p) None h at k n b a w = absurd h
  alike_made (Some p) (Some q) h at k n b a w =
      alike_act (new_like true (object_alike P k b)) (λ ms x y l i. alike_or (member_at P n) (alike_gives (name_alike i) (frame_later l w)) (λ m.
      alike_body p q h m.body (λ d e. entered_like m e (frame_later l w) (more_values (name_alike i) (values_later l a)) b)
      (λ d ls r s o z. alike_gives (value_later o (name_alike i)) (frame_later o (frame_later l w)))))

  alike_created : {c : ℕ} {ns : Names} (p : Option DeeperIn) (q : Option DeeperOf) → DeeperLike p q c → (at : Place) (k : ℕ) {rs : List (Region Counted)}
      {qs : List (Region LocalRegion)} {vs : List (Value ℕ)} {us : List (Value Name)} {f : FrameIn} {g : FrameOf} → RegionsLike rs qs → ValuesLike ns vs us
      → FrameLike c ns f g → Alike P c ns (created in_order P p at k rs vs f) (created others P q at k qs us g)
  alike_created p q h at k {rs} {qs} b a w =
      alike_cond _ _ (some_long_like rs qs b) (alike_traps trap.Stack at) (alike_or (constructor_of P k)
      (alike_act (new_like false (object_alike P k b)) (λ ms x y l i. alike_gives (name_alike i) (frame_later l w))) (λ n. alike_made p q h at k n b a w))

  alike_array : {c : ℕ} {ns : Names} (at : Place) (t : PlainType) {k l : ℤ} {f : FrameIn} {g : FrameOf} → k ≡ l → FrameLike c ns f g
      → Alike P c ns (made_array in_order at t k f) (made_array others at t l g)
  alike_array {c} {ns} at t {k} {l} {f} {g} e w = subst (λ (z : ℤ). Alike P c ns (made_array in_order at t k f) (made_array others at t z g)) e (go t k)
    where
      go : (t : PlainType) (k : ℤ) → Alike P c ns (made_array in_order at t k f) (made_array others at t k g)
      go (ty.array t a named) (negsuc k) = alike_traps trap.Size at
      go (ty.array t a named) (pos k) =
          alike_cond _ _ (ap (λ n. nat_lt most_parts n) (concrete_length in_order others (around f) (around g) w.regions a))
          (alike_traps trap.Stack at)
          (alike_act (new_like false (an_array_like k (first_like t))) (λ ms x y l i. alike_gives (name_alike i) (frame_later l w)))
      go ty.int k = alike_gives null_like w
      go ty.boolean k = alike_gives null_like w
      go ty.void k = alike_gives null_like w
      go ty.null k = alike_gives null_like w
      go (ty.class d args) k = alike_gives null_like w

  none_some : {A : Type 0} (x : A) → None ≡ Some x → ⊥
  none_some x e = cc

  -- the branches of a construct do what their tasks are to do
  branches_do : (bs : TypedBranches) (f : FrameIn) (i : ℕ) (t : Task ℕ Counted) → slice_get (tasks_of bs f) i ≡ Some t
      → does in_order P t ≡ meaning in_order P (f.left - 1) (branch_at bs i) (record f { left = f.left - 1 })
  branches_do no_branches f i t e = absurd (none_some t e)
  branches_do (more_branches copies s bs) f zero t e = let k : branch_of None copies s f ≡ t = cc in ap (does in_order P) (sym k)
  branches_do (more_branches copies s bs) f (suc i) t e = branches_do bs f i t e

  iterations_do : (takes : Option ℕ) (x : ℕ) (s : TypedStmt) (f : FrameIn) (start : ℤ) (j m i : ℕ) (t : Task ℕ Counted)
      → slice_get (iterations takes x s f start j m) i ≡ Some t
      → does in_order P t ≡ meaning in_order P (f.left - 1) (more_stmts s no_stmts) (begun takes (record (numbered_frame x start
      (j + i) f) { left = f.left - 1 }))
  iterations_do takes x s f start j zero i t e = absurd (none_some t e)
  iterations_do takes x s f start j (suc m) zero t e =
      let k : branch_of takes [] s (numbered_frame x start j f) ≡ t = cc in
      let z : j ≡ j + 0 = omega arith in
      ap (does in_order P) (sym k)
      ∙ ap (λ y. meaning in_order P (f.left - 1) (more_stmts s no_stmts) (begun takes (record (numbered_frame x start y f) { left = f.left - 1 }))) z
  iterations_do takes x s f start j (suc m) (suc i) t e =
      let z : suc j + i ≡ j + suc i = omega arith in
      iterations_do takes x s f start (suc j) m i t e
      ∙ ap (λ y. meaning in_order P (f.left - 1) (more_stmts s no_stmts) (begun takes (record (numbered_frame x start y f) { left = f.left - 1 }))) z

  -- what a branch does, one call deeper
  at_depth : {c : ℕ} {ns : Names} (p : DeeperIn) (q : DeeperOf) → DeeperLike (Some p) (Some q) c → {f : FrameIn} {g : FrameOf} → FrameLike c ns f g
      → (ss : TypedStmts) (x : FrameIn) → p ss x ≡ meaning in_order P (f.left - 1) ss x
  at_depth p q h {f} w ss x =
      let n = h.1 in
      let l = w.left in
      let m : h.0 ≡ f.left - 1 = omega arith in
      ap (λ (r : DeeperIn). r ss x) h.2 ∙ ap (λ k. meaning in_order P k ss x) m

  alike_forks : {c : ℕ} {ns : Names} (p : Option DeeperIn) (q : Option DeeperOf) → DeeperLike p q c
      → (at : Place) (forking : Forking) (takes : Option ℕ) (x : ℕ)
      (s : TypedStmt) {start st count co : ℤ} {f : FrameIn} {g : FrameOf} → start ≡ st → count ≡ co → FrameLike c ns f g
      → Alike P c ns (forks p at forking takes x s start count f) (forks q at forking takes x s st co g)
  alike_forks {c} {ns} p q h at forking takes x s {start} {st} {count} {co} {f} {g} e i w =
      subst (λ (z : ℤ). Alike P c ns (forks p at forking takes x s start count f) (forks q at forking takes x s z co g)) e
      (subst (λ (z : ℤ). Alike P c ns (forks p at forking takes x s start count f) (forks q at forking takes x s start z g)) i (go p q h))
    where
      zero_first : (i : ℕ) → i ≡ 0 + i
      zero_first i = omega arith

      do_iteration : (p : DeeperIn) (q : DeeperOf) → DeeperLike (Some p) (Some q) c → (i : ℕ) (t : Task ℕ Counted)
          → slice_get (iterations takes x s f start 0 (how_many count)) i ≡ Some t
          → p (more_stmts s no_stmts) (begun takes (record (numbered_frame x start i f) { left = f.left - 1 })) ≡ does in_order P t
      do_iteration p q h i t e =
          at_depth p q h w (more_stmts s no_stmts) (begun takes (record (numbered_frame x start i f) { left = f.left - 1 }))
          ∙ ap (λ y. meaning in_order P (f.left - 1) (more_stmts s no_stmts) (begun takes (record (numbered_frame x start y f) { left = f.left - 1 })))
          (zero_first i)
          ∙ sym (iterations_do takes x s f start 0 (how_many count) i t e)

      go : (p : Option DeeperIn) (q : Option DeeperOf) → DeeperLike p q c
          → Alike P c ns (forks p at forking takes x s start count f) (forks q at forking takes x s start count g)
      go None None h = alike_traps trap.Stack at
      go None (Some q) h = absurd h
      go (Some p) None h = absurd h
      go (Some p) (Some q) h = alike_split forking (iterations_like takes x s start 0 (how_many count) h.1 w) (λ i t e. do_iteration p q h i t e)
          (λ trap p. refl) (λ ms y z l a. alike_joined [] (frame_later l w) a)

  alike_cobegin : {c : ℕ} {ns : Names} (p : Option DeeperIn) (q : Option DeeperOf) → DeeperLike p q c → (at : Place) (forking : Forking) (bs : TypedBranches)
      {f : FrameIn} {g : FrameOf} → FrameLike c ns f g
      → Alike P c ns (of_stmt in_order P p (statement at (stmt.cobegin forking bs)) f) (of_stmt others P q (statement at (stmt.cobegin forking bs)) g)
  alike_cobegin None None h at forking bs w = alike_traps trap.Stack at
  alike_cobegin None (Some q) h at forking bs w = absurd h
  alike_cobegin (Some p) None h at forking bs w = absurd h
  alike_cobegin (Some p) (Some q) h at forking bs {f} w =
      alike_split forking (branches_like bs h.1 w) (λ i t e. at_depth p q h w (branch_at bs i) (record f { left = f.left - 1 })
      ∙ sym (branches_do bs f i t e)) (λ trap p. refl) (λ ms y z l a. alike_joined _ (frame_later l w) a)

  alike_parts : {c : ℕ} {ns : Names} (p : Option DeeperIn) (q : Option DeeperOf) → DeeperLike p q c
      → (at : Place) (k : ℕ) (s : TypedStmt) {f : FrameIn} {g : FrameOf}
      → FrameLike c ns f g → Alike P c ns (parts p at k s f) (parts q at k s g)
  alike_parts p q h at k s w = alike_forks p q h at _ _ _ s refl (number_at w.values (k + 3)) w

  alike_array_parts : {c : ℕ} {ns : Names} (p : Option DeeperIn) (q : Option DeeperOf) → DeeperLike p q c → (at : Place) (k : ℕ) (s : TypedStmt) {f : FrameIn}
      {g : FrameOf} → FrameLike c ns f g → Alike P c ns (parts_of_array p at k s f) (parts_of_array q at k s g)
  alike_array_parts p q h at k s w =
      alike_unless at (slot_like w.values k) (λ n x e. alike_act (look_like n x e) (λ ms a b l i.
      alike_parts p q h at k s (with_like (frame_later l w) (k + 2) (int_of (ap pos (length_alike i))))))

  module _ (dp : Option DeeperIn) (dq : Option DeeperOf) (c : ℕ) (deep : DeeperLike dp dq c) where
    mutual
      alike_expr : (e : TypedExpr) {ns : Names} {f : FrameIn} {g : FrameOf} → FrameLike c ns f g
          → Alike P c ns (of_expr in_order P dp e f) (of_expr others P dq e g)
      alike_expr (typed at t (form.int k)) w = alike_gives (int_like k) w
      alike_expr (typed at t (form.boolean b)) w = alike_gives (boolean_like b) w
      alike_expr (typed at t form.null) w = alike_gives null_like w
      alike_expr (typed at t (form.local x)) w = alike_gives (slot_like w.values x) w
      alike_expr (typed at t (form.field e k i)) w =
          alike_then (alike_expr e w) (λ ms v u f g l a b. alike_unless at a (λ n x h. alike_read at n x (pos i) h b))
      alike_expr (typed at t (form.element a i)) w =
          alike_then (alike_expr a w) (λ ms v u f g l m b. alike_then (alike_expr i b) (λ ls v' u' f' g' l' m' b'.
          alike_unless at (value_later l' m) (λ n x h. subst (λ (z : ℤ). Alike P c ls (read_cell at n (number v') f') (read_cell at x z g')) (number_like m')
          (alike_read at n x (number v') h b'))))
      alike_expr (typed at t (form.array_length a)) w =
          alike_then (alike_expr a w) (λ ms v u f g l m b. alike_unless at m (λ n x h. alike_act (look_like n x h) (λ ls y z l' i.
          alike_gives (int_of (ap pos (length_alike i))) (frame_later l' b))))
      alike_expr (typed at t (form.call e k r regions es)) w =
          alike_then (alike_expr e w) (λ ms v u f g l m b. alike_exprs es b no_values (λ ls vs us f' g' l' ms' b'.
          alike_unless at (value_later l' m) (λ n x h. alike_called dp dq deep at k r n x (concretes in_order others (around f')
          (around g') b'.regions regions) h (reverse_like ms') b')))
      alike_expr (typed at t (form.create es)) w =
          alike_exprs es w no_values (λ ls vs us f' g' l' ms' b'.
          alike_created dp dq deep at (class_in t).0 (concretes in_order others (around f') (around g') b'.regions (class_in t).1) (reverse_like ms') b')
      alike_expr (typed at t (form.create_array n)) w = alike_then (alike_expr n w) (λ ms v u f g l m b. alike_array at t (number_like m) b)
      alike_expr (typed at t (form.unary o e)) w = alike_then (alike_expr e w) (λ ms v u f g l m b. alike_gives (unary_like o m) b)
      alike_expr (typed at t (form.binary o a b)) w =
          alike_then (alike_expr a w) (λ ms v u f g l m h. alike_then (alike_expr b h) (λ ls v' u' f' g' l' m' b'.
          alike_maybe (operated_like b'.distinct o (value_later l' m) m') (alike_traps trap.Divide at) (λ x y k. alike_gives k b')))
      alike_expr (typed at t (form.both a b)) w =
          alike_then (alike_expr a w) (λ ms v u f g l m h. alike_by _ _ (truth_like m) (alike_gives (boolean_like false) h) (alike_expr b h))
      alike_expr (typed at t (form.either a b)) w =
          alike_then (alike_expr a w) (λ ms v u f g l m h. alike_by _ _ (truth_like m) (alike_expr b h) (alike_gives (boolean_like true) h))
      alike_expr (typed at t (form.part_length k)) w = alike_gives (slot_like w.values (k + 2)) w
      alike_expr (typed at t (form.part_element k i)) w =
          alike_then (alike_expr i w) (λ ms v u f g l m b. alike_part at k (number_like m) b (λ n x p h. alike_read at n x p h b))

      alike_exprs : (es : TypedExprs) {ns : Names} {f : FrameIn} {g : FrameOf} → FrameLike c ns f g → {vs : List (Value ℕ)} {us : List (Value Name)}
          {k : List (Value ℕ) → FrameIn → In} {j : List (Value Name) → FrameOf → Of} → ValuesLike ns vs us
          → ((ms : Names) (ws : List (Value ℕ)) (zs : List (Value Name)) (x : FrameIn) (y : FrameOf) → Later ns ms → ValuesLike ms ws zs → FrameLike c ms x y
          → Alike P c ms (k ws x) (j zs y)) → Alike P c ns (of_exprs in_order P dp es f vs k) (of_exprs others P dq es g us j)
      alike_exprs no_exprs {ns} {f} {g} w {vs} {us} a more = more ns vs us f g (later_none w.distinct) a w
      alike_exprs (more_exprs e es) w a more =
          alike_then (alike_expr e w) (λ ms v u f g l m b. alike_exprs es b (more_values m (values_later l a)) (λ ls ws zs x y l' h i.
          more ls ws zs x y (later_then l l') h i))

    mutual
      alike_stmt : (s : TypedStmt) {ns : Names} {f : FrameIn} {g : FrameOf} → FrameLike c ns f g
          → Alike P c ns (of_stmt in_order P dp s f) (of_stmt others P dq s g)
      alike_stmt (statement at (stmt.declare x t is_final e)) w = alike_then (alike_expr e w) (λ ms v u f g l m b. alike_gives null_like (with_like b x m))
      alike_stmt (statement at (stmt.store x e)) w = alike_then (alike_expr e w) (λ ms v u f g l m b. alike_gives null_like (with_like b x m))
      alike_stmt (statement at (stmt.store_field o d k e)) w =
          alike_then (alike_expr o w) (λ ms v u f g l m b. alike_then (alike_expr e b) (λ ls v' u' f' g' l' m' b'.
          alike_unless at (value_later l' m) (λ n x h. alike_write at n x (pos k) h m' b')))
      alike_stmt (statement at (stmt.store_element a i e)) w =
          alike_then (alike_expr a w) (λ ms v u f g l m b. alike_then (alike_expr i b) (λ ls v' u' f' g' l' m' b'.
          alike_then (alike_expr e b') (λ ks v'' u'' f'' g'' l'' m'' b''. alike_unless at (value_later (later_then l' l'') m) (λ n x h.
          subst (λ (z : ℤ). Alike P c ks (write_cell at n (number v') v'' f'') (write_cell at x z u'' g'')) (number_like m')
          (alike_write at n x (number v') h m'' b'')))))
      alike_stmt (statement at (stmt.store_part k i e)) w =
          alike_then (alike_expr i w) (λ ms v u f g l m b. alike_then (alike_expr e b) (λ ls v' u' f' g' l' m' b'.
          alike_part at k (number_like m) b' (λ n x p h. alike_write at n x p h m' b')))
      alike_stmt (statement at (stmt.perform e)) w = alike_then (alike_expr e w) (λ ms v u f g l m b. alike_gives null_like b)
      alike_stmt (statement at (stmt.block ss)) w = alike_stmts ss w
      alike_stmt (statement at (stmt.choice e s)) w =
          alike_then (alike_expr e w) (λ ms v u f g l m b. alike_by _ _ (truth_like m) (alike_gives null_like b) (alike_stmt s b))
      alike_stmt (statement at (stmt.choice_else e s t)) w =
          alike_then (alike_expr e w) (λ ms v u f g l m b. alike_by _ _ (truth_like m) (alike_stmt t b) (alike_stmt s b))
      alike_stmt (statement at (stmt.while_loop e s)) w =
          alike_again c (λ ms x y l h. alike_expr e h) (λ ms x y l h. alike_stmt s h) w (λ ms x y l h. alike_ret h)
      alike_stmt (statement at stmt.return_nothing) w = alike_ret (returns_like w.distinct null_like)
      alike_stmt (statement at (stmt.return_value e)) w = alike_then (alike_expr e w) (λ ms v u f g l m b. alike_ret (returns_like b.distinct m))
      alike_stmt (statement at (stmt.print_int e)) w = alike_then (alike_expr e w) (λ ms v u f g l m b. alike_prints (text_like m) b)
      alike_stmt (statement at (stmt.print_boolean e)) w = alike_then (alike_expr e w) (λ ms v u f g l m b. alike_prints (text_like m) b)
      alike_stmt (statement at (stmt.print_text text)) w = alike_prints refl w
      alike_stmt (statement at (stmt.local_regions rs)) w = alike_makes_all rs w
      alike_stmt (statement at (stmt.atomic effects ss)) w =
          alike_act rest_like (λ ms a b l e. alike_act (enter_like _ _) (λ ls a' b' l' e'. alike_then (alike_stmts ss (frame_later l' (frame_later l w)))
          (λ ks v u f g l'' m h. alike_act exit_like (λ js a'' b'' l3 e''. alike_gives null_like (frame_later l3 h)))))
      alike_stmt (statement at (stmt.cobegin forking bs)) w = alike_cobegin dp dq deep at forking bs w
      alike_stmt (statement at (stmt.foreach forking x start count s)) w =
          alike_then (alike_expr start w) (λ ms v u f g l m b. alike_then (alike_expr count b) (λ ls v' u' f' g' l' m' b'.
          alike_forks dp dq deep at forking None x s (number_like m) (number_like m') b'))
      alike_stmt (statement at (stmt.foreach_parts k (of_array a) count s)) w =
          alike_then (alike_expr a w) (λ ms v u f g l m b. alike_then (alike_expr count (with_like (with_like b k m) (k + 1) (int_like (pos 0))))
          (λ ls v' u' f' g' l' m' b'.
          alike_array_parts dp dq deep at k s (with_like b' (k + 3) m')))
      alike_stmt (statement at (stmt.foreach_parts k (of_part j) count s)) w =
          alike_then (alike_expr count (taken_over k j w)) (λ ms v u f g l m b.
          alike_parts dp dq deep at k s (with_like (with_like b (k + 3) m) (k + 2) (slot_like (with_like b (k + 3) m).values (j + 2))))
        where
          taken_over : {ns : Names} {f : FrameIn} {g : FrameOf} (k j : ℕ) → FrameLike c ns f g → FrameLike c ns (part_taken_over k j f) (part_taken_over k j g)
          taken_over k j h = let i = with_like h k (slot_like h.values j) in with_like i (k + 1) (slot_like i.values (j + 1))

      alike_stmts : (ss : TypedStmts) {ns : Names} {f : FrameIn} {g : FrameOf} → FrameLike c ns f g
          → Alike P c ns (of_stmts in_order P dp ss f) (of_stmts others P dq ss g)
      alike_stmts no_stmts w = alike_gives null_like w
      alike_stmts (more_stmts s ss) w = alike_then (alike_stmt s w) (λ ms v u f g l m b. alike_stmts ss b)

  meaning_alike : (d : ℕ) (ns : Names) (ss : TypedStmts) (f : FrameIn) (g : FrameOf) → FrameLike d ns f g
      → Alike P d ns (meaning in_order P d ss f) (meaning others P d ss g)
  unfolding meaning
  meaning_alike zero ns ss f g w = alike_stmts None None zero tt ss w
  meaning_alike (suc d) ns ss f g w = alike_stmts (Some (meaning in_order P d)) (Some (meaning others P d)) (suc d) (d, refl, refl, meaning_alike d) ss w

  pub does_alike : {ns : Names} {t : Task ℕ Counted} {s : Task Name LocalRegion} (h : TaskLike ns t s) → Alike P h.left ns (does in_order P t) (does others P s)
  does_alike {ns} {t} {s} h =
      let m = meaning_alike h.left ns t.work.stmts (begun t.work.takes t.frame) (begun s.work.takes s.frame)
      (subst (λ (o : Option ℕ). FrameLike h.left ns (begun t.work.takes t.frame) (begun o s.frame)) (ap (λ z. z.takes) h.work)
      (begun_like t.work.takes h.frame)) in
      subst (λ (n : ℕ). Alike P h.left ns (meaning in_order P n t.work.stmts (begun t.work.takes t.frame)) (does others P s)) (sym h.frame.left)
      (subst (λ (n : ℕ). Alike P h.left ns (meaning in_order P h.left t.work.stmts (begun t.work.takes t.frame)) (meaning others P n s.work.stmts
      (begun s.work.takes s.frame)))
      (sym h.frame.left_too)
      (subst (λ (ss : TypedStmts). Alike P h.left ns (meaning in_order P h.left t.work.stmts (begun t.work.takes t.frame)) (meaning others P h.left ss
      (begun s.work.takes s.frame)))
      (ap (λ z. z.stmts) h.work) m))
