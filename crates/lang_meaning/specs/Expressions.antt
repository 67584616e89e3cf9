-- What expressions mean: one clause a construct, in the order of evaluation. `dp` is what a body does one call deeper, and is
-- none at the deepest.
use Rattle.std.specs.Prelude.{ℕ, ◌-◌, ◌+◌, ℤ, pos, negsuc, Bool, true, false, cond, List, [], ◌∷◌, ◌++◌, map, length, reverse, Option, Some, None}
use Rattle.std.specs.Option.{option_map_or}
use Rattle.lang_base.specs.declared.place.Place.{Place}
use Rattle.lang_base.specs.declared.region.Rpl.{Rpl}
use Rattle.lang_base.specs.declared.value.Trap.TheVariants as trap
use Rattle.lang_base.specs.Types.{PlainType}
use Rattle.lang_base.specs.Types.{PlainType as ty}
use Rattle.lang_base.specs.declared.op.BinaryOp.{BinaryOp}
use Rattle.lang_typed.specs.Plain.{PlainProgram, PlainField, PlainMember, TypedExpr, typed, TypedExprs, no_exprs, more_exprs, TypedStmts}
use Rattle.lang_typed.specs.Plain.{ExprForm as form}
use Rattle.lang_typed.specs.Scope.{class_at, member_at, row_at, constructor_of, parent_of}
use Rattle.lang_meaning.specs.Values.{Value, Int, Boolean, Null, Object, Region, Thing, An_object, An_array, Naming}
use Rattle.lang_meaning.specs.Actions.{Frame, Read, Look, New}
use Rattle.lang_meaning.specs.Core.{Result, Goes_on, Returns, Prog, Ret, Traps, Act, on, and_then}
use Rattle.lang_meaning.specs.Counts.{number, truth, reference, value_read, length_seen, name_made, class_seen, class_entered, operated, unary, slot_value}
use Rattle.lang_meaning.specs.Counts.{padded, part_place}
use Rattle.lang_meaning.specs.Regions.{around, unmade_from, concrete, is_long, some_long, regions_above}

-- what statements do one call deeper
abbrev pub Deeper : Type 0 → Type 0 → Type 0
Deeper N M = TypedStmts → Frame N M → Prog N M

abbrev pub gives : {N M : Type 0} → Value N → Frame N M → Prog N M
gives v f = Ret (Goes_on v f)

-- a value of no use
abbrev pub none : {N : Type 0} → Value N
none = Null

-- the default value of a type
abbrev pub first_of : {N : Type 0} → PlainType → Value N
first_of ty.int = Int (pos 0)
first_of ty.boolean = Boolean false
first_of ty.void = Null
first_of ty.null = Null
first_of (ty.class c args) = Null
first_of (ty.array t a named) = Null

-- an operation traps where it gives nothing
abbrev pub operation : {N M : Type 0} → (N → N → Bool) → Place → BinaryOp → Value N → Value N → Frame N M → Prog N M
operation same at o v u f = elim (operated same o v u) [ None ↦ Traps trap.Divide at | Some w ↦ gives w f ]

-- what follows where the value is an object or an array; null traps
abbrev pub unless_null : {N M : Type 0} → Place → Value N → (N → Prog N M) → Prog N M
unless_null at v k = elim (reference v) [ None ↦ Traps trap.Null at | Some n ↦ k n ]

-- a read of a cell, which traps where the index is out of bounds
abbrev pub read_cell : {N M : Type 0} → Place → N → ℤ → Frame N M → Prog N M
read_cell at n i f = Act (Read n i) (λ a. elim (value_read a) [ None ↦ Traps trap.Index at | Some v ↦ gives v f ])

-- the frame of a member that is entered
abbrev pub entered : {N M : Type 0} → Naming N M → PlainMember → List (Value N) → List (Region M) → ℕ → Frame N M
entered names m vs regions left =
    record { values = padded m.slots vs; regions = regions; locals = unmade_from names 0 m.local_regions; left = left }

-- after a call: its value, and the caller's locals
abbrev pub back : {N M : Type 0} → Frame N M → Result N M → Prog N M
back f (Goes_on v g) = gives none f
back f (Returns v) = gives v f

-- the member in the row of a class is entered: its region parameters are those of its class, as the object has them, and then
-- its own
abbrev pub enter : {N M : Type 0} → Naming N M → PlainProgram → Deeper N M → ℕ × List (Region M) → ℕ → List (Value N) → List (Region M) → Frame N M → Prog N M
enter names P dp seen r vs own f =
    elim (row_at P seen.0 r) [
      | None ↦ gives none f
      | Some n ↦ elim (member_at P n) [
        | None ↦ gives none f
        | Some m ↦ on (dp m.body (entered names m vs (regions_above names (parent_of P) (length P.classes) seen.0 seen.1 m.class ++ own) (f.left - 1))) (back f)
      ]
    ]

-- a call of what isn't null: the region arguments, then how deep it is, then a look at the object, and the entry
abbrev pub called : {N M : Type 0} → Naming N M → PlainProgram → Option (Deeper N M) → Place → ℕ → ℕ → List (Region M) → N → List (Value N) → Frame N M
    → Prog N M
called names P None at c r own n vs f = Traps trap.Stack at
called names P (Some dp) at c r own n vs f =
    cond (some_long own) (Traps trap.Stack at)
    (Act (Look n) (λ a. enter names P dp (class_entered (parent_of P) (length P.classes) c (class_seen a)) r (Object n ∷ vs) own f))

abbrev pub class_fields : PlainProgram → ℕ → List PlainField
class_fields P c = option_map_or (λ k. k.fields) (class_at P c) []

abbrev pub new_object : {N M : Type 0} → PlainProgram → ℕ → List (Region M) → Thing N M
new_object P c regions = An_object c regions (map (λ f. first_of f.ty) (class_fields P c))

-- a creation: the region arguments, then where the class declares a constructor how deep it is, then the object, and the entry
abbrev pub created : {N M : Type 0} → Naming N M → PlainProgram → Option (Deeper N M) → Place → ℕ → List (Region M) → List (Value N) → Frame N M → Prog N M
created names P dp at c regions vs f =
    cond (some_long regions) (Traps trap.Stack at)
    (elim (constructor_of P c) [
      | None ↦ Act (New (new_object P c regions) false) (λ a. gives (name_made a) f)
      | Some n ↦ elim dp [
        | None ↦ Traps trap.Stack at
        | Some deeper ↦ Act (New (new_object P c regions) true) (λ a. elim (member_at P n) [
          | None ↦ gives (name_made a) f
          | Some m ↦ on (deeper m.body (entered names m (name_made a ∷ vs) regions (f.left - 1))) (λ r. gives (name_made a) f)
        ])
      ]
    ])

-- the creation of an array of a length: a negative one traps, then the region is looked at
abbrev pub made_array : {N M : Type 0} → Naming N M → Place → PlainType → ℤ → Frame N M → Prog N M
made_array names at (ty.array t a named) (negsuc k) f = Traps trap.Size at
made_array names at (ty.array t a named) (pos k) f =
    cond (is_long (concrete names (around f) a)) (Traps trap.Stack at)
    (Act (New (An_array (concrete names (around f) a) k (first_of t)) false) (λ x. gives (name_made x) f))
made_array names at t k f = gives none f

-- the class and the region arguments of a created object
abbrev pub class_in : PlainType → ℕ × List Rpl
class_in (ty.class c args) = (c, args)
class_in t = (0, [])

-- an element of a part: the index is looked at against the part's length, and counts from its first place
abbrev pub part_element : {N M : Type 0} → Place → ℕ → ℤ → Frame N M → (N → ℤ → Prog N M) → Prog N M
part_element at k i f j =
    elim (part_place k i f.values) [ None ↦ Traps trap.Index at | Some p ↦ unless_null at (slot_value f.values k) (λ n. j n p) ]

abbrev mutual
  pub of_expr : {N M : Type 0} → Naming N M → PlainProgram → Option (Deeper N M) → TypedExpr → Frame N M → Prog N M
  of_expr names P dp (typed at t (form.int k)) f = gives (Int k) f
  of_expr names P dp (typed at t (form.boolean b)) f = gives (Boolean b) f
  of_expr names P dp (typed at t form.null) f = gives Null f
  of_expr names P dp (typed at t (form.local x)) f = gives (slot_value f.values x) f
  of_expr names P dp (typed at t (form.field e c k)) f = and_then (of_expr names P dp e f) (λ v g. unless_null at v (λ n. read_cell at n (pos k) g))
  of_expr names P dp (typed at t (form.element a i)) f =
      and_then (of_expr names P dp a f) (λ v g. and_then (of_expr names P dp i g) (λ u h. unless_null at v (λ n. read_cell at n (number u) h)))
  of_expr names P dp (typed at t (form.array_length a)) f =
      and_then (of_expr names P dp a f) (λ v g. unless_null at v (λ n. Act (Look n) (λ x. gives (Int (pos (length_seen x))) g)))
  of_expr names P dp (typed at t (form.call e c r regions es)) f =
      and_then (of_expr names P dp e f) (λ v g. of_exprs names P dp es g [] (λ vs h.
      unless_null at v (λ n. called names P dp at c r (map (concrete names (around h)) regions) n (reverse vs) h)))
  of_expr names P dp (typed at t (form.create es)) f =
      of_exprs names P dp es f [] (λ vs g. created names P dp at (class_in t).0 (map (concrete names (around g)) (class_in t).1) (reverse vs) g)
  of_expr names P dp (typed at t (form.create_array n)) f = and_then (of_expr names P dp n f) (λ v g. made_array names at t (number v) g)
  of_expr names P dp (typed at t (form.unary o e)) f = and_then (of_expr names P dp e f) (λ v g. gives (unary o v) g)
  of_expr names P dp (typed at t (form.binary o a b)) f =
      and_then (of_expr names P dp a f) (λ v g. and_then (of_expr names P dp b g) (λ u h. operation names.same at o v u h))
  of_expr names P dp (typed at t (form.both a b)) f =
      and_then (of_expr names P dp a f) (λ v g. elim (truth v) [ false ↦ gives (Boolean false) g | true ↦ of_expr names P dp b g ])
  of_expr names P dp (typed at t (form.either a b)) f =
      and_then (of_expr names P dp a f) (λ v g. elim (truth v) [ false ↦ of_expr names P dp b g | true ↦ gives (Boolean true) g ])
  of_expr names P dp (typed at t (form.part_length k)) f = gives (slot_value f.values (k + 2)) f
  of_expr names P dp (typed at t (form.part_element k i)) f =
      and_then (of_expr names P dp i f) (λ v g. part_element at k (number v) g (λ n j. read_cell at n j g))

  -- actuals, after those that have these values, the latest first; and what follows
  pub of_exprs : {N M : Type 0} → Naming N M → PlainProgram → Option (Deeper N M) → TypedExprs → Frame N M → List (Value N) →
      (List (Value N) → Frame N M → Prog N M) → Prog N M
  of_exprs names P dp no_exprs f vs j = j vs f
  of_exprs names P dp (more_exprs e es) f vs j = and_then (of_expr names P dp e f) (λ v g. of_exprs names P dp es g (v ∷ vs) j)
