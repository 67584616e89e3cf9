-- Expressions: one rule a construct, with the effects that it has.
use Rattle.std.specs.Prelude.{◌≡◌, ℕ, ◌⊎◌, ℤ, FitsSigned, Bool, false, IsTrue, List, [], ◌∷◌, ◌++◌, All, map, Option, Some, None}
use Rattle.std.specs.Int.{w32}
use Rattle.lang_base.specs.declared.elems.Elem.{Elem}
use Rattle.lang_base.specs.declared.elems.Elem.TheVariants.{At, Any}
use Rattle.lang_base.specs.declared.elems.Index.TheVariants.{Literal, Variable}
use Rattle.lang_base.specs.declared.place.Place.{Place}
use Rattle.lang_base.specs.declared.region.Rpl.{Rpl}
use Rattle.lang_base.specs.Regions.{is_any, substituted, fully_specified}
use Rattle.lang_base.specs.Types.{PlainType, int, boolean, void, null, class, array, type_with, path_at, type_at, rigid_in_index}
use Rattle.lang_base.specs.declared.op.BinaryOp.{BinaryOp}
use Rattle.lang_base.specs.declared.op.Operands.{Operands}
use Rattle.lang_base.specs.declared.op.Operands.TheVariants.{Ints, Same}
use Rattle.lang_base.specs.declared.op.UnaryOp.TheVariants.{Negate, Not}
use Rattle.lang_base.specs.Operators.{operands_of, result_of}
use Rattle.lang_typed.specs.Plain.{PlainProgram, PlainClass, PlainField, PlainMember, TypedExpr, typed, type_of, local, TypedExprs, no_exprs, more_exprs}
use Rattle.lang_typed.specs.Plain.{ExprForm as form}
use Rattle.lang_typed.specs.Scope.{Scope, Local, variable, frozen, constant, part, Above, IsBelow, class_at, member_at, field_at, row_at}
use Rattle.lang_typed.specs.Effects.{Own, does, uses, reads, summary_with}
use Rattle.lang_typed.specs.Types.{GoodArgs, GoodType, Subtype, Known, Readable}

-- a local that can be read, with its type
abbrev pub Holds : Option Local → PlainType → Type 0
Holds l t = (l ≡ Some (variable t)) ⊎ (l ≡ Some (frozen t)) ⊎ (l ≡ Some (constant t))

-- how an index stands in a region path: a literal, a local that keeps its value, or else any index
abbrev pub variable_elem : ℕ → Option Local → Elem
variable_elem x (Some (constant int)) = At (Variable x)
variable_elem x _ = Any

abbrev pub index_elem : Scope → TypedExpr → Elem
index_elem L (typed place t (form.int k)) = At (Literal k)
index_elem L (typed place t (local x)) = variable_elem x (L.local x)
index_elem L _ = Any

abbrev pub IsReference : PlainType → Type 0
IsReference (class c args) = Unit {0}
IsReference (array t a named) = Unit {0}
IsReference null = Unit {0}
IsReference int = ⊥
IsReference boolean = ⊥
IsReference void = ⊥

abbrev pub BothInts : PlainType → PlainType → Type 0
BothInts t u = (t ≡ int) × (u ≡ int)

-- what can be told from each other
abbrev pub Comparable : PlainType → PlainType → Type 0
Comparable t u = BothInts t u ⊎ ((t ≡ boolean) × (u ≡ boolean)) ⊎ (IsReference t × IsReference u)

abbrev pub Takes : Operands → PlainType → PlainType → Type 0
Takes Ints t u = BothInts t u
Takes Same t u = Comparable t u

-- where nothing may reach an nd construct, no member does that the call may reach, by any class below
abbrev pub StaysNdFree : PlainProgram → Scope → ℕ → ℕ → Type 0
StaysNdFree P L c r = IsTrue L.nd_free → (d m : ℕ) → IsBelow P d c → row_at P d r ≡ Some m → IsTrue (L.member_nd_free m)

mutual
  pub data Has (P : PlainProgram) (L : Scope) : TypedExpr → List Own → Type 0 where
    -- a number of 32 bits
    literal_int : {at : Place} {k : ℤ} → FitsSigned w32 k → Has P L (typed at int (form.int k)) []
    literal_boolean : {at : Place} {b : Bool} → Has P L (typed at boolean (form.boolean b)) []
    literal_null : {at : Place} → Has P L (typed at null form.null) []
    read_local : {at : Place} {x : ℕ} {t : PlainType} → Holds (L.local x) t → Has P L (typed at t (form.local x)) []
    -- e.f: reads the field's region
    read_field : {at : Place} {t : PlainType} {e : TypedExpr} {c k : ℕ} {args : List Rpl} {f : PlainField} {E : List Own} →
        Has P L e E → type_of e ≡ class c args → field_at P c k ≡ Some f → Readable args f.ty → t ≡ type_with args f.ty →
        Has P L (typed at t (form.field e c k)) (E ++ does (reads (substituted args f.region)) ∷ [])
    -- a[i]: reads the array's region at the index; at one that isn't known the element's type may not be rigid in it
    read_element : {at : Place} {u : PlainType} {a i : TypedExpr} {t : PlainType} {rpl : Rpl} {named : Bool} {E F : List Own} →
        Has P L a E → type_of a ≡ array t rpl named → Has P L i F → type_of i ≡ int →
        (IsTrue (is_any (index_elem L i)) → rigid_in_index 0 t ≡ false) → u ≡ type_at 0 (index_elem L i) t →
        Has P L (typed at u (form.element a i)) (E ++ (F ++ does (reads (path_at 0 (index_elem L i) rpl)) ∷ []))
    length_of_array : {at : Place} {a : TypedExpr} {t : PlainType} {rpl : Rpl} {named : Bool} {E : List Own} →
        Has P L a E → type_of a ≡ array t rpl named → Has P L (typed at int (form.array_length a)) E
    -- e.<regions>m(..): the member in the row, seen through the receiver's class; it does what its summary says
    call_method : {at : Place} {t : PlainType} {e : TypedExpr} {c r n : ℕ} {args owned regions : List Rpl} {m : PlainMember} {es : TypedExprs} {E F : List Own} →
        Has P L e E → type_of e ≡ class c args → row_at P c r ≡ Some n → member_at P n ≡ Some m → Above P c args m.class owned →
        GoodArgs P L 0 m.params m.given owned regions → All (λ a. IsTrue (fully_specified a)) regions →
        All (Known (owned ++ regions)) m.formals → Readable (owned ++ regions) m.result →
        Fit P L es (map (type_with (owned ++ regions)) m.formals) F → StaysNdFree P L c r → t ≡ type_with (owned ++ regions) m.result →
        Has P L (typed at t (form.call e c r regions es)) (E ++ (F ++ summary_with (owned ++ regions) m.summary))
    -- new C<args>(): of a class without a constructor, and of one with
    create_object : {at : Place} {c : ℕ} {args : List Rpl} {k : PlainClass} →
        class_at P c ≡ Some k → GoodArgs P L 0 k.params k.given [] args → All (λ a. IsTrue (fully_specified a)) args → k.constructor ≡ None →
        Has P L (typed at (class c args) (form.create no_exprs)) []
    construct_object : {at : Place} {c n : ℕ} {args : List Rpl} {k : PlainClass} {m : PlainMember} {es : TypedExprs} {F : List Own} →
        class_at P c ≡ Some k → GoodArgs P L 0 k.params k.given [] args → All (λ a. IsTrue (fully_specified a)) args →
        k.constructor ≡ Some n → member_at P n ≡ Some m → Fit P L es (map (type_with args) m.formals) F →
        (IsTrue L.nd_free → IsTrue (L.member_nd_free n)) →
        Has P L (typed at (class c args) (form.create es)) (F ++ summary_with args m.summary)
    -- new T[n]<R>: the region is fully specified at each index
    make_array : {at : Place} {n : TypedExpr} {t : PlainType} {a : Rpl} {named : Bool} {E : List Own} →
        GoodType P L 0 (array t a named) → IsTrue (fully_specified a) → Has P L n E → type_of n ≡ int →
        Has P L (typed at (array t a named) (form.create_array n)) E
    negative : {at : Place} {e : TypedExpr} {E : List Own} → Has P L e E → type_of e ≡ int → Has P L (typed at int (form.unary Negate e)) E
    negation : {at : Place} {e : TypedExpr} {E : List Own} → Has P L e E → type_of e ≡ boolean → Has P L (typed at boolean (form.unary Not e)) E
    operation : {at : Place} {t : PlainType} {o : BinaryOp} {a b : TypedExpr} {E F : List Own} →
        Has P L a E → Has P L b F → Takes (operands_of o) (type_of a) (type_of b) → t ≡ result_of o → Has P L (typed at t (form.binary o a b)) (E ++ F)
    conjunction : {at : Place} {a b : TypedExpr} {E F : List Own} →
        Has P L a E → type_of a ≡ boolean → Has P L b F → type_of b ≡ boolean → Has P L (typed at boolean (form.both a b)) (E ++ F)
    disjunction : {at : Place} {a b : TypedExpr} {E F : List Own} →
        Has P L a E → type_of a ≡ boolean → Has P L b F → type_of b ≡ boolean → Has P L (typed at boolean (form.either a b)) (E ++ F)
    -- a part's length has no effect; its element is read through the part
    length_of_part : {at : Place} {k : ℕ} {t : PlainType} {a : Rpl} → L.local k ≡ Some (part t a) → Has P L (typed at int (form.part_length k)) []
    read_part : {at : Place} {k : ℕ} {t : PlainType} {a : Rpl} {i : TypedExpr} {E : List Own} →
        L.local k ≡ Some (part t a) → Has P L i E → type_of i ≡ int → Has P L (typed at t (form.part_element k i)) (E ++ uses k (reads a) ∷ [])

  -- actuals for formals of these types
  pub data Fit (P : PlainProgram) (L : Scope) : TypedExprs → List PlainType → List Own → Type 0 where
    none : Fit P L no_exprs [] []
    one_more : {e : TypedExpr} {es : TypedExprs} {t : PlainType} {ts : List PlainType} {E F : List Own} →
        Has P L e E → Subtype P (type_of e) t → Fit P L es ts F → Fit P L (more_exprs e es) (t ∷ ts) (E ++ F)
