-- What passes in the judgement names nothing but what is in scope.
use Rattle.std.proofs.Common.{◌≡◌, ℕ, zero, suc, ◌==◌, Bool, true, false, cond, List, [], ◌∷◌, ◌++◌, All, map, slice_index_or, inl, inr, Option, Some, refl, sym, subst}
use Rattle.std.proofs.lemmas.List.Elements.{All-head, All-tail}
use Rattle.lang_base.specs.declared.effect.Effect.{Effect}
use Rattle.lang_base.specs.declared.elems.Elem.{Elem}
use Rattle.lang_base.specs.declared.elems.Elem.TheVariants.{Name, At, Any, Star, Local}
use Rattle.lang_base.specs.declared.elems.Index.TheVariants.{Literal, Variable, Renamed, Own}
use Rattle.lang_base.specs.declared.op.BinaryOp.{BinaryOp}
use Rattle.lang_base.specs.declared.op.BinaryOp.TheVariants as op
use Rattle.lang_base.specs.declared.region.Head.{Head}
use Rattle.lang_base.specs.declared.region.Head.TheVariants.{Root, Param}
use Rattle.lang_base.specs.declared.region.Rpl.{Rpl}
use Rattle.lang_base.specs.Regions.{argument, put_at, substituted}
use Rattle.lang_base.specs.Types.{PlainType, int, boolean, void, null, class, array, type_with, elem_at, path_at, type_at}
use Rattle.lang_base.specs.Operators.{result_of}
use Rattle.lang_typed.specs.Effects.{does, uses, summary_with}
use Rattle.lang_typed.specs.Effects.{Own as Done}
use Rattle.lang_typed.specs.Plain.{PlainProgram, TypedExpr, typed, type_of, TypedExprs}
use Rattle.lang_typed.specs.Plain.{ExprForm as form}
use Rattle.lang_typed.specs.Scope.{Scope, variable, frozen, constant, part, reserved, Above}
use Rattle.lang_typed.specs.Scope.{Local as Slot}
use Rattle.lang_typed.specs.Types.{GoodElem, GoodPath, LocalPath, GoodType}
use Rattle.lang_typed.specs.Typing.{variable_elem, index_elem, Holds, Has, Fit}
use Rattle.sound_bodies.specs.Seen.{can_stand}
use Rattle.sound_bodies.specs.Naming.{ElemNames, Anything, ElemsName, PathNames, PathsName, TypeNames, EffectsName, IsIndex, IsRegion, Nothing, SlotNames, LocalsName, ThroughPart, DoneIn, AllDoneIn, Signed}

-- done to paths that name these, and through parts that are seen in a scope

abbrev pub Over : (ℕ → Type 0) → (ℕ → Type 0) → Scope → Done → Type 0
Over V R N (does e) = PathNames V R e.rpl
Over V R N (uses k e) = ThroughPart N k e

abbrev pub AllOver : (ℕ → Type 0) → (ℕ → Type 0) → Scope → List Done → Type 0
AllOver V R N [] = Unit {0}
AllOver V R N (o ∷ os) = Over V R N o × AllOver V R N os

over_of : (L : Scope) (o : Done) → DoneIn L o → Over (IsIndex L) (IsRegion L) L o
over_of L (does e) h = h
over_of L (uses k e) h = h.1

pub all_over_of : (L : Scope) (E : List Done) → AllDoneIn L E → AllOver (IsIndex L) (IsRegion L) L E
all_over_of L [] h = tt
all_over_of L (o ∷ E) h = (over_of L o h.0, all_over_of L E h.1)

-- what names these names those of which these are some

pub elem_more : (V R W S : ℕ → Type 0) → ((x : ℕ) → V x → W x) → ((r : ℕ) → R r → S r) → (e : Elem) → ElemNames V R e → ElemNames W S e
elem_more V R W S variables regions (Name n) h = tt
elem_more V R W S variables regions (At (Literal k)) h = tt
elem_more V R W S variables regions (At (Variable x)) h = variables x h
elem_more V R W S variables regions (At (Renamed x)) h = tt
elem_more V R W S variables regions (At (Own d)) h = tt
elem_more V R W S variables regions Any h = tt
elem_more V R W S variables regions Star h = tt
elem_more V R W S variables regions (Local r n) h = regions r h

pub elems_more : (V R W S : ℕ → Type 0) → ((x : ℕ) → V x → W x) → ((r : ℕ) → R r → S r) → (es : List Elem) → ElemsName V R es → ElemsName W S es
elems_more V R W S variables regions [] h = tt
elems_more V R W S variables regions (e ∷ es) h = (elem_more V R W S variables regions e h.0, elems_more V Anything W Anything variables (λ r k. k) es h.1)

-- whatever local region begins it
pub any_elem : (V R : ℕ → Type 0) (e : Elem) → ElemNames V R e → ElemNames V Anything e
any_elem V R e h = elem_more V R V Anything (λ x k. k) (λ r k. tt) e h

any_elems : (V R : ℕ → Type 0) (es : List Elem) → ElemsName V R es → ElemsName V Anything es
any_elems V R es h = elems_more V R V Anything (λ x k. k) (λ r k. tt) es h

pub names_append : (V R : ℕ → Type 0) (xs ys : List Elem) → ElemsName V R xs → ElemsName V R ys → ElemsName V R (xs ++ ys)
names_append V R [] ys h k = k
names_append V R (x ∷ xs) ys h k = (h.0, names_append V Anything xs ys h.1 (any_elems V R ys k))

at_elem : (V R : ℕ → Type 0) (D : ℕ) (x y : Elem) → ElemNames V R x → ElemNames V R y → ElemNames V R (elem_at D x y)
at_elem V R D x (Name n) h k = tt
at_elem V R D x (At (Literal j)) h k = tt
at_elem V R D x (At (Variable v)) h k = k
at_elem V R D x (At (Renamed v)) h k = tt
at_elem V R D x (At (Own e)) h k = by (D == e)
  where
    by : (b : Bool) → ElemNames V R (cond b x (At (Own e)))
    by true = h
    by false = tt
at_elem V R D x Any h k = tt
at_elem V R D x Star h k = tt
at_elem V R D x (Local r n) h k = k

at_elems : (V R : ℕ → Type 0) (D : ℕ) (x : Elem) (es : List Elem) → ElemNames V R x → ElemsName V R es → ElemsName V R (map (elem_at D x) es)
at_elems V R D x [] h k = tt
at_elems V R D x (e ∷ es) h k = (at_elem V R D x e h k.0, at_elems V Anything D x es (any_elem V R x h) k.1)

module _ (V R W S : ℕ → Type 0) (variables : (x : ℕ) → V x → W x) (regions : (r : ℕ) → R r → S r)
  where
    pub paths_more : (args : List Rpl) → PathsName V R args → PathsName W S args
    paths_more [] h = tt
    paths_more (a ∷ args) h = (elems_more V R W S variables regions a.elems h.0, paths_more args h.1)

    pub type_more : (t : PlainType) → TypeNames V R t → TypeNames W S t
    type_more int h = tt
    type_more boolean h = tt
    type_more void h = tt
    type_more null h = tt
    type_more (class c args) h = paths_more args h
    type_more (array t a named) h = (elems_more V R W S variables regions a.elems h.0, h.1, type_more t h.2)

    pub slot_more : (l : Slot) → SlotNames V R l → SlotNames W S l
    slot_more (variable t) h = type_more t h
    slot_more (frozen t) h = type_more t h
    slot_more (constant t) h = type_more t h
    slot_more (part t a) h = type_more (array t a false) h
    slot_more reserved h = tt

-- what is put into the type of a value leaves it one
pub stands_with : (args : List Rpl) (t : PlainType) → can_stand t ≡ true → can_stand (type_with args t) ≡ true
stands_with args int h = refl
stands_with args boolean h = refl
stands_with args void h = h
stands_with args null h = h
stands_with args (class c paths) h = refl
stands_with args (array t a named) h = refl

pub stands_at : (D : ℕ) (x : Elem) (t : PlainType) → can_stand t ≡ true → can_stand (type_at D x t) ≡ true
stands_at D x int h = refl
stands_at D x boolean h = refl
stands_at D x void h = h
stands_at D x null h = h
stands_at D x (class c paths) h = refl
stands_at D x (array t a named) h = refl

pub good_stands : (P : PlainProgram) (L : Scope) (D : ℕ) (t : PlainType) → GoodType P L D t → can_stand t ≡ true
good_stands P L D int g = refl
good_stands P L D boolean g = refl
good_stands P L D void g = absurd g
good_stands P L D null g = absurd g
good_stands P L D (class c args) g = refl
good_stands P L D (array t a named) g = refl

module _ (V R : ℕ → Type 0)
  where
    pub paths_append : (xs ys : List Rpl) → PathsName V R xs → PathsName V R ys → PathsName V R (xs ++ ys)
    paths_append [] ys h k = k
    paths_append (x ∷ xs) ys h k = (h.0, paths_append xs ys h.1 k)

    closed_elems : (es : List Elem) → ElemsName Nothing Nothing es → ElemsName V R es
    closed_elems es h = elems_more Nothing Nothing V R (λ x no. absurd no) (λ r no. absurd no) es h

    -- arguments put in
    argument_names : (args : List Rpl) (p : ℕ) (b : Rpl) → PathNames V R b → PathsName V R args → PathNames V R (slice_index_or args p b)
    argument_names [] p b k h = k
    argument_names (a ∷ args) zero b k h = h.0
    argument_names (a ∷ args) (suc p) b k h = argument_names args p b k h.1

    put_names : (args : List Rpl) → PathsName V R args → (h : Head) (es : List Elem) → ElemsName V R es → ElemsName V R (put_at h es args).elems
    put_names args all Root es k = k
    put_names args all (Param p) es k = names_append V R (argument args p).elems es (argument_names args p (record { head = Param p; elems = [] }) tt all) k

    pub substituted_names : (args : List Rpl) → PathsName V R args → (a : Rpl) → PathNames Nothing Nothing a → PathNames V R (substituted args a)
    unfolding substituted
    substituted_names args all a h = put_names args all a.head a.elems (closed_elems a.elems h)

    all_substituted : (args : List Rpl) → PathsName V R args → (ps : List Rpl) → PathsName Nothing Nothing ps → PathsName V R (map (substituted args) ps)
    all_substituted args all [] h = tt
    all_substituted args all (a ∷ ps) h = (substituted_names args all a h.0, all_substituted args all ps h.1)

    pub with_names : (args : List Rpl) → PathsName V R args → (t : PlainType) → TypeNames Nothing Nothing t → TypeNames V R (type_with args t)
    with_names args all int h = tt
    with_names args all boolean h = tt
    with_names args all void h = tt
    with_names args all null h = tt
    with_names args all (class c ps) h = all_substituted args all ps h
    with_names args all (array t a named) h = (substituted_names args all a h.0, stands_with args t h.1, with_names args all t h.2)

    -- an index put in
    pub at_path : (D : ℕ) (x : Elem) (a : Rpl) → ElemNames V R x → PathNames V R a → PathNames V R (path_at D x a)
    at_path D x a h k = at_elems V R D x a.elems h k

    at_paths : (D : ℕ) (x : Elem) (ps : List Rpl) → ElemNames V R x → PathsName V R ps → PathsName V R (map (path_at D x) ps)
    at_paths D x [] h k = tt
    at_paths D x (a ∷ ps) h k = (at_path D x a h k.0, at_paths D x ps h k.1)

    pub at_type : (D : ℕ) (x : Elem) (t : PlainType) → ElemNames V R x → TypeNames V R t → TypeNames V R (type_at D x t)
    at_type D x int h k = tt
    at_type D x boolean h k = tt
    at_type D x void h k = tt
    at_type D x null h k = tt
    at_type D x (class c ps) h k = at_paths D x ps h k
    at_type D x (array t a named) h k = (at_path (suc D) x a h k.0, stands_at (suc D) x t k.1, at_type (suc D) x t h k.2)

-- what is good names what is in scope

module _ (P : PlainProgram) (L : Scope)
  where
    good_elem : (R : ℕ → Type 0) (D : ℕ) (e : Elem) → GoodElem P L D e → ElemNames (IsIndex L) R e
    good_elem R D (Name n) g = tt
    good_elem R D (At (Literal k)) g = tt
    good_elem R D (At (Variable x)) g = g
    good_elem R D (At (Renamed x)) g = tt
    good_elem R D (At (Own d)) g = tt
    good_elem R D Any g = tt
    good_elem R D Star g = tt
    good_elem R D (Local r n) g = absurd g

    good_elems : (R : ℕ → Type 0) (D : ℕ) (es : List Elem) → All (GoodElem P L D) es → ElemsName (IsIndex L) R es
    good_elems R D [] g = tt
    good_elems R D (e ∷ es) g = (good_elem R D e (All-head (GoodElem P L D) e es g), good_elems Anything D es (All-tail (GoodElem P L D) e es g))

    pub good_path : (D : ℕ) (a : Rpl) → GoodPath P L D a → PathNames (IsIndex L) (IsRegion L) a
    good_path D a g = good_elems (IsRegion L) D a.elems g.elems

    pub good_paths : (D : ℕ) (args : List Rpl) → All (GoodPath P L D) args → PathsName (IsIndex L) (IsRegion L) args
    good_paths D [] g = tt
    good_paths D (a ∷ args) g = (good_path D a (All-head (GoodPath P L D) a args g), good_paths D args (All-tail (GoodPath P L D) a args g))

    local_path : (D : ℕ) (a : Rpl) → LocalPath P L D a → PathNames (IsIndex L) (IsRegion L) a
    local_path D a g = subst (PathNames (IsIndex L) (IsRegion L)) (sym g.is) (g.in_scope, good_elems Anything D g.rest g.elems)

    pub good_type : (D : ℕ) (t : PlainType) → GoodType P L D t → TypeNames (IsIndex L) (IsRegion L) t
    good_type D int g = tt
    good_type D boolean g = tt
    good_type D void g = tt
    good_type D null g = tt
    good_type D (class c args) g = good_paths D args g.2.paths
    good_type D (array t a named) g = (elim g.0 [ inl p ↦ good_path (suc D) a p | inr q ↦ local_path 1 a q.0 ], good_stands P L (suc D) t g.1, good_type (suc D) t g.1)

-- effects

pub done_append : (L : Scope) (E F : List Done) → AllDoneIn L E → AllDoneIn L F → AllDoneIn L (E ++ F)
done_append L [] F h k = k
done_append L (o ∷ E) F h k = (h.0, done_append L E F h.1 k)

variable_names : (L : Scope) (x : ℕ) (l : Option Slot) → L.local x ≡ l → ElemNames (IsIndex L) (IsRegion L) (variable_elem x l)
variable_names L x (Some (constant int)) e = e
variable_names L x _ e = tt

pub index_names : (L : Scope) (e : TypedExpr) → ElemNames (IsIndex L) (IsRegion L) (index_elem L e)
index_names L (typed at t (form.int k)) = tt
index_names L (typed at t (form.local x)) = variable_names L x (L.local x) refl
index_names L _ = tt

result_names : (L : Scope) (o : BinaryOp) → TypeNames (IsIndex L) (IsRegion L) (result_of o)
result_names L op.Add = tt
result_names L _ = tt

module _ (P : PlainProgram) (signed : Signed P)
  where
    above_names : (L : Scope) {c d : ℕ} {args owned : List Rpl} → Above P c args d owned → PathsName (IsIndex L) (IsRegion L) args → PathsName (IsIndex L) (IsRegion L) owned
    above_names L Above.itself h = h
    above_names L {c} {d} {args} {owned} (Above.through_parent {p = p} e a) h = above_names L a (all_substituted (IsIndex L) (IsRegion L) args h p.args (signed.parents c p e))

    summary_names : (L : Scope) (args : List Rpl) → PathsName (IsIndex L) (IsRegion L) args → (es : List Effect) → EffectsName Nothing Nothing es → AllDoneIn L (summary_with args es)
    summary_names L args all [] h = tt
    summary_names L args all (e ∷ es) h = (substituted_names (IsIndex L) (IsRegion L) args all e.rpl h.0, summary_names L args all es h.1)

    module _ (L : Scope) (locals : LocalsName L)
      where
        abbrev V : ℕ → Type 0
        V = IsIndex L

        abbrev R : ℕ → Type 0
        R = IsRegion L

        holds_names : (x : ℕ) (t : PlainType) → Holds (L.local x) t → TypeNames V R t
        holds_names x t h = elim h [
          | inl a ↦ locals x (variable t) a
          | inr b ↦ elim b [ inl a ↦ locals x (frozen t) a | inr a ↦ locals x (constant t) a ]
        ]

        pub class_args : {t : PlainType} {c : ℕ} {args : List Rpl} → t ≡ class c args → TypeNames V R t → PathsName V R args
        class_args e h = subst (TypeNames V R) e h

        array_parts : {u t : PlainType} {a : Rpl} {named : Bool} → u ≡ array t a named → TypeNames V R u → PathNames V R a × (can_stand t ≡ true) × TypeNames V R t
        array_parts e h = subst (TypeNames V R) e h

        mutual
          -- an expression with a type
          pub has_names : {e : TypedExpr} {E : List Done} → Has P L e E → TypeNames V R (type_of e) × AllDoneIn L E
          has_names (Has.literal_int fits) = (tt, tt)
          has_names Has.literal_boolean = (tt, tt)
          has_names Has.literal_null = (tt, tt)
          has_names (Has.read_local {x = x} {t = t} h) = (holds_names x t h, tt)
          has_names (Has.read_field {c = c} {k = k} {args = args} {f = f} {E = E} h ty fd rd e) =
              let i = has_names h in
              let all = class_args ty i.0 in
              let s = signed.fields c k f fd in
              (subst (TypeNames V R) (sym e) (with_names V R args all f.ty s.0), done_append L E _ i.1 (substituted_names V R args all f.region s.1, tt))
          has_names (Has.read_element {i = i} {t = t} {rpl = rpl} {E = E} {F = F} h ty hi ti rg e) =
              let j = has_names h in
              let k = has_names hi in
              let p = array_parts ty j.0 in (
                subst (TypeNames V R) (sym e) (at_type V R 0 (index_elem L i) t (index_names L i) p.2),
                done_append L E _ j.1 (done_append L F _ k.1 (at_path V R 0 (index_elem L i) rpl (index_names L i) p.0, tt)),
              )
          has_names (Has.length_of_array h ty) = (tt, (has_names h).1)
          has_names (Has.call_method {n = n} {owned = owned} {regions = regions} {m = m} {E = E} {F = F} h ty rw mb ab ga fu kn rd ft st e) =
              let i = has_names h in
              let all = paths_append V R owned regions (above_names L ab (class_args ty i.0)) (good_paths P L 0 regions ga.paths) in (
                subst (TypeNames V R) (sym e) (with_names V R (owned ++ regions) all m.result (signed.results n m mb)),
                done_append L E _ i.1 (done_append L F _ (fit_names ft) (summary_names L (owned ++ regions) all m.summary (signed.summaries n m mb))),
              )
          has_names (Has.create_object {args = args} c ga fu n) = (good_paths P L 0 args ga.paths, tt)
          has_names (Has.construct_object {n = n} {args = args} {m = m} {F = F} c ga fu cn mb ft st) =
              let all = good_paths P L 0 args ga.paths in
              (all, done_append L F _ (fit_names ft) (summary_names L args all m.summary (signed.summaries n m mb)))
          has_names (Has.make_array {t = t} {a = a} {named = named} gt fu h ty) = (good_type P L 0 (array t a named) gt, (has_names h).1)
          has_names (Has.negative h ty) = (tt, (has_names h).1)
          has_names (Has.negation h ty) = (tt, (has_names h).1)
          has_names (Has.operation {o = o} {E = E} {F = F} ha hb ops e) = (subst (TypeNames V R) (sym e) (result_names L o), done_append L E F (has_names ha).1 (has_names hb).1)
          has_names (Has.conjunction {E = E} {F = F} ha ta hb tb) = (tt, done_append L E F (has_names ha).1 (has_names hb).1)
          has_names (Has.disjunction {E = E} {F = F} ha ta hb tb) = (tt, done_append L E F (has_names ha).1 (has_names hb).1)
          has_names (Has.length_of_part e) = (tt, tt)
          has_names (Has.read_part {k = k} {t = t} {a = a} {E = E} e h ty) =
              let z = locals k (part t a) e in
              (z.2, done_append L E _ (has_names h).1 ((z.0, (t, e)), tt))

          pub fit_names : {es : TypedExprs} {ts : List PlainType} {F : List Done} → Fit P L es ts F → AllDoneIn L F
          fit_names Fit.none = tt
          fit_names (Fit.one_more {E = E} {F = F} h s rest) = done_append L E F (has_names h).1 (fit_names rest)
