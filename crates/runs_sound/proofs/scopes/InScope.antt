-- The types of expressions speak of nothing but what is in scope.
use Rattle.std.proofs.Common.{◌≡◌, ℕ, zero, suc, Bool, true, false, ◌==◌, ◌||◌, List, [], ◌∷◌, ◌++◌, map, length, refl, sym, ap, ◌∙◌, subst, arith, Option, Some, None, slice_get, slice_index_or, inl, inr, ⊎_elim}
use Rattle.std.specs.Prelude.{All}
use Rattle.std.specs.List.{list_any}
use Rattle.std.proofs.lemmas.List.Folds.{list_any-append}
use Rattle.std.proofs.lemmas.List.Elements.{All-head, All-tail, All-cons, All-map, All-append}
use Rattle.std.proofs.lemmas.Bool.{cases_Bool, false≢true, cond-true, cond-false, eqb-false}
use Rattle.std.proofs.lemmas.Option.{option_and_then_some}
use Rattle.lang_base.specs.declared.elems.Elem.{Elem}
use Rattle.lang_base.specs.declared.elems.Elem.TheVariants.{Name, At, Any, Star, Local}
use Rattle.lang_base.specs.declared.elems.Index.TheVariants.{Literal, Variable, Renamed, Own}
use Rattle.lang_base.specs.declared.region.Head.{Head}
use Rattle.lang_base.specs.declared.region.Head.TheVariants.{Root, Param}
use Rattle.lang_base.specs.declared.region.Rpl.{Rpl}
use Rattle.lang_base.specs.Regions.{same_elem, argument, put_at, substituted}
use Rattle.lang_base.specs.Types.{PlainType, int, boolean, void, null, class, array, type_with, elem_at, path_at, type_at, has_index, mentions_index}
use Rattle.lang_typed.specs.Effects.{Own as EffectOwn}
use Rattle.lang_typed.specs.Plain.{PlainProgram, PlainClass, PlainField, PlainMember, TypedExpr, typed, type_of}
use Rattle.lang_typed.specs.Plain.{ExprForm as form}
use Rattle.lang_typed.specs.Scope.{Scope, constant, variable, frozen, part, class_at, field_at, Above, itself, through_parent}
use Rattle.lang_typed.specs.Scope.{Local as ScopeLocal}
use Rattle.lang_typed.specs.Table.{class_scope, member_scope}
use Rattle.lang_typed.specs.Types.{GoodElem, GoodPath, LocalPath, GoodType}
use Rattle.lang_typed.specs.Typing.{variable_elem, index_elem, Has, literal_int, literal_boolean, literal_null, read_local, read_field, read_element, length_of_array, call_method, create_object, construct_object, make_array, negative, negation, operation, conjunction, disjunction, length_of_part, read_part}
use Rattle.lang_base.specs.declared.op.BinaryOp.{BinaryOp}
use Rattle.lang_base.specs.declared.op.BinaryOp.TheVariants as op
use Rattle.lang_base.specs.Operators.{result_of}
use Rattle.lang_typed.specs.WellTyped.{WellTyped}
use Rattle.runs_sound.specs.Scopes.{InScope, PathInScope, TypeInScope, GoodScope}
use Rattle.runs_sound.proofs.scopes.Closed.{IsClosed, ClosedPath, closed_path}
use Rattle.runs_sound.proofs.classes.Types.{NoOwn}
use Rattle.runs_sound.proofs.paths.Indices.{IsIndexElem}
use Rattle.runs_sound.proofs.classes.Classes.{parent_extends, parent_closed, field_good}

or_parts : (x y : Bool) → (x || y) ≡ false → (x ≡ false) × (y ≡ false)
or_parts false y e = (refl, e)
or_parts true y e = absurd (false≢true (sym e))

or_none : (x y : Bool) → x ≡ false → y ≡ false → (x || y) ≡ false
or_none false y e f = f
or_none true y e f = absurd (false≢true (sym e))

-- what is well formed is in scope

good_elem : (P : PlainProgram) (L : Scope) (D : ℕ) (x : Elem) → GoodElem P L D x → InScope L D x
good_elem P L D (Name n) g = tt
good_elem P L D (At (Literal k)) g = tt
good_elem P L D (At (Variable x)) g = g
good_elem P L D (At (Renamed x)) g = g
good_elem P L D (At (Own d)) g = g
good_elem P L D Any g = tt
good_elem P L D Star g = tt
good_elem P L D (Local r n) g = absurd g

pub good_path : (P : PlainProgram) (L : Scope) (D : ℕ) (a : Rpl) → GoodPath P L D a → PathInScope L D a
good_path P L D a g = λ k d l. good_elem P L D _ (g.elems k d l)

pub local_path : (P : PlainProgram) (L : Scope) (D : ℕ) (a : Rpl) → LocalPath P L D a → PathInScope L D a
local_path P L D a g = subst (PathInScope L D) (sym g.is) (All-cons (InScope L D) (Local g.region 0) g.rest (refl, g.in_scope) (λ k d l. good_elem P L D _ (g.elems k d l)))

deeper_elem : (L : Scope) (D : ℕ) (x : Elem) → InScope L 1 x → InScope L (suc D) x
deeper_elem L D (Name n) g = tt
deeper_elem L D (At (Literal k)) g = tt
deeper_elem L D (At (Variable x)) g = g
deeper_elem L D (At (Renamed x)) g = g
deeper_elem L D (At (Own d)) g = omega (arith, g)
deeper_elem L D Any g = tt
deeper_elem L D Star g = tt
deeper_elem L D (Local r n) g = g

pub good_type : (P : PlainProgram) (L : Scope) (D : ℕ) (t : PlainType) → GoodType P L D t → TypeInScope L D t
good_type P L D int g = tt
good_type P L D boolean g = tt
good_type P L D void g = tt
good_type P L D null g = tt
good_type P L D (class c args) g = λ k d l. good_path P L D _ (g.2.paths k d l)
good_type P L D (array t a named) g =
    (elim g.0 [ inl p ↦ good_path P L (suc D) a p | inr q ↦ λ k d l. deeper_elem L D _ (local_path P L 1 a q.0 k d l) ], good_type P L (suc D) t g.1, g.2)

-- no own index at the depth of a body
pub scope_alone : (L : Scope) (x : Elem) → InScope L 0 x → NoOwn x
scope_alone L (Name n) g = tt
scope_alone L (At (Literal k)) g = tt
scope_alone L (At (Variable x)) g = tt
scope_alone L (At (Renamed x)) g = tt
scope_alone L (At (Own d)) g = omega (arith, g)
scope_alone L Any g = tt
scope_alone L Star g = tt
scope_alone L (Local r n) g = tt

pub paths_alone : (L : Scope) (args : List Rpl) → All (PathInScope L 0) args → All (λ a. All NoOwn a.elems) args
paths_alone L args h = λ k d l j e m. scope_alone L _ (h k d l j e m)

-- arguments put in

outer_elem : (L : Scope) (D : ℕ) (x : Elem) → InScope L 0 x → InScope L D x
outer_elem L D (Name n) g = tt
outer_elem L D (At (Literal k)) g = tt
outer_elem L D (At (Variable x)) g = g
outer_elem L D (At (Renamed x)) g = g
outer_elem L D (At (Own d)) g = absurd (omega (arith, g))
outer_elem L D Any g = tt
outer_elem L D Star g = tt
outer_elem L D (Local r n) g = g

closed_elem_in : (L : Scope) (D : ℕ) (x : Elem) → IsClosed D x → InScope L D x
closed_elem_in L D (Name n) g = tt
closed_elem_in L D (At (Literal k)) g = tt
closed_elem_in L D (At (Variable x)) g = absurd g
closed_elem_in L D (At (Renamed x)) g = g
closed_elem_in L D (At (Own d)) g = g
closed_elem_in L D Any g = tt
closed_elem_in L D Star g = tt
closed_elem_in L D (Local r n) g = absurd g

argument_in : (L : Scope) (args : List Rpl) (p : ℕ) (b : Rpl) → PathInScope L 0 b → All (PathInScope L 0) args → PathInScope L 0 (slice_index_or args p b)
argument_in L [] p b hb h = hb
argument_in L (a ∷ args) zero b hb h = All-head (PathInScope L 0) a args h
argument_in L (a ∷ args) (suc p) b hb h = argument_in L args p b hb (All-tail (PathInScope L 0) a args h)

none_of : {A : Type 0} (Q : A → Type 0) → All Q []
none_of Q = λ k d l. absurd (omega (arith, l))

arguments_in : (L : Scope) (args : List Rpl) → All (PathInScope L 0) args → (p : ℕ) → PathInScope L 0 (argument args p)
arguments_in L args h p = argument_in L args p (record { head = Param p; elems = [] }) (none_of (InScope L 0)) h

put_in_scope : (L : Scope) (D : ℕ) (args : List Rpl) → All (PathInScope L 0) args → (h : Head) (a : List Elem) → All (InScope L D) a →
    All (InScope L D) (put_at h a args).elems
put_in_scope L D args al Root a h = h
put_in_scope L D args al (Param p) a h = All-append (InScope L D) (argument args p).elems a (λ k d l. outer_elem L D _ (arguments_in L args al p k d l)) h

pub substituted_in : (L : Scope) (D : ℕ) (args : List Rpl) → All (PathInScope L 0) args → (n : ℕ) (a : Rpl) → ClosedPath n D a →
    PathInScope L D (substituted args a)
unfolding substituted
substituted_in L D args al n a c = put_in_scope L D args al a.head a.elems (λ k d l. closed_elem_in L D _ (c.elems k d l))

own_none : (d : ℕ) (x : Elem) → NoOwn x → same_elem x (At (Own d)) ≡ false
own_none d (Name n) g = refl
own_none d (At (Literal k)) g = refl
own_none d (At (Variable x)) g = refl
own_none d (At (Renamed x)) g = refl
own_none d (At (Own e)) g = absurd g
own_none d Any g = refl
own_none d Star g = refl
own_none d (Local r n) g = refl

any_own : (d : ℕ) (a : List Elem) → All NoOwn a → list_any (λ x. same_elem x (At (Own d))) a ≡ false
any_own d [] h = refl
any_own d (x ∷ a) h = or_none _ _ (own_none d x (All-head NoOwn x a h)) (any_own d a (All-tail NoOwn x a h))

has_put : (L : Scope) (d : ℕ) (args : List Rpl) → All (PathInScope L 0) args → (h : Head) (a : List Elem) →
    list_any (λ x. same_elem x (At (Own d))) a ≡ false → has_index d (put_at h a args) ≡ false
has_put L d args al Root a h = h
has_put L d args al (Param p) a h =
    list_any-append (λ x. same_elem x (At (Own d))) (argument args p).elems a ∙ or_none _ _
    (any_own d (argument args p).elems (λ k e l. scope_alone L _ (arguments_in L args al p k e l))) h

has_substituted : (L : Scope) (d : ℕ) (args : List Rpl) → All (PathInScope L 0) args → (a : Rpl) → has_index d a ≡ false →
    has_index d (substituted args a) ≡ false
unfolding substituted
has_substituted L d args al a h = has_put L d args al a.head a.elems h

any_map : (f : Rpl → Rpl) (d : ℕ) → ((a : Rpl) → has_index d a ≡ false → has_index d (f a) ≡ false) → (ps : List Rpl) →
    list_any (has_index d) ps ≡ false → list_any (has_index d) (map f ps) ≡ false
any_map f d i [] h = refl
any_map f d i (a ∷ ps) h = let p = or_parts (has_index d a) _ h in or_none _ _ (i a p.0) (any_map f d i ps p.1)

mentions_with : (L : Scope) (args : List Rpl) → All (PathInScope L 0) args → (d : ℕ) (t : PlainType) → mentions_index d t ≡ false →
    mentions_index d (type_with args t) ≡ false
mentions_with L args al d int h = refl
mentions_with L args al d boolean h = refl
mentions_with L args al d void h = refl
mentions_with L args al d null h = refl
mentions_with L args al d (class c ps) h = any_map (substituted args) d (has_substituted L d args al) ps h
mentions_with L args al d (array t a named) h =
    let p = or_parts (has_index (suc d) a) _ h in or_none _ _ (has_substituted L (suc d) args al a p.0) (mentions_with L args al (suc d) t p.1)

module _ (P : PlainProgram) (M : Scope) (none : (x : ℕ) → M.local x ≡ None) (no_region : (r : ℕ) → M.regions r ≡ true → ⊥) where
  -- a type of a class with arguments put in
  pub with_in : (L : Scope) (args : List Rpl) → All (PathInScope L 0) args → (D : ℕ) (t : PlainType) → GoodType P M D t → TypeInScope L D (type_with args t)
  with_in L args al D int g = tt
  with_in L args al D boolean g = tt
  with_in L args al D void g = tt
  with_in L args al D null g = tt
  with_in L args al D (class c ps) g = All-map (PathInScope L D) (substituted args) ps
      (λ k d l. substituted_in L D args al (length M.atomic) _ (closed_path P M none D _ (g.2.paths k d l)))
  with_in L args al D (array t a named) g = (
    elim g.0 [
      | inl p ↦ substituted_in L (suc D) args al (length M.atomic) a (closed_path P M none (suc D) a p)
      | inr q ↦ absurd (no_region q.0.region q.0.in_scope)
    ],
    with_in L args al (suc D) t g.1,
    λ e. (let s = g.2 e in (has_substituted L 0 args al a s.0, mentions_with L args al 0 t s.1)),
  )

-- an index put in

at_elem : (L : Scope) (D : ℕ) (x : Elem) → IsIndexElem x → InScope L D x → (y : Elem) → InScope L (suc D) y → InScope L D (elem_at D x y)
at_elem L D x i h (Name n) g = tt
at_elem L D x i h (At (Literal k)) g = tt
at_elem L D x i h (At (Variable v)) g = g
at_elem L D x i h (At (Renamed v)) g = g
at_elem L D x i h (At (Own e)) g =
    ⊎_elim (λ t. subst (InScope L D) (sym (cond-true (D == e) x (At (Own e)) t)) h)
    (λ f. subst (InScope L D) (sym (cond-false (D == e) x (At (Own e)) f)) (let ne = eqb-false D e f in grind (arith, g, ne))) (cases_Bool (D == e))
at_elem L D x i h Any g = tt
at_elem L D x i h Star g = tt
at_elem L D x i h (Local r n) g = g

index_deeper : (L : Scope) (D : ℕ) (x : Elem) → IsIndexElem x → InScope L D x → InScope L (suc D) x
index_deeper L D (At (Literal k)) i h = tt
index_deeper L D (At (Variable v)) i h = h
index_deeper L D (At (Renamed v)) i h = h
index_deeper L D (At (Own e)) i h = absurd i
index_deeper L D Any i h = tt
index_deeper L D (Name n) i h = tt
index_deeper L D Star i h = tt
index_deeper L D (Local r n) i h = h

has_at_elem : (d D : ℕ) (x : Elem) → IsIndexElem x → (y : Elem) → same_elem y (At (Own d)) ≡ false → same_elem (elem_at D x y) (At (Own d)) ≡ false
has_at_elem d D x i (Name n) g = refl
has_at_elem d D x i (At (Literal k)) g = refl
has_at_elem d D x i (At (Variable v)) g = refl
has_at_elem d D x i (At (Renamed v)) g = refl
has_at_elem d D x i (At (Own e)) g =
    ⊎_elim (λ t. ap (λ z. same_elem z (At (Own d))) (cond-true (D == e) x (At (Own e)) t) ∙ index_no_own d x i)
    (λ f. ap (λ z. same_elem z (At (Own d))) (cond-false (D == e) x (At (Own e)) f) ∙ g) (cases_Bool (D == e))
  where
    index_no_own : (d : ℕ) (x : Elem) → IsIndexElem x → same_elem x (At (Own d)) ≡ false
    index_no_own d (At (Literal k)) i = refl
    index_no_own d (At (Variable v)) i = refl
    index_no_own d (At (Renamed v)) i = refl
    index_no_own d (At (Own e)) i = absurd i
    index_no_own d Any i = refl
    index_no_own d (Name n) i = refl
    index_no_own d Star i = refl
    index_no_own d (Local r n) i = refl
has_at_elem d D x i Any g = refl
has_at_elem d D x i Star g = refl
has_at_elem d D x i (Local r n) g = refl

has_at_elems : (d D : ℕ) (x : Elem) → IsIndexElem x → (a : List Elem) → list_any (λ x. same_elem x (At (Own d))) a ≡ false →
    list_any (λ x. same_elem x (At (Own d))) (map (elem_at D x) a) ≡ false
has_at_elems d D x i [] h = refl
has_at_elems d D x i (y ∷ a) h = let p = or_parts (same_elem y (At (Own d))) _ h in or_none _ _ (has_at_elem d D x i y p.0) (has_at_elems d D x i a p.1)

has_at : (d D : ℕ) (x : Elem) → IsIndexElem x → (a : Rpl) → has_index d a ≡ false → has_index d (path_at D x a) ≡ false
has_at d D x i a h = has_at_elems d D x i a.elems h

mentions_at : (x : Elem) → IsIndexElem x → (d D : ℕ) (t : PlainType) → mentions_index d t ≡ false → mentions_index d (type_at D x t) ≡ false
mentions_at x i d D int h = refl
mentions_at x i d D boolean h = refl
mentions_at x i d D void h = refl
mentions_at x i d D null h = refl
mentions_at x i d D (class c ps) h = any_map (path_at D x) d (has_at d D x i) ps h
mentions_at x i d D (array t a named) h =
    let p = or_parts (has_index (suc d) a) _ h in or_none _ _ (has_at (suc d) (suc D) x i a p.0) (mentions_at x i (suc d) (suc D) t p.1)

pub at_path_in : (L : Scope) (D : ℕ) (x : Elem) → IsIndexElem x → InScope L D x → (a : Rpl) → PathInScope L (suc D) a → PathInScope L D (path_at D x a)
at_path_in L D x i h a g = All-map (InScope L D) (elem_at D x) a.elems (λ k d l. at_elem L D x i h _ (g k d l))

pub at_in : (L : Scope) (x : Elem) → IsIndexElem x → (D : ℕ) → InScope L D x → (t : PlainType) → TypeInScope L (suc D) t → TypeInScope L D (type_at D x t)
at_in L x i D h int g = tt
at_in L x i D h boolean g = tt
at_in L x i D h void g = tt
at_in L x i D h null g = tt
at_in L x i D h (class c ps) g = All-map (PathInScope L D) (path_at D x) ps (λ k d l. at_path_in L D x i h (slice_index_or ps k d) (g k d l))
at_in L x i D h (array t a named) g = (
  at_path_in L (suc D) x i (index_deeper L D x i h) a g.0,
  at_in L x i (suc D) (index_deeper L D x i h) t g.1,
  λ e. (let s = g.2 e in (has_at 0 (suc D) x i a s.0, mentions_at x i 0 (suc D) t s.1)),
)

-- what doesn't mention an own index stands outside its array type

out_elem : (L : Scope) (D : ℕ) (x : Elem) → same_elem x (At (Own D)) ≡ false → InScope L (suc D) x → InScope L D x
out_elem L D (Name n) h g = tt
out_elem L D (At (Literal k)) h g = tt
out_elem L D (At (Variable v)) h g = g
out_elem L D (At (Renamed v)) h g = g
out_elem L D (At (Own e)) h g = let ne = eqb-false e D h in grind (arith, g, ne)
out_elem L D Any h g = tt
out_elem L D Star h g = tt
out_elem L D (Local r n) h g = g

any_none : {A : Type 0} (f : A → Bool) (xs : List A) → list_any f xs ≡ false → All (λ x. f x ≡ false) xs
any_none f [] h = λ j d l. absurd (omega (arith, l))
any_none f (x ∷ xs) h = let p = or_parts (f x) _ h in All-cons (λ x. f x ≡ false) x xs p.0 (any_none f xs p.1)

pub out_path : (L : Scope) (D : ℕ) (a : Rpl) → has_index D a ≡ false → PathInScope L (suc D) a → PathInScope L D a
out_path L D a h g = λ k d l. out_elem L D _ (any_none (λ x. same_elem x (At (Own D))) a.elems h k d l) (g k d l)

pub out_in : (L : Scope) (D : ℕ) (t : PlainType) → mentions_index D t ≡ false → TypeInScope L (suc D) t → TypeInScope L D t
out_in L D int h g = tt
out_in L D boolean h g = tt
out_in L D void h g = tt
out_in L D null h g = tt
out_in L D (class c ps) h g = λ k d l. out_path L D (slice_index_or ps k d) (any_none (has_index D) ps h k d l) (g k d l)
out_in L D (array t a named) h g = let p = or_parts (has_index (suc D) a) _ h in (out_path L (suc D) a p.0 g.0, out_in L (suc D) t p.1 g.1, g.2)

-- how an index stands in paths

variable_index : (L : Scope) (x : ℕ) (l : Option ScopeLocal) → L.local x ≡ l → IsIndexElem (variable_elem x l) × InScope L 0 (variable_elem x l)
variable_index L x (Some (constant int)) e = (tt, e)
variable_index L x _ e = (tt, tt)

pub index_in : (L : Scope) (e : TypedExpr) → IsIndexElem (index_elem L e) × InScope L 0 (index_elem L e)
index_in L (typed at t (form.int k)) = (tt, tt)
index_in L (typed at t (form.local x)) = variable_index L x (L.local x) refl
index_in L _ = (tt, tt)

result_in : (L : Scope) (o : BinaryOp) → TypeInScope L 0 (result_of o)
result_in L op.Equal = tt
result_in L o = tt

module _ (P : PlainProgram) (wt : WellTyped P) (L : Scope) where
  pub above_in : {c d : ℕ} {args owned : List Rpl} → Above P c args d owned → All (PathInScope L 0) args → All (PathInScope L 0) owned
  above_in itself h = h
  above_in {c} {d} {args} {owned} (through_parent {p = p} e a) h =
      above_in a (option_and_then_some (λ (class : PlainClass). class.parent) (class_at P c) p e (λ k q z.
      (let x = parent_extends P wt q e in All-map (PathInScope L 0) (substituted args) p.args
      (λ i d l. substituted_in L 0 args h (length k.params) _ (parent_closed P wt c k p x i d l)))))

  field_in : (c j : ℕ) (args : List Rpl) (f : PlainField) → field_at P c j ≡ Some f → All (PathInScope L 0) args → TypeInScope L 0 (type_with args f.ty)
  field_in c j args f e h =
      option_and_then_some (λ (class : PlainClass). slice_get class.fields j) (class_at P c) f e
      (λ k q z. with_in P (class_scope k) (λ x. refl) (λ r t. false≢true t) L args h 0 f.ty (field_good P wt c k j f q e).ty)

  result_with : (m : PlainMember) (n : ℕ) (args : List Rpl) → slice_get P.members n ≡ Some m → All (PathInScope L 0) args →
      TypeInScope L 0 (type_with args m.result)
  result_with m n args e h =
      let g = wt.members n m e in
      elim g.result [
        | inl v ↦ subst (λ t. TypeInScope L 0 (type_with args t)) (sym v) tt
        | inr r ↦ with_in P (member_scope g.class m) (λ x. refl) (λ r t. false≢true t) L args h 0 m.result r
      ]

  module _ (good : GoodScope L) where
    pub typed_in : {e : TypedExpr} {E : List EffectOwn} → Has P L e E → TypeInScope L 0 (type_of e)
    typed_in (literal_int fits) = tt
    typed_in literal_boolean = tt
    typed_in literal_null = tt
    typed_in (read_local {x = x} {t = t} h) = elim h [
      | inl a ↦ good.each x (variable t) a
      | inr b ↦ elim b [ inl a ↦ good.each x (frozen t) a | inr a ↦ good.each x (constant t) a ]
    ]
    typed_in (read_field {c = c} {k = k} {args = args} {f = f} h ty fd rd e) = subst (TypeInScope L 0) (sym e)
        (field_in c k args f fd (subst (TypeInScope L 0) ty (typed_in h)))
    typed_in (read_element {i = i} {t = t} h ty hi ti rg e) =
        let z = index_in L i in subst (TypeInScope L 0) (sym e) (at_in L (index_elem L i) z.0 0 z.1 t (subst (TypeInScope L 0) ty (typed_in h)).1)
    typed_in (length_of_array h ty) = tt
    typed_in (call_method {n = n} {owned = owned} {regions = regions} {m = m} h ty rw mb ab ga fu kn rd ft st e) =
        subst (TypeInScope L 0) (sym e) (result_with m n (owned ++ regions) mb
        (All-append (PathInScope L 0) owned regions (above_in ab (subst (TypeInScope L 0) ty (typed_in h))) (λ k d l. good_path P L 0 _ (ga.paths k d l))))
    typed_in (create_object c ga fu n) = λ k d l. good_path P L 0 _ (ga.paths k d l)
    typed_in (construct_object c ga fu cn mb ft st) = λ k d l. good_path P L 0 _ (ga.paths k d l)
    typed_in (make_array {t = t} {a = a} {named = named} gt fu h ty) = good_type P L 0 (array t a named) gt
    typed_in (negative h ty) = tt
    typed_in (negation h ty) = tt
    typed_in (operation {o = o} ha hb ops e) = subst (TypeInScope L 0) (sym e) (result_in L o)
    typed_in (conjunction ha ta hb tb) = tt
    typed_in (disjunction ha ta hb tb) = tt
    typed_in (length_of_part e) = tt
    typed_in (read_part {k = k} {t = t} {a = a} e h ty) = let z = good.each k (part t a) e in out_in L 0 t (z.2 refl).1 z.1
