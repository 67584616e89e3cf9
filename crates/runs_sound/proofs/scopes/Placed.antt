-- Where local regions stand: in what is declared after a place of a body, a local region that is declared there too stands first,
-- in the region of an array or an effect, and nowhere else.
use Rattle.std.proofs.Common.{◌≡◌, inl, inr, ◌⊎◌, ℕ, suc, Bool, true, false, ◌||◌, List, [], ◌∷◌, ◌++◌, map, length, refl, sym, ap, subst, arith, Some, None, IsTrue, slice_get, slice_index_or}
use Rattle.std.specs.Prelude.{All}
use Rattle.std.specs.List.{list_any}
use Rattle.std.proofs.lemmas.List.Elements.{All-cons, All-map, All-append}
use Rattle.std.proofs.lemmas.Bool.{false≢true}
use Rattle.std.proofs.lemmas.Option.{option_and_then_some}
use Rattle.lang_base.specs.declared.elems.Elem.{Elem}
use Rattle.lang_base.specs.declared.elems.Elem.TheVariants.{Name, At, Any, Star, Local}
use Rattle.lang_base.specs.declared.elems.Index.TheVariants.{Literal, Variable, Renamed, Own}
use Rattle.lang_base.specs.declared.region.Head.TheVariants.{Root}
use Rattle.lang_base.specs.declared.region.Rpl.{Rpl}
use Rattle.lang_base.specs.Regions.{substituted}
use Rattle.lang_base.specs.Types.{PlainType, int, boolean, void, null, class, array, type_with, elem_at, path_at, type_at, has_index, mentions_index}
use Rattle.lang_typed.specs.Effects.{Own as EffectOwn}
use Rattle.lang_typed.specs.Plain.{PlainProgram, PlainClass, PlainField, PlainMember, TypedExpr, type_of}
use Rattle.lang_typed.specs.Scope.{Scope, variable, frozen, constant, part, reserved, class_at, field_at}
use Rattle.lang_typed.specs.Scope.{Local as ScopeLocal}
use Rattle.lang_typed.specs.Table.{class_scope, member_scope}
use Rattle.lang_typed.specs.Types.{GoodElem, GoodPath, GoodType}
use Rattle.lang_typed.specs.Typing.{index_elem, Has, literal_int, literal_boolean, literal_null, read_local, read_field, read_element, length_of_array, call_method, create_object, construct_object, make_array, negative, negation, operation, conjunction, disjunction, length_of_part, read_part}
use Rattle.lang_base.specs.declared.op.BinaryOp.{BinaryOp}
use Rattle.lang_base.specs.declared.op.BinaryOp.TheVariants as op
use Rattle.lang_base.specs.Operators.{result_of}
use Rattle.lang_typed.specs.WellTyped.{WellTyped}
use Rattle.runs_sound.specs.Scopes.{InScope, PathInScope, TypeInScope, LocalInScope, GoodScope}
use Rattle.runs_sound.proofs.scopes.Closed.{closed_path}
use Rattle.runs_sound.proofs.paths.Indices.{IsIndexElem}
use Rattle.runs_sound.proofs.classes.Classes.{field_good}
use Rattle.runs_sound.proofs.scopes.InScope.{substituted_in, at_path_in, out_path, above_in, index_in}
use Rattle.runs_sound.proofs.scopes.Wider.{Wider, wider_path}

-- the scope with these local regions alone
abbrev pub with_outer : (ℕ → Bool) → Scope → Scope
with_outer outer L = record L { regions = outer }

-- a path that begins with a local region in scope, and has no other than the outer ones
abbrev pub BeginsPlaced : (ℕ → Bool) → Scope → ℕ → Rpl → Type 0
BeginsPlaced outer L D a =
    (r : ℕ) × (rest : List Elem) × (a ≡ record { head = Root; elems = Local r 0 ∷ rest }) × IsTrue (L.regions r) × All (InScope (with_outer outer L) D) rest

abbrev pub PathPlaced : (ℕ → Bool) → Scope → ℕ → Rpl → Type 0
PathPlaced outer L D a = PathInScope (with_outer outer L) D a ⊎ BeginsPlaced outer L D a

abbrev pub TypePlaced : (ℕ → Bool) → Scope → ℕ → PlainType → Type 0
TypePlaced outer L D (class c args) = All (PathInScope (with_outer outer L) D) args
TypePlaced outer L D (array t a named) = PathPlaced outer L (suc D) a × TypePlaced outer L (suc D) t
TypePlaced outer L D int = Unit {0}
TypePlaced outer L D boolean = Unit {0}
TypePlaced outer L D void = Unit {0}
TypePlaced outer L D null = Unit {0}

abbrev pub LocalPlaced : (ℕ → Bool) → Scope → ScopeLocal → Type 0
LocalPlaced outer L (variable t) = TypePlaced outer L 0 t
LocalPlaced outer L (frozen t) = TypePlaced outer L 0 t
LocalPlaced outer L (constant t) = TypePlaced outer L 0 t
LocalPlaced outer L (part t a) = TypePlaced outer L 0 (array t a false)
LocalPlaced outer L reserved = Unit {0}

pub record PlacedScope (outer : ℕ → Bool) (L : Scope) : Type 0 where
  pub each : (x : ℕ) (l : ScopeLocal) → L.local x ≡ Some l → LocalPlaced outer L l
  pub below : (r : ℕ) → IsTrue (outer r) → IsTrue (L.regions r)

-- what is in scope where all its local regions are outer ones

placed_type : (L : Scope) (D : ℕ) (t : PlainType) → TypeInScope L D t → TypePlaced L.regions L D t
placed_type L D int s = tt
placed_type L D boolean s = tt
placed_type L D void s = tt
placed_type L D null s = tt
placed_type L D (class c args) s = s
placed_type L D (array t a named) s = (inl s.0, placed_type L (suc D) t s.1)

placed_local : (L : Scope) (l : ScopeLocal) → LocalInScope L l → LocalPlaced L.regions L l
placed_local L (variable t) s = placed_type L 0 t s
placed_local L (frozen t) s = placed_type L 0 t s
placed_local L (constant t) s = placed_type L 0 t s
placed_local L (part t a) s = placed_type L 0 (array t a false) s
placed_local L reserved s = tt

pub placed_scope : (L : Scope) → GoodScope L → PlacedScope L.regions L
placed_scope L good = record { each = λ x l e. placed_local L l (good.each x l e); below = λ r i. i }

module _ (outer : ℕ → Bool) where
  -- in a wider scope
  outer_wider : (L M : Scope) → Wider L M → Wider (with_outer outer L) (with_outer outer M)
  outer_wider L M w = record { index = w.index; regions = λ r i. i }

  pub placed_wider_path : (L M : Scope) → Wider L M → (D : ℕ) (a : Rpl) → PathPlaced outer L D a → PathPlaced outer M D a
  placed_wider_path L M w D a s = elim s [
    | inl p ↦ inl (wider_path (with_outer outer L) (with_outer outer M) (outer_wider L M w) D a p)
    | inr q ↦ inr (q.0, q.1, q.2, w.regions q.0 q.3, wider_path (with_outer outer L) (with_outer outer M) (outer_wider L M w) D (record { head = Root; elems = q.1 }) q.4)
  ]

  placed_wider_type : (L M : Scope) → Wider L M → (D : ℕ) (t : PlainType) → TypePlaced outer L D t → TypePlaced outer M D t
  placed_wider_type L M w D int s = tt
  placed_wider_type L M w D boolean s = tt
  placed_wider_type L M w D void s = tt
  placed_wider_type L M w D null s = tt
  placed_wider_type L M w D (class c args) s = λ k d h. wider_path (with_outer outer L) (with_outer outer M) (outer_wider L M w) D (slice_index_or args k d) (s k d h)
  placed_wider_type L M w D (array t a named) s = (placed_wider_path L M w (suc D) a s.0, placed_wider_type L M w (suc D) t s.1)

  pub placed_wider : (L M : Scope) → Wider L M → (l : ScopeLocal) → LocalPlaced outer L l → LocalPlaced outer M l
  placed_wider L M w (variable t) s = placed_wider_type L M w 0 t s
  placed_wider L M w (frozen t) s = placed_wider_type L M w 0 t s
  placed_wider L M w (constant t) s = placed_wider_type L M w 0 t s
  placed_wider L M w (part t a) s = placed_wider_type L M w 0 (array t a false) s
  placed_wider L M w reserved s = tt

  -- it is in scope
  begins_in_scope : (L : Scope) (D : ℕ) (a : Rpl) → ((r : ℕ) → IsTrue (outer r) → IsTrue (L.regions r)) → BeginsPlaced outer L D a → PathInScope L D a
  begins_in_scope L D a below q = subst (PathInScope L D) (sym q.2) (All-cons (InScope L D) (Local q.0 0) q.1 (refl, q.3)
      (wider_path (with_outer outer L) L (record { index = λ x e. e; regions = below }) D (record { head = Root; elems = q.1 }) q.4))

  pub placed_path : (L : Scope) → PlacedScope outer L → (D : ℕ) (a : Rpl) → PathPlaced outer L D a → PathInScope L D a
  placed_path L placed D a s = elim s [
    | inl p ↦ wider_path (with_outer outer L) L (record { index = λ x e. e; regions = placed.below }) D a p
    | inr q ↦ begins_in_scope L D a placed.below q
  ]

  -- what is well formed
  good_elem : (P : PlainProgram) (L : Scope) (D : ℕ) (x : Elem) → GoodElem P L D x → InScope (with_outer outer L) D x
  good_elem P L D (Name n) g = tt
  good_elem P L D (At (Literal k)) g = tt
  good_elem P L D (At (Variable x)) g = g
  good_elem P L D (At (Renamed x)) g = g
  good_elem P L D (At (Own d)) g = g
  good_elem P L D Any g = tt
  good_elem P L D Star g = tt
  good_elem P L D (Local r n) g = absurd g

  pub good_placed_path : (P : PlainProgram) (L : Scope) (D : ℕ) (a : Rpl) → GoodPath P L D a → PathInScope (with_outer outer L) D a
  good_placed_path P L D a g = λ k d l. good_elem P L D _ (g.elems k d l)

  deeper_elem : (L : Scope) (D : ℕ) (x : Elem) → InScope (with_outer outer L) 1 x → InScope (with_outer outer L) (suc D) x
  deeper_elem L D (Name n) g = tt
  deeper_elem L D (At (Literal k)) g = tt
  deeper_elem L D (At (Variable x)) g = g
  deeper_elem L D (At (Renamed x)) g = g
  deeper_elem L D (At (Own d)) g = omega (arith, g)
  deeper_elem L D Any g = tt
  deeper_elem L D Star g = tt
  deeper_elem L D (Local r n) g = g

  pub good_placed : (P : PlainProgram) (L : Scope) (D : ℕ) (t : PlainType) → GoodType P L D t → TypePlaced outer L D t
  good_placed P L D int g = tt
  good_placed P L D boolean g = tt
  good_placed P L D void g = tt
  good_placed P L D null g = tt
  good_placed P L D (class c args) g = λ k d l. good_placed_path P L D _ (g.2.paths k d l)
  good_placed P L D (array t a named) g = (
    elim g.0 [
      | inl p ↦ inl (good_placed_path P L (suc D) a p)
      | inr q ↦ inr (q.0.region, q.0.rest, q.0.is, q.0.in_scope, λ k d l. deeper_elem L D _ (good_elem P L 1 _ (q.0.elems k d l)))
    ],
    good_placed P L (suc D) t g.1,
  )

  -- a type of a class with arguments put in
  module _ (P : PlainProgram) (M : Scope) (none : (x : ℕ) → M.local x ≡ None) (no_region : (r : ℕ) → M.regions r ≡ true → ⊥) where
    with_placed : (L : Scope) (args : List Rpl) → All (PathInScope (with_outer outer L) 0) args → (D : ℕ) (t : PlainType) → GoodType P M D t → TypePlaced outer L D (type_with args t)
    with_placed L args al D int g = tt
    with_placed L args al D boolean g = tt
    with_placed L args al D void g = tt
    with_placed L args al D null g = tt
    with_placed L args al D (class c ps) g = All-map (PathInScope (with_outer outer L) D) (substituted args) ps
        (λ k d l. substituted_in (with_outer outer L) D args al (length M.atomic) _ (closed_path P M none D _ (g.2.paths k d l)))
    with_placed L args al D (array t a named) g = (
      elim g.0 [
        | inl p ↦ inl (substituted_in (with_outer outer L) (suc D) args al (length M.atomic) a (closed_path P M none (suc D) a p))
        | inr q ↦ absurd (no_region q.0.region q.0.in_scope)
      ],
      with_placed L args al (suc D) t g.1,
    )

  -- an index put in
  index_placed : (L : Scope) (D : ℕ) (x : Elem) → IsIndexElem x → InScope L 0 x → InScope (with_outer outer L) D x
  index_placed L D (At (Literal k)) i h = tt
  index_placed L D (At (Variable v)) i h = h
  index_placed L D (At (Renamed v)) i h = h
  index_placed L D (At (Own e)) i h = absurd i
  index_placed L D Any i h = tt
  index_placed L D (Name n) i h = tt
  index_placed L D Star i h = tt
  index_placed L D (Local r n) i h = absurd i

  pub at_placed_path : (L : Scope) (D : ℕ) (x : Elem) → IsIndexElem x → InScope L 0 x → (a : Rpl) → PathPlaced outer L (suc D) a → PathPlaced outer L D (path_at D x a)
  at_placed_path L D x i h a g = elim g [
    | inl p ↦ inl (at_path_in (with_outer outer L) D x i (index_placed L D x i h) a p)
    | inr q ↦ inr (q.0, map (elem_at D x) q.1, ap (path_at D x) q.2, q.3, at_path_in (with_outer outer L) D x i (index_placed L D x i h) (record { head = Root; elems = q.1 }) q.4)
  ]

  at_placed : (L : Scope) (x : Elem) → IsIndexElem x → InScope L 0 x → (D : ℕ) (t : PlainType) → TypePlaced outer L (suc D) t → TypePlaced outer L D (type_at D x t)
  at_placed L x i h D int g = tt
  at_placed L x i h D boolean g = tt
  at_placed L x i h D void g = tt
  at_placed L x i h D null g = tt
  at_placed L x i h D (class c ps) g = All-map (PathInScope (with_outer outer L) D) (path_at D x) ps
      (λ k d l. at_path_in (with_outer outer L) D x i (index_placed L D x i h) (slice_index_or ps k d) (g k d l))
  at_placed L x i h D (array t a named) g = (at_placed_path L (suc D) x i h a g.0, at_placed L x i h (suc D) t g.1)

  -- what doesn't mention an own index stands outside its array type
  pub out_placed_path : (L : Scope) (D : ℕ) (a : Rpl) → has_index D a ≡ false → PathPlaced outer L (suc D) a → PathPlaced outer L D a
  out_placed_path L D a h g = elim g [
    | inl p ↦ inl (out_path (with_outer outer L) D a h p)
    | inr q ↦ inr (q.0, q.1, q.2, q.3, out_path (with_outer outer L) D (record { head = Root; elems = q.1 }) (subst (λ z. has_index D z ≡ false) q.2 h) q.4)
  ]

  or_parts : (x y : Bool) → (x || y) ≡ false → (x ≡ false) × (y ≡ false)
  or_parts false y e = (refl, e)
  or_parts true y e = absurd (false≢true (sym e))

  any_none : {A : Type 0} (f : A → Bool) (xs : List A) → list_any f xs ≡ false → All (λ x. f x ≡ false) xs
  any_none f [] h = λ j d l. absurd (omega (arith, l))
  any_none f (x ∷ xs) h = let p = or_parts (f x) _ h in All-cons (λ x. f x ≡ false) x xs p.0 (any_none f xs p.1)

  out_placed : (L : Scope) (D : ℕ) (t : PlainType) → mentions_index D t ≡ false → TypePlaced outer L (suc D) t → TypePlaced outer L D t
  out_placed L D int h g = tt
  out_placed L D boolean h g = tt
  out_placed L D void h g = tt
  out_placed L D null h g = tt
  out_placed L D (class c ps) h g = λ k d l. out_path (with_outer outer L) D (slice_index_or ps k d) (any_none (has_index D) ps h k d l) (g k d l)
  out_placed L D (array t a named) h g = let p = or_parts (has_index (suc D) a) _ h in (out_placed_path L (suc D) a p.0 g.0, out_placed L (suc D) t p.1 g.1)

  result_placed : (L : Scope) (o : BinaryOp) → TypePlaced outer L 0 (result_of o)
  result_placed L op.Equal = tt
  result_placed L o = tt

  module _ (P : PlainProgram) (wt : WellTyped P) (L : Scope) where
    field_placed : (c j : ℕ) (args : List Rpl) (f : PlainField) → field_at P c j ≡ Some f → All (PathInScope (with_outer outer L) 0) args → TypePlaced outer L 0 (type_with args f.ty)
    field_placed c j args f e h =
        option_and_then_some (λ (class : PlainClass). slice_get class.fields j) (class_at P c) f e
        (λ k q z. with_placed P (class_scope k) (λ x. refl) (λ r t. false≢true t) L args h 0 f.ty (field_good P wt c k j f q e).ty)

    result_with : (m : PlainMember) (n : ℕ) (args : List Rpl) → slice_get P.members n ≡ Some m → All (PathInScope (with_outer outer L) 0) args →
        TypePlaced outer L 0 (type_with args m.result)
    result_with m n args e h =
        let g = wt.members n m e in
        elim g.result [
          | inl v ↦ subst (λ t. TypePlaced outer L 0 (type_with args t)) (sym v) tt
          | inr r ↦ with_placed P (member_scope g.class m) (λ x. refl) (λ r t. false≢true t) L args h 0 m.result r
        ]

    module _ (good : GoodScope L) (placed : PlacedScope outer L) where
      pub typed_placed : {e : TypedExpr} {E : List EffectOwn} → Has P L e E → TypePlaced outer L 0 (type_of e)
      typed_placed (literal_int fits) = tt
      typed_placed literal_boolean = tt
      typed_placed literal_null = tt
      typed_placed (read_local {x = x} {t = t} h) = elim h [
        | inl a ↦ placed.each x (variable t) a
        | inr b ↦ elim b [ inl a ↦ placed.each x (frozen t) a | inr a ↦ placed.each x (constant t) a ]
      ]
      typed_placed (read_field {c = c} {k = k} {args = args} {f = f} h ty fd rd e) = subst (TypePlaced outer L 0) (sym e)
          (field_placed c k args f fd (subst (TypePlaced outer L 0) ty (typed_placed h)))
      typed_placed (read_element {i = i} {t = t} h ty hi ti rg e) =
          let z = index_in L i in subst (TypePlaced outer L 0) (sym e) (at_placed L (index_elem L i) z.0 z.1 0 t (subst (TypePlaced outer L 0) ty (typed_placed h)).1)
      typed_placed (length_of_array h ty) = tt
      typed_placed (call_method {n = n} {owned = owned} {regions = regions} {m = m} h ty rw mb ab ga fu kn rd ft st e) =
          subst (TypePlaced outer L 0) (sym e) (result_with m n (owned ++ regions) mb
          (All-append (PathInScope (with_outer outer L) 0) owned regions (above_in P wt (with_outer outer L) ab (subst (TypePlaced outer L 0) ty (typed_placed h))) (λ k d l. good_placed_path P L 0 _ (ga.paths k d l))))
      typed_placed (create_object c ga fu n) = λ k d l. good_placed_path P L 0 _ (ga.paths k d l)
      typed_placed (construct_object c ga fu cn mb ft st) = λ k d l. good_placed_path P L 0 _ (ga.paths k d l)
      typed_placed (make_array {t = t} {a = a} {named = named} gt fu h ty) = good_placed P L 0 (array t a named) gt
      typed_placed (negative h ty) = tt
      typed_placed (negation h ty) = tt
      typed_placed (operation {o = o} ha hb ops e) = subst (TypePlaced outer L 0) (sym e) (result_placed L o)
      typed_placed (conjunction ha ta hb tb) = tt
      typed_placed (disjunction ha ta hb tb) = tt
      typed_placed (length_of_part e) = tt
      typed_placed (read_part {k = k} {t = t} {a = a} e h ty) = out_placed L 0 t ((good.each k (part t a) e).2 refl).1 (placed.each k (part t a) e).1
