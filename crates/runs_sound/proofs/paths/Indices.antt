-- Types of elements at an index.
use Rattle.std.proofs.Common.{◌≡◌, ◌↔◌, ℕ, ℤ, zero, suc, pos, Bool, true, false, cond, ◌==◌, ◌||◌, List, [], ◌∷◌, map, refl, sym, ap, ◌∙◌, subst, arith, IsTrue, slice_index_or}
use Rattle.std.specs.Prelude.{All}
use Rattle.std.specs.List.{list_any}
use Rattle.std.proofs.lemmas.List.Elements.{All-cons}
use Rattle.std.proofs.lemmas.Bool.{eqb-true, eq-eqb, false≢true, cond-false, false_from_ne_true}
use Rattle.std.proofs.Math.Dec.{eqb-suc-zero, eqb-zero-suc, eqb-suc-suc}
use Rattle.lang_base.specs.declared.elems.Elem.{Elem}
use Rattle.lang_base.specs.declared.elems.Elem.TheVariants.{At, Any, Star, Local}
use Rattle.lang_base.specs.declared.elems.Elem.TheVariants as elem
use Rattle.lang_base.specs.declared.elems.Index.{Index}
use Rattle.lang_base.specs.declared.elems.Index.TheVariants.{Literal, Variable, Renamed, Own}
use Rattle.lang_base.specs.declared.region.Head.{Head}
use Rattle.lang_base.specs.declared.region.Head.TheVariants.{Root, Param}
use Rattle.lang_base.specs.declared.region.Rpl.{Rpl}
use Rattle.lang_base.specs.Matching.{Env, put_elem, head_region, number_of, Fits, Matches}
use Rattle.lang_base.specs.Regions.{same_elem, is_any}
use Rattle.lang_base.specs.Types.{PlainType, int, boolean, void, null, class, array, elem_at, path_at, type_at, has_index, mentions_index, rigid_in_index}
use Rattle.lang_typed.specs.Plain.{PlainProgram}
use Rattle.region_paths.specs.Laws.{with_own}
use Rattle.region_paths.proofs.Reading.{matches_by_what_occurs, own_index_matches_more, own_index_puts_in}
use Rattle.runs_theory.specs.Objects.{Value}
use Rattle.runs_sound.specs.Settings.{Setting, env_of, after_own, under}
use Rattle.runs_sound.specs.Shapes.{Shapes, Instance, SameIn, ArrayInstance, FitsIn}
use Rattle.runs_sound.proofs.classes.Types.{match_onto, match_from, null_or, instance_onto, array_onto, fits_same, same_sym}

-- under one array type more, an own index is one further in
own_further : (k m : ℤ) (f : ℕ → ℤ) (D d : ℕ) → after_own k (λ e. cond (D == e) m (f e)) d ≡ cond (suc D == d) m (after_own k f d)
own_further k m f D zero = sym (cond-false (suc D == zero) m k (eqb-suc-zero D))
own_further k m f D (suc d) = ap (λ b. cond b m (f d)) (sym (eqb-suc-suc D d))

under_with : (k m : ℤ) (env : Env) (D : ℕ) → under k (with_own env D m) ≡ with_own (under k env) (suc D) m
under_with k m env D = λ i. record { region = env.region; index = env.index; renamed = env.renamed; own = λ d. own_further k m env.own D d i; made = env.made }

own_top : (k : ℤ) (d : ℕ) → after_own k (λ e. pos 0) d ≡ cond (zero == d) k (pos 0)
own_top k zero = refl
own_top k (suc d) = sym (cond-false (zero == suc d) k (pos 0) (eqb-zero-suc d))

-- in a body, where no array type is around
pub under_top : (k : ℤ) (g : Setting) → under k (env_of g) ≡ with_own (env_of g) 0 k
under_top k g = λ i. record { region = (env_of g).region; index = (env_of g).index; renamed = (env_of g).renamed; own = λ d. own_top k d i; made = (env_of g).made }

-- an index that is the same inside array types
abbrev pub IsSteady : Index → Type 0
IsSteady (Literal k) = Unit {0}
IsSteady (Variable x) = Unit {0}
IsSteady (Renamed x) = Unit {0}
IsSteady (Own d) = ⊥

number_under : (k : ℤ) (env : Env) (x : Index) → IsSteady x → number_of (under k env) x ≡ number_of env x
number_under k env (Literal j) s = refl
number_under k env (Variable v) s = refl
number_under k env (Renamed v) s = refl
number_under k env (Own d) s = absurd s

at_path : (env : Env) (x : Index) (D : ℕ) (a : Rpl) (m : ℤ) → number_of env x ≡ m → (r : List Elem) →
    Matches env (path_at D (At x) a) r ↔ Matches (with_own env D m) a r
at_path env x D a m e r = subst (λ z. Matches env (path_at D (At x) a) r ↔ Matches (with_own env D z) a r) e (own_index_puts_in env a D x r)

-- an index put in leaves the values as they are
pub same_at : (env : Env) (x : Index) → IsSteady x → (m : ℤ) → number_of env x ≡ m → (D : ℕ) (t : PlainType) →
    SameIn env (type_at D (At x) t) (with_own env D m) t
same_at env x s m e D int = tt
same_at env x s m e D boolean = tt
same_at env x s m e D void = tt
same_at env x s m e D null = tt
same_at env x s m e D (class c ps) = (
  refl,
  λ rs. (
    match_from (with_own env D m) env (path_at D (At x)) ps (λ k d l r. (at_path env x D (slice_index_or ps k d) m e r).0) rs,
    match_onto (with_own env D m) env (path_at D (At x)) ps (λ k d l r. (at_path env x D (slice_index_or ps k d) m e r).1) rs,
  ),
)
same_at env x s m e D (array t a named) = (
  λ k r. subst (λ z. Matches (under k env) (path_at (suc D) (At x) a) r ↔ Matches z a r) (sym (under_with k m env D))
      (at_path (under k env) x (suc D) a m (number_under k env x s ∙ e) r),
  λ k. subst (λ z. SameIn (under k env) (type_at (suc D) (At x) t) z t) (sym (under_with k m env D)) (same_at (under k env) x s m (number_under k env x s ∙ e) (suc D) t),
)

-- what doesn't mention an own index doesn't depend on it

put_unmentioned : (env : Env) (D : ℕ) (k : ℤ) (x : Elem) → same_elem x (At (Own D)) ≡ false → put_elem env x ≡ put_elem (with_own env D k) x
put_unmentioned env D k (elem.Name n) h = refl
put_unmentioned env D k (At (Literal j)) h = refl
put_unmentioned env D k (At (Variable v)) h = refl
put_unmentioned env D k (At (Renamed v)) h = refl
put_unmentioned env D k (At (Own e)) h = ap (λ z. At (Literal z)) (sym (cond-false (D == e) k (env.own e) (false_from_ne_true _ (λ t. false≢true (sym h ∙ eq-eqb e D (sym (eqb-true D e t)))))))
put_unmentioned env D k Any h = refl
put_unmentioned env D k Star h = refl
put_unmentioned env D k (Local a b) h = refl

elem_unmentioned : (D : ℕ) (y x : Elem) → same_elem x (At (Own D)) ≡ false → elem_at D y x ≡ x
elem_unmentioned D y (elem.Name n) h = refl
elem_unmentioned D y (At (Literal j)) h = refl
elem_unmentioned D y (At (Variable v)) h = refl
elem_unmentioned D y (At (Renamed v)) h = refl
elem_unmentioned D y (At (Own e)) h = cond-false (D == e) y (At (Own e)) (false_from_ne_true _ (λ t. false≢true (sym h ∙ eq-eqb e D (sym (eqb-true D e t)))))
elem_unmentioned D y Any h = refl
elem_unmentioned D y Star h = refl
elem_unmentioned D y (Local a b) h = refl

or_parts : (x y : Bool) → (x || y) ≡ false → (x ≡ false) × (y ≡ false)
or_parts false y e = (refl, e)
or_parts true y e = absurd (false≢true (sym e))

elems_unmentioned : (D : ℕ) (y : Elem) (a : List Elem) → list_any (λ x. same_elem x (At (Own D))) a ≡ false → map (elem_at D y) a ≡ a
elems_unmentioned D y [] h = refl
elems_unmentioned D y (x ∷ a) h =
    let p = or_parts (same_elem x (At (Own D))) _ h in
    let e = elem_unmentioned D y x p.0 in
    let f = elems_unmentioned D y a p.1 in
    λ i. e i ∷ f i

all_unmentioned : (env : Env) (D : ℕ) (k : ℤ) (a : List Elem) → list_any (λ x. same_elem x (At (Own D))) a ≡ false →
    All (λ x. put_elem env x ≡ put_elem (with_own env D k) x) a
all_unmentioned env D k [] h = λ j d l. absurd (omega (arith, l))
all_unmentioned env D k (x ∷ a) h =
    let p = or_parts (same_elem x (At (Own D))) _ h in
    All-cons (λ x. put_elem env x ≡ put_elem (with_own env D k) x) x a (put_unmentioned env D k x p.0) (all_unmentioned env D k a p.1)

head_own : (env : Env) (D : ℕ) (k : ℤ) (h : Head) → head_region env h ≡ head_region (with_own env D k) h
head_own env D k Root = refl
head_own env D k (Param p) = refl

path_unmentioned : (env : Env) (D : ℕ) (k : ℤ) (y : Elem) (a : Rpl) → has_index D a ≡ false → (r : List Elem) →
    Matches env (path_at D y a) r ↔ Matches (with_own env D k) a r
path_unmentioned env D k y a h r =
    let e = elems_unmentioned D y a.elems h in
    let m = matches_by_what_occurs env (with_own env D k) a (record { head = head_own env D k a.head; elems = all_unmentioned env D k a.elems h }) r in (
      λ x. m.0 (subst (λ z. Matches env (record { head = a.head; elems = z }) r) e x),
      λ x. subst
          (λ z. Matches env (record { head = a.head; elems = z }) r) (sym e) (m.1 x),
    )

any_none : {A : Type 0} (f : A → Bool) (xs : List A) → list_any f xs ≡ false → All (λ x. f x ≡ false) xs
any_none f [] h = λ j d l. absurd (omega (arith, l))
any_none f (x ∷ xs) h = let p = or_parts (f x) _ h in All-cons (λ x. f x ≡ false) x xs p.0 (any_none f xs p.1)

pub same_unmentioned : (env : Env) (D : ℕ) (k : ℤ) (y : Elem) (t : PlainType) → mentions_index D t ≡ false → SameIn env (type_at D y t) (with_own env D k) t
same_unmentioned env D k y int h = tt
same_unmentioned env D k y boolean h = tt
same_unmentioned env D k y void h = tt
same_unmentioned env D k y null h = tt
same_unmentioned env D k y (class c ps) h = (
  refl,
  λ rs. (
    match_from (with_own env D k) env (path_at D y) ps (λ j d l r. (path_unmentioned env D k y (slice_index_or ps j d) (any_none (has_index D) ps h j d l) r).0) rs,
    match_onto (with_own env D k) env (path_at D y) ps (λ j d l r. (path_unmentioned env D k y (slice_index_or ps j d) (any_none (has_index D) ps h j d l) r).1) rs,
  ),
)
same_unmentioned env D k y (array t a named) h =
    let p = or_parts (has_index (suc D) a) _ h in (
      λ j r. subst (λ z. Matches (under j env) (path_at (suc D) y a) r ↔ Matches z a r) (sym (under_with j k env D)) (path_unmentioned (under j env) (suc D) k y a p.0 r),
      λ j. subst (λ z. SameIn (under j env) (type_at (suc D) y t) z t) (sym (under_with j k env D)) (same_unmentioned (under j env) (suc D) k y t p.1),
    )

-- an element's value at an index that isn't known, of a type that isn't rigid in it
pub fits_at_any : (P : PlainProgram) (S : Shapes) (env : Env) (k : ℤ) (D : ℕ) (t : PlainType) → rigid_in_index D t ≡ false → (v : Value) →
    FitsIn P S (with_own env D k) t v → FitsIn P S env (type_at D Any t) v
fits_at_any P S env k D int h v f = f
fits_at_any P S env k D boolean h v f = f
fits_at_any P S env k D void h v f = f
fits_at_any P S env k D null h v f = f
fits_at_any P S env k D (class c ps) h v f =
    null_or (Instance P S (with_own env D k) c ps) (Instance P S env c (map (path_at D Any) ps))
    (instance_onto P S (with_own env D k) env c c ps (map (path_at D Any) ps) refl
    (match_onto (with_own env D k) env (path_at D Any) ps (λ j d l r. own_index_matches_more env (slice_index_or ps j d) D Any k (k, refl) r))) v f
fits_at_any P S env k D (array t a named) h v f =
    null_or (ArrayInstance S (with_own env D k) t a) (ArrayInstance S env (type_at (suc D) Any t) (path_at (suc D) Any a))
    (array_onto P S (with_own env D k) env t (type_at (suc D) Any t) a (path_at (suc D) Any a)
    (λ j r m. own_index_matches_more (under j env) a (suc D) Any k (k, refl) r (subst (λ z. Matches z a r) (under_with j k env D) m))
    (λ j. subst (λ z. SameIn (under j env) (type_at (suc D) Any t) z t) (sym (under_with j k env D)) (same_unmentioned (under j env) (suc D) k Any t h))) v f

-- how an index stands in paths: a number, a variable, or any index
abbrev pub IsIndexElem : Elem → Type 0
IsIndexElem (At x) = IsSteady x
IsIndexElem Any = Unit {0}
IsIndexElem (elem.Name n) = ⊥
IsIndexElem Star = ⊥
IsIndexElem (Local a b) = ⊥

pub fits_at_up : (P : PlainProgram) (S : Shapes) (g : Setting) (x : Elem) → IsIndexElem x → (k : ℤ) → Fits (env_of g) x (At (Literal k) ∷ []) →
    (t : PlainType) →
    (IsTrue (is_any x) → rigid_in_index 0 t ≡ false) → (v : Value) → FitsIn P S (under k (env_of g)) t v → FitsIn P S (env_of g) (type_at 0 x t) v
fits_at_up P S g (At x) i k e t h v f =
    let n : k ≡ number_of (env_of g) x = cc in
    fits_same P S (with_own (env_of g) 0 k) t (env_of g) (type_at 0 (At x) t)
    (same_sym (env_of g) (type_at 0 (At x) t) (with_own (env_of g) 0 k) t (same_at (env_of g) x i k (sym n) 0 t)) v
    (subst (λ z. FitsIn P S z t v) (under_top k g) f)
fits_at_up P S g Any i k e t h v f = fits_at_any P S (env_of g) k 0 t (h refl) v (subst (λ z. FitsIn P S z t v) (under_top k g) f)
fits_at_up P S g (elem.Name n) i k e t h v f = absurd i
fits_at_up P S g Star i k e t h v f = absurd i
fits_at_up P S g (Local a b) i k e t h v f = absurd i

-- and back, at one that is known or that the type doesn't mention
pub fits_at_down : (P : PlainProgram) (S : Shapes) (g : Setting) (x : Elem) → IsIndexElem x → (k : ℤ) → Fits (env_of g) x (At (Literal k) ∷ []) →
    (t : PlainType) →
    (IsTrue (is_any x) → mentions_index 0 t ≡ false) → (v : Value) → FitsIn P S (env_of g) (type_at 0 x t) v → FitsIn P S (under k (env_of g)) t v
fits_at_down P S g (At x) i k e t h v f =
    let n : k ≡ number_of (env_of g) x = cc in
    subst (λ z. FitsIn P S z t v) (sym (under_top k g))
    (fits_same P S (env_of g) (type_at 0 (At x) t) (with_own (env_of g) 0 k) t (same_at (env_of g) x i k (sym n) 0 t) v f)
fits_at_down P S g Any i k e t h v f =
    subst (λ z. FitsIn P S z t v) (sym (under_top k g)) (fits_same P S (env_of g) (type_at 0 Any t) (with_own (env_of g) 0 k) t (same_unmentioned (env_of g) 0 k Any t (h refl)) v f)
fits_at_down P S g (elem.Name n) i k e t h v f = absurd i
fits_at_down P S g Star i k e t h v f = absurd i
fits_at_down P S g (Local a b) i k e t h v f = absurd i

-- the region of an element lies in the array's path at the index
pub region_at_up : (g : Setting) (x : Elem) (k : ℤ) → Fits (env_of g) x (At (Literal k) ∷ []) → (a : Rpl) (r : List Elem) →
    Matches (under k (env_of g)) a r → Matches (env_of g) (path_at 0 x a) r
region_at_up g x k f a r m = own_index_matches_more (env_of g) a 0 x k f r (subst (λ z. Matches z a r) (under_top k g) m)

paths_unmentioned : (D : ℕ) (y : Elem) (ps : List Rpl) → list_any (has_index D) ps ≡ false → map (path_at D y) ps ≡ ps
paths_unmentioned D y [] h = refl
paths_unmentioned D y (a ∷ ps) h =
    let p = or_parts (has_index D a) _ h in
    let e = elems_unmentioned D y a.elems p.0 in
    let r = paths_unmentioned D y ps p.1 in
    λ i. record { head = a.head; elems = e i } ∷ r i

type_unmentioned : (D : ℕ) (y : Elem) (t : PlainType) → mentions_index D t ≡ false → type_at D y t ≡ t
type_unmentioned D y int h = refl
type_unmentioned D y boolean h = refl
type_unmentioned D y void h = refl
type_unmentioned D y null h = refl
type_unmentioned D y (class c ps) h = ap (λ z. class c z) (paths_unmentioned D y ps h)
type_unmentioned D y (array t a named) h =
    let p = or_parts (has_index (suc D) a) _ h in
    let e = elems_unmentioned (suc D) y a.elems p.0 in
    let r = type_unmentioned (suc D) y t p.1 in
    λ i. array (r i) (record { head = a.head; elems = e i }) named

-- what speaks of no own index, at any index
pub same_inside : (g : Setting) (k : ℤ) (t : PlainType) → mentions_index 0 t ≡ false → SameIn (under k (env_of g)) t (env_of g) t
same_inside g k t h =
    same_sym (env_of g) t (under k (env_of g)) t
    (subst (λ z. SameIn (env_of g) z (under k (env_of g)) t) (type_unmentioned 0 Any t h)
    (subst (λ z. SameIn (env_of g) (type_at 0 Any t) z t) (sym (under_top k g)) (same_unmentioned (env_of g) 0 k Any t h)))

pub region_alone : (g : Setting) (k : ℤ) (a : Rpl) → has_index 0 a ≡ false → (r : List Elem) → Matches (under k (env_of g)) a r → Matches (env_of g) a r
region_alone g k a h r m =
    (matches_by_what_occurs (env_of g) (with_own (env_of g) 0 k) a (record { head = head_own (env_of g) 0 k a.head; elems = all_unmentioned (env_of g) 0 k a.elems h }) r).1
    (subst (λ z. Matches z a r) (under_top k g) m)
