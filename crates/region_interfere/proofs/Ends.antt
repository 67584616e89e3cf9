-- Where a path ends: the last element that is no index, and what lies in a path that ends so.
use Rattle.std.proofs.Common.{◌≡◌, ℕ, Bool, true, false, ◌&&◌, ◌||◌, List, get_or, refl, sym, ap, ◌∙◌, ⊎_elim}
use Rattle.std.proofs.lemmas.Bool.{and_parts, and_from, or_cases, or_left, or_right, false≢true, eqb-true}
use Rattle.lang_base.specs.declared.elems.Elem.{Elem}
use Rattle.lang_base.specs.declared.region.Head.{Head}
use Rattle.lang_base.specs.declared.region.Head.TheVariants.{Root, Param}
use Rattle.lang_base.specs.declared.region.Rpl.{Rpl}
use Rattle.lang_base.specs.Regions.{is_index, within, elem_within, heads_within}
use Rattle.lang_base.specs.Branches.{Atomic, is_atomic_name, all_index, ends_atomic, atomic_head, atomic_path}
use Rattle.region_paths.proofs.Inclusion.{Covers, none, one, stop, skip, Covers-from, elem_within-cases}

-- the path's end is atomic, or it has nothing but indices and what stands before it is atomic
abbrev pub atomic_from : List Bool → List Elem → Bool → Bool
atomic_from names elems before = ends_atomic names elems || (all_index elems && before)

index-within : (x y : Elem) → elem_within x y ≡ true → is_index y ≡ true → is_index x ≡ true
index-within x y e i = ⊎_elim (λ s. ap is_index s ∙ i) (λ p. p.1) (elem_within-cases x y e)

name-within : (names : List Bool) (x y : Elem) → elem_within x y ≡ true → is_atomic_name names y ≡ true → is_atomic_name names x ≡ true
name-within names x y e n =
    ⊎_elim
    (λ s. ap (is_atomic_name names) s ∙ n)
    (λ p. absurd (false≢true (sym (ap (is_atomic_name names) p.0) ∙ n)))
    (elem_within-cases x y e)

all_index-within : {b a : List Elem} → Covers b a → all_index b ≡ true → all_index a ≡ true
all_index-within none h = refl
all_index-within (one {y = y} {x = x} {b = b} e s r) h =
    let p = and_parts (is_index y) (all_index b) h in
    and_from _ _ (index-within x y e p.0) (all_index-within r p.1)
all_index-within (stop r) h = absurd (false≢true h)
all_index-within (skip l r) h = absurd (false≢true h)

ends-within : (names : List Bool) {b a : List Elem} → Covers b a → ends_atomic names b ≡ true → ends_atomic names a ≡ true
ends-within names none h = h
ends-within names (one {y = y} {x = x} {b = b} {a = a} e s r) h =
    ⊎_elim
    (λ t. let p = and_parts (is_atomic_name names y) (all_index b) t in
    or_left _ _ (and_from _ _ (name-within names x y e p.0) (all_index-within r p.1)))
    (λ t. or_right (is_atomic_name names x && all_index a) _ (ends-within names r t))
    (or_cases (is_atomic_name names y && all_index b) _ h)
ends-within names (stop r) h = ends-within names r h
ends-within names (skip {x = x} {a = a} l r) h = or_right (is_atomic_name names x && all_index a) _ (ends-within names r h)

heads-within : (params : List Bool) (g h : Head) (elems : List Elem) → heads_within g h elems ≡ true → atomic_head params h ≡ true → atomic_head params g ≡ true
heads-within params Root Root elems e k = k
heads-within params (Param p) (Param q) elems e k = ap (λ (z : ℕ). get_or params z false) (eqb-true p q e) ∙ k
heads-within params (Param p) Root elems e k = absurd (false≢true k)
heads-within params Root (Param q) elems e k = absurd (false≢true e)

-- what lies in an atomic path is atomic
pub atomic-within : (atomic : Atomic) (a b : Rpl) → within a b ≡ true → atomic_path atomic b ≡ true → atomic_path atomic a ≡ true
unfolding within atomic_path
atomic-within atomic a b h k =
    let w = and_parts (heads_within a.head b.head b.elems) _ h in
    let r = Covers-from b.elems a.elems w.1 in
    ⊎_elim
    (λ t. or_left _ _ (ends-within atomic.names r t))
    (λ t. let p = and_parts (all_index b.elems) _ t in
    or_right (ends_atomic atomic.names a.elems) _ (and_from _ _ (all_index-within r p.0) (heads-within atomic.params a.head b.head b.elems w.0 p.1)))
    (or_cases (ends_atomic atomic.names b.elems) _ k)
