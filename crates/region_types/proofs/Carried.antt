-- Region arguments that lie in others, put into the same path, and class types that lie in others.
use Rattle.std.proofs.Common.{◌≡◌, ◌==◌, ℕ, zero, suc, true, List, [], ◌∷◌, ◌++◌, get_or, map, refl, ◌∙◌}
use Rattle.std.proofs.lemmas.Bool.{and_parts, and_from, false≢true, eqb-true, eq-eqb}
use Rattle.lang_base.specs.declared.elems.Elem.{Elem}
use Rattle.lang_base.specs.declared.region.Head.{Head}
use Rattle.lang_base.specs.declared.region.Head.TheVariants.{Root, Param}
use Rattle.lang_base.specs.declared.region.Rpl.{Rpl}
use Rattle.lang_base.specs.Regions.{begins_with_star, heads_within, within, following, argument, put_at, substituted}
use Rattle.lang_base.specs.Types.{PlainType, type_with, all_within, class_within}
use Rattle.lang_base.specs.Types.PlainType.{int, boolean, void, null, class, array}
use Rattle.region_paths.proofs.Inclusion.{Covers-from, Covers-to, Covers-refl, Covers-append, within-refl, within-trans}

begins-following : (b e : List Elem) → begins_with_star b ≡ true → begins_with_star (b ++ e) ≡ true
begins-following [] e h = absurd (false≢true h)
begins-following (y ∷ b) e h = h

heads-following : (g h : Head) (b e : List Elem) → heads_within g h b ≡ true → heads_within g h (b ++ e) ≡ true
heads-following Root Root b e h = refl
heads-following (Param p) (Param q) b e h = h
heads-following (Param p) Root b e h = begins-following b e h
heads-following Root (Param q) b e h = absurd (false≢true h)

-- what lies in a path lies in it with the same elements after both
within-following : (a b : Rpl) (e : List Elem) → within a b ≡ true → within (following a e) (following b e) ≡ true
unfolding within
within-following a b e h =
    let p = and_parts (heads_within a.head b.head b.elems) _ h in
    and_from _ _ (heads-following a.head b.head b.elems e p.0) (Covers-to (Covers-append (Covers-from b.elems a.elems p.1) (Covers-refl e)))

within-at : (rs ss : List Rpl) (p : ℕ) (d : Rpl) → all_within rs ss ≡ true → within (get_or rs p d) (get_or ss p d) ≡ true
within-at [] [] p d h = within-refl d
within-at [] (b ∷ ss) p d h = absurd (false≢true h)
within-at (a ∷ rs) [] p d h = absurd (false≢true h)
within-at (a ∷ rs) (b ∷ ss) zero d h = (and_parts (within a b) _ h).0
within-at (a ∷ rs) (b ∷ ss) (suc p) d h = within-at rs ss p d (and_parts (within a b) _ h).1

put-within : (rs ss : List Rpl) → all_within rs ss ≡ true → (h : Head) (e : List Elem) → within (put_at h e rs) (put_at h e ss) ≡ true
put-within rs ss w Root e = within-refl _
put-within rs ss w (Param p) e = within-following (argument rs p) (argument ss p) e (within-at rs ss p (record { head = Param p; elems = [] }) w)

substituted-within : (rs ss : List Rpl) → all_within rs ss ≡ true → (a : Rpl) → within (substituted rs a) (substituted ss a) ≡ true
unfolding substituted
substituted-within rs ss w a = put-within rs ss w a.head a.elems

all_substituted : (rs ss : List Rpl) → all_within rs ss ≡ true → (paths : List Rpl) →
    all_within (map (substituted rs) paths) (map (substituted ss) paths) ≡ true
all_substituted rs ss w [] = refl
all_substituted rs ss w (a ∷ paths) = and_from _ _ (substituted-within rs ss w a) (all_substituted rs ss w paths)

all_within-refl : (rs : List Rpl) → all_within rs rs ≡ true
all_within-refl [] = refl
all_within-refl (a ∷ rs) = and_from _ _ (within-refl a) (all_within-refl rs)

all_within-trans : (rs ss ts : List Rpl) → all_within rs ss ≡ true → all_within ss ts ≡ true → all_within rs ts ≡ true
all_within-trans [] [] ts h k = k
all_within-trans [] (b ∷ ss) ts h k = absurd (false≢true h)
all_within-trans (a ∷ rs) [] ts h k = absurd (false≢true h)
all_within-trans (a ∷ rs) (b ∷ ss) [] h k = absurd (false≢true k)
all_within-trans (a ∷ rs) (b ∷ ss) (c ∷ ts) h k =
    let p = and_parts (within a b) _ h in
    let q = and_parts (within b c) _ k in
    and_from _ _ (within-trans a b c p.0 q.0) (all_within-trans rs ss ts p.1 q.1)

pub class_within-refl : (c : ℕ) (rs : List Rpl) → class_within (class c rs) (class c rs) ≡ true
class_within-refl c rs = and_from _ _ (eq-eqb c c refl) (all_within-refl rs)

pub class_within-trans : (a b c : PlainType) → class_within a b ≡ true → class_within b c ≡ true → class_within a c ≡ true
class_within-trans (class c rs) (class d ss) (class e ts) h k =
    let p = and_parts (c == d) _ h in
    let q = and_parts (d == e) _ k in
    and_from _ _ (eq-eqb c e (eqb-true c d p.0 ∙ eqb-true d e q.0)) (all_within-trans rs ss ts p.1 q.1)
class_within-trans (class c rs) (class d ss) t h k = absurd (false≢true k)
class_within-trans a b c h k = absurd (false≢true h)

-- a class type
abbrev pub IsClass : PlainType → Type 0
IsClass t = (c : ℕ) × (args : List Rpl) × (t ≡ class c args)

pub class_of-within : (a b : PlainType) → class_within a b ≡ true → IsClass a
class_of-within (class c rs) b h = (c, rs, refl)
class_of-within a b h = absurd (false≢true h)

-- a superclass with arguments put in that lie in others
pub parent-within : (rs ss : List Rpl) → all_within rs ss ≡ true → (t : PlainType) → IsClass (type_with ss t) →
    class_within (type_with rs t) (type_with ss t) ≡ true
parent-within rs ss w (class c paths) is = and_from _ _ (eq-eqb c c refl) (all_substituted rs ss w paths)
parent-within rs ss w int is = let e = is.2 in absurd (cc)
parent-within rs ss w boolean is = let e = is.2 in absurd (cc)
parent-within rs ss w void is = let e = is.2 in absurd (cc)
parent-within rs ss w null is = let e = is.2 in absurd (cc)
parent-within rs ss w (array elem rpl index) is = let e = is.2 in absurd (cc)
