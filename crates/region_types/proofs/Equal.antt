-- Types that are the same, and the comparison that finds it.
use Rattle.std.proofs.Common.{◌≡◌, ◌↔◌, IsTrue, ◌==◌, ℕ, suc, Bool, true, false, ◌&&◌, List, [], ◌∷◌, length, refl, sym, ap, ◌∙◌}
use Rattle.std.proofs.lemmas.Bool.{and_parts, and_from, and_right, false≢true, eqb-true, eq-eqb}
use Rattle.lang_base.specs.declared.region.Rpl.{Rpl}
use Rattle.lang_base.specs.Regions.{within}
use Rattle.lang_base.specs.Effects.{same_rpl}
use Rattle.lang_base.specs.Types.{PlainType, all_within, unnamed, SameType}
use Rattle.lang_base.specs.Types.PlainType.{int, boolean, void, null, class, array}
use Rattle.region_paths.proofs.Same.{same_rpl-is, same_rpl-from}
use Rattle.region_types.specs.Same.{same_paths, same_type}

-- lists of different lengths fail a test of their members side by side
pub unequal : {A B : Type 0} (F : List A → List B → Bool) (p : A → B → Bool) → ((y : B) (b : List B) → F [] (y ∷ b) ≡ false) →
    ((x : A) (a : List A) → F (x ∷ a) [] ≡ false) → ((x : A) (y : B) (a : List A) (b : List B) → F (x ∷ a) (y ∷ b) ≡ (p x y && F a b)) →
    (a : List A) (b : List B) → (length a ≡ length b → ⊥) → F a b ≡ false
unequal F p l r s [] [] ne = absurd (ne refl)
unequal F p l r s [] (y ∷ b) ne = l y b
unequal F p l r s (x ∷ a) [] ne = r x a
unequal F p l r s (x ∷ a) (y ∷ b) ne = s x y a b ∙ and_right (p x y) _ (unequal F p l r s a b (λ e. ne (ap suc e)))

pub within-unequal : (a b : List Rpl) → (length a ≡ length b → ⊥) → false ≡ all_within a b
within-unequal a b ne = sym (unequal all_within within (λ _ _. refl) (λ _ _. refl) (λ _ _ _ _. refl) a b ne)

cons_parts : {X : Type 0} {x y : X} {a b : List X} → x ∷ a ≡ y ∷ b → (x ≡ y) × (a ≡ b)
cons_parts e = (cc, cc)

class_parts : {c d : ℕ} {rs ss : List Rpl} → class c rs ≡ class d ss → (c ≡ d) × (rs ≡ ss)
class_parts e = (cc, cc)

array_parts : {s t : PlainType} {a b : Rpl} {i j : Bool} → array s a i ≡ array t b j → (s ≡ t) × (a ≡ b)
array_parts e = (cc, cc)

pub same_paths-is : (rs ss : List Rpl) → same_paths rs ss ≡ true → rs ≡ ss
same_paths-is [] [] h = refl
same_paths-is [] (b ∷ ss) h = absurd (false≢true h)
same_paths-is (a ∷ rs) [] h = absurd (false≢true h)
same_paths-is (a ∷ rs) (b ∷ ss) h =
    let p = and_parts (same_rpl a b) _ h in
    ap (λ z. z ∷ rs) (same_rpl-is a b p.0) ∙ ap (λ z. b ∷ z) (same_paths-is rs ss p.1)

pub same_paths-from : (rs ss : List Rpl) → rs ≡ ss → same_paths rs ss ≡ true
same_paths-from [] [] e = refl
same_paths-from [] (b ∷ ss) e = absurd (cc)
same_paths-from (a ∷ rs) [] e = absurd (cc)
same_paths-from (a ∷ rs) (b ∷ ss) e = let p = cons_parts e in and_from _ _ (same_rpl-from a b p.0) (same_paths-from rs ss p.1)

pub same_type-is : (a b : PlainType) → same_type a b ≡ true → SameType a b
same_type-is int int h = refl
same_type-is boolean boolean h = refl
same_type-is void void h = refl
same_type-is null null h = refl
same_type-is (class c rs) (class d ss) h =
    let p = and_parts (c == d) _ h in
    ap (λ z. class z rs) (eqb-true c d p.0) ∙ ap (class d) (same_paths-is rs ss p.1)
same_type-is (array s a i) (array t b j) h =
    let p = and_parts (same_rpl a b) _ h in
    ap (λ z. array (unnamed s) z false) (same_rpl-is a b p.0) ∙ ap (λ z. array z b false) (same_type-is s t p.1)
same_type-is a b h = absurd (false≢true h)

pub same_type-from : (a b : PlainType) → SameType a b → same_type a b ≡ true
same_type-from int int e = refl
same_type-from boolean boolean e = refl
same_type-from void void e = refl
same_type-from null null e = refl
same_type-from (class c rs) (class d ss) e = let p = class_parts e in and_from _ _ (eq-eqb c d p.0) (same_paths-from rs ss p.1)
same_type-from (array s a i) (array t b j) e = let p = array_parts e in and_from _ _ (same_rpl-from a b p.1) (same_type-from s t p.0)
same_type-from a b e = absurd (cc)

-- a comparison that answers so answers whether the types are the same
pub same_type-means : (same : Bool) (a b : PlainType) → same ≡ same_type a b → IsTrue same ↔ SameType a b
same_type-means same a b is = (λ t. same_type-is a b (sym is ∙ t), λ s. is ∙ same_type-from a b s)

-- a comparison of lists that answers whether they are equal
pub same_paths-reported : (same : Bool) (rs ss : List Rpl) → IsTrue same ↔ (rs ≡ ss) → same ≡ same_paths rs ss
same_paths-reported true rs ss reported = sym (same_paths-from rs ss (reported.0 refl))
same_paths-reported false rs ss reported = unlike (same_paths rs ss) (λ h. reported.1 (same_paths-is rs ss h))
  where
    unlike : (b : Bool) → (b ≡ true → false ≡ true) → false ≡ b
    unlike true h = h refl
    unlike false h = refl

pub same_path-reported : (same : Bool) (a b : Rpl) → IsTrue same ↔ (a ≡ b) → same ≡ same_rpl a b
same_path-reported true a b reported = sym (same_rpl-from a b (reported.0 refl))
same_path-reported false a b reported = unlike (same_rpl a b) (λ h. reported.1 (same_rpl-is a b h))
  where
    unlike : (b : Bool) → (b ≡ true → false ≡ true) → false ≡ b
    unlike true h = h refl
    unlike false h = refl
