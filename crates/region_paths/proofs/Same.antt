-- What the tests of sameness say: of indices, elements, heads and whole paths.
use Rattle.std.proofs.Common.{◌≡◌, true, eqb, List, [], ◌∷◌, refl, ap, ◌∙◌, subst}
use Rattle.std.proofs.lemmas.Bool.{and_parts, and_from, false≢true, eqb-true, eq-eqb}
use Rattle.std.proofs.lemmas.Bool.Decides.{Decides-int_eq}
use Rattle.lang_base.specs.declared.elems.Elem.{Elem}
use Rattle.lang_base.specs.declared.elems.Elem.TheVariants.{Name, At, Any, Star, Local}
use Rattle.lang_base.specs.declared.elems.Index.{Index}
use Rattle.lang_base.specs.declared.elems.Index.TheVariants.{Literal, Variable, Renamed, Own}
use Rattle.lang_base.specs.declared.region.Head.{Head}
use Rattle.lang_base.specs.declared.region.Head.TheVariants.{Root, Param}
use Rattle.lang_base.specs.declared.region.Rpl.{Rpl}
use Rattle.lang_base.specs.Regions.{same_index, same_elem, same_head}
use Rattle.lang_base.specs.Effects.{same_elems, same_rpl}

pub same_index-is : (x y : Index) → same_index x y ≡ true → x ≡ y
same_index-is (Literal j) (Literal k) h = ap Literal ((Decides-int_eq j k).0 h)
same_index-is (Variable v) (Variable w) h = ap Variable (eqb-true v w h)
same_index-is (Renamed v) (Renamed w) h = ap Renamed (eqb-true v w h)
same_index-is (Own d) (Own e) h = ap Own (eqb-true d e h)
same_index-is x y h = absurd (false≢true h)

pub same_index-refl : (x : Index) → same_index x x ≡ true
same_index-refl (Literal j) = (Decides-int_eq j j).1 refl
same_index-refl (Variable v) = eq-eqb v v refl
same_index-refl (Renamed v) = eq-eqb v v refl
same_index-refl (Own d) = eq-eqb d d refl

pub same_elem-is : (x y : Elem) → same_elem x y ≡ true → x ≡ y
same_elem-is (Name m) (Name n) h = ap Name (eqb-true m n h)
same_elem-is (At i) (At j) h = ap At (same_index-is i j h)
same_elem-is Any Any h = refl
same_elem-is Star Star h = refl
same_elem-is (Local a b) (Local c d) h =
    let p = and_parts (eqb a c) (eqb b d) h in
    ap (λ z. Local z b) (eqb-true a c p.0) ∙ ap (λ z. Local c z) (eqb-true b d p.1)
same_elem-is x y h = absurd (false≢true h)

pub same_elem-refl : (x : Elem) → same_elem x x ≡ true
same_elem-refl (Name m) = eq-eqb m m refl
same_elem-refl (At i) = same_index-refl i
same_elem-refl Any = refl
same_elem-refl Star = refl
same_elem-refl (Local a b) = and_from _ _ (eq-eqb a a refl) (eq-eqb b b refl)

pub same_head-is : (g h : Head) → same_head g h ≡ true → g ≡ h
same_head-is Root Root h = refl
same_head-is (Param p) (Param q) h = ap Param (eqb-true p q h)
same_head-is Root (Param q) h = absurd (false≢true h)
same_head-is (Param p) Root h = absurd (false≢true h)

pub same_head-refl : (g : Head) → same_head g g ≡ true
same_head-refl Root = refl
same_head-refl (Param p) = eq-eqb p p refl

pub same_elems-is : (a b : List Elem) → same_elems a b ≡ true → a ≡ b
same_elems-is [] [] h = refl
same_elems-is [] (y ∷ b) h = absurd (false≢true h)
same_elems-is (x ∷ a) [] h = absurd (false≢true h)
same_elems-is (x ∷ a) (y ∷ b) h =
    let p = and_parts (same_elem x y) _ h in
    ap (λ z. z ∷ a) (same_elem-is x y p.0) ∙ ap (λ z. y ∷ z) (same_elems-is a b p.1)

pub same_elems-refl : (a : List Elem) → same_elems a a ≡ true
same_elems-refl [] = refl
same_elems-refl (x ∷ a) = and_from _ _ (same_elem-refl x) (same_elems-refl a)

pub same_rpl-is : (a b : Rpl) → same_rpl a b ≡ true → a ≡ b
same_rpl-is a b h =
    let p = and_parts (same_head a.head b.head) _ h in
    ap (λ z. record a { head = z }) (same_head-is a.head b.head p.0) ∙ ap (λ z. record { head = b.head; elems = z }) (same_elems-is a.elems b.elems p.1)

pub same_rpl-from : (a b : Rpl) → a ≡ b → same_rpl a b ≡ true
same_rpl-from a b e = subst (λ z. same_rpl a z ≡ true) e (and_from _ _ (same_head-refl a.head) (same_elems-refl a.elems))
