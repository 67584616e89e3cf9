-- What is made for each class on the way through the classes, once what its superclass has is known.
use Rattle.std.proofs.Common.{◌≡◌, ℕ, zero, suc, ◌<◌, List, [], ◌∷◌, ◌++◌, length, get_or, set, length-set, get_or-set_same, get_or-set_other, inl, inr, Option, Some, None, refl, sym, ap, subst, ◌∙◌, arith}
use Rattle.std.proofs.lemmas.Bool.{cases_eq}
use Rattle.std.proofs.lemmas.Option.{none-some}
use Rattle.decl_headers.specs.declared.forest.Step.{Step}
use Rattle.decl_headers.specs.declared.forest.Step.TheVariants as step
use Rattle.decl_headers.specs.Rounds.{entry_of}
use Rattle.decl_headers.specs.Way.{IsForest, extensions, extending, roots, last_first, walk, walks, way_of, deep, entered, entered_on}
use Rattle.decl_headers.proofs.Among.{among_either}
use Rattle.decl_headers.proofs.Cycles.{entry_within}
use Rattle.decl_headers.proofs.Order.{Among}
use Rattle.decl_headers.proofs.Trees.{child_up, root_is}
use Rattle.decl_headers.proofs.Walks.{inside, insides, all_inside}

pub on-append : {A : Type 0} (make : List A → ℕ → A) (made : List A) (xs ys : List Step) → entered_on make made (xs ++ ys) ≡ entered_on make (entered_on make made xs) ys
on-append make made [] ys = refl
on-append make made (x ∷ xs) ys = on-append make (entered make made x) xs ys

module _ {A : Type 0} (make : List A → ℕ → A) (other : A) (parents : List (Option ℕ)) (P : ℕ → A → Type 0)
  where
    -- it holds of what the class has
    abbrev Holds : List A → ℕ → Type 0
    Holds made at = P at (get_or made at other)

    -- it holds of what is made, where it holds of what the superclass has
    abbrev pub Makes : Type 0
    Makes = (made : List A) (at : ℕ) → ((above : ℕ) → entry_of parents at ≡ Some above → Holds made above) → P at (make made at)

    holds_set : (made : List A) (at one : ℕ) (value : A) → at < length made → P at value → Holds made one → Holds (set made at value) one
    holds_set made at one value l is holds =
        elim (cases_eq one at) [
          | inl e ↦ subst (λ k. Holds (set made at value) k) (sym e) (subst (P at) (sym (get_or-set_same made at value other l)) is)
          | inr ne ↦ subst (P one) (sym (get_or-set_other made at one value other ne)) holds
        ]

    -- the steps keep what holds, and make it hold of some more classes
    record Settles (made : List A) (steps : List Step) (through : List ℕ) : Type 0 where
      kept : (at : ℕ) → Holds made at → Holds (entered_on make made steps) at
      reached : (at : ℕ) → Among at through → Holds (entered_on make made steps) at
      same : length (entered_on make made steps) ≡ length made

    settles_none : (made : List A) → Settles made [] []
    settles_none made = record { kept = λ at h. h; reached = λ at none. absurd none; same = refl }

    settles_then : (made : List A) (xs ys : List Step) (first more : List ℕ) → Settles made xs first → Settles (entered_on make made xs) ys more → Settles made (xs ++ ys) (first ++ more)
    settles_then made xs ys first more h k =
        let e = sym (on-append make made xs ys) in
        record {
          kept = λ at holds. subst (λ ms. Holds ms at) e (k.kept at (h.kept at holds));
          reached = λ at among. subst (λ ms. Holds ms at) e (elim (among_either at first more among) [ inl l ↦ k.kept at (h.reached at l) | inr r ↦ k.reached at r ]);
          same = ap length (sym e) ∙ k.same ∙ h.same;
        }

    settles_last : (above : ℕ) (f : ℕ → List Step) (g : ℕ → List ℕ) (numbers : List ℕ) (made : List A) → length made ≡ length parents → Holds made above →
        ((one : ℕ) → Among one numbers → (some : List A) → length some ≡ length parents → Holds some above → Settles some (f one) (g one)) → Settles made (last_first f numbers) (last_first g numbers)
    settles_last above f g [] made same holds h = settles_none made
    settles_last above f g (one ∷ numbers) made same holds h =
        let first = settles_last above f g numbers made same holds (λ k among. h k (inr among)) in
        settles_then made (last_first f numbers) (f one) (last_first g numbers) (g one) first
        (h one (inl refl) (entered_on make made (last_first f numbers)) (first.same ∙ same) (first.kept above holds))

    abbrev DoesSettle : ℕ → Type 0
    DoesSettle n = (made : List A) (class : ℕ) → class < length parents → length made ≡ length parents → ((above : ℕ) → entry_of parents class ≡ Some above → Holds made above) → Settles made (walk (extensions parents) n class) (inside (extensions parents) n class)

    settle_deeper : (n : ℕ) → IsForest parents → Makes → DoesSettle n → DoesSettle (suc n)
    settle_deeper n forest makes does made class l same holds =
        let lists = extensions parents in
        let children = extending lists class in
        let down = last_first (λ below. walk lists n below) children in
        let value = make made class in
        let is = makes made class holds in
        let next = set made class value in
        let within : class < length made = omega (arith, same) in
        let here : Holds next class = subst (P class) (sym (get_or-set_same made class value other within)) is in
        let longer : length next ≡ length parents = length-set made class value ∙ same in
        let inner = settles_last class (λ below. walk lists n below) (λ below. inside lists n below) children next longer here
        (λ below k some size known. let e = child_up parents class below forest.counted k in does some below (entry_within parents below class e) size (λ above f. subst (Holds some) (same_parent below class above e f) known)) in
        let e = sym (on-append make next down (step.Leave class ∷ [])) in
        record {
          kept = λ at h. subst (λ ms. Holds ms at) e (inner.kept at (holds_set made class at value within is h));
          reached = λ at among. subst (λ ms. Holds ms at) e (elim among [ inl same_one ↦ inner.kept at (subst (Holds next) (sym same_one) here) | inr more ↦ inner.reached at more ]);
          same = ap length (sym e) ∙ inner.same ∙ length-set made class value;
        }
      where
        same_parent : (below class above : ℕ) → entry_of parents below ≡ Some class → entry_of parents below ≡ Some above → class ≡ above
        same_parent below class above e f = cc

    settle : (n : ℕ) → IsForest parents → Makes → DoesSettle n
    settle zero forest makes made class l same holds = settles_none made
    settle (suc n) forest makes made class l same holds = settle_deeper n forest makes (settle n forest makes) made class l same holds

    settle_all : (n : ℕ) (numbers : List ℕ) (made : List A) → IsForest parents → Makes → length made ≡ length parents → ((one : ℕ) → Among one numbers → (one < length parents) × (entry_of parents one ≡ None)) →
        Settles made (walks (extensions parents) n numbers) (insides (extensions parents) n numbers)
    settle_all n [] made forest makes same all = settles_none made
    settle_all n (one ∷ numbers) made forest makes same all =
        let lists = extensions parents in
        let root = all one (inl refl) in
        let first = settle n forest makes made one root.0 same (λ above e. absurd (none-some above (sym root.1 ∙ e))) in
        settles_then made (walk lists n one) (walks lists n numbers) (inside lists n one) (insides lists n numbers) first
        (settle_all n numbers (entered_on make made (walk lists n one)) forest makes (first.same ∙ same) (λ k among. all k (inr among)))

    whole : (made : List A) → IsForest parents → Makes → length made ≡ length parents → Settles made (way_of parents) (insides (extensions parents) (deep parents) (roots 0 parents))
    whole made forest makes same = settle_all (deep parents) (roots 0 parents) made forest makes same (λ one k. root_is parents one forest.counted k)

    -- after the way it holds of what each class has
    pub settled : (made : List A) (at : ℕ) → IsForest parents → Makes → length made ≡ length parents → at < length parents → Holds (entered_on make made (way_of parents)) at
    settled made at forest makes same l = (whole made forest makes same).reached at (all_inside parents at forest l)

    pub settled_length : (made : List A) → IsForest parents → Makes → length made ≡ length parents → length (entered_on make made (way_of parents)) ≡ length made
    settled_length made forest makes same = (whole made forest makes same).same
