-- What holds of a class once it is entered on the way through the classes, where that follows from what holds of those above it.
use Rattle.std.proofs.Common.{◌≡◌, ◌≢◌, ◌∙◌, ℕ, zero, suc, ◌+◌, ◌<◌, List, [], ◌∷◌, ◌++◌, length, inl, inr, Option, Some, None, refl, sym, ap, subst, arith}
use Rattle.std.proofs.lemmas.Bool.{cases_eq}
use Rattle.std.proofs.lemmas.Option.{none-some}
use Rattle.decl_headers.specs.declared.forest.Step.{Step}
use Rattle.decl_headers.specs.declared.forest.Step.TheVariants as step
use Rattle.decl_headers.specs.Rounds.{entry_of, up}
use Rattle.decl_headers.specs.Way.{IsForest, extensions, extending, roots, last_first, walk, walks, way_of, deep}
use Rattle.decl_headers.proofs.Among.{among_either}
use Rattle.decl_headers.proofs.Cycles.{entry_within, up-first}
use Rattle.decl_headers.proofs.Order.{Among}
use Rattle.decl_headers.proofs.Trees.{child_up, root_is}
use Rattle.decl_headers.proofs.Walks.{inside, insides, all_inside}

module _ {S : Type 0} (enter : S → ℕ → S) (parents : List (Option ℕ)) (Fine : S → Type 0) (P : ℕ → S → Type 0)
  where
    abbrev pub stepped : S → Step → S
    stepped s (step.Enter class) = enter s class
    stepped s (step.Leave class) = s

    abbrev pub after : S → List Step → S
    after s [] = s
    after s (x ∷ xs) = after (stepped s x) xs

    -- it holds of a class and of all above it
    abbrev pub Holds : S → ℕ → Type 0
    Holds s at = (n one : ℕ) → up parents n at ≡ Some one → P one s

    abbrev pub Above : S → ℕ → Type 0
    Above s at = (above : ℕ) → entry_of parents at ≡ Some above → Holds s above

    -- it holds of a class that is entered after those above it, and of another still
    pub record Enters : Type 0 where
      pub fine : (s : S) (at : ℕ) → at < length parents → Fine s → Above s at → Fine (enter s at)
      pub makes : (s : S) (at : ℕ) → at < length parents → Fine s → Above s at → P at (enter s at)
      pub keeps : (s : S) (at one : ℕ) → at < length parents → Fine s → Above s at → one ≢ at → P one s → P one (enter s at)

    one_kept : Enters → (s : S) (at one : ℕ) → at < length parents → Fine s → Above s at → P one s → P one (enter s at)
    one_kept enters s at one l fine above holds =
        elim (cases_eq one at) [
          | inl same ↦ subst (λ k. P k (enter s at)) (sym same) (enters.makes s at l fine above)
          | inr apart ↦ enters.keeps s at one l fine above apart holds
        ]

    all_kept : Enters → (s : S) (at one : ℕ) → at < length parents → Fine s → Above s at → Holds s one → Holds (enter s at) one
    all_kept enters s at one l fine above holds n top e = one_kept enters s at top l fine above (holds n top e)

    made : Enters → (s : S) (at : ℕ) → at < length parents → Fine s → Above s at → Holds (enter s at) at
    made enters s at l fine above zero top e =
        let same : at ≡ top = cc in
        subst (λ k. P k (enter s at)) same (enters.makes s at l fine above)
    made enters s at l fine above (suc n) top e =
        let two : n + 1 ≡ suc n = omega arith in
        let first = up-first parents n 1 at top (ap (λ k. up parents k at) two ∙ e) in
        one_kept enters s at top l fine above (above first.0 first.1 n top first.2)

    on-append : (s : S) (xs ys : List Step) → after s (xs ++ ys) ≡ after (after s xs) ys
    on-append s [] ys = refl
    on-append s (x ∷ xs) ys = on-append (stepped s x) xs ys

    -- the steps keep what holds, and make it hold of some more classes
    record Settles (s : S) (steps : List Step) (through : List ℕ) : Type 0 where
      kept : (at : ℕ) → Holds s at → Holds (after s steps) at
      reached : (at : ℕ) → Among at through → Holds (after s steps) at
      fine : Fine (after s steps)

    settles_none : (s : S) → Fine s → Settles s [] []
    settles_none s fine = record { kept = λ at h. h; reached = λ at none. absurd none; fine = fine }

    settles_then : (s : S) (xs ys : List Step) (first more : List ℕ) → Settles s xs first → Settles (after s xs) ys more → Settles s (xs ++ ys) (first ++ more)
    settles_then s xs ys first more h k =
        let e = sym (on-append s xs ys) in
        record {
          kept = λ at holds. subst (λ t. Holds t at) e (k.kept at (h.kept at holds));
          reached = λ at among. subst (λ t. Holds t at) e (elim (among_either at first more among) [ inl l ↦ k.kept at (h.reached at l) | inr r ↦ k.reached at r ]);
          fine = subst Fine e k.fine;
        }

    settles_last : (above : ℕ) (f : ℕ → List Step) (g : ℕ → List ℕ) (numbers : List ℕ) (s : S) → Fine s → Holds s above →
        ((one : ℕ) → Among one numbers → (some : S) → Fine some → Holds some above → Settles some (f one) (g one)) → Settles s (last_first f numbers) (last_first g numbers)
    settles_last above f g [] s fine holds h = settles_none s fine
    settles_last above f g (one ∷ numbers) s fine holds h =
        let first = settles_last above f g numbers s fine holds (λ k among. h k (inr among)) in
        settles_then s (last_first f numbers) (f one) (last_first g numbers) (g one) first
        (h one (inl refl) (after s (last_first f numbers)) first.fine (first.kept above holds))

    abbrev DoesSettle : ℕ → Type 0
    DoesSettle n = (s : S) (class : ℕ) → class < length parents → Fine s → Above s class → Settles s (walk (extensions parents) n class) (inside (extensions parents) n class)

    settle_deeper : (n : ℕ) → IsForest parents → Enters → DoesSettle n → DoesSettle (suc n)
    settle_deeper n forest enters does s class l fine above =
        let lists = extensions parents in
        let children = extending lists class in
        let down = last_first (λ below. walk lists n below) children in
        let next = enter s class in
        let here = made enters s class l fine above in
        let inner = settles_last class (λ below. walk lists n below) (λ below. inside lists n below) children next (enters.fine s class l fine above) here
        (λ below k some good known. let e = child_up parents class below forest.counted k in does some below (entry_within parents below class e) good (λ above f. subst (Holds some) (same_parent below class above e f) known)) in
        let e = sym (on-append next down (step.Leave class ∷ [])) in
        record {
          kept = λ at h. subst (λ t. Holds t at) e (inner.kept at (all_kept enters s class at l fine above h));
          reached = λ at among. subst (λ t. Holds t at) e (elim among [ inl same_one ↦ inner.kept at (subst (Holds next) (sym same_one) here) | inr more ↦ inner.reached at more ]);
          fine = subst Fine e inner.fine;
        }
      where
        same_parent : (below class above : ℕ) → entry_of parents below ≡ Some class → entry_of parents below ≡ Some above → class ≡ above
        same_parent below class above e f = cc

    settle : (n : ℕ) → IsForest parents → Enters → DoesSettle n
    settle zero forest enters s class l fine above = settles_none s fine
    settle (suc n) forest enters s class l fine above = settle_deeper n forest enters (settle n forest enters) s class l fine above

    settle_all : (n : ℕ) (numbers : List ℕ) (s : S) → IsForest parents → Enters → Fine s → ((one : ℕ) → Among one numbers → (one < length parents) × (entry_of parents one ≡ None)) →
        Settles s (walks (extensions parents) n numbers) (insides (extensions parents) n numbers)
    settle_all n [] s forest enters fine all = settles_none s fine
    settle_all n (one ∷ numbers) s forest enters fine all =
        let lists = extensions parents in
        let root = all one (inl refl) in
        let first = settle n forest enters s one root.0 fine (λ above e. absurd (none-some above (sym root.1 ∙ e))) in
        settles_then s (walk lists n one) (walks lists n numbers) (inside lists n one) (insides lists n numbers) first
        (settle_all n numbers (after s (walk lists n one)) forest enters first.fine (λ k among. all k (inr among)))

    -- after the way it holds of each class
    pub settled : (s : S) (at : ℕ) → IsForest parents → Enters → Fine s → at < length parents → P at (after s (way_of parents))
    settled s at forest enters fine l =
        (settle_all (deep parents) (roots 0 parents) s forest enters fine (λ one k. root_is parents one forest.counted k)).reached at (all_inside parents at forest l) 0 at refl
