-- The tree of a text has no two names that are spelled alike.
use Rattle.std.proofs.Common.{◌≡◌, ◌∙◌, ℕ, zero, suc, false, List, [], ◌∷◌, Some, refl, ap, sym, subst}
use Rattle.std.proofs.lemmas.Slice.Eq.{bytes_eq-Decides}
use Rattle.std.specs.List.{AllByRecursion, IsDistinct}
use Rattle.std.specs.Prelude.{slice_get}
use Rattle.std.specs.Str.{bytes_eq}
use Rattle.syntax_grammar.proofs.Distinct.{all_distinct}
use Rattle.syntax_tree.specs.declared.class.Class.{Class}
use Rattle.syntax_tree.specs.declared.class.Program.{Program}
use Rattle.syntax_means.specs.Accepts.{HasTree}
use Rattle.syntax_means.specs.Means.{param_names}
use Rattle.syntax_means.proofs.unique.Apart.{IsApart}
use Rattle.syntax_means.proofs.unique.Lists.{some_same}

not_among : (one : List ℕ) (names : List (List ℕ)) (i : ℕ) → AllByRecursion (λ other. bytes_eq one other ≡ false) names → slice_get names i ≡ Some one → ⊥
not_among one [] i differ e = cc
not_among one (other ∷ names) zero differ e =
    let same = (bytes_eq-Decides one other).1 (sym (some_same e)) in
    let apart = differ.0 in
    cc (same, apart)
not_among one (other ∷ names) (suc i) differ e = not_among one names i differ.1 e

one_place : (names : List (List ℕ)) → IsDistinct bytes_eq names → (m n : ℕ) (text : List ℕ) → slice_get names m ≡ Some text → slice_get names n ≡ Some text → m ≡ n
unfolding IsDistinct
one_place [] distinct m n text e d = cc
one_place (one ∷ names) distinct zero zero text e d = refl
one_place (one ∷ names) distinct zero (suc n) text e d = absurd (not_among one names n distinct.0 (d ∙ sym e))
one_place (one ∷ names) distinct (suc m) zero text e d = absurd (not_among one names m distinct.0 (e ∙ sym d))
one_place (one ∷ names) distinct (suc m) (suc n) text e d = ap suc (one_place names distinct.1 m n text e d)

-- so it is apart where no class has two region parameters of one name
pub apart_in_text : (text : List ℕ) (tree : Program) → HasTree text tree →
    ((c p q name : ℕ) (class : Class) → slice_get tree.classes c ≡ Some class → slice_get (param_names class.params) p ≡ Some name → slice_get (param_names class.params) q ≡ Some name → p ≡ q) →
    IsApart tree
apart_in_text text tree has params = record {
  names = one_place tree.names (subst (IsDistinct bytes_eq) (sym has.names) (all_distinct text has.tokens));
  class_params = params;
}
