-- The class of a name, where one class more is looked at.
use Rattle.std.proofs.Common.{◌≡◌, ℕ, suc, ◌+◌, ◌==◌, ◌<◌, true, false, cond, List, [], ◌∷◌, ◌++◌, length, get_or, take, drop, Option, None, Some, is_some, inl, inr, refl, sym, ap, subst, ◌∙◌, arith}
use Rattle.std.proofs.lemmas.Bool.Decides.{eqb_tells}
use Rattle.std.proofs.lemmas.List.{take_more, drop_more}
use Rattle.lang_base.specs.declared.refusal.Kind.TheVariants as kind
use Rattle.syntax_tree.specs.declared.class.Class.{Class}
use Rattle.decl_headers.specs.declared.faults.Faults.{Faults}
use Rattle.decl_headers.specs.Faults.{all_noted}
use Rattle.decl_headers.specs.Numbers.{as_number}
use Rattle.decl_headers.specs.Passes.{fault_if, first_named, second_classes}

-- a name of an earlier class means what it meant
pub named_before : (name at : ℕ) (classes : List Class) (class : Class) → is_some (first_named name at classes) ≡ true → first_named name at (classes ++ class ∷ []) ≡ first_named name at classes
named_before name at [] class h = cc
named_before name at (c ∷ classes) class h =
    elim (c.name == name) as (λ b. is_some (cond b (Some (as_number at)) (first_named name (at + 1) classes)) ≡ true → cond b (Some (as_number at)) (first_named name (at + 1) (classes ++ class ∷ [])) ≡ cond b (Some (as_number at)) (first_named name (at + 1) classes)) [
      | true ↦ λ _. refl
      | false ↦ λ more. named_before name (at + 1) classes class more
    ] h

-- a name that isn't that of the further class means what it meant
pub named_other : (name at : ℕ) (classes : List Class) (class : Class) → (class.name == name) ≡ false → first_named name at (classes ++ class ∷ []) ≡ first_named name at classes
named_other name at [] class h = ap (λ b. cond b (Some (as_number at)) None) h
named_other name at (c ∷ classes) class h = ap (λ r. cond (c.name == name) (Some (as_number at)) r) (named_other name (at + 1) classes class h)

-- a name that meant none means the further class, where that has it
pub named_last : (name at : ℕ) (classes : List Class) (class : Class) → (class.name == name) ≡ true → first_named name at classes ≡ None → first_named name at (classes ++ class ∷ []) ≡ Some (as_number (at + length classes))
named_last name at [] class e h =
    let none : at ≡ at + 0 = omega arith in
    ap (λ b. cond b (Some (as_number at)) None) e ∙ ap (λ k. Some (as_number k)) none
named_last name at (c ∷ classes) class e h =
    let more : at + 1 + length classes ≡ at + suc (length classes) = omega arith in
    elim (c.name == name) as (λ b. cond b (Some (as_number at)) (first_named name (at + 1) classes) ≡ None → cond b (Some (as_number at)) (first_named name (at + 1) (classes ++ class ∷ [])) ≡ Some (as_number (at + suc (length classes)))) [
      | true ↦ λ some. cc
      | false ↦ λ none. named_last name (at + 1) classes class e none ∙ ap (λ k. Some (as_number k)) more
    ] h

-- a further class of a known name changes the meaning of none
pub named_again : (name at : ℕ) (classes : List Class) (class : Class) → is_some (first_named class.name at classes) ≡ true → first_named name at (classes ++ class ∷ []) ≡ first_named name at classes
named_again name at classes class h =
    elim (eqb_tells class.name name) [
      | inl p ↦ named_before name at classes class (subst (λ n. is_some (first_named n at classes) ≡ true) p.1 h)
      | inr q ↦ named_other name at classes class q.0
    ]

-- a further class of a new name is what that name means
pub named_new : (name at : ℕ) (classes : List Class) (class : Class) → first_named class.name at classes ≡ None → first_named name at (classes ++ class ∷ []) ≡ cond (class.name == name) (Some (as_number (at + length classes))) (first_named name at classes)
named_new name at classes class h =
    elim (eqb_tells class.name name) [
      | inl p ↦ named_last name at classes class p.0 (subst (λ n. first_named n at classes ≡ None) p.1 h) ∙ sym (ap (λ b. cond b (Some (as_number (at + length classes))) (first_named name at classes)) p.0)
      | inr q ↦ named_other name at classes class q.0 ∙ sym (ap (λ b. cond b (Some (as_number (at + length classes))) (first_named name at classes)) q.0)
    ]

-- one class more
pub take_class : (classes : List Class) (i : ℕ) (class : Class) → i < length classes → class ≡ get_or classes i class → take (i + 1) classes ≡ take i classes ++ class ∷ []
take_class classes i class below is = take_more classes i class below ∙ ap (λ z. take i classes ++ z ∷ []) (sym is)

-- the next class is a second one, or not
pub second_step : (faults : Faults) (classes : List Class) (i : ℕ) (class : Class) → i < length classes → class ≡ get_or classes i class → all_noted faults (second_classes (take i classes) (drop i classes)) ≡ all_noted faults (fault_if (is_some (first_named class.name 0 (take i classes))) kind.Duplicate class.place ++ second_classes (take (i + 1) classes) (drop (i + 1) classes))
second_step faults classes i class below is =
    let next : drop i classes ≡ class ∷ drop (i + 1) classes = drop_more classes i class below ∙ ap (λ z. z ∷ drop (i + 1) classes) (sym is) in
    ap (λ z. all_noted faults (second_classes (take i classes) z)) next
    ∙ ap (λ z. all_noted faults (fault_if (is_some (first_named class.name 0 (take i classes))) kind.Duplicate class.place ++ second_classes z (drop (i + 1) classes))) (sym (take_class classes i class below is))

pub none_from : (found : Option ℕ) → is_some found ≡ false → found ≡ None
none_from None h = refl
none_from (Some n) h = cc
