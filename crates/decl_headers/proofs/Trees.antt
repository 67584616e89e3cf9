-- The classes as a forest: what stands under a class, and where a walk ends.
use Rattle.std.proofs.Common.{◌≡◌, ℕ, zero, suc, ◌+◌, ◌<◌, ◌≤◌, List, [], ◌∷◌, ◌++◌, length, drop, get_or, replicate, length-set, get_or-set_same, get_or-set_other, ◌⊎◌, inl, inr, Option, Some, None, refl, sym, ap, subst, ◌∙◌, arith}
use Rattle.std.proofs.lemmas.Bool.{cases_eq, cases_lt}
use Rattle.std.proofs.lemmas.List.{set_past, drop_all, length-replicate}
use Rattle.std.proofs.lemmas.Option.{none-some}
use Rattle.std.specs.Option.{option_and_then}
use Rattle.decl_headers.specs.declared.forest.Step.{Step}
use Rattle.decl_headers.specs.Numbers.{as_number}
use Rattle.decl_headers.specs.Rounds.{entry_of, up}
use Rattle.decl_headers.specs.Way.{IsCounted, with_filed, filed, extensions, extending, roots, walks, way_of, Each, IsEnded, deep}
use Rattle.decl_headers.proofs.Among.{among_left, among_right, among_either, each_among}
use Rattle.decl_headers.proofs.Cycles.{IsRound, up-first, entry_within, far_round}
use Rattle.decl_headers.proofs.Order.{Among}

-- a further class stands under its superclass, and nothing else changes
filed_from : (lists : List (List ℕ)) (above number class one : ℕ) → Among one (extending (with_filed lists above number) class) → Among one (extending lists class) ⊎ ((above ≡ class) × (one ≡ number))
filed_from lists above number class one h =
    elim (cases_eq class above) [
      | inl e ↦ elim (cases_lt above (length lists)) [
        | inl l ↦
            let here : extending (with_filed lists above number) class ≡ extending lists class ++ number ∷ [] =
            ap (λ k. get_or (with_filed lists above number) k []) e ∙ get_or-set_same lists above (extending lists above ++ number ∷ []) [] l ∙ ap (λ k. extending lists k ++ number ∷ []) (sym e) in
            elim (among_either one (extending lists class) (number ∷ []) (subst (Among one) here h)) [
              | inl was ↦ inl was
              | inr new ↦ elim new [ inl is ↦ inr (sym e, is) | inr none ↦ absurd none ]
            ]
        | inr g ↦ inl (subst (λ ls. Among one (extending ls class)) (set_past lists above (extending lists above ++ number ∷ []) g) h)
      ]
      | inr ne ↦ inl (subst (Among one) (get_or-set_other lists above class (extending lists above ++ number ∷ []) [] ne) h)
    ]

filed_kept : (lists : List (List ℕ)) (above number class one : ℕ) → Among one (extending lists class) → Among one (extending (with_filed lists above number) class)
filed_kept lists above number class one h =
    elim (cases_eq class above) [
      | inl e ↦ elim (cases_lt above (length lists)) [
        | inl l ↦
            let here : extending (with_filed lists above number) class ≡ extending lists class ++ number ∷ [] =
            ap (λ k. get_or (with_filed lists above number) k []) e ∙ get_or-set_same lists above (extending lists above ++ number ∷ []) [] l ∙ ap (λ k. extending lists k ++ number ∷ []) (sym e) in
            subst (Among one) (sym here) (among_left one (extending lists class) (number ∷ []) h)
        | inr g ↦ subst (λ ls. Among one (extending ls class)) (sym (set_past lists above (extending lists above ++ number ∷ []) g)) h
      ]
      | inr ne ↦ subst (Among one) (sym (get_or-set_other lists above class (extending lists above ++ number ∷ []) [] ne)) h
    ]

filed_into : (lists : List (List ℕ)) (above number : ℕ) → above < length lists → Among number (extending (with_filed lists above number) above)
filed_into lists above number l =
    subst (Among number) (sym (get_or-set_same lists above (extending lists above ++ number ∷ []) [] l)) (among_right number (extending lists above) (number ∷ []) (inl refl))

shifted : (at j : ℕ) → as_number (at + 1 + j) ≡ as_number (at + suc j)
shifted at j = let e : at + 1 + j ≡ at + suc j = omega arith in ap as_number e

child_from : (lists : List (List ℕ)) (at : ℕ) (parents : List (Option ℕ)) (class one : ℕ) → Among one (extending (filed lists at parents) class) → Among one (extending lists class) ⊎ ((j : ℕ) × (entry_of parents j ≡ Some class) × (one ≡ as_number (at + j)))
child_from lists at [] class one h = inl h
child_from lists at (None ∷ parents) class one h =
    elim (child_from lists (at + 1) parents class one h) [
      | inl was ↦ inl was
      | inr w ↦ inr (suc w.0, w.1, w.2 ∙ shifted at w.0)
    ]
child_from lists at (Some above ∷ parents) class one h =
    elim (child_from (with_filed lists above (as_number at)) (at + 1) parents class one h) [
      | inl was ↦ elim (filed_from lists above (as_number at) class one was) [
        | inl before ↦ inl before
        | inr new ↦ let none : at ≡ at + 0 = omega arith in inr (0, ap (λ k. Some k) new.0, new.1 ∙ ap as_number none)
      ]
      | inr w ↦ inr (suc w.0, w.1, w.2 ∙ shifted at w.0)
    ]

child_kept : (lists : List (List ℕ)) (at : ℕ) (parents : List (Option ℕ)) (class one : ℕ) → Among one (extending lists class) → Among one (extending (filed lists at parents) class)
child_kept lists at [] class one h = h
child_kept lists at (None ∷ parents) class one h = child_kept lists (at + 1) parents class one h
child_kept lists at (Some above ∷ parents) class one h =
    child_kept (with_filed lists above (as_number at)) (at + 1) parents class one (filed_kept lists above (as_number at) class one h)

child_into : (lists : List (List ℕ)) (at : ℕ) (parents : List (Option ℕ)) (class j : ℕ) → class < length lists → entry_of parents j ≡ Some class → Among (as_number (at + j)) (extending (filed lists at parents) class)
child_into lists at [] class j l h = cc
child_into lists at (None ∷ parents) class zero l h = cc
child_into lists at (None ∷ parents) class (suc j) l h =
    subst (λ k. Among k (extending (filed lists (at + 1) parents) class)) (shifted at j) (child_into lists (at + 1) parents class j l h)
child_into lists at (Some above ∷ parents) class zero l h =
    let same : above ≡ class = cc in
    let none : at ≡ at + 0 = omega arith in
    let next = with_filed lists above (as_number at) in
    let here : Among (as_number at) (extending next class) =
    subst (λ k. Among (as_number at) (extending next k)) same (filed_into lists above (as_number at) (subst (λ k. k < length lists) (sym same) l)) in
    subst (λ k. Among k (extending (filed next (at + 1) parents) class)) (ap as_number none) (child_kept next (at + 1) parents class (as_number at) here)
child_into lists at (Some above ∷ parents) class (suc j) l h =
    let next = with_filed lists above (as_number at) in
    let longer : class < length next = omega (arith, length-set lists above (extending lists above ++ as_number at ∷ [])) in
    subst (λ k. Among k (extending (filed next (at + 1) parents) class)) (shifted at j) (child_into next (at + 1) parents class j longer h)

numbered : (n j : ℕ) → j < n → n < 4294967295 → as_number (0 + j) ≡ j
numbered n j l b = omega arith

none_under : (n class one : ℕ) → Among one (extending (replicate n []) class) → ⊥
none_under zero class one h = h
none_under (suc n) zero one h = h
none_under (suc n) (suc class) one h = none_under n class one h

-- what stands under a class are the classes that extend it
pub child_up : (parents : List (Option ℕ)) (class one : ℕ) → IsCounted parents → Among one (extending (extensions parents) class) → entry_of parents one ≡ Some class
child_up parents class one counted h =
    elim (child_from (replicate (length parents) []) 0 parents class one h) [
      | inl none ↦ absurd (none_under (length parents) class one none)
      | inr w ↦ ap (entry_of parents) (w.2 ∙ numbered (length parents) w.0 (entry_within parents w.0 class w.1) counted) ∙ w.1
    ]

pub up_child : (parents : List (Option ℕ)) (class one : ℕ) → IsCounted parents → class < length parents → entry_of parents one ≡ Some class → Among one (extending (extensions parents) class)
up_child parents class one counted l h =
    let within : class < length (replicate (length parents) []) = omega (arith, length-replicate {A = List ℕ} (length parents) []) in
    subst (λ k. Among k (extending (extensions parents) class)) (numbered (length parents) one (entry_within parents one class h) counted) (child_into (replicate (length parents) []) 0 parents class one within h)

-- the classes without a superclass
roots_from : (at : ℕ) (parents : List (Option ℕ)) (one : ℕ) → Among one (roots at parents) → (j : ℕ) × (j < length parents) × (entry_of parents j ≡ None) × (one ≡ as_number (at + j))
roots_from at [] one h = absurd h
roots_from at (None ∷ parents) one (inl e) = let none : at ≡ at + 0 = omega arith in (0, omega arith, refl, e ∙ ap as_number none)
roots_from at (None ∷ parents) one (inr h) = let w = roots_from (at + 1) parents one h in let l = w.1 in (suc w.0, omega arith, w.2, w.3 ∙ shifted at w.0)
roots_from at (Some above ∷ parents) one h = let w = roots_from (at + 1) parents one h in let l = w.1 in (suc w.0, omega arith, w.2, w.3 ∙ shifted at w.0)

roots_into : (at : ℕ) (parents : List (Option ℕ)) (j : ℕ) → j < length parents → entry_of parents j ≡ None → Among (as_number (at + j)) (roots at parents)
roots_into at [] j l h = absurd (omega arith)
roots_into at (None ∷ parents) zero l h = let none : at + 0 ≡ at = omega arith in inl (ap as_number none)
roots_into at (None ∷ parents) (suc j) l h = inr (subst (λ k. Among k (roots (at + 1) parents)) (shifted at j) (roots_into (at + 1) parents j (omega arith) h))
roots_into at (Some above ∷ parents) zero l h = cc
roots_into at (Some above ∷ parents) (suc j) l h = subst (λ k. Among k (roots (at + 1) parents)) (shifted at j) (roots_into (at + 1) parents j (omega arith) h)

pub root_is : (parents : List (Option ℕ)) (one : ℕ) → IsCounted parents → Among one (roots 0 parents) → (one < length parents) × (entry_of parents one ≡ None)
root_is parents one counted h =
    let w = roots_from 0 parents one h in
    let same : one ≡ w.0 = w.3 ∙ numbered (length parents) w.0 w.1 counted in
    (subst (λ k. k < length parents) (sym same) w.1, ap (entry_of parents) same ∙ w.2)

pub is_root : (parents : List (Option ℕ)) (one : ℕ) → IsCounted parents → one < length parents → entry_of parents one ≡ None → Among one (roots 0 parents)
is_root parents one counted l h = subst (λ k. Among k (roots 0 parents)) (numbered (length parents) one l counted) (roots_into 0 parents one l h)

-- a walk ends where nothing is so deep below
ended_where : (parents : List (Option ℕ)) (n class : ℕ) → IsCounted parents → ((one : ℕ) → up parents n one ≡ Some class → ⊥) → IsEnded (extensions parents) n class
ended_where parents zero class counted none = none class refl
ended_where parents (suc n) class counted none =
    each_among (λ below. IsEnded (extensions parents) n below) (extending (extensions parents) class)
    (λ below h. ended_where parents n below counted (λ one e. none one (ap (option_and_then (entry_of parents)) e ∙ child_up parents class below counted h)))

root_no_round : (parents : List (Option ℕ)) (root : ℕ) → entry_of parents root ≡ None → IsRound parents root → ⊥
root_no_round parents root none h =
    let e : suc h.0 ≡ h.0 + 1 = omega arith in
    let f = up-first parents h.0 1 root root (ap (λ k. up parents k root) (sym e) ∙ h.1) in
    none-some f.0 (sym none ∙ f.1)

pub roots_end : (parents : List (Option ℕ)) → IsCounted parents → Each (IsEnded (extensions parents) (deep parents)) (roots 0 parents)
roots_end parents counted =
    each_among (IsEnded (extensions parents) (deep parents)) (roots 0 parents)
    (λ root h. ended_where parents (deep parents) root counted (λ one e. root_no_round parents root (root_is parents root counted h).1 (far_round parents root (deep parents) one (omega arith) e)))

-- at the end the whole way is taken
pub whole_way : (parents : List (Option ℕ)) (i : ℕ) (steps : List Step) → length parents ≤ i → steps ++ walks (extensions parents) (deep parents) (roots i (drop i parents)) ≡ way_of parents → steps ≡ way_of parents
whole_way parents i steps past h =
    sym (append_nil steps) ∙ ap (λ left. steps ++ walks (extensions parents) (deep parents) (roots i left)) (sym (drop_all i parents past)) ∙ h
  where
    append_nil : (xs : List Step) → xs ++ [] ≡ xs
    append_nil [] = refl
    append_nil (x ∷ xs) = ap (λ z. x ∷ z) (append_nil xs)
