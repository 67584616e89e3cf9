-- Scopes of branches and of blocks agree with those around them, as far as effects depend on them.
use Rattle.std.proofs.Common.{◌≡◌, ◌∙◌, ◌||◌, ◌==◌, ◌+◌, ⊎_elim, ℕ, Bool, true, false, cond, List, [], ◌∷◌, ◌++◌, Option, Some, None, refl, sym, ap, subst, arith}
use Rattle.std.specs.Prelude.{All}
use Rattle.std.specs.List.{list_any}
use Rattle.std.specs.Option.{option_map}
use Rattle.std.proofs.lemmas.Bool.{cases_Bool, false≢true, eqb-true, false_from_ne_true}
use Rattle.std.proofs.lemmas.List.Elements.{All-head, All-tail, All-append, All-nil}
use Rattle.lang_base.specs.declared.region.Rpl.{Rpl}
use Rattle.lang_base.specs.Types.{PlainType, int}
use Rattle.lang_typed.specs.Plain.{PlainProgram, Source, TypedBranches}
use Rattle.lang_typed.specs.Scope.{Scope, Local, variable, frozen, constant, part, reserved, with_local, with_regions, in_atomic_block, read_alone, in_loop_branch, seen_in_branch, in_branch}
use Rattle.lang_typed.specs.Effects.{Own}
use Rattle.lang_typed.specs.Statements.{Cuts, cuts_array, cuts_part, IsFree, IsVariable, with_part, all_copies, BranchesPass, no_branch, one_branch}
use Rattle.body_infer.specs.Doing.{part_of_type, part_of_local, part_of, with_parts}
use Rattle.body_infer.specs.Walked.{SameUse, Agree}
use Rattle.body_infer.proofs.Alike.{same_use, part_alike, with_same, parts_alike}

use_then : (l k j : Option Local) → SameUse l k → SameUse k j → SameUse l j
use_then l k j s r = record { constant = s.constant ∙ r.constant; path = SameUse.path s ∙ SameUse.path r }

pub agree_same : (L : Scope) → Agree L L
agree_same L = record { local = λ x. same_use (L.local x) }

agree_then : (L M N : Scope) → Agree L M → Agree M N → Agree L N
agree_then L M N h g = record { local = λ x. use_then (L.local x) (M.local x) (N.local x) (h.local x) (g.local x) }

pub agree_regions : (L M : Scope) (rs : List ℕ) → Agree L M → Agree (with_regions rs L) M
agree_regions L M rs h = record { local = h.local }

pub agree_block : (L M : Scope) → Agree L M → Agree (in_atomic_block L) M
agree_block L M h = record { local = h.local }

alone_alike : (o : Option Local) → SameUse (option_map read_alone o) o
alone_alike None = record { constant = refl; path = refl }
alone_alike (Some (variable t)) = record { constant = refl; path = refl }
alone_alike (Some (frozen t)) = record { constant = refl; path = refl }
alone_alike (Some (constant t)) = record { constant = refl; path = refl }
alone_alike (Some (part t a)) = record { constant = refl; path = refl }
alone_alike (Some reserved) = record { constant = refl; path = refl }

pub agree_loop : (L M : Scope) → Agree L M → Agree (in_loop_branch L) M
agree_loop L M h = record { local = λ x. use_then (option_map read_alone (L.local x)) (L.local x) (M.local x) (alone_alike (L.local x)) (h.local x) }

-- what siblings assign are variables

among : (L : Scope) (x : ℕ) (ys : List ℕ) → All (IsVariable L) ys → list_any (λ y. x == y) ys ≡ true → IsVariable L x
among L x [] h e = absurd (false≢true e)
among L x (y ∷ ys) h e =
    ⊎_elim (λ t. subst (IsVariable L) (sym (eqb-true x y t)) (All-head (IsVariable L) y ys h))
    (λ f. among L x ys (All-tail (IsVariable L) y ys h) (sym (ap (λ b. b || list_any (λ y. x == y) ys) f) ∙ e)) (cases_Bool (x == y))

hidden_alike : (o : Option Local) (t : PlainType) → o ≡ Some (variable t) → SameUse (option_map (λ k. reserved) o) o
hidden_alike o t e = subst (λ l. SameUse (option_map (λ k. reserved) l) l) (sym e) (record { constant = refl; path = refl })

seen_alike : (b own : Bool) (o : Option Local) → (b ≡ true → (t : PlainType) × (o ≡ Some (variable t))) → SameUse (cond b (option_map (λ k. reserved) o) (cond own o (option_map read_alone o))) o
seen_alike true own o h = let v = h refl in hidden_alike o v.0 v.1
seen_alike false true o h = same_use o
seen_alike false false o h = alone_alike o

pub agree_branch : (L M : Scope) (own others : List ℕ) → All (IsVariable L) others → Agree L M → Agree (in_branch own others L) M
agree_branch L M own others v h = record {
  local = λ x. use_then (seen_in_branch own others x (L.local x)) (L.local x) (M.local x)
      (seen_alike (list_any (λ y. x == y) others) (list_any (λ y. x == y) own) (L.local x) (among L x others v)) (h.local x);
}

copies_variables : {P : PlainProgram} {L : Scope} {others : List ℕ} {bs : TypedBranches} {Es : List (List Own)} → BranchesPass P L others bs Es → All (IsVariable L) (all_copies bs)
copies_variables {L = L} no_branch = All-nil (IsVariable L)
copies_variables {L = L} (one_branch {copies = copies} {bs = bs} v apart p rest) = All-append (IsVariable L) copies (all_copies bs) v (copies_variables rest)

pub siblings_variables : {P : PlainProgram} {L : Scope} {after : List ℕ} {bs : TypedBranches} {Es : List (List Own)} (others : List ℕ) → All (IsVariable L) others → BranchesPass P L after bs Es →
    All (IsVariable L) (others ++ all_copies bs)
siblings_variables {L = L} {bs = bs} others v rest = All-append (IsVariable L) others (all_copies bs) v (copies_variables rest)

-- the slots beside that of a part hold nothing that effects depend on

other_slot : (x y : ℕ) → (x ≡ y → ⊥) → (x == y) ≡ false
other_slot x y n = false_from_ne_true (x == y) (λ t. n (eqb-true x y t))

still_free : (L : Scope) (x y : ℕ) (l : Local) → (x ≡ y → ⊥) → L.local x ≡ None → (with_local y l L).local x ≡ None
still_free L x y l n e = ap (λ b. cond b (Some l) (L.local x)) (other_slot x y n) ∙ e

no_use : SameUse (Some reserved) None
no_use = record { constant = refl; path = refl }

agree_reserved : (L M : Scope) (x : ℕ) → Agree L M → L.local x ≡ None → Agree (with_local x reserved L) M
agree_reserved L M x h e = record { local = λ y. by y (y == x) (λ t. eqb-true y x t) }
  where
    by : (y : ℕ) (b : Bool) → (b ≡ true → y ≡ x) → SameUse (cond b (Some reserved) (L.local y)) (M.local y)
    by y true is = use_then (Some reserved) (L.local y) (M.local y) (subst (λ o. SameUse (Some reserved) o) (sym (ap L.local (is refl) ∙ e)) no_use) (h.local y)
    by y false is = h.local y

agree_slots : (L M : Scope) (k : ℕ) (t : PlainType) (a : Rpl) → Agree L M → L.local (k + 1) ≡ None → L.local (k + 2) ≡ None → L.local (k + 3) ≡ None → Agree (with_part k t a L) (with_parts k (part t a) M)
agree_slots L M k t a h one two three =
    let L0 = with_local k (part t a) L in
    let L1 = with_local (k + 1) reserved L0 in
    let L2 = with_local (k + 2) reserved L1 in
    let M0 = with_local k (part t a) M in
    let first = agree_reserved L0 M0 (k + 1) (with_same L M k (part t a) h) (still_free L (k + 1) k (part t a) (λ e. omega arith) one) in
    let second = agree_reserved L1 M0 (k + 2) first
    (still_free L0 (k + 2) (k + 1) reserved (λ e. omega arith) (still_free L (k + 2) k (part t a) (λ e. omega arith) two)) in
    let third = agree_reserved L2 M0 (k + 3) second
    (still_free L1 (k + 3) (k + 2) reserved (λ e. omega arith) (still_free L0 (k + 3) (k + 1) reserved (λ e. omega arith) (still_free L (k + 3) k (part t a) (λ e. omega arith) three))) in
    with_same (with_local (k + 3) reserved L2) M0 (k + 4) (constant int) third

pub part_is : {P : PlainProgram} {L : Scope} {source : Source} {t : PlainType} {a : Rpl} {E : List Own} → Cuts P L source t a E → part_of L source ≡ part t a
part_is (cuts_array h ty full) = ap part_of_type ty
part_is (cuts_part e) = ap part_of_local e

free_inside : (L : Scope) (x : ℕ) → IsFree L x → (in_loop_branch L).local x ≡ None
free_inside L x free = ap (option_map read_alone) free.0

pub agree_parts : {P : PlainProgram} {source : Source} {E : List Own} (L M : Scope) (k : ℕ) (t : PlainType) (a : Rpl) → Cuts P L source t a E → All (λ i. IsFree L (k + i)) (0 ∷ 1 ∷ 2 ∷ 3 ∷ 4 ∷ []) →
    Agree L M → Agree (with_part k t a (in_loop_branch L)) (with_parts k (part_of M source) M)
agree_parts {source = source} L M k t a cuts free h =
    agree_then (with_part k t a (in_loop_branch L)) (with_parts k (part t a) M) (with_parts k (part_of M source) M)
    (agree_slots (in_loop_branch L) M k t a (agree_loop L M h) (free_inside L (k + 1) (free 1 0 (omega arith))) (free_inside L (k + 2) (free 2 0 (omega arith))) (free_inside L (k + 3) (free 3 0 (omega arith))))
    (parts_alike M M k (part t a) (part_of M source) (agree_same M) (subst (λ l. SameUse (Some l) (Some (part_of M source))) (part_is cuts) (part_alike L M h source)))
