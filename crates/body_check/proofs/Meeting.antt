-- Two branches interfere exactly where a first pair that meets is found.
use Rattle.std.proofs.Common.{◌≡◌, ◌∙◌, ◌<◌, IsTrue, arith, ℕ, Bool, true, false, not, ◌||◌, nat_lt, List, [], ◌∷◌, length, Option, Some, None, is_some, Result, Ok, Err, IfOk, refl, sym, ap}
use Rattle.std.proofs.lemmas.Bool.{false≢true}
use Rattle.std.proofs.lemmas.Bool.Decides.{nat_tests}
use Rattle.lang_base.specs.declared.effect.Effect.{Effect}
use Rattle.lang_base.specs.declared.effect.Constraint.{Constraint}
use Rattle.lang_base.specs.Branches.{Atomic, lists_clash}
use Rattle.lang_base.specs.Pairs.{NoPair, FirstPair}
use Rattle.body_exprs.specs.declared.env.Env.{Env}
use Rattle.body_exprs.specs.Env.{given_in}
use Rattle.body_check.specs.Meeting.{declared_atomic, interferes_with_some, some_interfere, branches_interfere}
use Rattle.body_check.proofs.Pairs.{some_pair, met_is}

found_none : {X : Type 0} (R : X → X → Type 0) (xs : List X) (pair : Option (ℕ × ℕ)) (none : Bool) → FirstPair R xs pair → is_some pair ≡ not none →
    not none ≡ false → NoPair R xs
found_none R xs None none h e t = h
found_none R xs (Some p) none h e t = absurd (false≢true (sym t ∙ sym e))

found_some : {X : Type 0} (R : X → X → Type 0) (xs : List X) (d : X) (pair : Option (ℕ × ℕ)) (none : Bool) → FirstPair R xs pair → is_some pair ≡ not none →
    not none ≡ true → ¬ NoPair R xs
found_some R xs d None none h e t = absurd (false≢true (e ∙ t))
found_some R xs d (Some p) none h e t = λ apart. apart p.0 p.1 d h.following.in_order h.following.within (h.following.holds d)

-- the test of each pair, as the rules have it
as_pairs : (given : List Constraint) (nd : Option Atomic) (branches : List (List Effect)) → some_pair (lists_clash given nd) branches ≡ some_interfere given nd branches
as_pairs given nd [] = refl
as_pairs given nd (es ∷ branches) = ap (λ z. interferes_with_some given nd es branches || z) (as_pairs given nd branches)

twice : (b c : Bool) → not b ≡ c → b ≡ not c
twice true c e = ap not e
twice false c e = ap not e

pub interfere_where_some : (given : List Constraint) (nd : Option Atomic) (branches : List (List Effect)) (pair : Option (ℕ × ℕ)) (none : Bool) →
    FirstPair (λ es fs. IsTrue (lists_clash given nd es fs)) branches pair → is_some pair ≡ not none → none ≡ not (some_interfere given nd branches)
interfere_where_some given nd branches pair none h e =
    twice none _
    (met_is (λ es fs. IsTrue (lists_clash given nd es fs)) (lists_clash given nd) branches (not none) (λ es fs. (λ t. t, λ t. t))
    (found_none (λ es fs. IsTrue (lists_clash given nd es fs)) branches pair none h e)
    (found_some (λ es fs. IsTrue (lists_clash given nd es fs)) branches [] pair none h e)
    ∙ as_pairs given nd branches)

-- no more branches than numbers count
few : (n : ℕ) → n < 4294967296 → nat_lt n 4294967296 ≡ true
few n lt = grind (arith, nat_tests)

pub pass_where_counted : (params : List Bool) (nd : Bool) (env : Env) (given : List Constraint) (atomic : Option Atomic) (branches : List (List Effect))
    {E : Type 0} (r : Result Bool E) → length branches < 4294967296 → given ≡ given_in env → atomic ≡ declared_atomic params nd env →
    IfOk r (λ passed. passed ≡ not (some_interfere given atomic branches)) → IfOk r (λ passed. passed ≡ not (branches_interfere params nd env branches))
pass_where_counted params nd env given atomic branches (Ok passed) below given_is atomic_is h =
    h ∙ ap (λ z. not (some_interfere z atomic branches)) given_is ∙ ap (λ z. not (some_interfere (given_in env) z branches)) atomic_is
    ∙ ap (λ (z : Bool). not (not z || some_interfere (given_in env) (declared_atomic params nd env) branches)) (sym (few (length branches) below))
pass_where_counted params nd env given atomic branches (Err e) below given_is atomic_is h = tt
