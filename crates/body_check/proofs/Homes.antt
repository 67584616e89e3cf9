-- What a walk leaves as it was: the constraints in force, and what is declared atomic.
use Rattle.std.proofs.Common.{◌≡◌, ◌∙◌, ℕ, Bool, true, false, not, ◌||◌, nat_lt, List, length, Option, Some, refl, ap, subst}
use Rattle.lang_base.specs.declared.effect.Effect.{Effect}
use Rattle.lang_base.specs.declared.effect.Constraint.{Constraint}
use Rattle.lang_base.specs.declared.array_part.PartUse.{PartUse}
use Rattle.lang_base.specs.Branches.{Atomic, iterations_clash}
use Rattle.decl_headers.specs.Headers.{atomic_regions}
use Rattle.decl_table.specs.Table.{headers_of}
use Rattle.region_interfere.specs.Uses.{parts_interfere}
use Rattle.syntax_tree.specs.Plain.{PlainStmt}
use Rattle.lang_typed.specs.Plain.{TypedStmt}
use Rattle.body_exprs.specs.declared.env.Env.{Env}
use Rattle.body_exprs.specs.declared.found.Found.{Found}
use Rattle.body_exprs.specs.Env.{bare, given_in, table_of}
use Rattle.body_check.specs.declared.node.Around.{Around}
use Rattle.body_check.specs.Checking.{check_scope}
use Rattle.body_check.specs.Around.{inside}
use Rattle.body_check.specs.Meeting.{declared_atomic, some_interfere, branches_interfere}
use Rattle.body_check.specs.Methods.{atomic_params}
use Rattle.body_check.specs.Walks.{Verdict, nothing_found, walk_of}
use Rattle.body_check.proofs.Passing.{walk_from}

-- what a walk leaves as it was says which region parameters are declared atomic
pub home_params : (b s : Env) → bare s ≡ bare b → atomic_params s ≡ atomic_params b
home_params b s home = ap atomic_params home

-- a piece of which what is found is gathered by itself, as it was called
pub piece_in : (params : List Bool) (o env : Env) (around within : Around) (body : PlainStmt) (begun : Found) (v : Verdict TypedStmt) →
    atomic_params o ≡ params → o ≡ env → within ≡ inside around → begun ≡ nothing_found → check_scope (atomic_params o) within body (walk_of o begun) ≡ v →
    check_scope params (inside around) body (walk_from env nothing_found) ≡ v
piece_in params o env around within body begun v same env_is within_is none d =
    subst (λ (z : Env). check_scope params (inside around) body (walk_from z nothing_found) ≡ v) env_is
    (subst (λ (z : Found). check_scope params (inside around) body (walk_of o z) ≡ v) none
    (subst (λ (z : Around). check_scope params z body (walk_of o begun) ≡ v) within_is
    (subst (λ (z : List Bool). check_scope z within body (walk_of o begun) ≡ v) same d)))

given_home : (b s : Env) → bare s ≡ bare b → given_in s ≡ given_in b
given_home b s home = ap given_in home

atomic_home : (b s : Env) (nd : Bool) → bare s ≡ bare b → declared_atomic (atomic_params s) nd s ≡ declared_atomic (atomic_params b) nd b
atomic_home b s false home = refl
atomic_home b s true home = ap (λ (z : Env). Some (record { names = atomic_regions (headers_of (table_of z)); params = atomic_params z })) home

pub branches_at_home : (b s : Env) (nd : Bool) (effects : List (List Effect)) → bare s ≡ bare b →
    branches_interfere (atomic_params s) nd s effects ≡ branches_interfere (atomic_params b) nd b effects
branches_at_home b s nd effects home =
    let counted : Bool = not (nat_lt (length effects) 4294967296) in
    ap (λ (z : List Constraint). counted || some_interfere z (declared_atomic (atomic_params s) nd s) effects) (given_home b s home)
    ∙ ap (λ (z : Option Atomic). counted || some_interfere (given_in b) z effects) (atomic_home b s nd home)

pub iterations_at_home : (b s : Env) (nd : Bool) (slot : ℕ) (effects : List Effect) → bare s ≡ bare b →
    iterations_clash (given_in s) (declared_atomic (atomic_params s) nd s) slot effects
    ≡ iterations_clash (given_in b) (declared_atomic (atomic_params b) nd b) slot effects
iterations_at_home b s nd slot effects home =
    ap (λ (z : List Constraint). iterations_clash z (declared_atomic (atomic_params s) nd s) slot effects) (given_home b s home)
    ∙ ap (λ (z : Option Atomic). iterations_clash (given_in b) z slot effects) (atomic_home b s nd home)

pub parts_at_home : (b s : Env) (part variable : ℕ) (effects : List Effect) (uses : List PartUse) → bare s ≡ bare b →
    parts_interfere (given_in s) part variable effects uses ≡ parts_interfere (given_in b) part variable effects uses
parts_at_home b s part variable effects uses home =
    ap (λ (z : List Constraint). parts_interfere z part variable effects uses) (given_home b s home)
