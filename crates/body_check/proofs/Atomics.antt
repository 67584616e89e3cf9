-- Atomic blocks: what is said of each way through the code that checks one.
use Rattle.std.proofs.Common.{◌≡◌, Bool, List, Option, map, subst}
use Rattle.lang_base.specs.declared.effect.Effect.{Effect}
use Rattle.lang_base.specs.declared.place.Place.{Place}
use Rattle.lang_base.specs.declared.refusal.Refusal.{Refusal}
use Rattle.lang_base.specs.declared.refusal.Kind.TheVariants as kind
use Rattle.syntax_tree.specs.Plain.{PlainStmts}
use Rattle.syntax_tree.specs.Plain.{StmtForm as form}
use Rattle.lang_typed.specs.declared.stmt.Stmt.{Stmt}
use Rattle.lang_typed.specs.declared.stmt.StmtForm.TheVariants as kinds
use Rattle.lang_typed.specs.Plain.{TypedStmt, stmts_of}
use Rattle.lang_typed.specs.Plain.{plain_stmt as typed_stmt}
use Rattle.lang_typed.specs.Plain as typed
use Rattle.body_exprs.specs.declared.env.Env.{Env}
use Rattle.body_exprs.specs.declared.found.Found.{Found}
use Rattle.body_check.specs.declared.leaving.Leaving.{Leaving}
use Rattle.body_check.specs.declared.leaving.Marks.TheVariants as marks
use Rattle.body_check.specs.declared.node.Around.{Around}
use Rattle.body_check.specs.declared.node.Node.{Node}
use Rattle.body_check.specs.Checking.{check_form, check_block}
use Rattle.body_check.specs.Gathering.{entered, taken_in}
use Rattle.body_check.specs.Around.{inside}
use Rattle.body_check.specs.Leaving.{from_here}
use Rattle.body_check.specs.Noting.{fault_of, with_fault_if}
use Rattle.body_check.specs.Walks.{Verdict, passes, judged, apart_from, nothing_found, walk_of}
use Rattle.body_check.proofs.Making.{made, made_Atomic}

-- the block, as it was called
pub block_in : (params : List Bool) (b : Env) (around within : Around) (all : PlainStmts) (out begun : Found) (v : Verdict (List TypedStmt)) →
    within ≡ inside around → begun ≡ nothing_found → check_block params within all (walk_of b begun) ≡ v →
    check_block params (inside around) all (apart_from (walk_of b out)) ≡ v
block_in params b around within all out begun v is none d =
    subst (λ (z : Found). check_block params (inside around) all (walk_of b z) ≡ v) none
    (subst (λ (z : Around). check_block params z all (walk_of b begun) ≡ v) is d)

-- where the block passes
pub atomic_is : (params : List Bool) (b c : Env) (around : Around) (node noted : Node) (all : PlainStmts) (out inner : Found) (ss : List TypedStmt) →
    check_block params (inside around) all (apart_from (walk_of b out)) ≡ passes ss (walk_of c inner) → noted ≡ with_fault_if node kind.AtomicBody inner.reaches_nd →
    check_form params around node (form.atomic all) (walk_of b out)
    ≡ judged (fault_of noted) (typed.statement node.place (typed.atomic (entered inner) (stmts_of ss))) (walk_of c (taken_in (from_here b marks.Set) out inner))
atomic_is params b c around node noted all out inner ss d noted_is = rw (d, ← noted_is)

-- the block as the code made it, and what is found after it
pub atomic_made : (c : Env) (place : Place) (reported : Option Refusal) (env : Env) (leaving : Leaving) (out inner after : Found) (effects : List Effect)
    (all : List Stmt) → effects ≡ entered inner → leaving ≡ from_here env marks.Set → after ≡ taken_in leaving out inner →
    judged reported (typed.statement place (typed.atomic (entered inner) (stmts_of (map typed_stmt all)))) (walk_of c (taken_in (from_here env marks.Set) out inner))
    ≡ judged reported (typed_stmt (made place (kinds.Atomic effects all))) (walk_of c after)
atomic_made c place reported env leaving out inner after effects all effects_are leaving_is after_is =
    rw (made_Atomic place effects all, effects_are, after_is, leaving_is)
