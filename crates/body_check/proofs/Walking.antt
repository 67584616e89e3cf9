-- The walk over statements: what is said of each way through the code, of what was said of its parts.
use Rattle.std.proofs.Common.{◌≡◌, ◌∙◌, ◌||◌, Bool, true, false, not, List, option_map, Option, Some, None, refl, sym, ap, subst}
use Rattle.lang_base.specs.declared.refusal.Kind.TheVariants as kind
use Rattle.lang_base.specs.declared.refusal.Refusal.{Refusal}
use Rattle.syntax_tree.specs.declared.stmt.Stmt.{Stmt}
use Rattle.syntax_tree.specs.Plain.{PlainExpr, PlainStmt, PlainStmts, choice_form, plain_stmt}
use Rattle.lang_typed.specs.Plain.{TypedExpr, TypedStmt}
use Rattle.lang_typed.specs.Plain as typed
use Rattle.body_exprs.specs.declared.env.Env.{Env}
use Rattle.body_exprs.specs.declared.env.Mark.{Mark}
use Rattle.body_exprs.specs.declared.found.Found.{Found}
use Rattle.body_exprs.specs.Answer.{gives}
use Rattle.body_exprs.specs.Answer.{Answer as answer}
use Rattle.body_exprs.specs.Env.{bare, left_to, mark_of}
use Rattle.body_exprs.specs.Typed.{may_be, is_boolean, type_in}
use Rattle.body_exprs.specs.Typing.{Typing}
use Rattle.body_check.specs.Methods.{atomic_params}
use Rattle.body_check.specs.declared.leaving.Leaving.{Leaving}
use Rattle.body_check.specs.declared.leaving.Marks.TheVariants as marks
use Rattle.body_check.specs.declared.node.Around.{Around}
use Rattle.body_check.specs.declared.node.Node.{Node}
use Rattle.body_check.specs.Checking.{check_form, check_stmt, check_scope, check_block, check_all}
use Rattle.body_check.specs.Completes.{completes, form_completes}
use Rattle.body_check.specs.Gathering.{taken_in}
use Rattle.body_check.specs.Leaving.{from_here}
use Rattle.body_check.specs.Noting.{fault_of, with_fault_if}
use Rattle.body_check.specs.Simple.{node_of}
use Rattle.body_check.specs.Walks.{Walk, Verdict, passes, refused, judged, found_so, nothing_found, walk_of, ◌>>=◌}
use Rattle.body_check.proofs.Homes.{home_params}
use Rattle.body_check.proofs.Passing.{walk_from, closed_is}

-- the statements of a block are gathered by themselves
begun_so : (params : List Bool) (around : Around) (all : PlainStmts) (b : Env) (inner : Found) (v : Verdict (List TypedStmt)) → inner ≡ nothing_found →
    check_all params around true all (walk_of b inner) ≡ v → check_all params around true all (walk_of b nothing_found) ≡ v
begun_so params around all b inner v none d = subst (λ (z : Found). check_all params around true all (walk_of b z) ≡ v) none d

pub block_stops : (params : List Bool) (around : Around) (all : PlainStmts) (b : Env) (f inner : Found) (q : Refusal) → inner ≡ nothing_found →
    check_all params around true all (walk_of b inner) ≡ refused q → check_block params around all (walk_of b f) ≡ refused q
block_stops params around all b f inner q none d = rw (begun_so params around all b inner (refused q) none d)

pub block_closes : (params : List Bool) (around : Around) (all : PlainStmts) (b c : Env) (f inner g out : Found) (env : Env) (scope : Mark)
    (leaving : Leaving) (ss : List TypedStmt) → inner ≡ nothing_found → check_all params around true all (walk_of b inner) ≡ passes ss (walk_of c g) →
    scope ≡ mark_of b → env ≡ left_to c scope → leaving ≡ from_here b marks.Kept → out ≡ taken_in leaving f g →
    check_block params around all (walk_of b f) ≡ passes ss (walk_from env out)
block_closes params around all b c f inner g out env scope leaving ss none d scope_is env_is leaving_is out_is =
    rw (begun_so params around all b inner (passes ss (walk_of c g)) none d)
    (ap (passes ss) (closed_is b c env scope leaving marks.Kept marks.Kept f f g g g out scope_is env_is leaving_is refl refl out_is))

-- a piece that has a scope of its own
pub scope_passes : (params : List Bool) (around : Around) (s : PlainStmt) (b c : Env) (f g : Found) (env : Env) (scope : Mark) (made : TypedStmt) →
    check_stmt params around false s (walk_of b f) ≡ passes made (walk_of c g) → scope ≡ mark_of b → env ≡ left_to c scope →
    check_scope params around s (walk_of b f) ≡ passes made (walk_from env g)
scope_passes params around s b c f g env scope made d scope_is env_is =
    rw d (ap (λ (m : Mark). passes made (walk_from (left_to c m) g)) (sym scope_is) ∙ ap (λ (e : Env). passes made (walk_from e g)) (sym env_is))

-- an `if` whose condition is refused, and one whose first part is
pub test_refused : (params : List Bool) (around : Around) (node : Node) (test : PlainExpr) (part : PlainStmt) (other : Option PlainStmt) (w : Walk)
    (q : Refusal) → Typing w.env test w.found (answer.refused q) → check_form params around node (choice_form test part other) w ≡ refused q
test_refused params around node test part None w q d = rw d
test_refused params around node test part (Some other) w q d = rw d

pub first_refused : (params : List Bool) (around : Around) (node : Node) (test : PlainExpr) (part : PlainStmt) (other : Option PlainStmt) (w : Walk)
    (g : Found) (t : Option TypedExpr) (q : Refusal) → Typing w.env test w.found (gives t g) → check_scope params around part (found_so w g) ≡ refused q →
    check_form params around node (choice_form test part other) w ≡ refused q
first_refused params around node test part None w g t q d e = rw (d, e)
first_refused params around node test part (Some other) w g t q d e = rw (d, e)

-- its condition is typed, and its first part passes
pub record FirstMet (b d : Env) (around : Around) (node noted : Node) (test : PlainExpr) (part : PlainStmt) (f g h : Found) (t : Option TypedExpr)
    (first : TypedStmt) : Type 0 where
  pub typing : Typing b test f (gives t g)
  pub noted_is : noted ≡ with_fault_if node kind.Type (not (may_be is_boolean (type_in t)))
  pub in_scope : check_scope (atomic_params b) around part (walk_of b g) ≡ passes first (walk_of d h)
  pub home : bare d ≡ bare b

-- an `if` with an `else` whose first part passes, and one without it
abbrev with_second : Node → Node → PlainExpr → Option TypedExpr → TypedStmt → Verdict TypedStmt → Verdict TypedStmt
with_second node noted test t first u = do
  (s, z) ← u
  judged (fault_of noted) (typed.statement node.place (typed.choice_form (node_of test t) first (Some s))) z

pub either_so : {b d : Env} {around : Around} {node noted : Node} {test : PlainExpr} {part : PlainStmt} (other : Option Stmt) (second shown : Stmt)
    {f g h : Found} {t : Option TypedExpr} {first : TypedStmt} (u : Verdict TypedStmt) → other ≡ Some second →
    FirstMet b d around node noted test part f g h t first → shown ≡ second → check_scope (atomic_params d) around (plain_stmt shown) (walk_of d h) ≡ u →
    check_form (atomic_params b) around node (choice_form test part (option_map plain_stmt other)) (walk_of b f) ≡ with_second node noted test t first u
either_so {b} {d} {around} {node} {noted} {test} {part} other second shown {f} {h = h} {t} {first} u is k shows within =
    let here : check_scope (atomic_params b) around (plain_stmt second) (walk_of d h) ≡ u =
    subst (λ (z : List Bool). check_scope z around (plain_stmt second) (walk_of d h) ≡ u) (home_params b d k.home)
    (subst (λ (z : Stmt). check_scope (atomic_params d) around (plain_stmt z) (walk_of d h) ≡ u) shows within) in
    let with_it : check_form (atomic_params b) around node (choice_form test part (Some (plain_stmt second))) (walk_of b f) ≡ with_second node noted test t first u =
    rw (k.typing, k.in_scope, here, k.noted_is) in
    subst (λ (z : Option Stmt). check_form (atomic_params b) around node (choice_form test part (option_map plain_stmt z)) (walk_of b f)
    ≡ with_second node noted test t first u) (sym is) with_it

pub neither_so : {b d : Env} {around : Around} {node noted : Node} {test : PlainExpr} {part : PlainStmt} (other : Option Stmt) {f g h : Found}
    {t : Option TypedExpr} {first : TypedStmt} → other ≡ None → FirstMet b d around node noted test part f g h t first →
    check_form (atomic_params b) around node (choice_form test part (option_map plain_stmt other)) (walk_of b f)
    ≡ judged (fault_of noted) (typed.statement node.place (typed.choice_form (node_of test t) first None)) (walk_of d h)
neither_so {b} {d} {around} {node} {noted} {test} {part} other {f} {h = h} {t} {first} is k =
    let without_it : check_form (atomic_params b) around node (choice_form test part None) (walk_of b f)
    ≡ judged (fault_of noted) (typed.statement node.place (typed.choice_form (node_of test t) first None)) (walk_of d h) =
    rw (k.typing, k.in_scope, k.noted_is) in
    subst (λ (z : Option Stmt). check_form (atomic_params b) around node (choice_form test part (option_map plain_stmt z)) (walk_of b f)
    ≡ judged (fault_of noted) (typed.statement node.place (typed.choice_form (node_of test t) first None)) (walk_of d h)) (sym is) without_it

-- whether it completes, and what it keeps to
pub either_completes : (done first next : Bool) (test : PlainExpr) (part : PlainStmt) (other : Option Stmt) (second shown : Stmt) → other ≡ Some second →
    shown ≡ second → done ≡ (first || next) → first ≡ completes part → next ≡ completes (plain_stmt shown) →
    done ≡ form_completes (choice_form test part (option_map plain_stmt other))
either_completes done first next test part other second shown is shows done_is first_is next_is =
    subst (λ (z : Option Stmt). done ≡ form_completes (choice_form test part (option_map plain_stmt z))) (sym is)
    (done_is ∙ ap (λ (z : Bool). z || next) first_is ∙ ap (λ (z : Bool). completes part || z) (next_is ∙ ap (λ (z : Stmt). completes (plain_stmt z)) shows))

or_true : (b : Bool) → (b || true) ≡ true
or_true true = refl
or_true false = refl

pub neither_completes : (done first : Bool) (test : PlainExpr) (part : PlainStmt) (other : Option Stmt) → other ≡ None → done ≡ (first || true) →
    done ≡ form_completes (choice_form test part (option_map plain_stmt other))
neither_completes done first test part other is done_is =
    subst (λ (z : Option Stmt). done ≡ form_completes (choice_form test part (option_map plain_stmt z))) (sym is) (done_is ∙ or_true first)
