-- The branches of a `cobegin`: what is said of each way through the code that checks one.
use Rattle.std.proofs.Common.{◌≡◌, ◌∙◌, ℕ, ◌+◌, ◌<◌, map, length, get_or, drop, append_assoc, append-nil, List, [], ◌∷◌, ◌++◌, Bool, refl, sym, ap, subst}
use Rattle.lang_base.specs.declared.effect.Effect.{Effect}
use Rattle.lang_base.specs.declared.refusal.Refusal.{Refusal}
use Rattle.body_locals.specs.declared.branch.Touched.{Touched}
use Rattle.syntax_tree.specs.declared.stmt.Stmt.{Stmt}
use Rattle.syntax_tree.specs.Plain.{PlainStmts, plain_stmt}
use Rattle.syntax_tree.specs.Plain.{StmtForm as form}
use Rattle.lang_typed.specs.declared.ids.Slot.{Slot}
use Rattle.lang_typed.specs.declared.stmt.Stmt.{Stmt as Made}
use Rattle.lang_typed.specs.Plain.{TypedStmt, TypedBranch, branches_of}
use Rattle.lang_typed.specs.Plain.{plain_stmt as typed_stmt}
use Rattle.lang_typed.specs.Plain as typed
use Rattle.body_exprs.specs.Env.{bare}
use Rattle.body_exprs.specs.declared.env.Env.{Env}
use Rattle.body_exprs.specs.declared.found.Found.{Found}
use Rattle.body_check.specs.Methods.{atomic_params}
use Rattle.body_check.specs.declared.leaving.Leaving.{Leaving}
use Rattle.body_check.specs.declared.leaving.Marks.{Marks}
use Rattle.body_check.specs.declared.node.Around.{Around}
use Rattle.body_check.specs.declared.node.Node.{Node}
use Rattle.body_check.specs.Checking.{check_branches, check_form, check_scope, forking_of, meeting, slots_of, branch_of, plain_branch, with_first, with_nd, Branches}
use Rattle.body_check.specs.Deciding.{interference, marks_after}
use Rattle.body_check.specs.Gathering.{taken_in, with_uses}
use Rattle.body_check.specs.Around.{inside}
use Rattle.body_check.specs.Leaving.{from_here}
use Rattle.body_check.specs.Meeting.{branches_interfere}
use Rattle.body_check.specs.Touching.{assigned, some_disturb}
use Rattle.body_check.specs.Walks.{Walk, Verdict, passes, refused, apart_from, walk_of, ◌>>=◌}
use Rattle.body_check.proofs.Homes.{branches_at_home}
use Rattle.body_check.proofs.Orders.{next_is, several}
use Rattle.body_check.proofs.Touched.{AllTouched, TouchedBy}

abbrev pub branches_with : List (List Effect) → List TypedBranch → Branches
branches_with effects made = record { effects = effects; typed = made }

-- what is found of the others, after the branches so far
abbrev pub after_branches : List (List Effect) → List TypedBranch → Verdict Branches → Verdict Branches
after_branches effects made (passes others w) = passes (branches_with (effects ++ others.effects) (made ++ others.typed)) w
after_branches effects made (refused q) = refused q

after_first : (set : List Effect) (branch : TypedBranch) (v : Verdict Branches) → (do
  (others, y) ← v
  passes (with_first set branch others) y) ≡ after_branches (set ∷ []) (branch ∷ []) v
after_first set branch (passes others w) = refl
after_first set branch (refused q) = refl

after_more : (effects : List (List Effect)) (made : List TypedBranch) (set : List Effect) (branch : TypedBranch) (v : Verdict Branches) →
    after_branches effects made (after_branches (set ∷ []) (branch ∷ []) v) ≡ after_branches (effects ++ set ∷ []) (made ++ branch ∷ []) v
after_more effects made set branch (passes others w) =
    ap (λ z. passes (branches_with z (made ++ branch ∷ others.typed)) w) (sym (append_assoc effects (set ∷ []) others.effects))
    ∙ ap (λ z. passes (branches_with ((effects ++ set ∷ []) ++ others.effects) z) w) (sym (append_assoc made (branch ∷ []) others.typed))
after_more effects made set branch (refused q) = refl

-- so many of the branches passed, and the others are looked at from there
abbrev pub ForkSoFar : List Bool → Around → Bool → List Stmt → Walk → ℕ → List (List Effect) → List TypedBranch → Walk → Type 0
ForkSoFar params around nd all w i effects made u =
    check_branches params around nd (several all) w ≡ after_branches effects made (check_branches params around nd (several (drop i all)) u)

-- these are touched so far
abbrev pub TouchedSoFar : List Stmt → ℕ → List Touched → Type 0
TouchedSoFar all i locals = (more : List Touched) → AllTouched (several (drop i all)) more → AllTouched (several all) (locals ++ more)

pub touched_more : (all : List Stmt) (i : ℕ) (branch : Stmt) (locals pushed : List Touched) (t : Touched) → i < length all → branch ≡ get_or all i branch →
    TouchedBy (plain_stmt branch) t → pushed ≡ locals ++ t ∷ [] → TouchedSoFar all i locals → TouchedSoFar all (i + 1) pushed
touched_more all i branch locals pushed t below is touched more_is before more rest =
    let here : AllTouched (several (branch ∷ drop (i + 1) all)) (t ∷ more) = (touched, rest) in
    subst (λ (z : List Touched). AllTouched (several all) z) (sym (append_assoc locals (t ∷ []) more) ∙ ap (λ (z : List Touched). z ++ more) (sym more_is))
    (before (t ∷ more) (subst (λ (z : List Stmt). AllTouched (several z) (t ∷ more)) (sym (next_is all i branch below is)) here))

pub touched_all : (all : List Stmt) (i : ℕ) (locals : List Touched) → drop i all ≡ [] → TouchedSoFar all i locals → AllTouched (several all) locals
touched_all all i locals none before =
    subst (λ (z : List Touched). AllTouched (several all) z) (append-nil locals)
    (before [] (subst (λ (z : List Stmt). AllTouched (several z) []) (sym none) tt))

from_next : (params : List Bool) (around : Around) (nd : Bool) (all : List Stmt) (i : ℕ) (branch : Stmt) (u : Walk) → i < length all →
    branch ≡ get_or all i branch →
    check_branches params around nd (several (drop i all)) u ≡ check_branches params around nd (several (branch ∷ drop (i + 1) all)) u
from_next params around nd all i branch u below is = ap (λ bs. check_branches params around nd (several bs) u) (next_is all i branch below is)

pub fork_refused : (params : List Bool) (around : Around) (node : Node) (nd : Bool) (all : List Stmt) (w : Walk) (i : ℕ) (effects : List (List Effect))
    (made : List TypedBranch) (u : Walk) (branch : Stmt) (q : Refusal) → ForkSoFar params (inside around) nd all w i effects made u →
    i < length all → branch ≡ get_or all i branch → check_scope params (inside around) (plain_stmt branch) (apart_from u) ≡ refused q →
    check_form params around node (form.cobegin nd (several all)) w ≡ refused q
fork_refused params around node nd all w i effects made u branch q before below is d =
    let step : check_branches params (inside around) nd (several (branch ∷ drop (i + 1) all)) u ≡ refused q = rw d in
    let whole : check_branches params (inside around) nd (several all) w ≡ refused q =
    before ∙ ap (after_branches effects made) (from_next params (inside around) nd all i branch u below is ∙ step) in
    rw whole

-- a branch that passed, as it was found
pub record Branch (params : List Bool) (around : Around) (nd : Bool) (b s : Env) (out inner out3 : Found) (branch : Stmt) (set : List Effect)
    (one : TypedBranch) (part : TypedStmt) : Type 0 where
  pub in_scope : check_scope params around (plain_stmt branch) (apart_from (walk_of b out)) ≡ passes part (walk_of s inner)
  pub set_is : set ≡ with_uses inner.effects inner.uses
  pub one_is : one ≡ branch_of b (plain_stmt branch) part
  pub out_is : out3 ≡ taken_in (from_here b (marks_after nd)) out inner

pub taken_so : (env : Env) (nd : Bool) (marking : Marks) (leaving : Leaving) (out inner out3 : Found) → marking ≡ marks_after nd →
    leaving ≡ from_here env marking → out3 ≡ taken_in leaving out inner → out3 ≡ taken_in (from_here env (marks_after nd)) out inner
taken_so env nd marking leaving out inner out3 kept_is leaving_is is =
    is ∙ ap (λ (z : Leaving). taken_in z out inner) (leaving_is ∙ ap (from_here env) kept_is)

abbrev branch_with : List ℕ → TypedStmt → TypedBranch
branch_with copies s = record { copies = copies; body = s }

pub branch_made : (env : Env) (branch : Stmt) (writes : List ℕ) (copies : List Slot) (s : Made) → writes ≡ assigned (plain_stmt branch) →
    map (λ slot. slot.number) copies ≡ slots_of env writes →
    plain_branch (record { copies = copies; body = s }) ≡ branch_of env (plain_stmt branch) (typed_stmt s)
branch_made env branch writes copies s same is = ap (λ (z : List ℕ). branch_with z (typed_stmt s)) (is ∙ ap (slots_of env) same)

pub fork_more : (params : List Bool) (around : Around) (nd : Bool) (all : List Stmt) (w : Walk) (i : ℕ) (effects effects2 : List (List Effect))
    (made made2 : List TypedBranch) (b s : Env) (out inner out3 : Found) (branch : Stmt) (set : List Effect) (one : TypedBranch) (part : TypedStmt) →
    ForkSoFar params around nd all w i effects made (walk_of b out) → i < length all → branch ≡ get_or all i branch →
    Branch params around nd b s out inner out3 branch set one part → effects2 ≡ effects ++ set ∷ [] → made2 ≡ made ++ one ∷ [] →
    ForkSoFar params around nd all w (i + 1) effects2 made2 (walk_of s out3)
fork_more params around nd all w i effects effects2 made made2 b s out inner out3 branch set one part before below is k effects_are made_are =
    let rest : Found → Verdict Branches = λ found. check_branches params around nd (several (drop (i + 1) all)) (walk_of s found) in
    let after : Found = taken_in (from_here b (marks_after nd)) out inner in
    let step : check_branches params around nd (several (branch ∷ drop (i + 1) all)) (walk_of b out)
    ≡ after_branches (with_uses inner.effects inner.uses ∷ []) (branch_of b (plain_stmt branch) part ∷ []) (rest after) =
    rw k.in_scope (after_first (with_uses inner.effects inner.uses) (branch_of b (plain_stmt branch) part) (rest after)) in
    before
    ∙ ap (after_branches effects made)
    (from_next params around nd all i branch (walk_of b out) below is ∙ step
    ∙ ap (λ (z : List Effect). after_branches (z ∷ []) (branch_of b (plain_stmt branch) part ∷ []) (rest after)) (sym k.set_is)
    ∙ ap (λ (z : TypedBranch). after_branches (set ∷ []) (z ∷ []) (rest after)) (sym k.one_is)
    ∙ ap (λ (z : Found). after_branches (set ∷ []) (one ∷ []) (rest z)) (sym k.out_is))
    ∙ after_more effects made set one (rest out3)
    ∙ ap (λ (z : List (List Effect)). after_branches z (made ++ one ∷ []) (rest out3)) (sym effects_are)
    ∙ ap (λ (z : List TypedBranch). after_branches effects2 z (rest out3)) (sym made_are)

pub fork_all : (params : List Bool) (around : Around) (nd : Bool) (all : List Stmt) (w : Walk) (i : ℕ) (effects : List (List Effect))
    (made : List TypedBranch) (u : Walk) → ForkSoFar params around nd all w i effects made u → drop i all ≡ [] →
    check_branches params around nd (several all) w ≡ passes (branches_with effects made) u
fork_all params around nd all w i effects made u before none =
    before ∙ ap (λ bs. after_branches effects made (check_branches params around nd (several bs) u)) none
    ∙ ap (λ (z : List (List Effect)). passes (branches_with z (made ++ [])) u) (append-nil effects)
    ∙ ap (λ (z : List TypedBranch). passes (branches_with effects z) u) (append-nil made)

-- what becomes of the construct, by whether its branches interfere
abbrev pub branches_met : List Bool → Env → Node → Bool → Bool → List (List Effect) → TypedStmt → Walk → Verdict TypedStmt
branches_met params env node nd clash effects made w = meeting node clash (interference nd) (branches_interfere params nd env effects) made w

abbrev pub branches_made : Node → Bool → List TypedBranch → TypedStmt
branches_made node nd made = typed.statement node.place (typed.cobegin (forking_of nd) (branches_of made))

pub forks_are : (b o : Env) (around : Around) (node : Node) (nd clash : Bool) (branches : PlainStmts) (effects read : List (List Effect))
    (made : List TypedBranch) (f out : Found) (v : Verdict TypedStmt) →
    check_branches (atomic_params b) (inside around) nd branches (walk_of b f) ≡ passes (branches_with effects made) (walk_of o out) →
    clash ≡ some_disturb branches → bare o ≡ bare b → read ≡ effects →
    branches_met (atomic_params o) o node nd clash read (branches_made node nd made) (walk_of o (with_nd nd out)) ≡ v →
    check_form (atomic_params b) around node (form.cobegin nd branches) (walk_of b f) ≡ v
forks_are b o around node nd clash branches effects read made f out v all clash_is home read_is d =
    let forked : check_form (atomic_params b) around node (form.cobegin nd branches) (walk_of b f)
    ≡ branches_met (atomic_params b) b node nd clash effects (branches_made node nd made) (walk_of o (with_nd nd out)) = rw (all, ← clash_is) in
    forked
    ∙ ap (λ (z : Bool). meeting node clash (interference nd) z (branches_made node nd made) (walk_of o (with_nd nd out)))
    (sym (ap (λ (z : List (List Effect)). branches_interfere (atomic_params o) nd o z) read_is ∙ branches_at_home b o nd effects home))
    ∙ d
