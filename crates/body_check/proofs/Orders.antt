-- Statements one after the other: what is said of each step of the loop over them.
use Rattle.std.proofs.Common.{◌≡◌, ◌∙◌, ℕ, suc, ◌+◌, ◌<◌, ◌&&◌, Bool, true, false, not, List, [], ◌∷◌, ◌++◌, map, length, append_assoc, append-nil, get_or, drop, drop-cons, add-one, refl, sym, ap, subst}
use Rattle.lang_base.specs.declared.refusal.Refusal.{Refusal}
use Rattle.syntax_tree.specs.declared.stmt.Stmt.{Stmt}
use Rattle.syntax_tree.specs.Plain.{PlainStmts, plain_stmt, plain_stmts}
use Rattle.lang_typed.specs.Plain.{TypedStmt}
use Rattle.body_check.specs.declared.node.Around.{Around}
use Rattle.body_check.specs.Checking.{check_all, check_stmt}
use Rattle.body_check.specs.Completes.{completes, all_complete}
use Rattle.body_check.specs.Walks.{Walk, Verdict, passes, refused, ◌>>=◌}

-- the next statement stands first in what is left
pub next_is : (all : List Stmt) (i : ℕ) (s : Stmt) → i < length all → s ≡ get_or all i s → drop i all ≡ s ∷ drop (i + 1) all
next_is all i s below is = drop-cons all i s below ∙ ap (λ x. x ∷ drop (suc i) all) (sym is) ∙ ap (λ k. s ∷ drop k all) (sym (add-one i))

-- one more of what is made
map_more : {X Y : Type 0} (f : X → Y) (xs : List X) (x : X) → map f (xs ++ x ∷ []) ≡ map f xs ++ f x ∷ []
map_more f [] x = refl
map_more f (y ∷ ys) x = ap (λ zs. f y ∷ zs) (map_more f ys x)

pub map_pushed : {X Y : Type 0} (f : X → Y) (xs pushed : List X) (x : X) → pushed ≡ xs ++ x ∷ [] → map f pushed ≡ map f xs ++ f x ∷ []
map_pushed f xs pushed x is = ap (map f) is ∙ map_more f xs x

-- the statements of the tree
abbrev pub several : List Stmt → PlainStmts
several all = plain_stmts (map plain_stmt all)

-- what is made of the others, after the statements so far
abbrev pub after_stmts : List TypedStmt → Verdict (List TypedStmt) → Verdict (List TypedStmt)
after_stmts made (passes others w) = passes (made ++ others) w
after_stmts made (refused q) = refused q

after_one : (one : TypedStmt) (v : Verdict (List TypedStmt)) → (do
  (others, y) ← v
  passes (one ∷ others) y) ≡ after_stmts (one ∷ []) v
after_one one (passes others w) = refl
after_one one (refused q) = refl

after_more : (made : List TypedStmt) (one : TypedStmt) (v : Verdict (List TypedStmt)) → after_stmts made (after_stmts (one ∷ []) v) ≡ after_stmts (made ++ one ∷ []) v
after_more made one (passes others w) = ap (λ (z : List TypedStmt). passes z w) (sym (append_assoc made (one ∷ []) others))
after_more made one (refused q) = refl

-- the statements so far passed, and the others are looked at from there
abbrev pub OrderSoFar : List Bool → Around → List Stmt → Walk → ℕ → Bool → List TypedStmt → Walk → Type 0
OrderSoFar params around all w i complete made u =
    check_all params around true (several all) w ≡ after_stmts made (check_all params around complete (several (drop i all)) u)

from_next : (params : List Bool) (around : Around) (complete : Bool) (all : List Stmt) (i : ℕ) (s : Stmt) (u : Walk) → i < length all → s ≡ get_or all i s →
    check_all params around complete (several (drop i all)) u ≡ check_all params around complete (several (s ∷ drop (i + 1) all)) u
from_next params around complete all i s u below is = ap (λ ss. check_all params around complete (several ss) u) (next_is all i s below is)

pub order_refused : (params own : List Bool) (around : Around) (all : List Stmt) (w : Walk) (i : ℕ) (complete : Bool) (made : List TypedStmt) (s : Stmt)
    (u : Walk) (q : Refusal) → OrderSoFar params around all w i complete made u → own ≡ params → i < length all → s ≡ get_or all i s →
    check_stmt own around (not complete) (plain_stmt s) u ≡ refused q → check_all params around true (several all) w ≡ refused q
order_refused params own around all w i complete made s u q before same below is d =
    let here : check_stmt params around (not complete) (plain_stmt s) u ≡ refused q =
    subst (λ (z : List Bool). check_stmt z around (not complete) (plain_stmt s) u ≡ refused q) same d in
    let step : check_all params around complete (several (s ∷ drop (i + 1) all)) u ≡ refused q = rw here in
    before ∙ ap (after_stmts made) (from_next params around complete all i s u below is ∙ step)

pub order_more : (params own : List Bool) (around : Around) (complete done next : Bool) (all : List Stmt) (i : ℕ) (made more : List TypedStmt)
    (one : TypedStmt) (s : Stmt) (w u x : Walk) → OrderSoFar params around all w i complete made u → own ≡ params → i < length all →
    s ≡ get_or all i s → check_stmt own around (not complete) (plain_stmt s) u ≡ passes one x → done ≡ completes (plain_stmt s) →
    next ≡ (complete && done) → more ≡ made ++ one ∷ [] → OrderSoFar params around all w (i + 1) next more x
order_more params own around complete done next all i made more one s w u x before same below is d done_is next_so more_is =
    let rest : Bool → Verdict (List TypedStmt) = λ on. check_all params around on (several (drop (i + 1) all)) x in
    let here : check_stmt params around (not complete) (plain_stmt s) u ≡ passes one x =
    subst (λ (z : List Bool). check_stmt z around (not complete) (plain_stmt s) u ≡ passes one x) same d in
    let step : check_all params around complete (several (s ∷ drop (i + 1) all)) u ≡ after_stmts (one ∷ []) (rest (complete && completes (plain_stmt s))) =
    rw here (after_one one (rest (complete && completes (plain_stmt s)))) in
    before ∙ ap (after_stmts made) (from_next params around complete all i s u below is ∙ step)
    ∙ after_more made one (rest (complete && completes (plain_stmt s)))
    ∙ ap (λ (z : Bool). after_stmts (made ++ one ∷ []) (rest z)) (sym (next_so ∙ ap (λ (z : Bool). complete && z) done_is))
    ∙ ap (λ (z : List TypedStmt). after_stmts z (rest next)) (sym more_is)

pub order_all : (params : List Bool) (around : Around) (complete : Bool) (all : List Stmt) (i : ℕ) (made : List TypedStmt) (w u : Walk) →
    OrderSoFar params around all w i complete made u → drop i all ≡ [] → check_all params around true (several all) w ≡ passes made u
order_all params around complete all i made w u before none =
    before ∙ ap (λ ss. after_stmts made (check_all params around complete (several ss) u)) none ∙ ap (λ (z : List TypedStmt). passes z u) (append-nil made)

-- what else a step through the statements keeps
and_step : (c d : Bool) (a : Bool) → ((c && d) && a) ≡ (c && (d && a))
and_step true d a = refl
and_step false d a = refl

pub and_then_so : (c d o : Bool) → c ≡ true → o ≡ d → o ≡ (c && d)
and_then_so c d o holds is = is ∙ ap (λ (z : Bool). z && d) (sym holds)

pub and_else_so : (c d o : Bool) → c ≡ false → o ≡ false → o ≡ (c && d)
and_else_so c d o fails is = is ∙ ap (λ (z : Bool). z && d) (sym fails)

pub complete_step : (all : List Stmt) (i : ℕ) (s : Stmt) (complete done next : Bool) → i < length all → s ≡ get_or all i s →
    done ≡ completes (plain_stmt s) → next ≡ (complete && done) →
    (complete && all_complete (plain_stmts (map plain_stmt (drop i all)))) ≡ all_complete (plain_stmts (map plain_stmt all)) →
    (next && all_complete (plain_stmts (map plain_stmt (drop (i + 1) all)))) ≡ all_complete (plain_stmts (map plain_stmt all))
complete_step all i s complete done next below is done_is next_so so_far =
    ap (λ (z : Bool). z && all_complete (plain_stmts (map plain_stmt (drop (i + 1) all)))) (next_so ∙ ap (λ (z : Bool). complete && z) done_is)
    ∙ and_step complete (completes (plain_stmt s)) (all_complete (plain_stmts (map plain_stmt (drop (i + 1) all))))
    ∙ ap (λ ss. complete && all_complete (plain_stmts (map plain_stmt ss))) (sym (next_is all i s below is))
    ∙ so_far
