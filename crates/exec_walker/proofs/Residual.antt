-- What a state of the walk stands for: what is left of the meaning.
use Rattle.std.proofs.Common.{ℕ, List, [], ◌∷◌, ◌++◌, drop}
use Rattle.lang_typed.specs.Plain.{PlainProgram, TypedExpr, TypedStmt}
use Rattle.lang_meaning.specs.Values.{Value}
use Rattle.lang_meaning.specs.Actions.{Frame, Task, Ending, Exit}
use Rattle.lang_meaning.specs.Asking.{meaning}
use Rattle.lang_meaning.specs.Core.{Result, Goes_on, Ret, Act, Again, Done, bind, tested, run}
use Rattle.lang_meaning.specs.Core.{Out as out}
use Rattle.lang_meaning.specs.Counts.{slot_value, brought}
use Rattle.lang_meaning.specs.Elision.{LocalRegion, in_order, Store, one_tick, at_end, one_by_one, one_step, sequential}
use Rattle.lang_meaning.specs.Expressions.{gives, none, of_expr}
use Rattle.lang_meaning.specs.Outcomes.{joined_or, first_trap, all_locals}
use Rattle.lang_meaning.specs.Statements.{joined, of_stmt, of_stmts, begun}
use Rattle.exec_walker.specs.Agenda.{Item, evaluate, operate, carry_out, finish, counted, goes_on, test, tick, leave, deeper_at, operands_of, count, applied, needs, finished, parted}
use Rattle.exec_walker.specs.Walk.{Level, Construct, Waiting, for_value, for_object, for_branch, State, At, Off, root_work, value_of, first_or}
use Rattle.exec_walker.proofs.Runs.{proceeds}

abbrev pub Ran : Type 0
Ran = out ℕ LocalRegion (Result ℕ LocalRegion) Store

abbrev pub again : PlainProgram → ℕ → TypedExpr → TypedStmt → Frame ℕ LocalRegion → Store → Ran
again P d e s f w = run sequential (Again (λ g. of_expr in_order P (deeper_at P d) e g) (λ g. of_stmt in_order P (deeper_at P d) s g) f (λ r. Ret r)) w

-- what an item does
abbrev pub item_run : PlainProgram → ℕ → Item → List (Value ℕ) → Frame ℕ LocalRegion → Store → Ran
item_run P d (evaluate e) vs f w = run sequential (of_expr in_order P (deeper_at P d) e f) w
item_run P d (operate e) vs f w = run sequential (applied P d e vs f) w
item_run P d (carry_out s) vs f w = run sequential (of_stmt in_order P (deeper_at P d) s f) w
item_run P d (finish s) vs f w = run sequential (finished P d s vs f) w
item_run P d (counted s) vs f w = run sequential (parted P d s vs f) w
item_run P d (goes_on ss) vs f w = run sequential (of_stmts in_order P (deeper_at P d) ss f) w
item_run P d (test e s) vs f w = again P d e s f w
item_run P d (tick e s) vs f w =
    tested (λ v. one_tick v.ticks v) (λ g v. run sequential (of_stmt in_order P (deeper_at P d) s g) v) (λ g v. again P d e s g v) (Goes_on (slot_value vs 0) f) w
item_run P d leave vs f w = run sequential (Act Exit (λ c. gives none f)) w

-- the operands after it, where it gives a value
abbrev pub stacked : Item → List (Value ℕ) → Value ℕ → List (Value ℕ)
stacked (evaluate e) vs v = v ∷ vs
stacked (operate e) vs v = v ∷ drop (count (operands_of e)) vs
stacked (carry_out s) vs v = vs
stacked (finish s) vs v = drop (count (needs s)) vs
stacked (counted s) vs v = drop 1 vs
stacked (goes_on ss) vs v = vs
stacked (test e s) vs v = vs
stacked (tick e s) vs v = drop 1 vs
stacked leave vs v = vs

abbrev pub items_run : PlainProgram → ℕ → List Item → List (Value ℕ) → Frame ℕ LocalRegion → Store → Ran
items_run P d [] vs f w = Done (Goes_on none f) w
items_run P d (i ∷ is) vs f w = bind (item_run P d i vs f w) (λ r u. proceeds (λ v g x. items_run P d is (stacked i vs v) g x) r u)

abbrev pub level_run : PlainProgram → Level → Store → Ran
level_run P g w = items_run P g.left g.items g.operands g.frame w

abbrev pub with_operand : PlainProgram → Value ℕ → Level → Store → Ran
with_operand P v g w = items_run P g.left g.items (v ∷ g.operands) g.frame w

-- the branches that come, one after the other
abbrev pub branch_runs : PlainProgram → ℕ → List (Task ℕ LocalRegion) → List (Store → Ran)
branch_runs P d [] = []
branch_runs P d (t ∷ ts) = (λ w. run sequential (meaning in_order P d t.work.stmts (begun t.work.takes t.frame)) w) ∷ branch_runs P d ts

abbrev pub rest_run : PlainProgram → ℕ → List (Task ℕ LocalRegion) → Store → out ℕ LocalRegion (List (Ending ℕ)) Store
rest_run P d ts w = one_by_one ts (branch_runs P d ts) w

-- the join, where the branches that weren't noted ended so
abbrev pub joins_run : PlainProgram → Construct → List (Ending ℕ) → Store → Ran
joins_run P c xs w =
    bind (run sequential (joined c.copies c.outer.frame (brought {M = LocalRegion} (joined_or (first_or c.fell (first_trap xs)) (c.back ++ all_locals xs)))) w)
    (λ r u. proceeds (λ v g x. items_run P c.outer.left c.outer.items c.outer.operands g x) r u)

-- what waits goes on after the body at work
abbrev pub whole : PlainProgram → List Waiting → Ran → out ℕ LocalRegion (Ending ℕ) Store
whole P [] o = at_end root_work o
whole P (for_value g ∷ ws) o = whole P ws (bind o (λ r u. with_operand P (value_of r) g u))
whole P (for_object n g ∷ ws) o = whole P ws (bind o (λ r u. with_operand P n g u))
whole P (for_branch c k ts ∷ ws) o =
    whole P ws (bind (at_end k o) (λ x u. bind (rest_run P c.left ts u) (λ xs v. joins_run P c (x ∷ xs) (one_step v))))

abbrev pub state_run : PlainProgram → State → out ℕ LocalRegion (Ending ℕ) Store
state_run P (At g ws w) = whole P ws (level_run P g w)
state_run P (Off o) = o
