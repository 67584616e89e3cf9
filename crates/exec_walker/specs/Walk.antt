-- The walk of a program in sequence, one step after the other, over one store.
use Rattle.std.specs.Prelude.{ℕ, zero, suc, ◌+◌, ◌-◌, ℤ, pos, false, true, cond, List, [], ◌∷◌, ◌++◌, map, length, reverse, take, drop, Option, Some, None}
use Rattle.lang_base.specs.declared.place.Place.{Place}
use Rattle.lang_base.specs.declared.value.Trap.{Trap}
use Rattle.lang_base.specs.declared.value.Trap.TheVariants as trap
use Rattle.lang_typed.specs.Plain.{PlainProgram, PlainMember, of_array, of_part, TypedExpr, typed, TypedExprs, no_exprs, more_exprs}
use Rattle.lang_typed.specs.Plain.{TypedStmt, statement, TypedStmts, no_stmts, more_stmts}
use Rattle.lang_typed.specs.Plain.{ExprForm as form}
use Rattle.lang_typed.specs.Plain.{StmtForm as stmt}
use Rattle.lang_typed.specs.Scope.{row_at, member_at, constructor_of, parent_of}
use Rattle.lang_meaning.specs.Values.{Value, Int, Boolean, Object, Region}
use Rattle.lang_meaning.specs.Actions.{Frame, Work, Task, Ending, Trapped, Look, New, Rest, Enter, Exit}
use Rattle.lang_meaning.specs.Asking.{ended}
use Rattle.lang_meaning.specs.Core.{Result, Goes_on, Returns, Done, Stopped, Lost, run}
use Rattle.lang_meaning.specs.Core.{Out as out}
use Rattle.lang_meaning.specs.Counts.{number, truth, reference, slot_value, length_seen, name_made, class_seen, class_entered, Brought, Back, Trap_of_branch}
use Rattle.lang_meaning.specs.Counts.{brought, copied, how_many}
use Rattle.lang_meaning.specs.Elision.{LocalRegion, in_order, Store, answer, after, one_step, first_of, sequential, root_task, at_start}
use Rattle.lang_meaning.specs.Expressions.{none, entered, new_object, class_in}
use Rattle.lang_meaning.specs.Outcomes.{joined_or, trap_of, locals_of}
use Rattle.lang_meaning.specs.Regions.{around, concrete, concrete_effect, some_long, regions_above}
use Rattle.lang_meaning.specs.Statements.{with_value, with_values, part_begun, part_taken_over, tasks_of, all_copies, iterations, begun}
use Rattle.exec_walker.specs.Agenda.{Item, evaluate, operate, carry_out, finish, counted, goes_on, test, tick, leave, operands_of, count, applied, needs, finished, counts_to}

-- a body at work: what it has to do, its operands, the latest first, its frame, and how many calls deeper it may go
pub record Level : Type 0 where
  pub items : List Item
  pub operands : List (Value ℕ)
  pub frame : Frame ℕ LocalRegion
  pub left : ℕ

-- a construct of branches at work: the body that it stands in, what the branches give back that have ended, the first trap
-- among them, what the join copies back, and how many calls deeper a branch may go
pub record Construct : Type 0 where
  pub outer : Level
  pub back : List (ℕ × Value ℕ)
  pub fell : Option (Trap × Place)
  pub copies : List ℕ
  pub left : ℕ

-- what waits for the body at work: a call for its value, a creation with its object, a construct for its branch, with those
-- that come after it and what says how the branch ends
pub data Waiting : Type 0 where
  for_value : (g : Level) → Waiting
  for_object : (object : Value ℕ) (g : Level) → Waiting
  for_branch : (c : Construct) (work : Work) (rest : List (Task ℕ LocalRegion)) → Waiting

-- a body at work, with what waits for it, innermost first; or the walk is over, with this outcome
pub data State : Type 0 where
  At : (g : Level) (ws : List Waiting) (w : Store) → State
  Off : (o : out ℕ LocalRegion (Ending ℕ) Store) → State

-- the root's task: `main`
abbrev pub root_work : Work
root_work = record { is_root = true; takes = None; copies = []; stmts = no_stmts }

-- the value of a call
abbrev pub value_of : Result ℕ LocalRegion → Value ℕ
value_of (Goes_on v f) = none
value_of (Returns v) = v

abbrev pub pushed : Value ℕ → Level → Level
pushed v g = record g { operands = v ∷ g.operands }

abbrev pub fallen : Trap → Place → Store → Store
fallen t p w = record w { trap = first_of w.trap (t, p) }

abbrev pub first_or : Option (Trap × Place) → Option (Trap × Place) → Option (Trap × Place)
first_or None other = other
first_or (Some fell) other = Some fell

-- an ended branch is noted
abbrev pub noted : Construct → Ending ℕ → Construct
noted c x = record c { back = c.back ++ locals_of x; fell = first_or c.fell (trap_of x None) }

-- a body that begins
abbrev pub beginning : TypedStmts → Frame ℕ LocalRegion → ℕ → Level
beginning ss f d = record { items = goes_on ss ∷ []; operands = []; frame = f; left = d }

abbrev pub branch_level : Construct → Task ℕ LocalRegion → Level
branch_level c t = beginning t.work.stmts (begun t.work.takes t.frame) c.left

-- how a branch ends is said by its copies; what it was to do is no longer needed
abbrev pub shortened : Work → Work
shortened k = record { is_root = k.is_root; takes = None; copies = k.copies; stmts = no_stmts }

-- the next branch, begun by a step
abbrev pub begins : Construct → Task ℕ LocalRegion → List (Task ℕ LocalRegion) → List Waiting → Store → State
begins c t rest ws w = At (branch_level c t) (for_branch c (shortened t.work) rest ∷ ws) (one_step w)

-- the first of an earlier trap and a later one
abbrev pub earlier : Option (Trap × Place) → Trap × Place → Trap × Place
earlier None fell = fell
earlier (Some first) fell = first

-- a trap ends the body at work and those that called it, up to a branch; the next branch begins, or after the last one the
-- first trap goes on
abbrev pub falls : List Waiting → Trap → Place → Store → State
falls [] t p w = Off (Done (Trapped t p) (fallen t p w))
falls (for_value g ∷ ws) t p w = falls ws t p w
falls (for_object n g ∷ ws) t p w = falls ws t p w
falls (for_branch c k [] ∷ ws) t p w = falls ws (earlier c.fell (t, p)).0 (earlier c.fell (t, p)).1 (one_step (fallen t p w))
falls (for_branch c k (b ∷ rest) ∷ ws) t p w = begins (noted c (Trapped t p)) b rest ws (fallen t p w)

-- the join, which costs a step
abbrev pub rejoins : Construct → List Waiting → Brought ℕ → Store → State
rejoins c ws (Back ls) w = At (record c.outer { frame = with_values c.outer.frame (copied c.copies ls c.outer.frame.values) }) ws w
rejoins c ws (Trap_of_branch t p) w = falls ws t p w

abbrev pub branches : Construct → List (Task ℕ LocalRegion) → List Waiting → Store → State
branches c [] ws w = rejoins c ws (brought {M = LocalRegion} (joined_or c.fell c.back)) (one_step w)
branches c (t ∷ rest) ws w = begins c t rest ws w

-- the body at work ends
abbrev pub ends : List Waiting → Result ℕ LocalRegion → Store → State
ends [] r w = Off (Done (ended root_work r) w)
ends (for_value g ∷ ws) r w = At (pushed (value_of r) g) ws w
ends (for_object n g ∷ ws) r w = At (pushed n g) ws w
ends (for_branch c k rest ∷ ws) r w = branches (noted c (ended k r)) rest ws w

-- a piece of the meaning comes out so; where it goes on, the body has these operands
abbrev pub lands : Level → (Value ℕ → List (Value ℕ)) → List Waiting → out ℕ LocalRegion (Result ℕ LocalRegion) Store → State
lands g push ws (Done (Goes_on v f) w) = At (record g { operands = push v; frame = f }) ws w
lands g push ws (Done (Returns v) w) = ends ws (Returns v) w
lands g push ws (out.Trapped t p w) = falls ws t p w
lands g push ws (Stopped n a) = Off (Stopped n a)
lands g push ws (Lost w) = Off (Lost w)

-- branches that stand one call deeper, where that may be
abbrev pub forks_at : ℕ → Place → Level → List ℕ → List (Task ℕ LocalRegion) → List Waiting → Store → State
forks_at zero at g copies ts ws w = falls ws trap.Stack at w
forks_at (suc d) at g copies ts ws w = branches (record { outer = g; back = []; fell = None; copies = copies; left = d }) ts ws (one_step w)

-- the member in the row of a class is entered
abbrev pub enters : PlainProgram → ℕ → Option PlainMember → ℕ × List (Region LocalRegion) → List (Value ℕ) → List (Region LocalRegion) → Level → List Waiting → Store → State
enters P d None seen vs own g ws w = At (pushed none g) ws w
enters P d (Some m) seen vs own g ws w =
    At (beginning m.body (entered in_order m vs (regions_above in_order (parent_of P) (length P.classes) seen.0 seen.1 m.class ++ own) (g.frame.left - 1)) d)
    (for_value g ∷ ws) w

abbrev pub row_member : PlainProgram → Option ℕ → Option PlainMember
row_member P None = None
row_member P (Some n) = member_at P n

abbrev pub seen_at : PlainProgram → ℕ → ℕ → Store → ℕ × List (Region LocalRegion)
seen_at P c n w = class_entered (parent_of P) (length P.classes) c (class_seen (answer w.heap (Look n)))

-- a call of what isn't null, the level without its operands
abbrev pub calls : PlainProgram → ℕ → Place → ℕ → ℕ → List (Region LocalRegion) → ℕ → List (Value ℕ) → Level → List Waiting → Store → State
calls P zero at c r own n vs g ws w = falls ws trap.Stack at w
calls P (suc d) at c r own n vs g ws w =
    cond (some_long own) (falls ws trap.Stack at w)
    (enters P d (row_member P (row_at P (seen_at P c n w).0 r)) (seen_at P c n w) (Object n ∷ vs) own g ws (after (Look n) w))

-- an object is made, and its constructor entered
abbrev pub constructs : PlainProgram → ℕ → Option PlainMember → List (Region LocalRegion) → Value ℕ → List (Value ℕ) → Level → List Waiting → Store → State
constructs P d None own object vs g ws w = At (pushed object g) ws w
constructs P d (Some m) own object vs g ws w =
    At (beginning m.body (entered in_order m (object ∷ vs) own (g.frame.left - 1)) d) (for_object object g ∷ ws) w

abbrev pub creates_with : PlainProgram → ℕ → Place → ℕ → ℕ → List (Region LocalRegion) → List (Value ℕ) → Level → List Waiting → Store → State
creates_with P zero at c n own vs g ws w = falls ws trap.Stack at w
creates_with P (suc d) at c n own vs g ws w =
    constructs P d (member_at P n) own (name_made {M = LocalRegion} (answer w.heap (New (new_object P c own) true))) vs g ws
    (after (New (new_object P c own) true) w)

abbrev pub creates : PlainProgram → ℕ → Place → ℕ → Option ℕ → List (Region LocalRegion) → List (Value ℕ) → Level → List Waiting → Store → State
creates P d at c None own vs g ws w =
    At (pushed (name_made {M = LocalRegion} (answer w.heap (New (new_object P c own) false))) g) ws (after (New (new_object P c own) false) w)
creates P d at c (Some n) own vs g ws w = creates_with P d at c n own vs g ws w

abbrev pub or_null : Place → Option ℕ → List Waiting → Store → (ℕ → State) → State
or_null at None ws w k = falls ws trap.Null at w
or_null at (Some n) ws w k = k n

abbrev pub each : TypedExprs → List Item → List Item
each no_exprs is = is
each (more_exprs e es) is = evaluate e ∷ each es is

abbrev pub without : ℕ → Level → Level
without n g = record g { operands = drop n g.operands }

abbrev pub doing : Item → Level → Level
doing i g = record g { items = i ∷ g.items }

-- an operation, whose operands are on top
abbrev pub operates : PlainProgram → TypedExpr → Level → List Waiting → Store → State
operates P (typed at t (form.call e c r regions es)) g ws w =
    or_null at (reference (slot_value g.operands (count es))) ws w (λ n.
    calls P g.left at c r (map (concrete in_order (around g.frame)) regions) n (reverse (take (count es) g.operands)) (without (suc (count es)) g) ws w)
operates P (typed at t (form.create es)) g ws w =
    (let own : List (Region LocalRegion) = map (concrete in_order (around g.frame)) (class_in t).1 in
    cond (some_long own) (falls ws trap.Stack at w)
    (creates P g.left at (class_in t).0 (constructor_of P (class_in t).0) own (reverse (take (count es) g.operands)) (without (count es) g) ws w))
operates P (typed at t (form.both a b)) g ws w =
    cond (truth (slot_value g.operands 0)) (At (doing (evaluate b) (without 1 g)) ws w) (At (pushed (Boolean false) (without 1 g)) ws w)
operates P (typed at t (form.either a b)) g ws w =
    cond (truth (slot_value g.operands 0)) (At (pushed (Boolean true) (without 1 g)) ws w) (At (doing (evaluate b) (without 1 g)) ws w)
operates P e g ws w =
    lands g (λ v. v ∷ drop (count (operands_of e)) g.operands) ws (run sequential (applied P g.left e g.operands g.frame) w)

-- a statement whose operands are on top
abbrev pub finishes : PlainProgram → TypedStmt → Level → List Waiting → Store → State
finishes P (statement at (stmt.block ss)) g ws w = At (doing (goes_on ss) g) ws w
finishes P (statement at (stmt.choice e s)) g ws w =
    cond (truth (slot_value g.operands 0)) (At (doing (carry_out s) (without 1 g)) ws w) (At (without 1 g) ws w)
finishes P (statement at (stmt.choice_else e s t)) g ws w =
    cond (truth (slot_value g.operands 0)) (At (doing (carry_out s) (without 1 g)) ws w) (At (doing (carry_out t) (without 1 g)) ws w)
finishes P (statement at (stmt.while_loop e s)) g ws w = At (doing (test e s) g) ws w
finishes P (statement at (stmt.atomic effects ss)) g ws w =
    At (doing (goes_on ss) (doing leave g)) ws (after (Enter (map (concrete_effect in_order (around g.frame)) effects)) (after Rest w))
finishes P (statement at (stmt.cobegin forking bs)) g ws w = forks_at g.left at g (all_copies bs) (tasks_of bs g.frame) ws w
finishes P (statement at (stmt.foreach forking x start many s)) g ws w =
    forks_at g.left at (without 2 g) []
    (iterations None x s g.frame (number (slot_value g.operands 1)) 0 (how_many (number (slot_value g.operands 0)))) ws w
finishes P (statement at (stmt.foreach_parts k (of_array a) many s)) g ws w =
    At (record g {
      items = evaluate many ∷ counted (statement at (stmt.foreach_parts k (of_array a) many s)) ∷ g.items;
      operands = drop 1 g.operands;
      frame = part_begun k (slot_value g.operands 0) g.frame;
    }) ws w
finishes P (statement at (stmt.foreach_parts k (of_part j) many s)) g ws w =
    At (record g {
      items = evaluate many ∷ counted (statement at (stmt.foreach_parts k (of_part j) many s)) ∷ g.items;
      frame = part_taken_over k j g.frame;
    }) ws w
finishes P s g ws w = lands g (λ v. drop (count (needs s)) g.operands) ws (run sequential (finished P g.left s g.operands g.frame) w)

-- a loop over the parts that the slots of a part say
abbrev pub parts_at : Place → ℕ → TypedStmt → Level → List Waiting → Store → State
parts_at at k s g ws w =
    forks_at g.left at g [] (iterations (Some k) (k + 4) s g.frame (pos 0) 0 (how_many (number (slot_value g.frame.values (k + 3))))) ws w

abbrev pub with_length : ℕ → ℕ → Store → Level → Level
with_length k n w g = record g { frame = with_value g.frame (k + 2) (Int (pos (length_seen (answer w.heap (Look n))))) }

abbrev pub counts : TypedStmt → Level → List Waiting → Store → State
counts (statement at (stmt.foreach_parts k (of_array a) many s)) g ws w =
    or_null at (reference (slot_value g.frame.values k)) ws w (λ n. parts_at at k s (with_length k n w g) ws (after (Look n) w))
counts (statement at (stmt.foreach_parts k (of_part j) many s)) g ws w = parts_at at k s g ws w
counts s g ws w = At g ws w

-- after the test of a while loop: a tick and the body, where it is true
abbrev pub ticks : ℕ → TypedExpr → TypedStmt → Level → List Waiting → Store → State
ticks zero e s g ws w = Off (Lost w)
ticks (suc n) e s g ws w = At (doing (carry_out s) (doing (test e s) g)) ws (record w { steps = suc w.steps; ticks = n })

abbrev pub does_item : PlainProgram → Item → Level → List Waiting → Store → State
does_item P (evaluate e) g ws w = At (record g { items = each (operands_of e) (operate e ∷ g.items) }) ws w
does_item P (operate e) g ws w = operates P e g ws w
does_item P (carry_out s) g ws w = At (record g { items = each (needs s) (finish s ∷ g.items) }) ws w
does_item P (finish s) g ws w = finishes P s g ws w
does_item P (counted s) g ws w = counts s (record (without 1 g) { frame = counts_to s (slot_value g.operands 0) g.frame }) ws w
does_item P (goes_on no_stmts) g ws w = At g ws w
does_item P (goes_on (more_stmts s ss)) g ws w = At (doing (carry_out s) (doing (goes_on ss) g)) ws w
does_item P (test e s) g ws w = At (doing (evaluate e) (doing (tick e s) g)) ws w
does_item P (tick e s) g ws w = cond (truth (slot_value g.operands 0)) (ticks w.ticks e s (without 1 g) ws w) (At (without 1 g) ws w)
does_item P leave g ws w = At g ws (after Exit w)

abbrev pub next_item : PlainProgram → List Item → Level → List Waiting → Store → State
next_item P [] g ws w = ends ws (Goes_on none g.frame) w
next_item P (i ∷ is) g ws w = does_item P i (record g { items = is }) ws w

-- one step
abbrev pub step : PlainProgram → State → State
step P (At g ws w) = next_item P g.items g ws w
step P (Off o) = Off o

abbrev pub walk : PlainProgram → ℕ → State → State
walk P zero s = s
walk P (suc n) s = walk P n (step P s)

abbrev pub root_level : Task ℕ LocalRegion → Level
root_level t = beginning t.work.stmts t.frame t.frame.left

-- the start, in a run of at most so many ticks
abbrev pub start : PlainProgram → ℤ → ℕ → State
start P arg n = At (root_level (root_task in_order P 0 arg)) [] (at_start P n)
