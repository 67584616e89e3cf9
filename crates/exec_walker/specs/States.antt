-- The walker's state, as that of the walk.
use Rattle.std.specs.Prelude.{◌≡◌, ℕ, ◌-◌, false, List, map, drop, Option, Some, None, Result, Ok, Err}
use Rattle.lang_base.specs.declared.value.Value.{Value as Constant}
use Rattle.lang_base.specs.declared.outcome.Limits.{Limits}
use Rattle.lang_typed.specs.Plain.{plain_expr, plain_stmt, plain_source, stmts_of, no_stmts, TypedBranch, TypedExpr, TypedStmt, statement, branches_of}
use Rattle.lang_typed.specs.Plain.{StmtForm as stmt}
use Rattle.lang_typed.specs.declared.stmt.Branch.{Branch}
use Rattle.lang_typed.specs.declared.ids.Slot.{Slot}
use Rattle.lang_meaning.specs.Values.{Value}
use Rattle.lang_meaning.specs.Actions.{Frame, Work, Task, Ending, Returned, Trapped}
use Rattle.lang_meaning.specs.Core.{Result as Ended}
use Rattle.lang_meaning.specs.Core.{Goes_on, Returns, Done, Stopped, Lost}
use Rattle.lang_meaning.specs.Core.{Out as out}
use Rattle.lang_meaning.specs.Elision.{LocalRegion}
use Rattle.lang_meaning.specs.Elision.{Store as Elided}
use Rattle.lang_meaning.specs.Expressions.{none}
use Rattle.lang_meaning.specs.Statements.{tasks_of, all_copies, iterations}
use Rattle.exec_frames.specs.Names.{plain_value, plain_frame}
use Rattle.exec_walker.specs.Agenda.{Item, evaluate, operate, carry_out, finish, counted, goes_on, test, tick, leave}
use Rattle.exec_walker.specs.Walk as walk
use Rattle.exec_walker.specs.Walk.{Construct, for_value, for_object, for_branch, State, At, Off}
use Rattle.exec_walker.specs.declared.halt.Halt.{Halt}
use Rattle.exec_walker.specs.declared.halt.Halt.TheVariants as halt
use Rattle.exec_walker.specs.declared.item.Item.{Item as CodeItem}
use Rattle.exec_walker.specs.declared.item.Item.TheVariants as item
use Rattle.exec_walker.specs.declared.level.Level.{Level}
use Rattle.exec_walker.specs.declared.waiting.Given.{Given}
use Rattle.exec_walker.specs.declared.waiting.Rest.{Rest}
use Rattle.exec_walker.specs.declared.waiting.Rest.TheVariants as rest
use Rattle.exec_walker.specs.declared.waiting.Fork.{Fork}
use Rattle.exec_walker.specs.declared.waiting.Waiting.{Waiting}
use Rattle.exec_walker.specs.declared.waiting.Awaited.{Awaited}
use Rattle.exec_walker.specs.declared.waiting.Awaited.TheVariants as awaited
use Rattle.exec_walker.specs.declared.item.ExprStage.{ExprStage}
use Rattle.exec_walker.specs.declared.item.ExprStage.TheVariants.{Evaluate, Operate}
use Rattle.exec_walker.specs.declared.item.LoopStage.{LoopStage}
use Rattle.exec_walker.specs.declared.item.LoopStage.TheVariants.{Test, Tick}
use Rattle.exec_walker.specs.declared.item.PartsLoop.{PartsLoop}
use Rattle.exec_walker.specs.declared.item.StmtStage.{StmtStage}
use Rattle.exec_walker.specs.declared.item.StmtStage.TheVariants.{CarryOut, Finish}
use Rattle.exec_walker.specs.declared.walker.Walker.{Walker}
use Rattle.exec_walker.specs.declared.walker.Over.{Over}
use Rattle.exec_walker.specs.declared.walker.Over.TheVariants as over
use Rattle.exec_walker.specs.Halts.{IsOver}
use Rattle.exec_walker.specs.Stores.{Holds}

-- a loop over parts, as a statement
abbrev pub plain_parts : PartsLoop → TypedStmt
plain_parts l = statement l.place (stmt.foreach_parts l.part.number (plain_source l.source.now) (plain_expr l.count.now) (plain_stmt l.body.now))

abbrev pub expr_item : ExprStage → TypedExpr → Item
expr_item Evaluate e = evaluate e
expr_item Operate e = operate e

abbrev pub stmt_item : StmtStage → TypedStmt → Item
stmt_item CarryOut s = carry_out s
stmt_item Finish s = finish s

abbrev pub loop_item : LoopStage → TypedExpr → TypedStmt → Item
loop_item Test e s = test e s
loop_item Tick e s = tick e s

abbrev pub plain_item : CodeItem → Item
plain_item (item.Expr stage e) = expr_item stage (plain_expr e.now)
plain_item (item.Stmt stage s) = stmt_item stage (plain_stmt s.now)
plain_item (item.Loop stage e s) = loop_item stage (plain_expr e.now) (plain_stmt s.now)
plain_item (item.Counted l) = counted (plain_parts l)
plain_item (item.GoesOn ss) = goes_on (stmts_of (map plain_stmt ss.now))
plain_item item.Leave = leave

abbrev pub plain_level : Level → walk.Level
plain_level g = record { items = map plain_item g.items; operands = map plain_value g.operands; frame = plain_frame g.frame; left = g.frame.left }

abbrev pub plain_given : Given → ℕ × Value ℕ
plain_given l = (l.slot, plain_value l.value)

abbrev pub plain_branch : Branch → TypedBranch
plain_branch b = record { copies = map (λ slot. slot.number) b.copies; body = plain_stmt b.body }

-- the branches of a construct that have not begun, from a frame
abbrev pub tasks_in : List Branch → Rest → Frame ℕ LocalRegion → List (Task ℕ LocalRegion)
tasks_in bs (rest.Branches i) f = tasks_of (branches_of (map plain_branch (drop i bs))) f
tasks_in bs (rest.Numbers n) f = iterations n.takes n.slot (plain_stmt n.body.now) f n.start n.next n.left

abbrev pub construct : Fork → walk.Level → Construct
construct c g = record {
  outer = g;
  back = map plain_given c.back;
  fell = c.fell;
  copies = all_copies (branches_of (map plain_branch c.branches.now));
  left = g.frame.left - 1;
}

abbrev pub rest_of : Fork → walk.Level → List (Task ℕ LocalRegion)
rest_of c g = tasks_in c.branches.now c.rest g.frame

-- how the branch at work ends
abbrev pub work_of : List Slot → Work
work_of slots = record { is_root = false; takes = None; copies = map (λ slot. slot.number) slots; stmts = no_stmts }

abbrev pub waits : Awaited → walk.Level → walk.Waiting
waits awaited.Value g = for_value g
waits (awaited.Object v) g = for_object (plain_value v) g
waits (awaited.Branch c) g = for_branch (construct c g) (work_of c.running.now) (rest_of c g)

abbrev pub plain_waiting : Waiting → walk.Waiting
plain_waiting k = waits k.awaited (plain_level k.level)

abbrev pub plain_over : Over → Ending ℕ
plain_over (over.Returned v) = Returned (plain_value v)
plain_over (over.Trapped t p) = Trapped t p

-- a body ends without a value, or with one
abbrev pub end_of : Option Constant → Frame ℕ LocalRegion → Ended ℕ LocalRegion
end_of None f = Goes_on none f
end_of (Some v) f = Returns (plain_value v)

-- a state of the walk in which it has cost more than a limit allows
abbrev pub IsOverAt : Limits → State → Type 0
IsOverAt L (At g ws w) = IsOver L w
IsOverAt L (Off (Done x w)) = IsOver L w
IsOverAt L (Off (out.Trapped t p w)) = Unit {0}
IsOverAt L (Off (Stopped n a)) = Unit {0}
IsOverAt L (Off (Lost w)) = Unit {0}

-- the walker is in this state of the walk
abbrev pub StandsAt : Limits → Walker → State → Type 0
StandsAt L k (At g ws w) = (plain_level k.level ≡ g) × (map plain_waiting k.waiting ≡ ws) × Holds L k.store w
StandsAt L k (Off o) = ⊥

abbrev pub EndsAt : Limits → Over → Walker → State → Type 0
EndsAt L x k (At g ws w) = ⊥
EndsAt L x k (Off (Done y w)) = (plain_over x ≡ y) × Holds L k.store w
EndsAt L x k (Off (out.Trapped t p w)) = ⊥
EndsAt L x k (Off (Stopped n a)) = ⊥
EndsAt L x k (Off (Lost w)) = ⊥

-- it has come to this state of the walk, in which the walk goes on, is over, or has cost more than a limit allows
abbrev pub ComesTo : Limits → Result (Option Over) Halt → Walker → State → Type 0
ComesTo L (Ok None) k s = StandsAt L k s
ComesTo L (Ok (Some x)) k s = EndsAt L x k s
ComesTo L (Err halt.Limited) k s = IsOverAt L s
ComesTo L (Err halt.NoMemory) k s = Unit {0}

abbrev pub Does : (walk.Level → List walk.Waiting → Elided → State) → Walker → Result (Option Over) Halt → Walker → Type 0
Does f old r new = (L : Limits) (w : Elided) → Holds L old.store w → ComesTo L r new (f (plain_level old.level) (map plain_waiting old.waiting) w)
