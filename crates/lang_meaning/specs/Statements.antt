-- What statements mean: one clause a construct, in the order of evaluation.
use Rattle.std.specs.Prelude.{ℕ, zero, suc, ◌+◌, ◌-◌, ℤ, pos, true, false, cond, List, [], ◌∷◌, ◌++◌, map, Option, Some, None, slice_set}
use Rattle.lang_base.specs.declared.place.Place.{Place}
use Rattle.lang_base.specs.declared.value.Trap.TheVariants as trap
use Rattle.lang_typed.specs.declared.stmt.Forking.{Forking}
use Rattle.lang_typed.specs.declared.stmt.Forking.TheVariants.{Deterministic}
use Rattle.lang_typed.specs.Plain.{PlainProgram, of_array, of_part, TypedStmt, statement, TypedStmts, no_stmts, more_stmts, TypedBranches, no_branches}
use Rattle.lang_typed.specs.Plain.{more_branches}
use Rattle.lang_typed.specs.Plain.{StmtForm as form}
use Rattle.lang_meaning.specs.Values.{Value, Int, Naming}
use Rattle.lang_meaning.specs.Actions.{Frame, Task, Rest, Write, Look, Print, Enter, Exit}
use Rattle.lang_meaning.specs.Core.{Returns, Prog, Ret, Traps, Act, Makes, Again, Split, and_then}
use Rattle.lang_meaning.specs.Counts.{number, truth, is_out, length_seen, Brought, Back, Trap_of_branch, copied, text_of, line, slot_value, part_taken}
use Rattle.lang_meaning.specs.Counts.{numbered, how_many}
use Rattle.lang_meaning.specs.Regions.{around, concrete_effect}
use Rattle.lang_meaning.specs.Expressions.{Deeper, gives, none, unless_null, part_element, of_expr}

abbrev pub with_value : {N M : Type 0} → Frame N M → ℕ → Value N → Frame N M
with_value f x v = record f { values = slice_set f.values x v }

abbrev pub with_values : {N M : Type 0} → Frame N M → List (Value N) → Frame N M
with_values f vs = record f { values = vs }

-- a write to a cell, which traps where the index is out of bounds
abbrev pub write_cell : {N M : Type 0} → Place → N → ℤ → Value N → Frame N M → Prog N M
write_cell at n i v f = Act (Write n i v) (λ a. cond (is_out a) (Traps trap.Index at) (gives none f))

abbrev pub prints : {N M : Type 0} → List ℕ → Frame N M → Prog N M
prints text f = Act (Print (line text)) (λ a. gives none f)

-- new local regions, one after the other
abbrev pub makes : {N M : Type 0} → List ℕ → Frame N M → Prog N M
makes [] f = gives none f
makes (r ∷ rs) f = Makes (λ m. makes rs (record f { locals = slice_set f.locals r m }))

-- after a join: the locals are copied back that the construct copies back, or the first branch's trap goes on
abbrev pub joined : {N M : Type 0} → List ℕ → Frame N M → Brought N → Prog N M
joined slots f (Back ls) = gives none (with_values f (copied slots ls f.values))
joined slots f (Trap_of_branch trap place) = Traps trap place

-- what a branch is to do: one deeper than where it starts
abbrev pub branch_of : {N M : Type 0} → Option ℕ → List ℕ → TypedStmt → Frame N M → Task N M
branch_of takes copies s f = record {
  work = record { is_root = false; takes = takes; copies = copies; stmts = more_stmts s no_stmts };
  frame = record f { left = f.left - 1 };
}

abbrev pub tasks_of : {N M : Type 0} → TypedBranches → Frame N M → List (Task N M)
tasks_of no_branches f = []
tasks_of (more_branches copies s bs) f = branch_of None copies s f ∷ tasks_of bs f

abbrev pub all_copies : TypedBranches → List ℕ
all_copies no_branches = []
all_copies (more_branches copies s bs) = copies ++ all_copies bs

abbrev pub branch_at : TypedBranches → ℕ → TypedStmts
branch_at no_branches i = no_stmts
branch_at (more_branches copies s bs) zero = more_stmts s no_stmts
branch_at (more_branches copies s bs) (suc i) = branch_at bs i

-- the iterations of a loop, as branches
abbrev pub numbered_frame : {N M : Type 0} → ℕ → ℤ → ℕ → Frame N M → Frame N M
numbered_frame x start i f = record f { values = numbered x start i f.values }

abbrev pub iterations : {N M : Type 0} → Option ℕ → ℕ → TypedStmt → Frame N M → ℤ → ℕ → ℕ → List (Task N M)
iterations takes x s f start i zero = []
iterations takes x s f start i (suc n) = branch_of takes [] s (numbered_frame x start i f) ∷ iterations takes x s f start (suc i) n

abbrev pub begun : {N M : Type 0} → Option ℕ → Frame N M → Frame N M
begun None f = f
begun (Some k) f = record f { values = part_taken k f.values }

-- a loop of branches that isn't too deep
abbrev pub forks : {N M : Type 0} → Option (Deeper N M) → Place → Forking → Option ℕ → ℕ → TypedStmt → ℤ → ℤ → Frame N M → Prog N M
forks None at forking takes x s start count f = Traps trap.Stack at
forks (Some dp) at forking takes x s start count f =
    Split forking (iterations takes x s f start 0 (how_many count))
    (λ i. dp (more_stmts s no_stmts) (begun takes (record (numbered_frame x start i f) { left = f.left - 1 }))) (joined [] f)

-- the slots of a part: array, beginning, length and count. They are filled in this order, of an array, and of a part: the
-- array and the beginning, then the count, then the length
abbrev pub part_begun : {N M : Type 0} → ℕ → Value N → Frame N M → Frame N M
part_begun k v f = with_value (with_value f k v) (k + 1) (Int (pos 0))

abbrev pub part_taken_over : {N M : Type 0} → ℕ → ℕ → Frame N M → Frame N M
part_taken_over k j f = (let g = with_value f k (slot_value f.values j) in with_value g (k + 1) (slot_value g.values (j + 1)))

-- a branch for each part, whose slots are filled
abbrev pub parts : {N M : Type 0} → Option (Deeper N M) → Place → ℕ → TypedStmt → Frame N M → Prog N M
parts dp at k s f = forks dp at Deterministic (Some k) (k + 4) s (pos 0) (number (slot_value f.values (k + 3))) f

abbrev pub parts_of_array : {N M : Type 0} → Option (Deeper N M) → Place → ℕ → TypedStmt → Frame N M → Prog N M
parts_of_array dp at k s f =
    unless_null at (slot_value f.values k) (λ n. Act (Look n) (λ a. parts dp at k s (with_value f (k + 2) (Int (pos (length_seen a))))))

abbrev mutual
  pub of_stmt : {N M : Type 0} → Naming N M → PlainProgram → Option (Deeper N M) → TypedStmt → Frame N M → Prog N M
  of_stmt names P dp (statement at (form.declare x t is_final e)) f = and_then (of_expr names P dp e f) (λ v g. gives none (with_value g x v))
  of_stmt names P dp (statement at (form.store x e)) f = and_then (of_expr names P dp e f) (λ v g. gives none (with_value g x v))
  of_stmt names P dp (statement at (form.store_field o c k e)) f =
      and_then (of_expr names P dp o f) (λ v g. and_then (of_expr names P dp e g) (λ u h. unless_null at v (λ n. write_cell at n (pos k) u h)))
  of_stmt names P dp (statement at (form.store_element a i e)) f =
      and_then (of_expr names P dp a f) (λ v g. and_then (of_expr names P dp i g) (λ j h. and_then (of_expr names P dp e h) (λ u l.
      unless_null at v (λ n. write_cell at n (number j) u l))))
  of_stmt names P dp (statement at (form.store_part k i e)) f =
      and_then (of_expr names P dp i f) (λ j g. and_then (of_expr names P dp e g) (λ u h. part_element at k (number j) h (λ n l. write_cell at n l u h)))
  of_stmt names P dp (statement at (form.perform e)) f = and_then (of_expr names P dp e f) (λ v g. gives none g)
  of_stmt names P dp (statement at (form.block ss)) f = of_stmts names P dp ss f
  of_stmt names P dp (statement at (form.choice e s)) f =
      and_then (of_expr names P dp e f) (λ v g. elim (truth v) [ false ↦ gives none g | true ↦ of_stmt names P dp s g ])
  of_stmt names P dp (statement at (form.choice_else e s t)) f =
      and_then (of_expr names P dp e f) (λ v g. elim (truth v) [ false ↦ of_stmt names P dp t g | true ↦ of_stmt names P dp s g ])
  of_stmt names P dp (statement at (form.while_loop e s)) f = Again (λ g. of_expr names P dp e g) (λ g. of_stmt names P dp s g) f (λ r. Ret r)
  of_stmt names P dp (statement at form.return_nothing) f = Ret (Returns none)
  of_stmt names P dp (statement at (form.return_value e)) f = and_then (of_expr names P dp e f) (λ v g. Ret (Returns v))
  of_stmt names P dp (statement at (form.print_int e)) f = and_then (of_expr names P dp e f) (λ v g. prints (text_of v) g)
  of_stmt names P dp (statement at (form.print_boolean e)) f = and_then (of_expr names P dp e f) (λ v g. prints (text_of v) g)
  of_stmt names P dp (statement at (form.print_text text)) f = prints text f
  of_stmt names P dp (statement at (form.local_regions rs)) f = makes rs f
  -- in front of an entry the task rests
  of_stmt names P dp (statement at (form.atomic effects ss)) f =
      Act Rest (λ a. Act (Enter (map (concrete_effect names (around f)) effects))
      (λ b. and_then (of_stmts names P dp ss f) (λ v g. Act Exit (λ c. gives none g))))
  of_stmt names P None (statement at (form.cobegin forking bs)) f = Traps trap.Stack at
  of_stmt names P (Some dp) (statement at (form.cobegin forking bs)) f =
      Split forking (tasks_of bs f) (λ i. dp (branch_at bs i) (record f { left = f.left - 1 })) (joined (all_copies bs) f)
  of_stmt names P dp (statement at (form.foreach forking x start count s)) f =
      and_then (of_expr names P dp start f) (λ v g. and_then (of_expr names P dp count g) (λ u h. forks dp at forking None x s (number v) (number u) h))
  of_stmt names P dp (statement at (form.foreach_parts k (of_array a) count s)) f =
      and_then (of_expr names P dp a f)
      (λ v g. and_then (of_expr names P dp count (part_begun k v g)) (λ u h. parts_of_array dp at k s (with_value h (k + 3) u)))
  of_stmt names P dp (statement at (form.foreach_parts k (of_part j) count s)) f =
      and_then (of_expr names P dp count (part_taken_over k j f)) (λ u g. (let h = with_value g (k + 3) u in
      parts dp at k s (with_value h (k + 2) (slot_value h.values (j + 2)))))

  pub of_stmts : {N M : Type 0} → Naming N M → PlainProgram → Option (Deeper N M) → TypedStmts → Frame N M → Prog N M
  of_stmts names P dp no_stmts f = gives none f
  of_stmts names P dp (more_stmts s ss) f = and_then (of_stmt names P dp s f) (λ v g. of_stmts names P dp ss g)
