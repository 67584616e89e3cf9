-- A step of the walk costs a step, or leaves less work.
use Rattle.std.proofs.Common.{◌≡◌, ◌∙◌, ◌<◌, ◌≤◌, ◌+◌, ℕ, zero, suc, List, [], ◌∷◌, map, drop, take, reverse, ap, pos, arith, ◌⊎◌, inl, inr, Option, Some, None, Bool, true, false, cond}
use Rattle.lang_base.specs.declared.place.Place.{Place}
use Rattle.lang_base.specs.declared.value.Trap.{Trap}
use Rattle.lang_base.specs.declared.value.Trap.TheVariants as trap
use Rattle.lang_base.specs.declared.outcome.Limits.{Limits}
use Rattle.lang_typed.specs.Plain.{PlainProgram, PlainMember, of_array, of_part, TypedExpr, typed, TypedExprs, no_exprs, more_exprs, TypedStmt, statement, no_stmts, more_stmts}
use Rattle.lang_typed.specs.Plain.{ExprForm as form}
use Rattle.lang_typed.specs.Plain.{StmtForm as stmt}
use Rattle.lang_typed.specs.Scope.{constructor_of, member_at, row_at}
use Rattle.lang_meaning.specs.Actions.{Task, Look, New}
use Rattle.lang_meaning.specs.Asking.{ended}
use Rattle.lang_meaning.specs.Core.{Result, Goes_on, Returns, Done, Stopped, Lost, run}
use Rattle.lang_meaning.specs.Core.{Out as out}
use Rattle.lang_meaning.specs.Counts.{Brought, Back, Trap_of_branch, brought, how_many, name_made, number, reference, slot_value, truth}
use Rattle.lang_meaning.specs.Elision.{LocalRegion, in_order, Store, answer, after, one_step, sequential}
use Rattle.lang_meaning.specs.Expressions.{none, new_object, class_in}
use Rattle.lang_meaning.specs.Outcomes.{joined_or}
use Rattle.lang_meaning.specs.Regions.{around, concrete, some_long}
use Rattle.lang_meaning.specs.Statements.{all_copies, iterations, tasks_of}
use Rattle.lang_meaning.specs.Values.{Value, Boolean, Object}
use Rattle.exec_walker.specs.Agenda.{Item, evaluate, operate, carry_out, finish, counted, goes_on, test, tick, leave, operands_of, count, needs, applied, finished, counts_to}
use Rattle.exec_walker.specs.Walk.{Level, Construct, Waiting, for_value, for_object, for_branch, State, At, Off, falls, fallen, earlier, noted, branches, rejoins, ends, lands, forks_at, parts_at, or_null, pushed, doing, without, with_length, row_member, seen_at, enters, calls, constructs, creates, each, operates, finishes, counts, ticks, does_item, next_item, step}
use Rattle.exec_walker.proofs.Loops.{Leaves, run_leaves}
use Rattle.exec_walker.specs.declared.walker.Walker.{Walker}
use Rattle.exec_walker.specs.States.{StandsAt, plain_waiting}
use Rattle.exec_walker.specs.Work.{expr_work, exprs_work, operation_work, stmt_work, finish_work, item_work, items_work, waiting_work, work_left}
use Rattle.exec_walker.proofs.Calling.{Regions}

abbrev pub Lessens : ℕ → Store → State → Type 0
Lessens n w (At g ws v) = (w.steps < v.steps) ⊎ ((w.steps ≤ v.steps) × (items_work g.items + waiting_work ws < n))
Lessens n w (Off o) = Unit {0}

abbrev Costs : Store → State → Type 0
Costs w (At g ws v) = w.steps < v.steps
Costs w (Off o) = Unit {0}

costs_less : (n : ℕ) (w v : Store) (s : State) → w.steps ≤ v.steps → Costs v s → Lessens n w s
costs_less n w v (At g ws u) h k = inl (omega arith)
costs_less n w v (Off o) h k = tt

costs_later : (w v : Store) (s : State) → w.steps ≤ v.steps → Costs v s → Costs w s
costs_later w v (At g ws u) h k = omega arith
costs_later w v (Off o) h k = tt

lessens_later : (n : ℕ) (w v : Store) (s : State) → w.steps ≤ v.steps → Lessens n v s → Lessens n w s
lessens_later n w v (At g ws u) h (inl k) = inl (omega arith)
lessens_later n w v (At g ws u) h (inr k) = inr (omega (arith, k.0), k.1)
lessens_later n w v (Off o) h k = tt

falls_cost : (ws : List Waiting) (t : Trap) (p : Place) (w : Store) → Costs w (falls ws t p w)
falls_cost [] t p w = tt
falls_cost (for_value g ∷ ws) t p w = falls_cost ws t p w
falls_cost (for_object n g ∷ ws) t p w = falls_cost ws t p w
falls_cost (for_branch c k [] ∷ ws) t p w =
    costs_later w (one_step (fallen t p w)) (falls ws (earlier c.fell (t, p)).0 (earlier c.fell (t, p)).1 (one_step (fallen t p w))) (omega arith)
    (falls_cost ws (earlier c.fell (t, p)).0 (earlier c.fell (t, p)).1 (one_step (fallen t p w)))
falls_cost (for_branch c k (b ∷ rest) ∷ ws) t p w = omega arith

rejoins_cost : (c : Construct) (ws : List Waiting) (b : Brought ℕ) (w : Store) → Costs w (rejoins c ws b (one_step w))
rejoins_cost c ws (Back ls) w = omega arith
rejoins_cost c ws (Trap_of_branch t p) w = costs_later w (one_step w) (falls ws t p (one_step w)) (omega arith) (falls_cost ws t p (one_step w))

branches_cost : (c : Construct) (ts : List (Task ℕ LocalRegion)) (ws : List Waiting) (w : Store) → Costs w (branches c ts ws w)
branches_cost c [] ws w = rejoins_cost c ws (brought {M = LocalRegion} (joined_or c.fell c.back)) w
branches_cost c (t ∷ ts) ws w = omega arith

forks_cost : (n : ℕ) (at : Place) (g : Level) (copies : List ℕ) (ts : List (Task ℕ LocalRegion)) (ws : List Waiting) (w : Store) → Costs w (forks_at n at g copies ts ws w)
forks_cost zero at g copies ts ws w = falls_cost ws trap.Stack at w
forks_cost (suc d) at g copies ts ws w =
    (let c : Construct = record { outer = g; back = []; fell = None; copies = copies; left = d } in
    costs_later w (one_step w) (branches c ts ws (one_step w)) (omega arith) (branches_cost c ts ws (one_step w)))

ends_less : (n : ℕ) (ws : List Waiting) (r : Result ℕ LocalRegion) (w : Store) → waiting_work ws ≤ n → Lessens n w (ends ws r w)
ends_less n [] r w h = tt
ends_less n (for_value g ∷ ws) r w h = inr (omega arith, omega arith)
ends_less n (for_object m g ∷ ws) r w h = inr (omega arith, omega arith)
ends_less n (for_branch c k rest ∷ ws) r w h = costs_less n w w (branches (noted c (ended k r)) rest ws w) (omega arith) (branches_cost (noted c (ended k r)) rest ws w)

lands_less : (n : ℕ) (g : Level) (push : Value ℕ → List (Value ℕ)) (ws : List Waiting) (w : Store) (o : out ℕ LocalRegion (Result ℕ LocalRegion) Store)
    → Leaves w o → items_work g.items + waiting_work ws < n → Lessens n w (lands g push ws o)
lands_less n g push ws w (Done (Goes_on v f) u) h k = inr (h.steps, k)
lands_less n g push ws w (Done (Returns v) u) h k = lessens_later n w u (ends ws (Returns v) u) h.steps (ends_less n ws (Returns v) u (omega arith))
lands_less n g push ws w (out.Trapped t p u) h k = costs_less n w u (falls ws t p u) h.steps (falls_cost ws t p u)
lands_less n g push ws w (Stopped m a) h k = tt
lands_less n g push ws w (Lost u) h k = tt

-- the work of an expression and of a statement, put on the agenda
expr_parts : (e : TypedExpr) → expr_work e ≡ suc (exprs_work (operands_of e) + operation_work e)
expr_parts (typed at t (form.both a b)) = omega arith
expr_parts (typed at t (form.either a b)) = omega arith
expr_parts e = omega arith

stmt_parts : (s : TypedStmt) → stmt_work s ≡ suc (exprs_work (needs s) + finish_work s)
stmt_parts (statement at (stmt.foreach_parts k (of_array a) many s)) = omega arith
stmt_parts (statement at (stmt.foreach_parts k (of_part j) many s)) = omega arith
stmt_parts s = omega arith

each_work : (es : TypedExprs) (is : List Item) → items_work (each es is) ≡ exprs_work es + items_work is
each_work no_exprs is = omega arith
each_work (more_exprs e es) is = let rest = each_work es is in omega (arith, rest)

module _ (P : PlainProgram) where
  enters_cost : (d : ℕ) (o : Option PlainMember) (seen : ℕ × Regions) (vs : List (Value ℕ)) (own : Regions) (g : Level) (ws : List Waiting) (n : ℕ) (w : Store)
      → Costs w (enters P d o seen vs own g ws (after (Look n) w))
  enters_cost d None seen vs own g ws n w = omega arith
  enters_cost d (Some m) seen vs own g ws n w = omega arith

  called_cost : (b : Bool) (s : State) (at : Place) (ws : List Waiting) (w : Store) → Costs w s → Costs w (cond b (falls ws trap.Stack at w) s)
  called_cost true s at ws w h = falls_cost ws trap.Stack at w
  called_cost false s at ws w h = h

  calls_cost : (d : ℕ) (at : Place) (c r : ℕ) (own : Regions) (n : ℕ) (vs : List (Value ℕ)) (g : Level) (ws : List Waiting) (w : Store) → Costs w (calls P d at c r own n vs g ws w)
  calls_cost zero at c r own n vs g ws w = falls_cost ws trap.Stack at w
  calls_cost (suc d) at c r own n vs g ws w =
      (let o : Option PlainMember = row_member P (row_at P (seen_at P c n w).0 r) in
      called_cost (some_long own) (enters P d o (seen_at P c n w) (Object n ∷ vs) own g ws (after (Look n) w)) at ws w
      (enters_cost d o (seen_at P c n w) (Object n ∷ vs) own g ws n w))

  constructs_cost : (d c : ℕ) (o : Option PlainMember) (own : Regions) (v : Value ℕ) (vs : List (Value ℕ)) (g : Level) (ws : List Waiting) (w : Store)
      → Costs w (constructs P d o own v vs g ws (after (New (new_object P c own) true) w))
  constructs_cost d c None own v vs g ws w = omega arith
  constructs_cost d c (Some m) own v vs g ws w = omega arith

  creates_cost : (d : ℕ) (at : Place) (c : ℕ) (o : Option ℕ) (own : Regions) (vs : List (Value ℕ)) (g : Level) (ws : List Waiting) (w : Store) → Costs w (creates P d at c o own vs g ws w)
  creates_cost d at c None own vs g ws w = omega arith
  creates_cost zero at c (Some n) own vs g ws w = falls_cost ws trap.Stack at w
  creates_cost (suc d) at c (Some n) own vs g ws w = constructs_cost d c (member_at P n) own (name_made {M = LocalRegion} (answer w.heap (New (new_object P c own) true))) vs g ws w

  or_null_less : (n : ℕ) (at : Place) (o : Option ℕ) (ws : List Waiting) (w : Store) (k : ℕ → State) → ((m : ℕ) → Costs w (k m)) → Lessens n w (or_null at o ws w k)
  or_null_less n at None ws w k h = costs_less n w w (falls ws trap.Null at w) (omega arith) (falls_cost ws trap.Null at w)
  or_null_less n at (Some m) ws w k h = costs_less n w w (k m) (omega arith) (h m)

  cond_less : (n : ℕ) (w : Store) (b : Bool) (s t : State) → Lessens n w s → Lessens n w t → Lessens n w (cond b s t)
  cond_less n w true s t h k = h
  cond_less n w false s t h k = k

  operates_less : (n : ℕ) (e : TypedExpr) (g : Level) (ws : List Waiting) (w : Store) → operation_work e + (items_work g.items + waiting_work ws) ≤ n
      → Lessens n w (operates P e g ws w)
  operates_less n (typed at t (form.call e c r regions es)) g ws w h =
      (let own : Regions = map (concrete in_order (around g.frame)) regions in
      or_null_less n at (reference (slot_value g.operands (count es))) ws w
      (λ m. calls P g.left at c r own m (reverse (take (count es) g.operands)) (without (suc (count es)) g) ws w)
      (λ m. calls_cost g.left at c r own m (reverse (take (count es) g.operands)) (without (suc (count es)) g) ws w))
  operates_less n (typed at t (form.create es)) g ws w h =
      (let own : Regions = map (concrete in_order (around g.frame)) (class_in t).1 in
      let k : ℕ = (class_in t).0 in
      let s : State = creates P g.left at k (constructor_of P k) own (reverse (take (count es) g.operands)) (without (count es) g) ws w in
      costs_less n w w (cond (some_long own) (falls ws trap.Stack at w) s) (omega arith)
      (called_cost (some_long own) s at ws w (creates_cost g.left at k (constructor_of P k) own (reverse (take (count es) g.operands)) (without (count es) g) ws w)))
  operates_less n (typed at t (form.both a b)) g ws w h =
      cond_less n w (truth (slot_value g.operands 0)) (At (doing (evaluate b) (without 1 g)) ws w) (At (pushed (Boolean false) (without 1 g)) ws w)
      (inr (omega arith, omega arith)) (inr (omega arith, omega arith))
  operates_less n (typed at t (form.either a b)) g ws w h =
      cond_less n w (truth (slot_value g.operands 0)) (At (pushed (Boolean true) (without 1 g)) ws w) (At (doing (evaluate b) (without 1 g)) ws w)
      (inr (omega arith, omega arith)) (inr (omega arith, omega arith))
  operates_less n e g ws w h =
      lands_less n g (λ v. v ∷ drop (count (operands_of e)) g.operands) ws w (run sequential (applied P g.left e g.operands g.frame) w)
      (run_leaves (applied P g.left e g.operands g.frame) w) (omega arith)

  finishes_less : (n : ℕ) (s : TypedStmt) (g : Level) (ws : List Waiting) (w : Store) → finish_work s + (items_work g.items + waiting_work ws) ≤ n
      → Lessens n w (finishes P s g ws w)
  finishes_less n (statement at (stmt.block ss)) g ws w h = inr (omega arith, omega arith)
  finishes_less n (statement at (stmt.choice e s)) g ws w h =
      cond_less n w (truth (slot_value g.operands 0)) (At (doing (carry_out s) (without 1 g)) ws w) (At (without 1 g) ws w)
      (inr (omega arith, omega arith)) (inr (omega arith, omega arith))
  finishes_less n (statement at (stmt.choice_else e s t)) g ws w h =
      cond_less n w (truth (slot_value g.operands 0)) (At (doing (carry_out s) (without 1 g)) ws w) (At (doing (carry_out t) (without 1 g)) ws w)
      (inr (omega arith, omega arith)) (inr (omega arith, omega arith))
  finishes_less n (statement at (stmt.while_loop e s)) g ws w h = inr (omega arith, omega arith)
  finishes_less n (statement at (stmt.atomic effects ss)) g ws w h = inl (omega arith)
  finishes_less n (statement at (stmt.cobegin forking bs)) g ws w h =
      costs_less n w w (forks_at g.left at g (all_copies bs) (tasks_of bs g.frame) ws w) (omega arith) (forks_cost g.left at g (all_copies bs) (tasks_of bs g.frame) ws w)
  finishes_less n (statement at (stmt.foreach forking x start many s)) g ws w h =
      (let ts : List (Task ℕ LocalRegion) = iterations None x s g.frame (number (slot_value g.operands 1)) 0 (how_many (number (slot_value g.operands 0))) in
      costs_less n w w (forks_at g.left at (without 2 g) [] ts ws w) (omega arith) (forks_cost g.left at (without 2 g) [] ts ws w))
  finishes_less n (statement at (stmt.foreach_parts k (of_array a) many s)) g ws w h = inr (omega arith, omega arith)
  finishes_less n (statement at (stmt.foreach_parts k (of_part j) many s)) g ws w h = inr (omega arith, omega arith)
  finishes_less n s g ws w h =
      lands_less n g (λ v. drop (count (needs s)) g.operands) ws w (run sequential (finished P g.left s g.operands g.frame) w)
      (run_leaves (finished P g.left s g.operands g.frame) w) (omega arith)

  parts_cost : (at : Place) (k : ℕ) (s : TypedStmt) (g : Level) (ws : List Waiting) (w : Store) → Costs w (parts_at at k s g ws w)
  parts_cost at k s g ws w =
      forks_cost g.left at g [] (iterations (Some k) (k + 4) s g.frame (pos 0) 0 (how_many (number (slot_value g.frame.values (k + 3))))) ws w

  counts_less : (n : ℕ) (s : TypedStmt) (g : Level) (ws : List Waiting) (w : Store) → items_work g.items + waiting_work ws < n → Lessens n w (counts s g ws w)
  counts_less n (statement at (stmt.foreach_parts k (of_array a) many s)) g ws w h =
      or_null_less n at (reference (slot_value g.frame.values k)) ws w (λ m. parts_at at k s (with_length k m w g) ws (after (Look m) w))
      (λ m. costs_later w (after (Look m) w) (parts_at at k s (with_length k m w g) ws (after (Look m) w)) (omega arith)
      (parts_cost at k s (with_length k m w g) ws (after (Look m) w)))
  counts_less n (statement at (stmt.foreach_parts k (of_part j) many s)) g ws w h = costs_less n w w (parts_at at k s g ws w) (omega arith) (parts_cost at k s g ws w)
  counts_less n s g ws w h = inr (omega arith, h)

  ticks_cost : (t : ℕ) (e : TypedExpr) (s : TypedStmt) (g : Level) (ws : List Waiting) (w : Store) → Costs w (ticks t e s g ws w)
  ticks_cost zero e s g ws w = tt
  ticks_cost (suc t) e s g ws w = omega arith

  item_less : (n : ℕ) (i : Item) (g : Level) (ws : List Waiting) (w : Store) → item_work i + (items_work g.items + waiting_work ws) ≤ n → Lessens n w (does_item P i g ws w)
  item_less n (evaluate e) g ws w h =
      let parts = expr_parts e in let all = each_work (operands_of e) (operate e ∷ g.items) in inr (omega arith, omega (arith, parts, all))
  item_less n (operate e) g ws w h = operates_less n e g ws w h
  item_less n (carry_out s) g ws w h =
      let parts = stmt_parts s in let all = each_work (needs s) (finish s ∷ g.items) in inr (omega arith, omega (arith, parts, all))
  item_less n (finish s) g ws w h = finishes_less n s g ws w h
  item_less n (counted s) g ws w h = counts_less n s (record (without 1 g) { frame = counts_to s (slot_value g.operands 0) g.frame }) ws w (omega arith)
  item_less n (goes_on no_stmts) g ws w h = inr (omega arith, omega arith)
  item_less n (goes_on (more_stmts s ss)) g ws w h = inr (omega arith, omega arith)
  item_less n (test e s) g ws w h = inr (omega arith, omega arith)
  item_less n (tick e s) g ws w h =
      cond_less n w (truth (slot_value g.operands 0)) (ticks w.ticks e s (without 1 g) ws w) (At (without 1 g) ws w)
      (costs_less n w w (ticks w.ticks e s (without 1 g) ws w) (omega arith) (ticks_cost w.ticks e s (without 1 g) ws w)) (inr (omega arith, omega arith))
  item_less n leave g ws w h = inl (omega arith)

  next_less : (n : ℕ) (is : List Item) (g : Level) (ws : List Waiting) (w : Store) → items_work is + waiting_work ws ≤ n → Lessens n w (next_item P is g ws w)
  next_less n [] g ws w h = ends_less n ws (Goes_on none g.frame) w (omega arith)
  next_less n (i ∷ is) g ws w h = item_less n i (record g { items = is }) ws w (omega arith)

  pub step_less : (g : Level) (ws : List Waiting) (w : Store) → Lessens (items_work g.items + waiting_work ws) w (step P (At g ws w))
  step_less g ws w = next_less (items_work g.items + waiting_work ws) g.items g ws w (omega arith)

-- a walker after a step that cost nothing
pub less_work : (L : Limits) (j : Walker) (s : State) (n : ℕ) (w : Store) → StandsAt L j s → Lessens n w s → j.store.steps ≤ w.steps → work_left j < n
less_work L j (At g ws v) n w x (inl h) k = let steps = x.2.steps in absurd (omega (arith, steps))
less_work L j (At g ws v) n w x (inr h) k =
    let same : work_left j ≡ items_work g.items + waiting_work ws =
    ap (λ (b : Level). items_work b.items + waiting_work (map plain_waiting j.waiting)) x.0 ∙ ap (λ us. items_work g.items + waiting_work us) x.1 in
    let less = h.1 in
    omega (arith, same, less)
less_work L j (Off o) n w x h k = absurd x

-- costs are not given back
pub no_less : (L : Limits) (j : Walker) (s : State) (n : ℕ) (w : Store) → StandsAt L j s → Lessens n w s → w.steps ≤ j.store.steps
no_less L j (At g ws v) n w x (inl h) = let steps = x.2.steps in omega (arith, steps)
no_less L j (At g ws v) n w x (inr h) = let steps = x.2.steps in let later = h.0 in omega (arith, steps, later)
no_less L j (Off o) n w x h = absurd x
