-- A step keeps what is left of the meaning.
use Rattle.std.proofs.Common.{◌≡◌, ℕ, zero, suc, ◌+◌, pos, Bool, true, false, cond, List, [], ◌∷◌, map, reverse, take, drop, refl, ap, ◌∙◌, Some, None}
use Rattle.lang_base.specs.declared.effect.Effect.{Effect}
use Rattle.lang_base.specs.declared.place.Place.{Place}
use Rattle.lang_typed.specs.declared.stmt.Forking.TheVariants.{Deterministic}
use Rattle.lang_typed.specs.Plain.{PlainProgram, of_array, of_part, TypedExpr, typed, TypedStmt, statement, TypedStmts, no_stmts, more_stmts}
use Rattle.lang_typed.specs.Plain.{ExprForm as form}
use Rattle.lang_typed.specs.Plain.{StmtForm as stmt}
use Rattle.lang_meaning.specs.Values.{Value, Boolean}
use Rattle.lang_meaning.specs.Actions.{Frame, Look, Rest, Enter, Exit}
use Rattle.lang_meaning.specs.Core.{Result, Goes_on, Returns, Prog, Act, Done, bind, rounded, tested, run}
use Rattle.lang_meaning.specs.Counts.{number, truth, reference, slot_value}
use Rattle.lang_meaning.specs.Elision.{LocalRegion, in_order, Store, after, one_tick, sequential}
use Rattle.lang_meaning.specs.Expressions.{gives, none, class_in, of_expr}
use Rattle.lang_meaning.specs.Regions.{around, concrete, concrete_effect}
use Rattle.lang_meaning.specs.Statements.{with_value, part_begun, part_taken_over, parts, parts_of_array, of_stmt, of_stmts}
use Rattle.exec_walker.specs.Agenda.{Item, evaluate, operate, carry_out, finish, counted, goes_on, test, tick, leave, deeper_at, operands_of, count, applied, needs, finished, counts_to}
use Rattle.exec_walker.specs.Walk.{Level, Waiting, State, At, Off, pushed, without, doing, operates, finishes, parts_at, ticks, does_item, next_item, step, walk, lands, with_length}
use Rattle.exec_walker.proofs.Runs.{proceeds, bind_assoc, bind_same, then_run}
use Rattle.exec_walker.proofs.Residual.{Ran, again, items_run, whole, state_run}
use Rattle.exec_walker.proofs.WalkEnds.{ends_kept, lost_kept, lands_kept}
use Rattle.exec_walker.proofs.Expands.{expands, expands_stmt}
use Rattle.exec_walker.proofs.Loops.{again_is}
use Rattle.exec_walker.proofs.Forks.{cobegin_kept, forks_kept}
use Rattle.exec_walker.proofs.WalkCalls.{calls_kept, creates_kept, null_kept}

module _ (P : PlainProgram) where
  -- what stands for an item in front of a level
  abbrev Stands : Item → Level → List Waiting → Store → State → Type 0
  Stands i g ws w s = whole P ws (items_run P g.left (i ∷ g.items) g.operands g.frame w) ≡ state_run P s

  -- an operation and a statement that are run as they are
  operated : (e : TypedExpr) (g : Level) (ws : List Waiting) (w : Store)
      → Stands (operate e) g ws w (lands g (λ v. v ∷ drop (count (operands_of e)) g.operands) ws (run sequential (applied P g.left e g.operands g.frame) w))
  operated e g ws w = lands_kept P g (λ v. v ∷ drop (count (operands_of e)) g.operands) ws (run sequential (applied P g.left e g.operands g.frame) w)

  performed : (s : TypedStmt) (g : Level) (ws : List Waiting) (w : Store)
      → Stands (finish s) g ws w (lands g (λ v. drop (count (needs s)) g.operands) ws (run sequential (finished P g.left s g.operands g.frame) w))
  performed s g ws w = lands_kept P g (λ v. drop (count (needs s)) g.operands) ws (run sequential (finished P g.left s g.operands g.frame) w)

  -- a test leads to one piece or another
  chosen : (b : Bool) (p q : Prog ℕ LocalRegion) (K : Value ℕ → Frame ℕ LocalRegion → Store → Ran) (s t : State) (ws : List Waiting) (w : Store)
      → whole P ws (bind (run sequential q w) (λ r u. proceeds K r u)) ≡ state_run P s
      → whole P ws (bind (run sequential p w) (λ r u. proceeds K r u)) ≡ state_run P t
      → whole P ws (bind (run sequential (elim b as (λ b. Prog ℕ LocalRegion) [ false ↦ p | true ↦ q ]) w) (λ r u. proceeds K r u)) ≡ state_run P (cond b s t)
  chosen true p q K s t ws w h k = h
  chosen false p q K s t ws w h k = k

  operates_kept : (e : TypedExpr) (g : Level) (ws : List Waiting) (w : Store) → Stands (operate e) g ws w (operates P e g ws w)
  operates_kept (typed at t (form.call e c r regions es)) g ws w =
      calls_kept P g.left at (slot_value g.operands (count es)) c r (map (concrete in_order (around g.frame)) regions) (reverse (take (count es) g.operands))
      (without (suc (count es)) g) ws w
  operates_kept (typed at t (form.create es)) g ws w =
      creates_kept P g.left at (class_in t).0 (map (concrete in_order (around g.frame)) (class_in t).1) (reverse (take (count es) g.operands)) (without (count es) g) ws w
  operates_kept (typed at t (form.both a b)) g ws w =
      chosen (truth (slot_value g.operands 0)) (gives (Boolean false) g.frame) (of_expr in_order P (deeper_at P g.left) b g.frame)
      (λ v f x. items_run P g.left g.items (v ∷ drop 1 g.operands) f x) (At (doing (evaluate b) (without 1 g)) ws w) (At (pushed (Boolean false) (without 1 g)) ws w) ws w refl refl
  operates_kept (typed at t (form.either a b)) g ws w =
      chosen (truth (slot_value g.operands 0)) (of_expr in_order P (deeper_at P g.left) b g.frame) (gives (Boolean true) g.frame)
      (λ v f x. items_run P g.left g.items (v ∷ drop 1 g.operands) f x) (At (pushed (Boolean true) (without 1 g)) ws w) (At (doing (evaluate b) (without 1 g)) ws w) ws w refl refl
  operates_kept e g ws w = operated e g ws w

  atomic_kept : (at : Place) (effects : List Effect) (ss : TypedStmts) (g : Level) (ws : List Waiting) (w : Store)
      → Stands (finish (statement at (stmt.atomic effects ss))) g ws w (finishes P (statement at (stmt.atomic effects ss)) g ws w)
  atomic_kept at effects ss g ws w =
      ap (whole P ws) (then_run sequential (of_stmts in_order P (deeper_at P g.left) ss g.frame) (λ v f. Act Exit (λ c. gives none f))
      (λ v f x. items_run P g.left g.items g.operands f x)
      (after (Enter (map (concrete_effect in_order (around g.frame)) effects)) (after Rest w)))

  finishes_kept : (s : TypedStmt) (g : Level) (ws : List Waiting) (w : Store) → Stands (finish s) g ws w (finishes P s g ws w)
  finishes_kept (statement at (stmt.block ss)) g ws w = refl
  finishes_kept (statement at (stmt.choice e s)) g ws w =
      chosen (truth (slot_value g.operands 0)) (gives none g.frame) (of_stmt in_order P (deeper_at P g.left) s g.frame)
      (λ v f x. items_run P g.left g.items (drop 1 g.operands) f x) (At (doing (carry_out s) (without 1 g)) ws w) (At (without 1 g) ws w) ws w refl refl
  finishes_kept (statement at (stmt.choice_else e s t)) g ws w =
      chosen (truth (slot_value g.operands 0)) (of_stmt in_order P (deeper_at P g.left) t g.frame) (of_stmt in_order P (deeper_at P g.left) s g.frame)
      (λ v f x. items_run P g.left g.items (drop 1 g.operands) f x) (At (doing (carry_out s) (without 1 g)) ws w) (At (doing (carry_out t) (without 1 g)) ws w) ws w refl refl
  finishes_kept (statement at (stmt.while_loop e s)) g ws w = refl
  finishes_kept (statement at (stmt.atomic effects ss)) g ws w = atomic_kept at effects ss g ws w
  finishes_kept (statement at (stmt.cobegin forking bs)) g ws w = cobegin_kept P g.left at forking bs g ws w
  finishes_kept (statement at (stmt.foreach forking x start many s)) g ws w =
      forks_kept P g.left at forking None x s (number (slot_value g.operands 1)) (number (slot_value g.operands 0)) (without 2 g) ws w
  finishes_kept (statement at (stmt.foreach_parts k (of_array a) many s)) g ws w =
      ap (whole P ws) (then_run sequential (of_expr in_order P (deeper_at P g.left) many (part_begun k (slot_value g.operands 0) g.frame))
      (λ u h. parts_of_array (deeper_at P g.left) at k s (with_value h (k + 3) u)) (λ v f x. items_run P g.left g.items (drop 1 g.operands) f x) w)
  finishes_kept (statement at (stmt.foreach_parts k (of_part j) many s)) g ws w =
      ap (whole P ws) (then_run sequential (of_expr in_order P (deeper_at P g.left) many (part_taken_over k j g.frame))
      (λ u f. (let h : Frame ℕ LocalRegion = with_value f (k + 3) u in parts (deeper_at P g.left) at k s (with_value h (k + 2) (slot_value h.values (j + 2)))))
      (λ v f x. items_run P g.left g.items g.operands f x) w)
  finishes_kept s g ws w = performed s g ws w

  parts_kept : (at : Place) (k : ℕ) (s : TypedStmt) (g : Level) (ws : List Waiting) (w : Store)
      → whole P ws (bind (run sequential (parts (deeper_at P g.left) at k s g.frame) w) (λ r u. proceeds (λ v f x. items_run P g.left g.items g.operands f x) r u))
      ≡ state_run P (parts_at at k s g ws w)
  parts_kept at k s g ws w = forks_kept P g.left at Deterministic (Some k) (k + 4) s (pos 0) (number (slot_value g.frame.values (k + 3))) g ws w

  counted_kept : (s : TypedStmt) (g : Level) (ws : List Waiting) (w : Store) → Stands (counted s) g ws w (does_item P (counted s) g ws w)
  counted_kept (statement at (stmt.foreach_parts k (of_array a) many s)) g ws w =
      null_kept P at (reference (slot_value (with_value g.frame (k + 3) (slot_value g.operands 0)).values k)) _ _ (λ v f x. items_run P g.left g.items (drop 1 g.operands) f x) ws w
      (λ n. parts_kept at k s (with_length k n w (record (without 1 g) { frame = with_value g.frame (k + 3) (slot_value g.operands 0) })) ws (after (Look n) w))
  counted_kept (statement at (stmt.foreach_parts k (of_part j) many s)) g ws w =
      parts_kept at k s (record (without 1 g) { frame = counts_to (statement at (stmt.foreach_parts k (of_part j) many s)) (slot_value g.operands 0) g.frame }) ws w
  counted_kept s g ws w = refl

  test_kept : (e : TypedExpr) (s : TypedStmt) (g : Level) (ws : List Waiting) (w : Store) → Stands (test e s) g ws w (does_item P (test e s) g ws w)
  test_kept e s g ws w =
      ap (whole P ws) (
      ap (λ o. bind o K) (again_is T B g.frame w)
      ∙ bind_assoc (run sequential (T g.frame) w) (λ r v. tested (λ v. one_tick v.ticks v) (λ h u. run sequential (B h) u) (λ h u. again P g.left e s h u) r v) K
      ∙ bind_same (run sequential (T g.frame) w) _ _ each_result)
    where
      T : Frame ℕ LocalRegion → Prog ℕ LocalRegion
      T h = of_expr in_order P (deeper_at P g.left) e h

      B : Frame ℕ LocalRegion → Prog ℕ LocalRegion
      B h = of_stmt in_order P (deeper_at P g.left) s h

      K : Result ℕ LocalRegion → Store → Ran
      K r u = proceeds (λ v f x. items_run P g.left g.items g.operands f x) r u

      each_result : (r : Result ℕ LocalRegion) (u : Store)
          → bind (tested (λ v. one_tick v.ticks v) (λ h u. run sequential (B h) u) (λ h u. again P g.left e s h u) r u) K
          ≡ proceeds (λ v f x. items_run P g.left (tick e s ∷ g.items) (v ∷ g.operands) f x) r u
      each_result (Goes_on v f) u = refl
      each_result (Returns v) u = refl

  ticks_kept : (n : ℕ) (e : TypedExpr) (s : TypedStmt) (g : Level) (ws : List Waiting) (w : Store)
      → whole P ws (bind (bind (one_tick n w) (λ u w'. bind (run sequential (of_stmt in_order P (deeper_at P g.left) s g.frame) w') (λ r w''. rounded (λ h v. again P g.left e s h v) r w'')))
      (λ r u. proceeds (λ v f x. items_run P g.left g.items g.operands f x) r u))
      ≡ state_run P (ticks n e s g ws w)
  ticks_kept zero e s g ws w = lost_kept P ws w
  ticks_kept (suc n) e s g ws w =
      ap (whole P ws) (
      bind_assoc (run sequential (of_stmt in_order P (deeper_at P g.left) s g.frame) v) (λ r u. rounded (λ h v. again P g.left e s h v) r u) K
      ∙ bind_same (run sequential (of_stmt in_order P (deeper_at P g.left) s g.frame) v) _ _ each_result)
    where
      v : Store
      v = record w { steps = suc w.steps; ticks = n }

      K : Result ℕ LocalRegion → Store → Ran
      K r u = proceeds (λ v f x. items_run P g.left g.items g.operands f x) r u

      each_result : (r : Result ℕ LocalRegion) (u : Store)
          → bind (rounded (λ h v. again P g.left e s h v) r u) K ≡ proceeds (λ v f x. items_run P g.left (test e s ∷ g.items) g.operands f x) r u
      each_result (Goes_on v f) u = refl
      each_result (Returns v) u = refl

  tick_kept : (b : Bool) (e : TypedExpr) (s : TypedStmt) (g : Level) (ws : List Waiting) (w : Store) (x : Value ℕ)
      → whole P ws (bind (elim b as (λ b. Ran) [
        | false ↦ Done (Goes_on x g.frame) w
        | true ↦ bind (one_tick w.ticks w) (λ u w'. bind (run sequential (of_stmt in_order P (deeper_at P g.left) s g.frame) w') (λ r w''. rounded (λ h v. again P g.left e s h v) r w''))
      ]) (λ r u. proceeds (λ v f x. items_run P g.left g.items g.operands f x) r u))
      ≡ state_run P (cond b (ticks w.ticks e s g ws w) (At g ws w))
  tick_kept true e s g ws w x = ticks_kept w.ticks e s g ws w
  tick_kept false e s g ws w x = refl

  item_kept : (i : Item) (g : Level) (ws : List Waiting) (w : Store) → Stands i g ws w (does_item P i g ws w)
  item_kept (evaluate e) g ws w = ap (whole P ws) (expands P g.left e g.items g.operands g.frame w)
  item_kept (operate e) g ws w = operates_kept e g ws w
  item_kept (carry_out s) g ws w = ap (whole P ws) (expands_stmt P g.left s g.items g.operands g.frame w)
  item_kept (finish s) g ws w = finishes_kept s g ws w
  item_kept (counted s) g ws w = counted_kept s g ws w
  item_kept (goes_on no_stmts) g ws w = refl
  item_kept (goes_on (more_stmts s ss)) g ws w =
      ap (whole P ws) (then_run sequential (of_stmt in_order P (deeper_at P g.left) s g.frame) (λ v f. of_stmts in_order P (deeper_at P g.left) ss f)
      (λ v f x. items_run P g.left g.items g.operands f x) w)
  item_kept (test e s) g ws w = test_kept e s g ws w
  item_kept (tick e s) g ws w = tick_kept (truth (slot_value g.operands 0)) e s (without 1 g) ws w (slot_value g.operands 0)
  item_kept leave g ws w = refl

  next_kept : (is : List Item) (g : Level) (ws : List Waiting) (w : Store)
      → whole P ws (items_run P g.left is g.operands g.frame w) ≡ state_run P (next_item P is g ws w)
  next_kept [] g ws w = ends_kept P ws (Goes_on none g.frame) w
  next_kept (i ∷ is) g ws w = item_kept i (record g { items = is }) ws w

  pub step_kept : (s : State) → state_run P s ≡ state_run P (step P s)
  step_kept (At g ws w) = next_kept g.items g ws w
  step_kept (Off o) = refl

  pub walk_kept : (n : ℕ) (s : State) → state_run P s ≡ state_run P (walk P n s)
  walk_kept zero s = refl
  walk_kept (suc n) s = step_kept s ∙ walk_kept n (step P s)
