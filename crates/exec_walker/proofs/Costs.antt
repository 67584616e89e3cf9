-- What is left of the meaning gives no costs back.
use Rattle.std.proofs.Common.{◌≡◌, ◌<◌, ℕ, Bool, true, false, List, [], ◌∷◌, ◌++◌, refl, ap, ◌∙◌, arith, ◌⊎◌, inl, inr, cond, ◌||◌, nat_lt}
use Rattle.std.proofs.lemmas.Bool.{lt-ltb}
use Rattle.lang_typed.specs.Plain.{PlainProgram, TypedExpr, TypedStmt}
use Rattle.lang_meaning.specs.Values.{Value}
use Rattle.lang_meaning.specs.Actions.{Frame, Task, Ending, Exit}
use Rattle.lang_meaning.specs.Asking.{meaning}
use Rattle.lang_meaning.specs.Core.{Result, Goes_on, Returns, Prog, Ret, Act, Again, Done, Stopped, Lost, bind, run}
use Rattle.lang_meaning.specs.Core.{Out as out}
use Rattle.lang_meaning.specs.Counts.{slot_value, brought}
use Rattle.lang_meaning.specs.Elision.{LocalRegion, in_order, Store, one_step, at_end, sequential, judged}
use Rattle.lang_meaning.specs.Expressions.{gives, none, of_expr}
use Rattle.lang_meaning.specs.Outcomes.{Limited, Came, joined_or, first_trap, all_locals}
use Rattle.lang_meaning.specs.Statements.{joined, of_stmt, of_stmts, begun}
use Rattle.exec_walker.specs.Agenda.{Item, evaluate, operate, carry_out, finish, counted, goes_on, test, tick, leave, deeper_at, applied, finished, parted}
use Rattle.exec_walker.specs.Walk.{Level, Construct, Waiting, for_value, for_object, for_branch, root_work, value_of, first_or}
use Rattle.exec_walker.proofs.Runs.{proceeds}
use Rattle.exec_walker.proofs.Residual.{Ran, again, item_run, stacked, items_run, level_run, with_operand, rest_run, joins_run, whole}
use Rattle.exec_walker.proofs.Loops.{Later, now, Leaves, leaves_bind, stepped, end_leaves, tested_leaves, run_leaves}
use Rattle.lang_base.specs.declared.outcome.Limits.{Limits}

or_true : (b : Bool) → (b || true) ≡ true
or_true true = refl
or_true false = refl

module _ (P : PlainProgram) where
  abbrev expr : ℕ → TypedExpr → Frame ℕ LocalRegion → Prog ℕ LocalRegion
  expr d e f = of_expr in_order P (deeper_at P d) e f

  abbrev stmt : ℕ → TypedStmt → Frame ℕ LocalRegion → Prog ℕ LocalRegion
  stmt d s f = of_stmt in_order P (deeper_at P d) s f

  abbrev looped : ℕ → TypedExpr → TypedStmt → Frame ℕ LocalRegion → Prog ℕ LocalRegion
  looped d e s f = Again (λ g. expr d e g) (λ g. stmt d s g) f (λ r. Ret r)

  item_leaves : (d : ℕ) (i : Item) (vs : List (Value ℕ)) (f : Frame ℕ LocalRegion) (w : Store) → Leaves w (item_run P d i vs f w)
  item_leaves d (evaluate e) vs f w = run_leaves (expr d e f) w
  item_leaves d (operate e) vs f w = run_leaves (applied P d e vs f) w
  item_leaves d (carry_out s) vs f w = run_leaves (stmt d s f) w
  item_leaves d (finish s) vs f w = run_leaves (finished P d s vs f) w
  item_leaves d (counted s) vs f w = run_leaves (parted P d s vs f) w
  item_leaves d (goes_on ss) vs f w = run_leaves (of_stmts in_order P (deeper_at P d) ss f) w
  item_leaves d (test e s) vs f w = run_leaves (looped d e s f) w
  item_leaves d (tick e s) vs f w =
      tested_leaves (λ g v. run sequential (stmt d s g) v) (λ g v. again P d e s g v) (λ g v. run_leaves (stmt d s g) v) (λ g v. run_leaves (looped d e s g) v)
      (Goes_on (slot_value vs 0) f) w
  item_leaves d leave vs f w = run_leaves (Act Exit (λ c. gives none f)) w

  proceeds_leave : (k : Value ℕ → Frame ℕ LocalRegion → Store → Ran) → ((v : Value ℕ) (g : Frame ℕ LocalRegion) (x : Store) → Leaves x (k v g x))
      → (r : Result ℕ LocalRegion) (u : Store) → Leaves u (proceeds k r u)
  proceeds_leave k h (Goes_on v g) u = h v g u
  proceeds_leave k h (Returns v) u = now u

  items_leave : (d : ℕ) (is : List Item) (vs : List (Value ℕ)) (f : Frame ℕ LocalRegion) (w : Store) → Leaves w (items_run P d is vs f w)
  items_leave d [] vs f w = now w
  items_leave d (i ∷ is) vs f w =
      leaves_bind w (item_run P d i vs f w) (λ r u. proceeds (λ v g x. items_run P d is (stacked i vs v) g x) r u) (item_leaves d i vs f w)
      (λ r u h. proceeds_leave (λ v g x. items_run P d is (stacked i vs v) g x) (λ v g x. items_leave d is (stacked i vs v) g x) r u)

  joins_leave : (c : Construct) (xs : List (Ending ℕ)) (w : Store) → Leaves w (joins_run P c xs w)
  joins_leave c xs w =
      (let p : Prog ℕ LocalRegion = joined c.copies c.outer.frame (brought {M = LocalRegion} (joined_or (first_or c.fell (first_trap xs)) (c.back ++ all_locals xs))) in
      leaves_bind w (run sequential p w) (λ r u. proceeds (λ v g x. items_run P c.outer.left c.outer.items c.outer.operands g x) r u) (run_leaves p w)
      (λ r u h. proceeds_leave (λ v g x. items_run P c.outer.left c.outer.items c.outer.operands g x)
      (λ v g x. items_leave c.outer.left c.outer.items c.outer.operands g x) r u))

  rest_leaves : (d : ℕ) (ts : List (Task ℕ LocalRegion)) (w : Store) → Leaves w (rest_run P d ts w)
  rest_leaves d [] w = now w
  rest_leaves d (t ∷ ts) w =
      (let p : Prog ℕ LocalRegion = meaning in_order P d t.work.stmts (begun t.work.takes t.frame) in
      leaves_bind {V = Ending ℕ} {U = List (Ending ℕ)} w (at_end t.work (run sequential p (one_step w))) (λ x v. bind (rest_run P d ts v) (λ xs u. Done (x ∷ xs) u))
      (stepped {V = Ending ℕ} w (at_end t.work (run sequential p (one_step w))) (end_leaves t.work (one_step w) (run sequential p (one_step w)) (run_leaves p (one_step w))))
      (λ x v h. leaves_bind {V = List (Ending ℕ)} {U = List (Ending ℕ)} v (rest_run P d ts v) (λ xs u. Done (x ∷ xs) u) (rest_leaves d ts v) (λ xs u k. now u)))

  whole_leaves : (ws : List Waiting) (w : Store) (o : Ran) → Leaves w o → Leaves w (whole P ws o)
  whole_leaves [] w o h = end_leaves root_work w o h
  whole_leaves (for_value g ∷ ws) w o h =
      whole_leaves ws w (bind o (λ r u. with_operand P (value_of r) g u))
      (leaves_bind w o (λ r u. with_operand P (value_of r) g u) h (λ r u k. items_leave g.left g.items (value_of r ∷ g.operands) g.frame u))
  whole_leaves (for_object n g ∷ ws) w o h =
      whole_leaves ws w (bind o (λ r u. with_operand P n g u)) (leaves_bind w o (λ r u. with_operand P n g u) h (λ r u k. items_leave g.left g.items (n ∷ g.operands) g.frame u))
  whole_leaves (for_branch c k ts ∷ ws) w o h =
      (let J : Ending ℕ → List (Ending ℕ) → Store → Ran = λ x xs v. joins_run P c (x ∷ xs) (one_step v) in
      whole_leaves ws w (bind (at_end k o) (λ x u. bind (rest_run P c.left ts u) (J x)))
      (leaves_bind {V = Ending ℕ} w (at_end k o) (λ x u. bind (rest_run P c.left ts u) (J x)) (end_leaves k w o h) (λ x u l.
      leaves_bind {V = List (Ending ℕ)} u (rest_run P c.left ts u) (J x) (rest_leaves c.left ts u) (λ xs v m.
      stepped v (J x xs v) (joins_leave c (x ∷ xs) (one_step v))))))

  over_limits : (L : Limits) (w v : Store) → Later w v → (L.steps < w.steps) ⊎ (L.cells < w.cells) → (nat_lt L.steps v.steps || nat_lt L.cells v.cells) ≡ true
  over_limits L w v h (inl k) = ap (λ b. b || nat_lt L.cells v.cells) (lt-ltb L.steps v.steps (omega arith))
  over_limits L w v h (inr k) = ap (λ b. nat_lt L.steps v.steps || b) (lt-ltb L.cells v.cells (omega arith)) ∙ or_true (nat_lt L.steps v.steps)

  judged_over : (L : Limits) (w : Store) (o : out ℕ LocalRegion (Ending ℕ) Store) → Leaves w o → (L.steps < w.steps) ⊎ (L.cells < w.cells)
      → judged L o ≡ Limited L.steps L.cells
  judged_over L w (Done x v) h k = ap (λ b. cond b (Limited L.steps L.cells) (Came x v.output v.steps v.cells)) (over_limits L w v h k)
  judged_over L w (out.Trapped t p v) h k = refl
  judged_over L w (Stopped n a) h k = refl
  judged_over L w (Lost v) h k = refl

  pub state_over : (L : Limits) (g : Level) (ws : List Waiting) (w : Store) → (L.steps < w.steps) ⊎ (L.cells < w.cells)
      → judged L (whole P ws (level_run P g w)) ≡ Limited L.steps L.cells
  state_over L g ws w k = judged_over L w (whole P ws (level_run P g w)) (whole_leaves ws w (level_run P g w) (items_leave g.left g.items g.operands g.frame w)) k
