-- A fork is its branches, begun one after the other.
use Rattle.std.proofs.Common.{◌≡◌, ℕ, zero, suc, ◌-◌, ℤ, List, [], ◌∷◌, refl, ap, ◌∙◌, Option, None}
use Rattle.lang_base.specs.declared.place.Place.{Place}
use Rattle.lang_base.specs.declared.value.Trap.TheVariants as trap
use Rattle.lang_typed.specs.declared.stmt.Forking.{Forking}
use Rattle.lang_typed.specs.Plain.{PlainProgram, TypedStmt, statement, no_stmts, more_stmts, TypedBranches, no_branches, more_branches}
use Rattle.lang_typed.specs.Plain.{StmtForm as stmt}
use Rattle.lang_meaning.specs.Actions.{Frame, Task, Ending}
use Rattle.lang_meaning.specs.Asking.{meaning}
use Rattle.lang_meaning.specs.Core.{Result, Prog, Split, Done, bind, each_from, run}
use Rattle.lang_meaning.specs.Core.{Out as out}
use Rattle.lang_meaning.specs.Counts.{Brought, brought, how_many}
use Rattle.lang_meaning.specs.Elision.{LocalRegion, in_order, Store, one_by_one, one_step, sequential}
use Rattle.lang_meaning.specs.Outcomes.{joined as joined_ends}
use Rattle.lang_meaning.specs.Statements.{joined, tasks_of, all_copies, branch_at, iterations, numbered_frame, begun, forks, of_stmt}
use Rattle.exec_walker.specs.Agenda.{deeper_at}
use Rattle.exec_walker.specs.Walk.{Level, Waiting, forks_at, branches}
use Rattle.exec_walker.proofs.Runs.{proceeds, bind_assoc}
use Rattle.exec_walker.proofs.Residual.{Ran, items_run, branch_runs, whole, state_run}
use Rattle.exec_walker.proofs.WalkEnds.{fell_kept, branches_kept}

each_shift : {A B : Type 0} (F : ℕ → B) (i : ℕ) (xs : List A) → each_from F (suc i) xs ≡ each_from (λ j. F (suc j)) i xs
each_shift F i [] = refl
each_shift F i (x ∷ xs) = ap (λ ys. F (suc i) ∷ ys) (each_shift F (suc i) xs)

module _ (P : PlainProgram) (d : ℕ) where
  cobegin_runs : (bs : TypedBranches) (f : Frame ℕ LocalRegion)
      → each_from (λ i v. run sequential (meaning in_order P d (branch_at bs i) (record f { left = f.left - 1 })) v) 0 (tasks_of bs f) ≡ branch_runs P d (tasks_of bs f)
  cobegin_runs no_branches f = refl
  cobegin_runs (more_branches copies s bs) f =
      ap (λ ys. (λ v. run sequential (meaning in_order P d (more_stmts s no_stmts) (record f { left = f.left - 1 })) v) ∷ ys)
      (each_shift (λ i v. run sequential (meaning in_order P d (branch_at (more_branches copies s bs) i) (record f { left = f.left - 1 })) v) 0 (tasks_of bs f) ∙ cobegin_runs bs f)

  foreach_runs : (takes : Option ℕ) (x : ℕ) (s : TypedStmt) (f : Frame ℕ LocalRegion) (start : ℤ) (i n : ℕ)
      → each_from (λ i v. run sequential (meaning in_order P d (more_stmts s no_stmts) (begun takes (record (numbered_frame x start i f) { left = f.left - 1 }))) v) i
      (iterations takes x s f start i n)
      ≡ branch_runs P d (iterations takes x s f start i n)
  foreach_runs takes x s f start i zero = refl
  foreach_runs takes x s f start i (suc n) =
      ap (λ ys. (λ v. run sequential (meaning in_order P d (more_stmts s no_stmts) (begun takes (record (numbered_frame x start i f) { left = f.left - 1 }))) v) ∷ ys)
      (foreach_runs takes x s f start (suc i) n)

  -- a fork of these tasks
  split_kept : (forking : Forking) (ts : List (Task ℕ LocalRegion)) (bs : ℕ → Prog ℕ LocalRegion) (copies : List ℕ) (g : Level) (ws : List Waiting) (w : Store)
      → each_from (λ i v. run sequential (bs i) v) 0 ts ≡ branch_runs P d ts
      → whole P ws (bind (run sequential (Split forking ts bs (joined copies g.frame)) w) (λ r u. proceeds (λ v f x. items_run P g.left g.items g.operands f x) r u))
      ≡ state_run P (branches (record { outer = g; back = []; fell = None; copies = copies; left = d }) ts ws (one_step w))
  split_kept forking ts bs copies g ws w same =
      ap (whole P ws) (
      bind_assoc (bind (one_by_one ts (each_from (λ i v. run sequential (bs i) v) 0 ts) (one_step w)) F) J K
      ∙ bind_assoc (one_by_one ts (each_from (λ i v. run sequential (bs i) v) 0 ts) (one_step w)) F (λ x v. bind (J x v) K)
      ∙ ap (λ ms. bind (one_by_one ts ms (one_step w)) (λ xs v. bind (F xs v) (λ x u. bind (J x u) K))) same)
      ∙ branches_kept P (record { outer = g; back = []; fell = None; copies = copies; left = d }) ts ws (one_step w)
    where
      F : List (Ending ℕ) → Store → out ℕ LocalRegion (Brought ℕ) Store
      F xs v = Done (brought {M = LocalRegion} (joined_ends xs)) (one_step v)

      J : Brought ℕ → Store → Ran
      J x v = run sequential (joined copies g.frame x) v

      K : Result ℕ LocalRegion → Store → Ran
      K r u = proceeds (λ v f x. items_run P g.left g.items g.operands f x) r u

-- where the level may go so many calls deeper
module _ (P : PlainProgram) where
  pub cobegin_kept : (d : ℕ) (at : Place) (forking : Forking) (bs : TypedBranches) (g : Level) (ws : List Waiting) (w : Store)
      → whole P ws (bind (run sequential (of_stmt in_order P (deeper_at P d) (statement at (stmt.cobegin forking bs)) g.frame) w)
      (λ r u. proceeds (λ v f x. items_run P g.left g.items g.operands f x) r u))
      ≡ state_run P (forks_at d at g (all_copies bs) (tasks_of bs g.frame) ws w)
  cobegin_kept zero at forking bs g ws w = fell_kept P ws trap.Stack at w
  cobegin_kept (suc d) at forking bs g ws w =
      split_kept P d forking (tasks_of bs g.frame) (λ i. meaning in_order P d (branch_at bs i) (record g.frame { left = g.frame.left - 1 })) (all_copies bs) g ws w
      (cobegin_runs P d bs g.frame)

  pub forks_kept : (d : ℕ) (at : Place) (forking : Forking) (takes : Option ℕ) (x : ℕ) (s : TypedStmt) (start many : ℤ) (g : Level) (ws : List Waiting) (w : Store)
      → whole P ws (bind (run sequential (forks (deeper_at P d) at forking takes x s start many g.frame) w)
      (λ r u. proceeds (λ v f x. items_run P g.left g.items g.operands f x) r u))
      ≡ state_run P (forks_at d at g [] (iterations takes x s g.frame start 0 (how_many many)) ws w)
  forks_kept zero at forking takes x s start many g ws w = fell_kept P ws trap.Stack at w
  forks_kept (suc d) at forking takes x s start many g ws w =
      split_kept P d forking (iterations takes x s g.frame start 0 (how_many many))
      (λ i. meaning in_order P d (more_stmts s no_stmts) (begun takes (record (numbered_frame x start i g.frame) { left = g.frame.left - 1 }))) [] g ws w
      (foreach_runs P d takes x s g.frame start 0 (how_many many))
