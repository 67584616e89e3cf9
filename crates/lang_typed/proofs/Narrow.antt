-- Statements in which no `cobegin` has more than so many branches.
use Rattle.std.proofs.Common.{◌≤◌, ℕ, suc}
use Rattle.lang_typed.specs.Plain.{TypedStmt, statement, TypedStmts, no_stmts, more_stmts, TypedBranches, no_branches, more_branches}
use Rattle.lang_typed.specs.Plain.{StmtForm as form}
use Rattle.lang_typed.proofs.Parts.{each_stmt, each_branch, substatements, Each}

abbrev pub width : TypedBranches → ℕ
width no_branches = 0
width (more_branches copies s bs) = suc (width bs)

abbrev mutual
  pub Narrow : ℕ → TypedStmt → Type 0
  Narrow n (statement at (form.block ss)) = AllNarrow n ss
  Narrow n (statement at (form.choice e s)) = Narrow n s
  Narrow n (statement at (form.choice_else e s t)) = Narrow n s × Narrow n t
  Narrow n (statement at (form.while_loop e s)) = Narrow n s
  Narrow n (statement at (form.atomic effects ss)) = AllNarrow n ss
  Narrow n (statement at (form.cobegin forking bs)) = (width bs ≤ n) × BranchesNarrow n bs
  Narrow n (statement at (form.foreach forking x start count s)) = Narrow n s
  Narrow n (statement at (form.foreach_parts x source count s)) = Narrow n s
  Narrow n s = Unit {0}

  pub AllNarrow : ℕ → TypedStmts → Type 0
  AllNarrow n no_stmts = Unit {0}
  AllNarrow n (more_stmts s ss) = Narrow n s × AllNarrow n ss

  pub BranchesNarrow : ℕ → TypedBranches → Type 0
  BranchesNarrow n no_branches = Unit {0}
  BranchesNarrow n (more_branches copies s bs) = Narrow n s × BranchesNarrow n bs

module _ (n : ℕ) where
  pub each_narrow : (ss : TypedStmts) → AllNarrow n ss → Each (Narrow n) (each_stmt ss)
  each_narrow no_stmts h = tt
  each_narrow (more_stmts s ss) h = (h.0, each_narrow ss h.1)

  branch_narrow : (bs : TypedBranches) → BranchesNarrow n bs → Each (Narrow n) (each_branch bs)
  branch_narrow no_branches h = tt
  branch_narrow (more_branches copies s bs) h = (h.0, branch_narrow bs h.1)

  pub parts_narrow : (s : TypedStmt) → Narrow n s → Each (Narrow n) (substatements s)
  parts_narrow (statement at (form.block ss)) h = each_narrow ss h
  parts_narrow (statement at (form.choice e s)) h = (h, tt)
  parts_narrow (statement at (form.choice_else e s t)) h = (h.0, (h.1, tt))
  parts_narrow (statement at (form.while_loop e s)) h = (h, tt)
  parts_narrow (statement at (form.atomic effects ss)) h = each_narrow ss h
  parts_narrow (statement at (form.cobegin forking bs)) h = branch_narrow bs h.1
  parts_narrow (statement at (form.foreach forking x start count s)) h = (h, tt)
  parts_narrow (statement at (form.foreach_parts x source count s)) h = (h, tt)
  parts_narrow s h = tt

  -- what is asked of a statement beside its parts
  abbrev pub NarrowHere : TypedStmt → Type 0
  NarrowHere (statement at (form.cobegin forking bs)) = width bs ≤ n
  NarrowHere s = Unit {0}

  pub all_narrow : (ss : TypedStmts) → Each (Narrow n) (each_stmt ss) → AllNarrow n ss
  all_narrow no_stmts h = tt
  all_narrow (more_stmts s ss) h = (h.0, all_narrow ss h.1)

  branches_narrow : (bs : TypedBranches) → Each (Narrow n) (each_branch bs) → BranchesNarrow n bs
  branches_narrow no_branches h = tt
  branches_narrow (more_branches copies s bs) h = (h.0, branches_narrow bs h.1)

  pub narrow_by : (s : TypedStmt) → NarrowHere s → Each (Narrow n) (substatements s) → Narrow n s
  narrow_by (statement at (form.block ss)) few h = all_narrow ss h
  narrow_by (statement at (form.choice e s)) few h = h.0
  narrow_by (statement at (form.choice_else e s t)) few h = (h.0, h.1.0)
  narrow_by (statement at (form.while_loop e s)) few h = h.0
  narrow_by (statement at (form.atomic effects ss)) few h = all_narrow ss h
  narrow_by (statement at (form.cobegin forking bs)) few h = (few, branches_narrow bs h)
  narrow_by (statement at (form.foreach forking x start count s)) few h = h.0
  narrow_by (statement at (form.foreach_parts x source count s)) few h = h.0
  narrow_by s few h = tt
