-- Proofs by parts: what follows of each statement from the statements in it.
use Rattle.std.proofs.Common.{List, [], ◌∷◌}
use Rattle.lang_typed.specs.Plain.{TypedStmt, statement, TypedStmts, no_stmts, more_stmts, TypedBranches, no_branches, more_branches}
use Rattle.lang_typed.specs.Plain.{StmtForm as form}

-- the statements of a block, and those of branches
abbrev pub each_stmt : TypedStmts → List TypedStmt
each_stmt no_stmts = []
each_stmt (more_stmts s ss) = s ∷ each_stmt ss

abbrev pub each_branch : TypedBranches → List TypedStmt
each_branch no_branches = []
each_branch (more_branches copies s bs) = s ∷ each_branch bs

-- those that stand directly in a statement
abbrev pub substatements : TypedStmt → List TypedStmt
substatements (statement at (form.block ss)) = each_stmt ss
substatements (statement at (form.choice e s)) = s ∷ []
substatements (statement at (form.choice_else e s t)) = s ∷ t ∷ []
substatements (statement at (form.while_loop e s)) = s ∷ []
substatements (statement at (form.atomic effects ss)) = each_stmt ss
substatements (statement at (form.cobegin forking bs)) = each_branch bs
substatements (statement at (form.foreach forking x start count s)) = s ∷ []
substatements (statement at (form.foreach_parts x source count s)) = s ∷ []
substatements s = []

-- of each of a list, as a tuple
abbrev pub Each : {A : Type 0} → (A → Type 0) → List A → Type 0
Each Q [] = Unit {0}
Each Q (x ∷ xs) = Q x × Each Q xs

pub each_all : {A : Type 0} (Q : A → Type 0) → ((x : A) → Q x) → (xs : List A) → Each Q xs
each_all Q h [] = tt
each_all Q h (x ∷ xs) = (h x, each_all Q h xs)

-- what follows of each statement from those directly in it is so of every one
module _ (Q : TypedStmt → Type 0) (step : (s : TypedStmt) → Each Q (substatements s) → Q s) where
  mutual
    pub stmt_by_parts : (s : TypedStmt) → Q s
    stmt_by_parts (statement at (form.block ss)) = step _ (stmts_by_parts ss)
    stmt_by_parts (statement at (form.choice e s)) = step _ (stmt_by_parts s, tt)
    stmt_by_parts (statement at (form.choice_else e s t)) = step _ (stmt_by_parts s, (stmt_by_parts t, tt))
    stmt_by_parts (statement at (form.while_loop e s)) = step _ (stmt_by_parts s, tt)
    stmt_by_parts (statement at (form.atomic effects ss)) = step _ (stmts_by_parts ss)
    stmt_by_parts (statement at (form.cobegin forking bs)) = step _ (branches_by_parts bs)
    stmt_by_parts (statement at (form.foreach forking x start count s)) = step _ (stmt_by_parts s, tt)
    stmt_by_parts (statement at (form.foreach_parts x source count s)) = step _ (stmt_by_parts s, tt)
    stmt_by_parts s = step s tt

    pub stmts_by_parts : (ss : TypedStmts) → Each Q (each_stmt ss)
    stmts_by_parts no_stmts = tt
    stmts_by_parts (more_stmts s ss) = (stmt_by_parts s, stmts_by_parts ss)

    branches_by_parts : (bs : TypedBranches) → Each Q (each_branch bs)
    branches_by_parts no_branches = tt
    branches_by_parts (more_branches copies s bs) = (stmt_by_parts s, branches_by_parts bs)

-- what each statement hands on to those directly in it, of which it is so in a place of their own, and what follows from theirs
module _ (I : Type 0) (R : I → TypedStmt → Type 0) (Q : TypedStmt → Type 0)
    (parts : (i : I) (s : TypedStmt) → R i s → Each (λ t. (j : I) × R j t) (substatements s)) (gives : (i : I) (s : TypedStmt) → R i s → Each Q (substatements s) → Q s) where
  all_handed : (ts : List TypedStmt) → Each (λ t. (i : I) → R i t → Q t) ts → Each (λ t. (j : I) × R j t) ts → Each Q ts
  all_handed [] f h = tt
  all_handed (t ∷ ts) f h = (f.0 h.0.0 h.0.1, all_handed ts f.1 h.1)

  pub handed_on : (s : TypedStmt) (i : I) → R i s → Q s
  handed_on = stmt_by_parts (λ s. (i : I) → R i s → Q s) (λ s each i r. gives i s r (all_handed (substatements s) each (parts i s r)))

  pub all_handed_on : (ss : TypedStmts) → Each (λ t. (j : I) × R j t) (each_stmt ss) → Each Q (each_stmt ss)
  all_handed_on ss h = all_handed (each_stmt ss) (stmts_by_parts (λ s. (i : I) → R i s → Q s) (λ s each i r. gives i s r (all_handed (substatements s) each (parts i s r))) ss) h
