-- How the locals and the local regions of a body are numbered: in the order of the text.
use Rattle.std.specs.Prelude.{◌≡◌, ℕ, suc, ◌+◌, List, [], ◌∷◌, ◌++◌}
use Rattle.lang_typed.specs.Plain.{TypedStmt, statement, StmtForm, TypedStmts, no_stmts, more_stmts, TypedBranches, no_branches, more_branches}
use Rattle.lang_typed.specs.Plain.{StmtForm as form}

-- the slots that a statement gives to locals, apart from the statements in it: a part has four, and before its loop's variable
abbrev pub own_slots : StmtForm → List ℕ
own_slots (form.declare x t is_final e) = x ∷ []
own_slots (form.foreach forking x start count s) = x ∷ []
own_slots (form.foreach_parts k source count s) = k ∷ (k + 1) ∷ (k + 2) ∷ (k + 3) ∷ (k + 4) ∷ []
own_slots s = []

-- and the numbers that it gives to local regions
abbrev pub own_regions : StmtForm → List ℕ
own_regions (form.local_regions rs) = rs
own_regions s = []

-- what the statements of a body give, in the order of the text
abbrev mutual
  pub given_in : (StmtForm → List ℕ) → TypedStmt → List ℕ
  given_in own (statement at f) = own f ++ given_inside own f

  pub given_inside : (StmtForm → List ℕ) → StmtForm → List ℕ
  given_inside own (form.block ss) = given_in_all own ss
  given_inside own (form.choice e s) = given_in own s
  given_inside own (form.choice_else e s t) = given_in own s ++ given_in own t
  given_inside own (form.while_loop e s) = given_in own s
  given_inside own (form.atomic entry ss) = given_in_all own ss
  given_inside own (form.cobegin forking bs) = given_in_branches own bs
  given_inside own (form.foreach forking x start count s) = given_in own s
  given_inside own (form.foreach_parts k source count s) = given_in own s
  given_inside own s = []

  pub given_in_all : (StmtForm → List ℕ) → TypedStmts → List ℕ
  given_in_all own no_stmts = []
  given_in_all own (more_stmts s ss) = given_in own s ++ given_in_all own ss

  pub given_in_branches : (StmtForm → List ℕ) → TypedBranches → List ℕ
  given_in_branches own no_branches = []
  given_in_branches own (more_branches copies s bs) = given_in own s ++ given_in_branches own bs

-- numbers that are counted on from one up to another, which isn't among them
abbrev pub Counts : ℕ → ℕ → List ℕ → Type 0
Counts n end [] = n ≡ end
Counts n end (x ∷ xs) = (x ≡ n) × Counts (suc n) end xs
