-- The locals declared outside of a branch that it assigns, and whether branches get in each other's way by such locals.
use Rattle.std.specs.Prelude.{ℕ, zero, suc, Bool, false, ◌||◌, cond, max, nat_lt, length, fold, List, [], ◌∷◌}
use Rattle.std.specs.List.{list_any}
use Rattle.syntax_tree.specs.Names.{stmt_names}
use Rattle.syntax_tree.specs.Plain.{PlainStmt, PlainStmts, no_stmts, more_stmts}
use Rattle.body_locals.specs.Touches.{stmt_reads, stmt_assigns}

-- of n numbers in order, from the first on, those that pass the test
abbrev pub passing : (ℕ → Bool) → ℕ → ℕ → List ℕ
passing test first zero = []
passing test first (suc n) = cond (test first) (first ∷ passing test (suc first) n) (passing test (suc first) n)

-- one more than the greatest of some numbers
abbrev pub bound_of : List ℕ → ℕ
bound_of names = fold (λ bound name. max bound (suc name)) 0 names

-- the names of the outer locals that a statement assigns, in order
abbrev pub assigned : PlainStmt → List ℕ
assigned s = passing (λ name. stmt_assigns name s) 0 (bound_of (stmt_names s))

-- some outer local is assigned
abbrev pub assigns_outer : PlainStmt → Bool
assigns_outer s = nat_lt 0 (length (assigned s))

-- the first assigns an outer local that the second reads or assigns
abbrev pub disturbs : PlainStmt → PlainStmt → Bool
disturbs s t = list_any (λ name. stmt_reads name t || stmt_assigns name t) (assigned s)

abbrev pub disturbs_some : PlainStmt → PlainStmts → Bool
disturbs_some s no_stmts = false
disturbs_some s (more_stmts t ts) = (disturbs s t || disturbs t s) || disturbs_some s ts

-- one of two branches assigns an outer local that the other one reads or assigns
abbrev pub some_disturb : PlainStmts → Bool
some_disturb no_stmts = false
some_disturb (more_stmts s ss) = disturbs_some s ss || some_disturb ss
