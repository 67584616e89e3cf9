-- Blocks in which each atomic block is entered by what it does: what is as before.
use Rattle.std.proofs.Common.{◌≡◌, ◌∙◌, ◌&&◌, ◌||◌, ◌++◌, refl, ap}
use Rattle.lang_typed.specs.Plain.{PlainProgram, TypedStmt, statement, TypedStmts, no_stmts, more_stmts, TypedBranches, no_branches, more_branches}
use Rattle.lang_typed.specs.Plain.{StmtForm as form}
use Rattle.lang_typed.specs.Scope.{Scope}
use Rattle.lang_typed.specs.Statements.{completes, all_complete, all_copies}
use Rattle.sound_infer.specs.Laws.{entered, entered_all, entered_branches}
use Rattle.sound_infer.proofs.Forms.{scope_behind, DeclaresNothing}

pub first_entered : (P : PlainProgram) (L : Scope) (s : TypedStmt) (ss : TypedStmts) → entered_all P L (more_stmts s ss) ≡ more_stmts (entered P L s) (entered_all P (scope_behind s L) ss)
first_entered P L (statement at (form.declare x t is_final e)) ss = refl
first_entered P L s ss = refl

pub then_entered : (P : PlainProgram) (L : Scope) (s : TypedStmt) (ss : TypedStmts) → DeclaresNothing s → entered_all P L (more_stmts s ss) ≡ more_stmts (entered P L s) (entered_all P L ss)
then_entered P L s ss n = first_entered P L s ss ∙ ap (λ K. more_stmts (entered P L s) (entered_all P K ss)) (n.behind L)

-- a statement by itself
pub alone_entered : (P : PlainProgram) (L : Scope) (s : TypedStmt) → entered_all P L (more_stmts s no_stmts) ≡ more_stmts (entered P L s) no_stmts
alone_entered P L s = first_entered P L s no_stmts

mutual
  pub still_completes : (P : PlainProgram) (L : Scope) (s : TypedStmt) → completes (entered P L s) ≡ completes s
  still_completes P L (statement at (form.block ts)) = all_still_complete P L ts
  still_completes P L (statement at (form.choice_else e s t)) = ap (λ b. b || completes (entered P L t)) (still_completes P L s) ∙ ap (λ b. completes s || b) (still_completes P L t)
  still_completes P L s = refl

  pub all_still_complete : (P : PlainProgram) (L : Scope) (ss : TypedStmts) → all_complete (entered_all P L ss) ≡ all_complete ss
  all_still_complete P L no_stmts = refl
  all_still_complete P L (more_stmts s ss) =
      ap all_complete (first_entered P L s ss) ∙ ap (λ b. b && all_complete (entered_all P (scope_behind s L) ss)) (still_completes P L s)
      ∙ ap (λ b. completes s && b) (all_still_complete P (scope_behind s L) ss)

pub same_copies : (P : PlainProgram) (L : Scope) (bs : TypedBranches) → all_copies (entered_branches P L bs) ≡ all_copies bs
same_copies P L no_branches = refl
same_copies P L (more_branches copies s bs) = ap (λ ys. copies ++ ys) (same_copies P L bs)
