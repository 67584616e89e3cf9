-- Programs that are the same but for what a tree leaves open: the effects by which blocks are entered, those of summaries, and
-- what a branch copies back.
use Rattle.std.specs.Prelude.{◌≡◌, ℕ, List, length, Some}
use Rattle.lang_base.specs.declared.effect.Effect.{Effect}
use Rattle.lang_base.specs.declared.place.Place.{Place}
use Rattle.lang_typed.specs.declared.stmt.Forking.{Forking}
use Rattle.lang_typed.specs.Plain.{PlainProgram, PlainMember, TypedExpr, Source, TypedStmt, statement, TypedStmts, no_stmts, more_stmts, TypedBranches, no_branches, more_branches}
use Rattle.lang_typed.specs.Plain.{StmtForm as form}
use Rattle.lang_typed.specs.Scope.{member_at}

mutual
  pub data StmtAlike : TypedStmt → TypedStmt → Type 0 where
    same : {s : TypedStmt} → StmtAlike s s
    blocks : {at : Place} {ss ts : TypedStmts} → StmtsAlike ss ts → StmtAlike (statement at (form.block ss)) (statement at (form.block ts))
    choices : {at : Place} {e : TypedExpr} {s t : TypedStmt} → StmtAlike s t → StmtAlike (statement at (form.choice e s)) (statement at (form.choice e t))
    choices_else : {at : Place} {e : TypedExpr} {s t u v : TypedStmt} → StmtAlike s t → StmtAlike u v
        → StmtAlike (statement at (form.choice_else e s u)) (statement at (form.choice_else e t v))
    whiles : {at : Place} {e : TypedExpr} {s t : TypedStmt} → StmtAlike s t → StmtAlike (statement at (form.while_loop e s)) (statement at (form.while_loop e t))
    atomics : {at : Place} {entry other : List Effect} {ss ts : TypedStmts} → StmtsAlike ss ts
        → StmtAlike (statement at (form.atomic entry ss)) (statement at (form.atomic other ts))
    cobegins : {at : Place} {forking : Forking} {bs cs : TypedBranches} → BranchesAlike bs cs
        → StmtAlike (statement at (form.cobegin forking bs)) (statement at (form.cobegin forking cs))
    foreaches : {at : Place} {forking : Forking} {x : ℕ} {start count : TypedExpr} {s t : TypedStmt} → StmtAlike s t
        → StmtAlike (statement at (form.foreach forking x start count s)) (statement at (form.foreach forking x start count t))
    foreaches_parts : {at : Place} {k : ℕ} {source : Source} {count : TypedExpr} {s t : TypedStmt} → StmtAlike s t
        → StmtAlike (statement at (form.foreach_parts k source count s)) (statement at (form.foreach_parts k source count t))

  pub data StmtsAlike : TypedStmts → TypedStmts → Type 0 where
    none_alike : StmtsAlike no_stmts no_stmts
    more_alike : {s t : TypedStmt} {ss ts : TypedStmts} → StmtAlike s t → StmtsAlike ss ts → StmtsAlike (more_stmts s ss) (more_stmts t ts)

  pub data BranchesAlike : TypedBranches → TypedBranches → Type 0 where
    no_branch_alike : BranchesAlike no_branches no_branches
    branch_alike : {copies others : List ℕ} {s t : TypedStmt} {bs cs : TypedBranches} → StmtAlike s t → BranchesAlike bs cs
        → BranchesAlike (more_branches copies s bs) (more_branches others t cs)

pub record MemberAlike (m n : PlainMember) : Type 0 where
  pub class : m.class ≡ n.class
  pub params : m.params ≡ n.params
  pub given : m.given ≡ n.given
  pub formals : m.formals ≡ n.formals
  pub result : m.result ≡ n.result
  pub slots : m.slots ≡ n.slots
  pub local_regions : m.local_regions ≡ n.local_regions
  pub body : StmtsAlike m.body n.body

pub record ProgramsAlike (P Q : PlainProgram) : Type 0 where
  pub classes : P.classes ≡ Q.classes
  pub main_class : P.main_class ≡ Q.main_class
  pub main_member : P.main_member ≡ Q.main_member
  pub many : length P.members ≡ length Q.members
  pub members : (n : ℕ) (m k : PlainMember) → member_at P n ≡ Some m → member_at Q n ≡ Some k → MemberAlike m k
