-- The statements that a text of small terminals derives are fitting.
use Rattle.std.proofs.Common.{◌≤◌, List, length, inl, inr, subst, arith}
use Rattle.syntax_tokens.specs.declared.terminal.Placed.{Placed}
use Rattle.syntax_tree.specs.declared.region.TypeTree.{TypeTree}
use Rattle.syntax_tree.specs.Plain.{PlainExpr, PlainStmt, StmtForm, PlainStmts}
use Rattle.syntax_tree.specs.Targets.{IsPerformed as IsDone}
use Rattle.syntax_grammar.specs.Types.{DerivesType}
use Rattle.syntax_grammar.specs.Expressions.{Ending, as_call, as_creation, DerivesPostfix, primary, called, creation}
use Rattle.syntax_grammar.specs.Statements.{IsPerformed, DerivesBlock, braces, DerivesStmts, DerivesStmt, at_first, declaration, local_assignment, field_assignment, element_assignment, performed, DerivesForm, blocked, if_alone, if_else, turning, bare_return, return_with, printed, printed_text, branching, spreading, parting, in_one, new_regions}
use Rattle.syntax_grammar.specs.Written.{StmtFitting, StmtFormFitting, StmtsFitting}
use Rattle.syntax_grammar.proofs.written.Numbers.{Fits, takes, here, join, plainly, following, before, both, all_three, changed}
use Rattle.syntax_grammar.proofs.written.Left.{type_left, type_fewer, final_left, names_left}
use Rattle.syntax_grammar.proofs.written.Expressions.{postfix_fits, condition_fits, value_fits, range_fits}

called_done : {before after : List Placed} {e : PlainExpr} → DerivesPostfix as_call before after e → IsDone e
called_done (primary d) = elim d [ ]
called_done (called d dot regions t all) = tt

created_done : {before after : List Placed} {e : PlainExpr} → DerivesPostfix as_creation before after e → IsDone e
created_done (primary (creation at t regions all)) = tt

-- what ends as a call or a creation is one
done : {ending : Ending} {before after : List Placed} {e : PlainExpr} → IsPerformed ending → DerivesPostfix ending before after e → IsDone e
done {before = before} {after = after} {e = e} (inl call) d = called_done (subst (λ it. DerivesPostfix it before after e) call d)
done {before = before} {after = after} {e = e} (inr new) d = created_done (subst (λ it. DerivesPostfix it before after e) new d)

type_fits : {before after : List Placed} {tree : TypeTree} → DerivesType before after tree → Fits (length tree.suffixes ≤ 4294967295) before after
type_fits d = record { is = λ small. (let few = small.few in omega (arith, few, type_fewer d)); left = type_left d }

mutual
  pub block_fits : {before after : List Placed} {all : PlainStmts} → DerivesBlock before after all → Fits (StmtsFitting all) before after
  block_fits (braces open_at d close_at) = following (takes open_at) (before (stmts_fit d) (takes close_at))

  stmts_fit : {before after : List Placed} {all : PlainStmts} → DerivesStmts before after all → Fits (StmtsFitting all) before after
  stmts_fit DerivesStmts.none = plainly here
  stmts_fit (DerivesStmts.some d ss) = both (stmt_fits d) (stmts_fit ss)

  stmt_fits : {before after : List Placed} {s : PlainStmt} → DerivesStmt before after s → Fits (StmtFitting s) before after
  stmt_fits (at_first stands d) = form_fits d
  stmt_fits (declaration first ty t equals d) = following (final_left first) (both (type_fits ty) (following (join (takes t) (takes equals)) (value_fits d)))
  stmt_fits (local_assignment t equals d) = following (join (takes t) (takes equals)) (value_fits d)
  stmt_fits (field_assignment left equals d) = both (postfix_fits left) (following (takes equals) (value_fits d))
  stmt_fits (element_assignment left equals d) = both (postfix_fits left) (following (takes equals) (value_fits d))
  stmt_fits (performed ends d ends_at) = changed (λ fits. (fits, done ends d)) (before (postfix_fits d) (takes ends_at))

  form_fits : {before after : List Placed} {form : StmtForm} → DerivesForm before after form → Fits (StmtFormFitting form) before after
  form_fits (blocked d) = block_fits d
  form_fits (if_alone t test d absent) = following (takes t) (both (condition_fits test) (stmt_fits d))
  form_fits (if_else t test d else_at e) = following (takes t) (all_three (condition_fits test) (stmt_fits d) (following (takes else_at) (stmt_fits e)))
  form_fits (turning t test d) = following (takes t) (both (condition_fits test) (stmt_fits d))
  form_fits (bare_return t ends_at) = plainly (join (takes t) (takes ends_at))
  form_fits (return_with t d) = following (takes t) (value_fits d)
  form_fits (printed t d ends_at) = following (takes t) (before (condition_fits d) (takes ends_at))
  form_fits (printed_text t open_at text close_at ends_at) = plainly (join (takes t) (join (takes open_at) (join (takes text) (join (takes close_at) (takes ends_at)))))
  form_fits (branching t d) = following (takes t) (block_fits d)
  form_fits (spreading t open_at over d) = following (join (takes t) (takes open_at)) (changed (λ fits. (fits.0.0, fits.0.1, fits.1)) (both (range_fits over) (stmt_fits d)))
  form_fits (parting t open_at view comma over d) =
      following (join (takes t) (join (takes open_at) (join (takes view) (takes comma)))) (changed (λ fits. (fits.0.0, fits.0.1, fits.1)) (both (range_fits over) (stmt_fits d)))
  form_fits (in_one t d) = following (takes t) (block_fits d)
  form_fits (new_regions t names ends_at) = plainly (join (takes t) (join (names_left names) (takes ends_at)))
