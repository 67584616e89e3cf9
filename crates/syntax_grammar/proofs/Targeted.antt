-- What a tree assigns to and performs is of its statement's kind.
use Rattle.std.proofs.Common.{List, [], ◌∷◌, All, map, inl, inr, subst}
use Rattle.std.proofs.lemmas.List.Elements.{All-nil, All-cons}
use Rattle.syntax_tokens.specs.declared.terminal.Placed.{Placed}
use Rattle.syntax_tree.specs.declared.class.Class.{Class}
use Rattle.syntax_tree.specs.declared.class.Member.{Member}
use Rattle.syntax_tree.specs.declared.stmt.Stmt.{Stmt}
use Rattle.syntax_tree.specs.Plain.{PlainExpr, PlainStmt, StmtForm, PlainStmts, plain_stmt, plain_stmts}
use Rattle.syntax_tree.specs.Targets.{IsField, IsElement, HasTargets, FormHasTargets, AllHaveTargets}
use Rattle.syntax_tree.specs.Targets.{IsPerformed as IsDone}
use Rattle.syntax_tree.specs.Shaped.{MemberHasTargets}
use Rattle.syntax_grammar.specs.Taking.{Many, none, some}
use Rattle.syntax_grammar.specs.Expressions.{Ending, as_value, as_name, as_field, as_element, as_call, as_creation, DerivesPostfix, primary, after_dot, called, indexed, DerivesPrimary, number, yes, no, nothing, receiver, parenthesised, creation}
use Rattle.syntax_grammar.specs.Statements.{IsPerformed, DerivesBlock, braces, DerivesStmts, DerivesStmt, at_first, declaration, local_assignment, field_assignment, element_assignment, performed, DerivesForm, blocked, if_alone, if_else, turning, bare_return, return_with, printed, printed_text, branching, spreading, parting, in_one, new_regions}
use Rattle.syntax_grammar.specs.Classes.{DerivesMethod, named, DerivesField, DerivesMember, members, DerivesClass, class, DerivesProgram, program}

-- what an expression is that ends so
abbrev EndsAs : Ending → PlainExpr → Type 0
EndsAs as_value e = Unit {0}
EndsAs as_name e = Unit {0}
EndsAs as_field e = IsField e
EndsAs as_element e = IsElement e
EndsAs as_call e = IsDone e
EndsAs as_creation e = IsDone e

primary_ends : {ending : Ending} {before after : List Placed} {e : PlainExpr} → DerivesPrimary ending before after e → EndsAs ending e
primary_ends (number t) = tt
primary_ends (yes t) = tt
primary_ends (no t) = tt
primary_ends (nothing t) = tt
primary_ends (receiver t) = tt
primary_ends (DerivesPrimary.name t) = tt
primary_ends (parenthesised open_at d close_at) = tt
primary_ends (creation at t regions all) = tt

postfix_ends : {ending : Ending} {before after : List Placed} {e : PlainExpr} → DerivesPostfix ending before after e → EndsAs ending e
postfix_ends (primary d) = primary_ends d
postfix_ends (after_dot d dot t) = tt
postfix_ends (called d dot regions t all) = tt
postfix_ends (indexed d open_at at close_at) = tt

done : (ending : Ending) (e : PlainExpr) → IsPerformed ending → EndsAs ending e → IsDone e
done ending e (inl call) ends = subst (λ it. EndsAs it e) call ends
done ending e (inr new) ends = subst (λ it. EndsAs it e) new ends

mutual
  block_targets : {before after : List Placed} {all : PlainStmts} → DerivesBlock before after all → AllHaveTargets all
  block_targets (braces open_at d close_at) = stmts_targets d

  stmts_targets : {before after : List Placed} {all : PlainStmts} → DerivesStmts before after all → AllHaveTargets all
  stmts_targets DerivesStmts.none = tt
  stmts_targets (DerivesStmts.some d more) = (stmt_targets d, stmts_targets more)

  stmt_targets : {before after : List Placed} {s : PlainStmt} → DerivesStmt before after s → HasTargets s
  stmt_targets (at_first stands d) = form_targets d
  stmt_targets (declaration first ty t equals d) = tt
  stmt_targets (local_assignment t equals d) = tt
  stmt_targets (field_assignment left equals d) = postfix_ends left
  stmt_targets (element_assignment left equals d) = postfix_ends left
  stmt_targets (performed {ending = ending} ends d ends_at) = done ending _ ends (postfix_ends d)

  form_targets : {before after : List Placed} {form : StmtForm} → DerivesForm before after form → FormHasTargets form
  form_targets (blocked d) = block_targets d
  form_targets (if_alone t test d absent) = stmt_targets d
  form_targets (if_else t test d else_at e) = (stmt_targets d, stmt_targets e)
  form_targets (turning t test d) = stmt_targets d
  form_targets (bare_return t ends_at) = tt
  form_targets (return_with t d) = tt
  form_targets (printed t d ends_at) = tt
  form_targets (printed_text t open_at text close_at ends_at) = tt
  form_targets (branching t d) = block_targets d
  form_targets (spreading t open_at over d) = stmt_targets d
  form_targets (parting t open_at view comma over d) = stmt_targets d
  form_targets (in_one t d) = block_targets d
  form_targets (new_regions t names ends_at) = tt

body_targets : (body : List Stmt) → AllHaveTargets (plain_stmts (map plain_stmt body)) → All (λ s. HasTargets (plain_stmt s)) body
body_targets [] h = All-nil (λ s. HasTargets (plain_stmt s))
body_targets (s ∷ body) h = All-cons (λ one. HasTargets (plain_stmt one)) s body h.0 (body_targets body h.1)

member_targets : {before after : List Placed} {tree : Member} → DerivesMember before after tree → MemberHasTargets tree
member_targets (DerivesMember.regions d names ends_at) = tt
member_targets (DerivesMember.field d t (DerivesField.field region ends_at)) = tt
member_targets (DerivesMember.method f (named t (DerivesMethod.method {body = body} d s b))) = body_targets body (block_targets b)

many_members : {before after : List Placed} {all : List Member} → Many DerivesMember before after all → All MemberHasTargets all
many_members none = All-nil MemberHasTargets
many_members (some {item = one} {items = more} d m) = All-cons MemberHasTargets one more (member_targets d) (many_members m)

class_targets : {before after : List Placed} {tree : Class} → DerivesClass before after tree → All MemberHasTargets tree.members
class_targets (class t u d p (members open_at m close_at)) = many_members m

many_classes : {before after : List Placed} {all : List Class} → Many DerivesClass before after all → All (λ class. All MemberHasTargets class.members) all
many_classes none = All-nil (λ class. All MemberHasTargets class.members)
many_classes (some {item = one} {items = more} d m) = All-cons (λ class. All MemberHasTargets class.members) one more (class_targets d) (many_classes m)

pub program_targets : {list : List Placed} {classes : List Class} → DerivesProgram list classes → All (λ class. All MemberHasTargets class.members) classes
program_targets (program {first = one} {others = more} d m) = All-cons (λ class. All MemberHasTargets class.members) one more (class_targets d) (many_classes m)
