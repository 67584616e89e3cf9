-- Each answer of the rules of statements is one that these steps lead to.
use Rattle.std.proofs.Common.{◌≡◌, ◌∙◌, ℕ, Bool, true, false, not, ◌&&◌, List, Option, Some, None, refl, sym, ap, subst}
use Rattle.lang_base.specs.declared.effect.Effect.{Effect}
use Rattle.lang_base.specs.declared.refusal.Kind.{Kind}
use Rattle.lang_base.specs.declared.refusal.Kind.TheVariants as kind
use Rattle.lang_base.specs.declared.refusal.Refusal.{Refusal}
use Rattle.lang_base.specs.declared.ty.Ty.{fold-roll-Ty}
use Rattle.lang_base.specs.declared.ty.Ty.TheOpen.{Ty-F}
use Rattle.lang_base.specs.declared.ty.Ty.TheVariants.{rolls-Int, rolls-Bool, rolls-Void, rolls-Null, rolls-Class, rolls-Array}
use Rattle.lang_base.specs.Types.{PlainType, type_step, plain_type}
use Rattle.lang_base.specs.Types.{PlainType as ty}
use Rattle.syntax_tree.specs.declared.region.Named.{Named}
use Rattle.syntax_tree.specs.declared.region.TypeTree.{TypeTree}
use Rattle.syntax_tree.specs.Plain.{PlainExpr, PlainStmt, statement, StmtForm, PlainStmts, no_stmts, more_stmts}
use Rattle.syntax_tree.specs.Plain.{StmtForm as form}
use Rattle.lang_typed.specs.Plain.{TypedExpr, TypedStmt, TypedBranch}
use Rattle.body_exprs.specs.declared.env.LocalRow.{LocalRow}
use Rattle.body_exprs.specs.declared.found.Found.{Found}
use Rattle.body_exprs.specs.Answer.{gives}
use Rattle.body_exprs.specs.Answer.{Answer as answer}
use Rattle.body_exprs.specs.Env.{local_of, part_of}
use Rattle.body_exprs.specs.Steps.{given}
use Rattle.body_exprs.specs.Targeting.{PlainTarget, TargetAnswer, aims, misses, type_target, Targeting}
use Rattle.body_exprs.specs.Typed.{type_in}
use Rattle.body_exprs.specs.Typing.{type_expr, Typing}
use Rattle.body_check.specs.declared.node.Around.{Around}
use Rattle.body_check.specs.declared.node.Node.{Node}
use Rattle.body_check.specs.Checking.{Whole, cut, cut_part, cut_array, Branches, with_first, check_stmt, check_form, check_scope, check_block, check_all, check_branches}
use Rattle.body_check.specs.Completes.{completes}
use Rattle.body_check.specs.Around.{inside}
use Rattle.body_check.specs.Noting.{with_fault_if}
use Rattle.body_check.specs.Simple.{declared_type, declared_reported, code_type, node_of, declare, put_in_local, assign_local, aimed_at, target_at, put_in_place, place_of, assign_place, perform, leave_with, print}
use Rattle.body_check.specs.Walks.{Walk, Verdict, passes, refused, judged, expr_at, given_at, found_so, apart_from, ◌>>=◌, ◌>>◌}
use Rattle.sound_lemmas.proofs.StatementRules.{following, Declaring, AssigningLocal, AssigningPlace, Performing, Returning, Printing, Cutting, Opening, BranchesVerdict, all_pass, one_refused, after_branch, Checking, Choosing, InOther, Standing, standing, InScope, in_scope, InBlock, in_block, InOrder, Branching, Forking, Iterating, Parting}

-- a type of the code and the plain one that it is of
plain_again : (t : PlainType) → plain_type (code_type t) ≡ t
plain_again ty.int = sym (ap plain_type rolls-Int) ∙ fold-roll-Ty PlainType type_step Ty-F.Int
plain_again ty.boolean = sym (ap plain_type rolls-Bool) ∙ fold-roll-Ty PlainType type_step Ty-F.Bool
plain_again ty.void = sym (ap plain_type rolls-Void) ∙ fold-roll-Ty PlainType type_step Ty-F.Void
plain_again ty.null = sym (ap plain_type rolls-Null) ∙ fold-roll-Ty PlainType type_step Ty-F.Null
plain_again (ty.class number args) = sym (ap plain_type (rolls-Class number args)) ∙ fold-roll-Ty PlainType type_step (Ty-F.Class number args)
plain_again (ty.array elem rpl named) =
    sym (ap plain_type (rolls-Array (code_type elem) rpl named)) ∙ fold-roll-Ty PlainType type_step (Ty-F.Array (code_type elem) rpl named)
    ∙ ap (λ (z : PlainType). ty.array z rpl named) (plain_again elem)

-- a node keeps its place
place_kept : (node : Node) (reason : Kind) (b : Bool) → (with_fault_if node reason b).place ≡ node.place
place_kept node reason true = refl
place_kept node reason false = refl

-- how the rules go on after a piece, unless it is refused
after_piece : {T U : Type 0} (R : Verdict U → Type 0) (v : Verdict T) (next : T × Walk → Verdict U) → ((q : Refusal) → R (refused q)) →
    ((made : T) (x : Walk) → v ≡ passes made x → R (next (made, x))) → R (v >>= next)
after_piece R (passes made x) next refusing going = going made x refl
after_piece R (refused q) next refusing going = refusing q

unless : {U : Type 0} (R : Verdict U → Type 0) (r : Option Refusal) (rest : Verdict U) → ((q : Refusal) → R (refused q)) → (r ≡ None → R rest) → R (r >> rest)
unless R None rest refusing going = going refl
unless R (Some q) rest refusing going = refusing q

after_expr : {U : Type 0} (R : Verdict U → Type 0) (e : PlainExpr) (w : Walk) (next : Option TypedExpr × Walk → Verdict U) → ((q : Refusal) → R (refused q)) →
    ((t : Option TypedExpr) (g : Found) → Typing w.env e w.found (gives t g) → R (next (t, found_so w g))) → R (expr_at e w >>= next)
after_expr R e w next refusing going = by (type_expr w.env e w.found) refl
  where
    by : (a : answer) → type_expr w.env e w.found ≡ a → R (given_at w a >>= next)
    by (answer.gives t g) is = going t g is
    by (answer.refused q) is = refusing q

after_target : {U : Type 0} (R : Verdict U → Type 0) (e : PlainExpr) (w : Walk) (next : Option PlainTarget × Walk → Verdict U) → ((q : Refusal) → R (refused q)) →
    ((aim : Option PlainTarget) (g : Found) → Targeting w.env e w.found (aims aim g) → R (next (aim, found_so w g))) → R (target_at e w >>= next)
after_target R e w next refusing going = by (type_target w.env e w.found) refl
  where
    by : (a : TargetAnswer) → type_target w.env e w.found ≡ a → R (aimed_at w a >>= next)
    by (aims aim g) is = going aim g is
    by (misses q) is = refusing q

-- the same as one step
following_is : {T U : Type 0} (r : Option Refusal) (make : T → U) (v : Verdict T) → following r make v ≡ (v >>= (λ p. judged r (make p.0) p.1))
following_is r make (passes made w) = refl
following_is r make (refused q) = refl

twice_is : {T U : Type 0} (r : Option Refusal) (make : Option T → U) (v : Verdict T) → following r make (following None Some v) ≡ (v >>= (λ p. judged r (make (Some p.0)) p.1))
twice_is r make (passes made w) = refl
twice_is r make (refused q) = refl

-- statements that hold refusing other
pub declare_steps : (node : Node) (is_final : Bool) (tree : TypeTree) (name : ℕ) (value : PlainExpr) (w : Walk) → Declaring node is_final tree name value w (declare node is_final tree name value w)
declare_steps node is_final tree name value w =
    unless (Declaring node is_final tree name value w) (declared_reported w.env tree) _ (λ q. Declaring.is_refused) (λ unreported.
    after_expr (Declaring node is_final tree name value w) value w _ (λ q. Declaring.is_refused) (λ t g d.
    Declaring.declared (code_type (declared_type w.env tree)) unreported (plain_again (declared_type w.env tree)) d refl refl))

pub local_steps : (node : Node) (target : Named) (value : PlainExpr) (w : Walk) → AssigningLocal node target value w (assign_local node target value w)
local_steps node target value w =
    after_expr (AssigningLocal node target value w) value w _ (λ q. AssigningLocal.is_refused) (λ t g d. to_local t g d (local_of w.env target.name) refl)
  where
    to_local : (t : Option TypedExpr) (g : Found) → Typing w.env value w.found (gives t g) → (row : Option LocalRow) → local_of w.env target.name ≡ row →
        AssigningLocal node target value w (put_in_local node target (node_of value t) (type_in t) row (found_so w g))
    to_local t g d None is = AssigningLocal.is_refused
    to_local t g d (Some row) is = AssigningLocal.assigned d is refl refl

pub place_steps : (node : Node) (target value : PlainExpr) (w : Walk) → AssigningPlace node target value w (assign_place node target value w)
place_steps node target value w =
    after_target (AssigningPlace node target value w) target w _ (λ q. AssigningPlace.is_refused) (λ aim g d.
    after_expr (AssigningPlace node target value w) value (found_so w g) _ (λ q. AssigningPlace.is_refused) (λ t h i. to_place aim g t h d i))
  where
    to_place : (aim : Option PlainTarget) (g : Found) (t : Option TypedExpr) (h : Found) → Targeting w.env target w.found (aims aim g) → Typing w.env value g (gives t h) →
        AssigningPlace node target value w (put_in_place node (place_of target) aim (node_of value t) (type_in t) (found_so w h))
    to_place None g t h d i = AssigningPlace.anything_assigned d i refl
    to_place (Some aim) g t h d i = AssigningPlace.place_assigned d i refl refl

pub perform_steps : (node : Node) (value : PlainExpr) (w : Walk) → Performing node value w (perform node value w)
perform_steps node value w = after_expr (Performing node value w) value w _ (λ q. Performing.is_refused) (λ t g d. Performing.performed d refl)

pub return_steps : (around : Around) (node : Node) (value : PlainExpr) (w : Walk) → Returning around node value w (leave_with around node value w)
return_steps around node value w = after_expr (Returning around node value w) value w _ (λ q. Returning.is_refused) (λ t g d. Returning.returned d refl refl)

pub print_steps : (node : Node) (value : PlainExpr) (w : Walk) → Printing node value w (print node value w)
print_steps node value w = after_expr (Printing node value w) value w _ (λ q. Printing.is_refused) (λ t g d. Printing.printed d refl)

-- what is cut into parts
after_cut : {U : Type 0} (R : Verdict U → Type 0) (array : PlainExpr) (w : Walk) (next : Whole × Walk → Verdict U) → ((q : Refusal) → R (refused q)) →
    ((whole : Whole) (g : Found) → Cutting w.env array w.found whole.ty whole.source whole.fault g → R (next (whole, found_so w g))) → R (cut array w >>= next)
after_cut R array w next refusing going = by (part_of w.env array) refl
  where
    of_array : part_of w.env array ≡ None → (t : Option TypedExpr) (g : Found) → Typing w.env array w.found (gives t g) → R (next (cut_array array t, found_so w g))
    of_array is None g d = going (cut_array array None) g (Cutting.an_array is d)
    of_array is (Some e) g d = going (cut_array array (Some e)) g (Cutting.an_array is d)

    read : part_of w.env array ≡ None → (a : answer) → type_expr w.env array w.found ≡ a → R ((given_at w a >>= (λ p. passes (cut_array array p.0) p.1)) >>= next)
    read is (answer.gives t g) d = of_array is t g d
    read is (answer.refused q) d = refusing q

    by : (part : Option LocalRow) → part_of w.env array ≡ part → R (given part (λ row. passes (cut_part row) w) (expr_at array w >>= (λ p. passes (cut_array array p.0) p.1)) >>= next)
    by (Some row) is = going (cut_part row) w.found (Cutting.a_part is)
    by None is = read is (type_expr w.env array w.found) refl

-- the branches of a `cobegin` that pass, or the first that is refused
abbrev branches_verdict : Verdict Branches → BranchesVerdict
branches_verdict (passes made w) = all_pass made.effects made.typed w
branches_verdict (refused q) = one_refused q

first_is : (es : List Effect) (branch : TypedBranch) (v : Verdict Branches) → after_branch es branch (branches_verdict v) ≡ branches_verdict (v >>= (λ p. passes (with_first es branch p.0) p.1))
first_is es branch (passes made w) = refl
first_is es branch (refused q) = refl

mutual
  pub stmt_steps : (params : List Bool) (s : PlainStmt) (around : Around) (follows : Bool) (w : Walk) → Standing params around follows s w (check_stmt params around follows s w)
  stmt_steps params (statement place f) around follows w = standing (form_steps params f around _ w)

  form_steps : (params : List Bool) (f : StmtForm) (around : Around) (node : Node) (w : Walk) → Checking params around node f w (check_form params around node f w)
  form_steps params (form.block all) around node w = Checking.of_block (in_block (all_steps params all around true (apart_from w)) refl) (following_is _ _ (check_block params around all w))
  form_steps params (form.declare is_final tree name value) around node w = Checking.of_declaration (declare_steps node is_final tree name value w)
  form_steps params (form.assign_local target value) around node w = Checking.of_local_assignment (local_steps node target value w)
  form_steps params (form.assign_field target value) around node w = Checking.of_field_assignment (place_steps node target value w)
  form_steps params (form.assign_element target value) around node w = Checking.of_element_assignment (place_steps node target value w)
  form_steps params (form.perform value) around node w = Checking.of_call (perform_steps node value w)
  form_steps params form.return_nothing around node w = Checking.of_return refl
  form_steps params (form.return_value value) around node w = Checking.of_return_value (return_steps around node value w)
  form_steps params (form.print value) around node w = Checking.of_print (print_steps node value w)
  form_steps params (form.print_text text) around node w = Checking.of_text refl
  form_steps params (form.local_regions names) around node w = Checking.of_regions refl
  form_steps params (form.choice test first) around node w =
      Checking.of_choice (after_expr (Choosing params around node test first None w) test w _ (λ q. Choosing.choice_refused) (λ t g d.
      after_piece (Choosing params around node test first None w) (check_scope params around first (found_so w g)) _ (λ q. Choosing.choice_refused) (λ made x is.
      Choosing.chosen d (subst (InScope params around first (found_so w g)) is (in_scope (stmt_steps params first around false (found_so w g)) refl)) InOther.no_other refl)))
  form_steps params (form.choice_else test first second) around node w =
      Checking.of_choice_else (after_expr (Choosing params around node test first (Some second) w) test w _ (λ q. Choosing.choice_refused) (λ t g d.
      after_piece (Choosing params around node test first (Some second) w) (check_scope params around first (found_so w g)) _ (λ q. Choosing.choice_refused) (λ made x is.
      Choosing.chosen d (subst (InScope params around first (found_so w g)) is (in_scope (stmt_steps params first around false (found_so w g)) refl))
      (InOther.an_other (in_scope (stmt_steps params second around false x) refl) refl) (twice_is _ _ (check_scope params around second x)))))
  form_steps params (form.while_loop test body) around node w =
      after_expr (Checking params around node (form.while_loop test body) w) test w _ (λ q. Checking.is_refused) (λ t g d.
      Checking.of_while d (in_scope (stmt_steps params body around false (found_so w g)) refl) (following_is _ _ (check_scope params around body (found_so w g))))
  form_steps params (form.cobegin nd branches) around node w =
      Checking.of_cobegin (after_piece (Forking params around node nd branches w) (check_branches params (inside around) nd branches w) _ (λ q. Forking.fork_refused) (λ made x is.
      unless (Forking params around node nd branches w) _ _ (λ q. Forking.fork_refused) (λ free.
      Forking.forked made.effects
      (subst (λ v. Branching params (inside around) nd branches w (branches_verdict v)) is (branches_steps params branches (inside around) nd w)) free refl)))
  form_steps params (form.foreach nd var start count body) around node w =
      after_expr (Checking params around node (form.foreach nd var start count body) w) start w _ (λ q. Checking.is_refused) (λ t g d.
      after_expr (Checking params around node (form.foreach nd var start count body) w) count (found_so w g) _ (λ q. Checking.is_refused) (λ u h i.
      Checking.of_foreach d i (after_piece (Iterating params around _ nd var _ _ body (found_so w h)) (check_scope params (inside around) body _) _ (λ q. Iterating.iteration_refused) (λ made x is.
      unless (Iterating params around _ nd var _ _ body (found_so w h)) _ _ (λ q. Iterating.iteration_refused) (λ free.
      Iterating.iterated node.place (sym (place_kept (with_fault_if node kind.Type _) kind.Type _ ∙ place_kept node kind.Type _)) (subst (InScope params (inside around) body _) is (in_scope (stmt_steps params body (inside around) false _) refl)) free refl)))))
  form_steps params (form.foreach_parts view var array count body) around node w =
      Checking.of_parts (after_cut (Parting params around node view var array count body w) array w _ (λ q. Parting.parting_refused) (λ whole g c.
      after_expr (Parting params around node view var array count body w) count (found_so w g) _ (λ q. Parting.parting_refused) (λ u h i.
      after_piece (Parting params around node view var array count body w) (check_scope params (inside around) body _) _ (λ q. Parting.parting_refused) (λ made x is.
      unless (Parting params around node view var array count body w) _ _ (λ q. Parting.parting_refused) (λ free.
      Parting.parted (Opening.both_given (code_type whole.ty) (subst (λ t. Cutting w.env array w.found t whole.source whole.fault g) (sym (plain_again whole.ty)) c) i)
      (subst (InScope params (inside around) body _) is (in_scope (stmt_steps params body (inside around) false _) refl)) free refl)))))
  form_steps params (form.atomic all) around node w =
      after_piece (Checking params around node (form.atomic all) w) (check_block params (inside around) all (apart_from w)) _ (λ q. Checking.is_refused) (λ ss x is.
      Checking.of_atomic (subst (InBlock params (inside around) all (apart_from w)) is (in_block (all_steps params all (inside around) true (apart_from (apart_from w))) refl)) refl)

  all_steps : (params : List Bool) (ss : PlainStmts) (around : Around) (complete : Bool) (w : Walk) → InOrder params around complete ss w (check_all params around complete ss w)
  all_steps params no_stmts around complete w = InOrder.none_left
  all_steps params (more_stmts s ss) around complete w =
      after_piece (InOrder params around complete (more_stmts s ss) w) (check_stmt params around (not complete) s w) _ (λ q. InOrder.order_refused) (λ made x is.
      InOrder.then_others (subst (Standing params around (not complete) s w) is (stmt_steps params s around (not complete) w))
      (all_steps params ss around (complete && completes s) x) (following_is None _ (check_all params around (complete && completes s) ss x)))

  branches_steps : (params : List Bool) (ss : PlainStmts) (around : Around) (nd : Bool) (w : Walk) → Branching params around nd ss w (branches_verdict (check_branches params around nd ss w))
  branches_steps params no_stmts around nd w = Branching.no_branches
  branches_steps params (more_stmts s ss) around nd w =
      after_piece (λ v. Branching params around nd (more_stmts s ss) w (branches_verdict v)) (check_scope params around s (apart_from w)) _ (λ q. Branching.branch_refused) (λ made x is.
      Branching.then_branches (subst (InScope params around s (apart_from w)) is (in_scope (stmt_steps params s around false (apart_from w)) refl))
      (branches_steps params ss around nd _) (first_is _ _ (check_branches params around nd ss _)))

pub in_block_of : {params : List Bool} {around : Around} {all : PlainStmts} {w : Walk} {u : Verdict (List TypedStmt)} → check_block params around all w ≡ u → InBlock params around all w u
in_block_of {params} {around} {all} {w} is = subst (InBlock params around all w) is (in_block (all_steps params all around true (apart_from w)) refl)
