-- What is made of small statements is narrow: a `cobegin` has as many branches as that of the text, each of which is a node.
use Rattle.std.proofs.Common.{◌≡◌, ◌≤◌, ℕ, Bool, true, false, cond, List, ◌∷◌, Option, Some, None, subst, arith}
use Rattle.lang_base.specs.declared.effect.Effect.{Effect}
use Rattle.lang_base.specs.declared.place.Place.{Place}
use Rattle.lang_base.specs.declared.refusal.Refusal.{Refusal}
use Rattle.syntax_tree.specs.declared.region.Named.{Named}
use Rattle.syntax_tree.specs.declared.region.TypeTree.{TypeTree}
use Rattle.syntax_tree.specs.Plain.{PlainExpr, PlainStmt, PlainStmts}
use Rattle.syntax_tree.specs.Plain as tree
use Rattle.syntax_tree.specs.Size.{stmt_size, stmt_form_size, stmts_size}
use Rattle.lang_typed.specs.Plain.{TypedExpr, type_of, TypedStmt, statement, stmts_of, branches_of, choice_form}
use Rattle.lang_typed.specs.Plain as typed
use Rattle.body_exprs.specs.declared.env.Env.{Env}
use Rattle.body_exprs.specs.Targeting.{PlainSpot, to_field, to_element, to_part}
use Rattle.body_exprs.specs.Typed.{is_boolean}
use Rattle.body_check.specs.declared.node.Around.{Around}
use Rattle.body_check.specs.declared.node.Node.{Node}
use Rattle.body_check.specs.Checking.{own_block, own_scope, branch_of}
use Rattle.body_check.specs.Simple.{place_of, node_of, stored, printed_form}
use Rattle.body_check.specs.Walks.{Walk, Verdict, passes, refused, judged}
use Rattle.sound_lemmas.proofs.StatementRules.{BranchesVerdict, all_pass, one_refused, after_branch, Checking, Choosing, InOther, Standing, standing, InScope, in_scope, InBlock, in_block, InOrder, Branching, Forking, Iterating, Parting, Declaring, AssigningLocal, AssigningPlace, Performing, Returning, Printing, following}
use Rattle.lang_typed.proofs.Narrow.{width, Narrow, AllNarrow, BranchesNarrow}

-- what holds of what is made, where it passes
abbrev pub If : {T : Type 0} → (T → Type 0) → Verdict T → Type 0
If Q (passes made w) = Q made
If Q (refused refusal) = Unit {0}

judged_if : {T : Type 0} (Q : T → Type 0) (reported : Option Refusal) (made : T) (w : Walk) → Q made → If Q (judged reported made w)
judged_if Q None made w h = h
judged_if Q (Some refusal) made w h = tt

judged_so : {T : Type 0} {made : T} {v : Verdict T} (Q : T → Type 0) (reported : Option Refusal) (w : Walk) → judged reported made w ≡ v → Q made → If Q v
judged_so {made = made} Q reported w j h = subst (If Q) j (judged_if Q reported made w h)

after_if : {T U : Type 0} (Q : T → Type 0) (R : U → Type 0) (reported : Option Refusal) (make : T → U) (v : Verdict T) → ((made : T) → Q made → R (make made)) → If Q v →
    If R (following reported make v)
after_if Q R reported make (passes made w) to h = judged_if R reported (make made) w (to made h)
after_if Q R reported make (refused refusal) to h = tt

after_so : {T U : Type 0} {v : Verdict U} (Q : T → Type 0) (R : U → Type 0) (reported : Option Refusal) (make : T → U) (u : Verdict T) → following reported make u ≡ v → ((made : T) → Q made → R (make made)) → If Q u → If R v
after_so Q R reported make u j to h = subst (If R) j (after_if Q R reported make u to h)

scope_if : {T : Type 0} (Q : T → Type 0) (before : Walk) (v : Verdict T) → If Q v → If Q (own_scope before v)
scope_if Q before (passes made w) h = h
scope_if Q before (refused refusal) h = tt

block_if : {T : Type 0} (Q : T → Type 0) (before : Walk) (v : Verdict T) → If Q v → If Q (own_block before v)
block_if Q before (passes made w) h = h
block_if Q before (refused refusal) h = tt

a_node : (s : PlainStmt) → 1 ≤ stmt_size s
a_node (tree.statement place form) = omega arith

module _ (n : ℕ)
  where
    -- of the statements of a block, of the part behind an `else`, and of branches, which are no more than the nodes of these
    abbrev pub BlockNarrow : List TypedStmt → Type 0
    BlockNarrow made = AllNarrow n (stmts_of made)

    abbrev OtherNarrow : Option TypedStmt → Type 0
    OtherNarrow None = Unit {0}
    OtherNarrow (Some made) = Narrow n made

    abbrev other_size : Option PlainStmt → ℕ
    other_size None = 0
    other_size (Some s) = stmt_size s

    abbrev IfBranches : PlainStmts → BranchesVerdict → Type 0
    IfBranches ss (all_pass effects made w) = (width (branches_of made) ≤ stmts_size ss) × BranchesNarrow n (branches_of made)
    IfBranches ss (one_refused refusal) = Unit {0}

    -- statements that hold no other
    declaring_narrow : {node : Node} {is_final : Bool} {tree : TypeTree} {name : ℕ} {e : PlainExpr} {w : Walk} {v : Verdict TypedStmt} → Declaring node is_final tree name e w v → If (Narrow n) v
    declaring_narrow Declaring.is_refused = tt
    declaring_narrow (Declaring.declared made unreported same d fits j) = judged_so (Narrow n) _ _ j tt

    assigning_narrow : {node : Node} {target : Named} {e : PlainExpr} {w : Walk} {v : Verdict TypedStmt} → AssigningLocal node target e w v → If (Narrow n) v
    assigning_narrow AssigningLocal.is_refused = tt
    assigning_narrow (AssigningLocal.assigned d is fits j) = judged_so (Narrow n) _ _ j tt

    stored_narrow : (place : Place) (spot : PlainSpot) (e : TypedExpr) → Narrow n (statement place (stored spot e))
    stored_narrow place (to_field of class slot) e = tt
    stored_narrow place (to_element array index) e = tt
    stored_narrow place (to_part part index) e = tt

    placing_narrow : {node : Node} {target e : PlainExpr} {w : Walk} {v : Verdict TypedStmt} → AssigningPlace node target e w v → If (Narrow n) v
    placing_narrow AssigningPlace.is_refused = tt
    placing_narrow (AssigningPlace.anything_assigned d i j) = judged_so (Narrow n) _ _ j tt
    placing_narrow {target = target} {e = e} (AssigningPlace.place_assigned {aim = aim} {t = t} d i fits j) =
        judged_so (Narrow n) _ _ j (stored_narrow (place_of target) aim.spot (node_of e t))

    performing_narrow : {node : Node} {e : PlainExpr} {w : Walk} {v : Verdict TypedStmt} → Performing node e w v → If (Narrow n) v
    performing_narrow Performing.is_refused = tt
    performing_narrow (Performing.performed d j) = judged_so (Narrow n) _ _ j tt

    returning_narrow : {around : Around} {node : Node} {e : PlainExpr} {w : Walk} {v : Verdict TypedStmt} → Returning around node e w v → If (Narrow n) v
    returning_narrow Returning.is_refused = tt
    returning_narrow (Returning.returned d fits j) = judged_so (Narrow n) _ _ j tt

    printed_narrow : (place : Place) (e : TypedExpr) → Narrow n (statement place (printed_form e))
    printed_narrow place e = by (is_boolean (type_of e))
      where
        by : (b : Bool) → Narrow n (statement place (cond b (typed.print_boolean e) (typed.print_int e)))
        by true = tt
        by false = tt

    printing_narrow : {node : Node} {e : PlainExpr} {w : Walk} {v : Verdict TypedStmt} → Printing node e w v → If (Narrow n) v
    printing_narrow Printing.is_refused = tt
    printing_narrow {node} {e} (Printing.printed {t = t} d j) = judged_so (Narrow n) _ _ j (printed_narrow node.place (node_of e t))

    -- an `if`, and a branch in front of others
    chosen_narrow : (place : Place) (test : TypedExpr) (first : TypedStmt) (part : Option TypedStmt) → Narrow n first → OtherNarrow part → Narrow n (statement place (choice_form test first part))
    chosen_narrow place test first None h o = h
    chosen_narrow place test first (Some made) h o = (h, o)

    branch_narrow : (s : PlainStmt) (ss : PlainStmts) (env : Env) (es : List Effect) (made : TypedStmt) (v : BranchesVerdict) → Narrow n made → IfBranches ss v →
        IfBranches (tree.more_stmts s ss) (after_branch es (branch_of env s made) v)
    branch_narrow s ss env es made (all_pass effects branches w) h k = let one = a_node s in let more = k.0 in (omega (arith, one, more), (h, k.1))
    branch_narrow s ss env es made (one_refused refusal) h k = tt

    mutual
      checking_narrow : {params : List Bool} {around : Around} {node : Node} {f : tree.StmtForm} {w : Walk} {v : Verdict TypedStmt} → stmt_form_size f ≤ n → Checking params around node f w v → If (Narrow n) v
      checking_narrow small (Checking.of_block {u = u} d j) = after_so BlockNarrow (Narrow n) _ _ u j (λ ss h. h) (block_narrow small d)
      checking_narrow small (Checking.of_declaration d) = declaring_narrow d
      checking_narrow small (Checking.of_local_assignment d) = assigning_narrow d
      checking_narrow small (Checking.of_field_assignment d) = placing_narrow d
      checking_narrow small (Checking.of_element_assignment d) = placing_narrow d
      checking_narrow small (Checking.of_call d) = performing_narrow d
      checking_narrow small (Checking.of_return j) = judged_so (Narrow n) _ _ j tt
      checking_narrow small (Checking.of_return_value d) = returning_narrow d
      checking_narrow small (Checking.of_print d) = printing_narrow d
      checking_narrow small (Checking.of_text j) = judged_so (Narrow n) _ _ j tt
      checking_narrow small (Checking.of_regions j) = judged_so (Narrow n) _ _ j tt
      checking_narrow small (Checking.of_choice d) = choosing_narrow (omega (arith, small)) (omega arith) d
      checking_narrow small (Checking.of_choice_else d) = choosing_narrow (omega (arith, small)) (omega (arith, small)) d
      checking_narrow small Checking.is_refused = tt
      checking_narrow small (Checking.of_while {u = u} d i j) = after_so (Narrow n) (Narrow n) _ _ u j (λ s h. h) (scope_narrow (omega (arith, small)) i)
      checking_narrow small (Checking.of_cobegin d) = forking_narrow small d
      checking_narrow small (Checking.of_foreach d i rest) = iterating_narrow (omega (arith, small)) rest
      checking_narrow small (Checking.of_parts d) = parting_narrow (omega (arith, small)) d
      checking_narrow small (Checking.of_atomic d j) = judged_so (Narrow n) _ _ j (block_narrow small d)

      choosing_narrow : {params : List Bool} {around : Around} {node : Node} {test : PlainExpr} {first : PlainStmt} {other : Option PlainStmt} {w : Walk} {v : Verdict TypedStmt} → stmt_size first ≤ n →
          other_size other ≤ n → Choosing params around node test first other w v → If (Narrow n) v
      choosing_narrow small more Choosing.choice_refused = tt
      choosing_narrow {node = node} {test = test} small more (Choosing.chosen {t = t} {made = made} {u = u} d i o j) =
          let h = scope_narrow small i in
          after_so OtherNarrow (Narrow n) _ _ u j (λ part k. chosen_narrow node.place (node_of test t) made part h k) (other_narrow more o)

      other_narrow : {params : List Bool} {around : Around} {other : Option PlainStmt} {w : Walk} {v : Verdict (Option TypedStmt)} → other_size other ≤ n → InOther params around other w v →
          If OtherNarrow v
      other_narrow small InOther.no_other = tt
      other_narrow small (InOther.an_other {u = u} d j) = after_so (Narrow n) OtherNarrow None Some u j (λ s h. h) (scope_narrow small d)

      standing_narrow : {params : List Bool} {around : Around} {follows : Bool} {s : PlainStmt} {w : Walk} {v : Verdict TypedStmt} → stmt_size s ≤ n → Standing params around follows s w v → If (Narrow n) v
      standing_narrow small (standing d) = checking_narrow (omega (arith, small)) d

      scope_narrow : {params : List Bool} {around : Around} {s : PlainStmt} {w : Walk} {v : Verdict TypedStmt} → stmt_size s ≤ n → InScope params around s w v → If (Narrow n) v
      scope_narrow {w = w} small (in_scope {u = u} d j) = subst (If (Narrow n)) j (scope_if (Narrow n) w u (standing_narrow small d))

      pub block_narrow : {params : List Bool} {around : Around} {all : PlainStmts} {w : Walk} {v : Verdict (List TypedStmt)} → stmts_size all ≤ n → InBlock params around all w v → If BlockNarrow v
      block_narrow {w = w} small (in_block {u = u} d j) = subst (If BlockNarrow) j (block_if BlockNarrow w u (order_narrow small d))

      order_narrow : {params : List Bool} {around : Around} {before : Bool} {ss : PlainStmts} {w : Walk} {v : Verdict (List TypedStmt)} → stmts_size ss ≤ n → InOrder params around before ss w v →
          If BlockNarrow v
      order_narrow small InOrder.none_left = tt
      order_narrow small InOrder.order_refused = tt
      order_narrow small (InOrder.then_others {made = made} {x = x} d rest j) =
          let h = standing_narrow (omega (arith, small)) d in
          after_so BlockNarrow BlockNarrow None (λ others. made ∷ others) x j (λ others k. (h, k)) (order_narrow (omega (arith, small)) rest)

      branching_narrow : {params : List Bool} {around : Around} {nd : Bool} {ss : PlainStmts} {w : Walk} {v : BranchesVerdict} → stmts_size ss ≤ n → Branching params around nd ss w v → IfBranches ss v
      branching_narrow small Branching.no_branches = (omega arith, tt)
      branching_narrow small Branching.branch_refused = tt
      branching_narrow small (Branching.then_branches {s = s} {ss = ss} {w = w} {made = made} {v = v} d rest j) =
          subst (IfBranches (tree.more_stmts s ss)) j
          (branch_narrow s ss w.env _ made v (scope_narrow (omega (arith, small)) d) (branching_narrow (omega (arith, small)) rest))

      forking_narrow : {params : List Bool} {around : Around} {node : Node} {nd : Bool} {branches : PlainStmts} {w : Walk} {v : Verdict TypedStmt} → stmts_size branches ≤ n →
          Forking params around node nd branches w v → If (Narrow n) v
      forking_narrow small Forking.fork_refused = tt
      forking_narrow small (Forking.forked effects d free j) =
          let h = branching_narrow small d in
          let few = h.0 in
          judged_so (Narrow n) _ _ j (omega (arith, few, small), h.1)

      iterating_narrow : {params : List Bool} {around : Around} {node : Node} {nd : Bool} {var : Named} {start count : TypedExpr} {inner : PlainStmt} {w : Walk} {v : Verdict TypedStmt} →
          stmt_size inner ≤ n → Iterating params around node nd var start count inner w v → If (Narrow n) v
      iterating_narrow small Iterating.iteration_refused = tt
      iterating_narrow small (Iterating.iterated place placed d free j) = judged_so (Narrow n) _ _ j (scope_narrow small d)

      parting_narrow : {params : List Bool} {around : Around} {node : Node} {view var : Named} {array count : PlainExpr} {inner : PlainStmt} {w : Walk} {v : Verdict TypedStmt} → stmt_size inner ≤ n →
          Parting params around node view var array count inner w v → If (Narrow n) v
      parting_narrow small Parting.parting_refused = tt
      parting_narrow small (Parting.parted o d free j) = judged_so (Narrow n) _ _ j (scope_narrow small d)
