-- What a walk over statements that pass leaves: no fault of theirs, what is in scope, and that what is assigned is not final.
use Rattle.std.proofs.Common.{◌≡◌, ◌∙◌, ◌⊎◌, ◌==◌, ℕ, Bool, true, false, not, ◌&&◌, ◌||◌, cond, IsTrue, List, ◌∷◌, inl, inr, ⊎_elim, Option, Some, None, refl, sym, ap, subst}
use Rattle.std.proofs.lemmas.Bool.{eqb-true, false≢true}
use Rattle.lang_base.specs.declared.effect.Effect.{Effect}
use Rattle.lang_base.specs.declared.place.Place.{Place}
use Rattle.lang_base.specs.declared.refusal.Kind.TheVariants as kind
use Rattle.lang_base.specs.declared.refusal.Refusal.{Refusal}
use Rattle.lang_base.specs.declared.ty.Ty.{Ty}
use Rattle.body_locals.specs.Touches.{stmt_assigns, stmt_form_assigns, stmts_assign, branches_assign, declares}
use Rattle.syntax_tree.specs.declared.region.Named.{Named}
use Rattle.syntax_tree.specs.Plain.{PlainExpr, PlainStmt, PlainStmts}
use Rattle.syntax_tree.specs.Plain as tree
use Rattle.lang_typed.specs.Plain.{TypedExpr, type_of, TypedStmt, statement, stmts_of, choice_form}
use Rattle.lang_typed.specs.Plain as typed
use Rattle.lang_typed.specs.Statements.{completes, all_complete}
use Rattle.body_exprs.specs.declared.env.Env.{Env}
use Rattle.body_exprs.specs.declared.env.LocalRow.{LocalRow}
use Rattle.body_exprs.specs.declared.found.Found.{Found}
use Rattle.body_exprs.specs.Env.{local_of, left_to, mark_of}
use Rattle.body_exprs.specs.Typed.{may_be, is_int, is_boolean, is_value, type_in}
use Rattle.body_check.specs.declared.node.Around.{Around}
use Rattle.body_check.specs.declared.node.Node.{Node}
use Rattle.body_check.specs.Checking.{own_block, own_scope, gathers, branch_of, variable_declared, variable_noted, parts_declared}
use Rattle.body_check.specs.Completes as tree_completes
use Rattle.body_check.specs.Deciding.{is_misplaced, local_fault, marks_after}
use Rattle.body_check.specs.Gathering.{with_uses, taken_in}
use Rattle.body_check.specs.Leaving.{from_here}
use Rattle.body_check.specs.Noting.{with_found, with_fault_if, node_at, fault_of}
use Rattle.body_check.specs.Simple.{place_of, node_of, declaration_noted, stored, target_fault, printed_form, may_print}
use Rattle.body_check.specs.Touching.{assigns_outer, some_disturb}
use Rattle.body_check.proofs.Touched.{assigns_some}
use Rattle.body_check.specs.Walks.{Walk, Verdict, passes, refused, judged}
use Rattle.sound_lemmas.proofs.StatementRules.{Opened, opened, not_opened, Opening, BranchesVerdict, all_pass, one_refused, after_branch, Checking, Choosing, InOther, Standing, standing, InScope, in_scope, InBlock, in_block, InOrder, Branching, Forking, Iterating, Parting, Declaring, AssigningLocal, AssigningPlace, Performing, Returning, Printing, following}
use Rattle.body_exprs.specs.Targeting.{PlainSpot, to_field, to_element, to_part}
use Rattle.sound_lemmas.proofs.Bodies.{free_if, free_found, declared_free, parts_free, regions_free, follows_none}
use Rattle.sound_bodies.specs.Seen.{InStep}
use Rattle.sound_bodies.proofs.scope.Growing.{Kept, kept_same, kept_then, kept_local, kept_step, Grown, grown_kept, grown_then, kept_left, grown_local, grown_regions, grown_parts, step_local, step_regions, step_parts, local_other, regions_other}

-- what holds of a piece that passes
abbrev pub If : {T : Type 0} → (T → Walk → Type 0) → Verdict T → Type 0
If Q (passes made w) = Q made w
If Q (refused refusal) = Unit {0}

pub judged_if : {T : Type 0} (Q : T → Walk → Type 0) (reported : Option Refusal) (made : T) (w : Walk) → (reported ≡ None → Q made w) → If Q (judged reported made w)
judged_if Q None made w h = h refl
judged_if Q (Some refusal) made w h = tt

pub after_if : {T U : Type 0} (Q : T → Walk → Type 0) (R : U → Walk → Type 0) (reported : Option Refusal) (make : T → U) (v : Verdict T) → If Q v →
    ((made : T) (w : Walk) → reported ≡ None → Q made w → R (make made) w) → If R (following reported make v)
after_if Q R reported make (passes made w) h to = judged_if R reported (make made) w (λ free. to made w free h)
after_if Q R reported make (refused refusal) h to = tt

pub both_if : {T : Type 0} (Q R : T → Walk → Type 0) (v : Verdict T) → If Q v → If R v → If (λ made w. Q made w × R made w) v
both_if Q R (passes made w) h k = (h, k)
both_if Q R (refused refusal) h k = tt

-- a local of the name can be assigned
pub record NonFinal (env : Env) (name : ℕ) : Type 0 where
  pub row : LocalRow
  pub is : local_of env name ≡ Some row
  pub open' : row.is_final ≡ false

pub non_final_by : (a b : Env) (x : ℕ) → local_of a x ≡ local_of b x → NonFinal a x → NonFinal b x
non_final_by a b x same n = record { row = n.row; is = sym same ∙ n.is; open' = n.open' }

-- what is in scope after a statement
abbrev pub After : tree.StmtForm → Env → Env → Type 0
After (tree.declare is_final ty name value) a b = Grown a b × InStep b × ((x : ℕ) → (name == x) ≡ false → local_of b x ≡ local_of a x)
After (tree.local_regions names) a b = Grown a b × InStep b × ((x : ℕ) → local_of b x ≡ local_of a x)
After (tree.block all) a b = Kept a b
After (tree.assign_local target value) a b = Kept a b
After (tree.assign_field target value) a b = Kept a b
After (tree.assign_element target value) a b = Kept a b
After (tree.perform performed) a b = Kept a b
After (tree.choice test then_part) a b = Kept a b
After (tree.choice_else test then_part else_part) a b = Kept a b
After (tree.while_loop test body) a b = Kept a b
After tree.return_nothing a b = Kept a b
After (tree.return_value value) a b = Kept a b
After (tree.print value) a b = Kept a b
After (tree.print_text text) a b = Kept a b
After (tree.cobegin nd branches) a b = Kept a b
After (tree.foreach nd var start count body) a b = Kept a b
After (tree.foreach_parts view var array count body) a b = Kept a b
After (tree.atomic all) a b = Kept a b

-- of a node
pub record Walked (node : Node) (f : tree.StmtForm) (w : Walk) (made : TypedStmt) (u : Walk) : Type 0 where
  pub free : fault_of node ≡ None
  pub complete_so : completes made ≡ tree_completes.form_completes f
  pub env : After f w.env u.env
  pub assigned : (x : ℕ) → IsTrue (stmt_form_assigns x f) → NonFinal w.env x

-- of a statement, whatever it is
pub record Stood (s : PlainStmt) (w : Walk) (made : TypedStmt) (u : Walk) : Type 0 where
  pub complete_so : completes made ≡ tree_completes.completes s
  pub grown : Grown w.env u.env
  pub step : InStep u.env
  pub same : (x : ℕ) → declares x s ≡ false → local_of u.env x ≡ local_of w.env x
  pub assigned : (x : ℕ) → IsTrue (stmt_assigns x s) → NonFinal w.env x

-- of one in a scope of its own
pub record Scoped (s : PlainStmt) (w : Walk) (made : TypedStmt) (u : Walk) : Type 0 where
  pub complete_so : completes made ≡ tree_completes.completes s
  pub kept : Kept w.env u.env
  pub assigned : (x : ℕ) → IsTrue (stmt_assigns x s) → NonFinal w.env x

pub record Blocked (all : PlainStmts) (w : Walk) (made : List TypedStmt) (u : Walk) : Type 0 where
  pub complete_so : all_complete (stmts_of made) ≡ tree_completes.all_complete all
  pub kept : Kept w.env u.env
  pub assigned : (x : ℕ) → IsTrue (stmts_assign x all) → NonFinal w.env x

-- of statements after others that complete or not
pub record Ordered (before : Bool) (all : PlainStmts) (w : Walk) (made : List TypedStmt) (u : Walk) : Type 0 where
  pub starts : (before ≡ true) ⊎ (stmts_of made ≡ typed.no_stmts)
  pub complete_so : all_complete (stmts_of made) ≡ tree_completes.all_complete all
  pub grown : Grown w.env u.env
  pub assigned : (x : ℕ) → IsTrue (stmts_assign x all) → NonFinal w.env x

abbrev pub OtherDone : Option PlainStmt → Walk → Option TypedStmt → Walk → Type 0
OtherDone None w None u = Kept w.env u.env
OtherDone (Some s) w (Some made) u = Scoped s w made u
OtherDone None w (Some made) u = ⊥
OtherDone (Some s) w None u = ⊥

abbrev pub BranchesDone : PlainStmts → Walk → BranchesVerdict → Type 0
BranchesDone all w (all_pass effects made u) = Kept w.env u.env × ((x : ℕ) → IsTrue (branches_assign x all) → NonFinal w.env x)
BranchesDone all w (one_refused refusal) = Unit {0}

no_case : {X : Type 0} → IsTrue false → X
no_case h = absurd (false≢true h)

kept_stands : (f : tree.StmtForm) (place : Place) (node : Node) (w : Walk) (made : TypedStmt) (u : Walk) → InStep w.env → Walked node f w made u → Stood (tree.statement place f) w made u
kept_stands (tree.declare is_final ty name value) place node w made u step h = record { complete_so = h.complete_so; grown = h.env.0; step = h.env.1; same = λ x none. h.env.2 x none; assigned = h.assigned }
kept_stands (tree.local_regions names) place node w made u step h = record { complete_so = h.complete_so; grown = h.env.0; step = h.env.1; same = λ x none. h.env.2 x; assigned = h.assigned }
kept_stands (tree.block all) place node w made u step h = record { complete_so = h.complete_so; grown = grown_kept w.env u.env h.env; step = kept_step w.env u.env h.env step; same = λ x none. kept_local w.env u.env x h.env; assigned = h.assigned }
kept_stands (tree.assign_local target value) place node w made u step h = record { complete_so = h.complete_so; grown = grown_kept w.env u.env h.env; step = kept_step w.env u.env h.env step; same = λ x none. kept_local w.env u.env x h.env; assigned = h.assigned }
kept_stands (tree.assign_field target value) place node w made u step h = record { complete_so = h.complete_so; grown = grown_kept w.env u.env h.env; step = kept_step w.env u.env h.env step; same = λ x none. kept_local w.env u.env x h.env; assigned = h.assigned }
kept_stands (tree.assign_element target value) place node w made u step h = record { complete_so = h.complete_so; grown = grown_kept w.env u.env h.env; step = kept_step w.env u.env h.env step; same = λ x none. kept_local w.env u.env x h.env; assigned = h.assigned }
kept_stands (tree.perform performed) place node w made u step h = record { complete_so = h.complete_so; grown = grown_kept w.env u.env h.env; step = kept_step w.env u.env h.env step; same = λ x none. kept_local w.env u.env x h.env; assigned = h.assigned }
kept_stands (tree.choice test part) place node w made u step h = record { complete_so = h.complete_so; grown = grown_kept w.env u.env h.env; step = kept_step w.env u.env h.env step; same = λ x none. kept_local w.env u.env x h.env; assigned = h.assigned }
kept_stands (tree.choice_else test part other) place node w made u step h = record { complete_so = h.complete_so; grown = grown_kept w.env u.env h.env; step = kept_step w.env u.env h.env step; same = λ x none. kept_local w.env u.env x h.env; assigned = h.assigned }
kept_stands (tree.while_loop test body) place node w made u step h = record { complete_so = h.complete_so; grown = grown_kept w.env u.env h.env; step = kept_step w.env u.env h.env step; same = λ x none. kept_local w.env u.env x h.env; assigned = h.assigned }
kept_stands tree.return_nothing place node w made u step h = record { complete_so = h.complete_so; grown = grown_kept w.env u.env h.env; step = kept_step w.env u.env h.env step; same = λ x none. kept_local w.env u.env x h.env; assigned = h.assigned }
kept_stands (tree.return_value value) place node w made u step h = record { complete_so = h.complete_so; grown = grown_kept w.env u.env h.env; step = kept_step w.env u.env h.env step; same = λ x none. kept_local w.env u.env x h.env; assigned = h.assigned }
kept_stands (tree.print value) place node w made u step h = record { complete_so = h.complete_so; grown = grown_kept w.env u.env h.env; step = kept_step w.env u.env h.env step; same = λ x none. kept_local w.env u.env x h.env; assigned = h.assigned }
kept_stands (tree.print_text text) place node w made u step h = record { complete_so = h.complete_so; grown = grown_kept w.env u.env h.env; step = kept_step w.env u.env h.env step; same = λ x none. kept_local w.env u.env x h.env; assigned = h.assigned }
kept_stands (tree.cobegin nd branches) place node w made u step h = record { complete_so = h.complete_so; grown = grown_kept w.env u.env h.env; step = kept_step w.env u.env h.env step; same = λ x none. kept_local w.env u.env x h.env; assigned = h.assigned }
kept_stands (tree.foreach nd var start count body) place node w made u step h = record { complete_so = h.complete_so; grown = grown_kept w.env u.env h.env; step = kept_step w.env u.env h.env step; same = λ x none. kept_local w.env u.env x h.env; assigned = h.assigned }
kept_stands (tree.foreach_parts view var array count body) place node w made u step h = record { complete_so = h.complete_so; grown = grown_kept w.env u.env h.env; step = kept_step w.env u.env h.env step; same = λ x none. kept_local w.env u.env x h.env; assigned = h.assigned }
kept_stands (tree.atomic all) place node w made u step h = record { complete_so = h.complete_so; grown = grown_kept w.env u.env h.env; step = kept_step w.env u.env h.env step; same = λ x none. kept_local w.env u.env x h.env; assigned = h.assigned }

-- statements that hold no other

walked_declaring : {node : Node} {is_final : Bool} {ty : _} {name : ℕ} {value : PlainExpr} {w : Walk} {v : Verdict TypedStmt} → InStep w.env → Declaring node is_final ty name value w v →
    If (Walked node (tree.declare is_final ty name value) w) v
walked_declaring step Declaring.is_refused = tt
walked_declaring {node} {is_final} {ty} {name} {value} {w} step (Declaring.declared {t = t} {g = g} {fit = fit} made unreported same d fits j) =
    subst (If (Walked node (tree.declare is_final ty name value) w)) j
    (judged_if (Walked node (tree.declare is_final ty name value) w) _ _ _ (λ free. record {
      free = declared_free w.env name node.place node (free_if (declaration_noted w.env name node.place node) _ (not fit) free).0;
      complete_so = refl;
      env = (grown_local w.env name made is_final, step_local w.env name made is_final step, λ x other. local_other w.env name made is_final x step other);
      assigned = λ x h. no_case h;
    }))

local_fits : (fit is_final : Bool) → local_fault fit is_final ≡ None → (fit ≡ true) × (is_final ≡ false)
local_fits true true h = cc
local_fits true false h = (refl, refl)
local_fits false is_final h = cc

walked_assigning : {node : Node} {target : Named} {value : PlainExpr} {w : Walk} {v : Verdict TypedStmt} → AssigningLocal node target value w v → If (Walked node (tree.assign_local target value) w) v
walked_assigning AssigningLocal.is_refused = tt
walked_assigning {node} {target} {value} {w} (AssigningLocal.assigned {row = row} {fit = fit} d is fits j) =
    subst (If (Walked node (tree.assign_local target value) w)) j
    (judged_if (Walked node (tree.assign_local target value) w) _ _ _ (λ free.
    let f = free_found node (local_fault fit row.is_final) free in
    record {
      free = f.0;
      complete_so = refl;
      env = kept_same w.env;
      assigned = λ x h. subst (NonFinal w.env) (eqb-true target.name x h) (record { row = row; is = is; open' = (local_fits fit row.is_final f.1).1 });
    }))

stored_completes : (place : Place) (spot : PlainSpot) (e : TypedExpr) → completes (statement place (stored spot e)) ≡ true
stored_completes place (to_field of class slot) e = refl
stored_completes place (to_element array index) e = refl
stored_completes place (to_part part index) e = refl

-- an assignment to a field or an element, as a form of which it is known that it assigns no local and completes
pub record Elsewhere (f : tree.StmtForm) : Type 0 where
  pub none : (x : ℕ) → IsTrue (stmt_form_assigns x f) → ⊥
  pub completes_so : tree_completes.form_completes f ≡ true
  pub kept : (a b : Env) → Kept a b → After f a b

walked_placing : (f : tree.StmtForm) → Elsewhere f → {node : Node} {target value : PlainExpr} {w : Walk} {v : Verdict TypedStmt} → AssigningPlace node target value w v → If (Walked node f w) v
walked_placing f e AssigningPlace.is_refused = tt
walked_placing f e {node} {target} {value} {w} (AssigningPlace.anything_assigned {t = t} d i j) =
    subst (If (Walked node f w)) j
    (judged_if (Walked node f w) _ _ _ (λ free. record {
      free = (free_if node _ (not (may_be is_value (type_in t))) free).0;
      complete_so = sym e.completes_so;
      env = e.kept w.env w.env (kept_same w.env);
      assigned = λ x h. absurd (e.none x h);
    }))
walked_placing f e {node} {target} {value} {w} (AssigningPlace.place_assigned {aim = aim} {t = t} {fit = fit} d i fits j) =
    subst (If (Walked node f w)) j
    (judged_if (Walked node f w) _ _ _ (λ free. record {
      free = (free_found node (target_fault fit aim.may_write) free).0;
      complete_so = stored_completes (place_of target) aim.spot (node_of value t) ∙ sym e.completes_so;
      env = e.kept w.env w.env (kept_same w.env);
      assigned = λ x h. absurd (e.none x h);
    }))

printed_completes : (place : Place) (e : TypedExpr) → completes (statement place (printed_form e)) ≡ true
printed_completes place e = by (is_boolean (type_of e))
  where
    by : (b : Bool) → completes (statement place (cond b (typed.print_boolean e) (typed.print_int e))) ≡ true
    by true = refl
    by false = refl

-- branches and bodies

abbrev pub other_assigns : ℕ → Option PlainStmt → Bool
other_assigns x None = false
other_assigns x (Some s) = stmt_assigns x s

abbrev other_completes : Option PlainStmt → Bool → Bool
other_completes None first = true
other_completes (Some s) first = first || tree_completes.completes s

pub record Chosen (node : Node) (first : PlainStmt) (other : Option PlainStmt) (w : Walk) (made : TypedStmt) (u : Walk) : Type 0 where
  pub free : fault_of node ≡ None
  pub complete_so : completes made ≡ other_completes other (tree_completes.completes first)
  pub kept : Kept w.env u.env
  pub assigned : (x : ℕ) → IsTrue (stmt_assigns x first || other_assigns x other) → NonFinal w.env x

or_true : (a b : Bool) → (a || b) ≡ true → (a ≡ true) ⊎ (b ≡ true)
or_true true b h = inl refl
or_true false b h = inr h

and_true : (a b : Bool) → (a && b) ≡ true → (a ≡ true) × (b ≡ true)
and_true true b h = (refl, h)
and_true false b h = cc

not_so : (b : Bool) → not b ≡ true → b ≡ false
not_so true h = cc
not_so false h = refl

chosen_of : (place : Place) (node : Node) (test : TypedExpr) (first : PlainStmt) (other : Option PlainStmt) (w x u : Walk) (made : TypedStmt) (part : Option TypedStmt) → fault_of node ≡ None → Scoped first w made x →
    OtherDone other x part u → Chosen node first other w (statement place (choice_form test made part)) u
chosen_of place node test first None w x u made None free a o = record {
  free = free;
  complete_so = refl;
  kept = kept_then w.env x.env u.env a.kept o;
  assigned = λ n h. ⊎_elim (λ t. a.assigned n t) (λ t. no_case t) (or_true (stmt_assigns n first) false h);
}
chosen_of place node test first (Some s) w x u made (Some second) free a o = record {
  free = free;
  complete_so = ap (λ z. z || completes second) a.complete_so ∙ ap (λ z. tree_completes.completes first || z) o.complete_so;
  kept = kept_then w.env x.env u.env a.kept o.kept;
  assigned = λ n h. ⊎_elim (λ t. a.assigned n t) (λ t. non_final_by x.env w.env n (kept_local w.env x.env n a.kept) (o.assigned n t)) (or_true (stmt_assigns n first) (stmt_assigns n s) h);
}
chosen_of place node test first None w x u made (Some second) free a o = absurd o
chosen_of place node test first (Some s) w x u made None free a o = absurd o

scope_done : (s : PlainStmt) (before : Walk) (u : Verdict TypedStmt) → InStep before.env → If (Stood s before) u → If (Scoped s before) (own_scope before u)
scope_done s before (passes made w) step h = record { complete_so = h.complete_so; kept = kept_left before.env w.env step h.grown; assigned = h.assigned }
scope_done s before (refused refusal) step h = tt

block_done : (all : PlainStmts) (before begun : Walk) (u : Verdict (List TypedStmt)) → begun.env ≡ before.env → InStep before.env → If (Ordered true all begun) u → If (Blocked all before) (own_block before u)
block_done all before begun (passes made w) same step h = record {
  complete_so = h.complete_so;
  kept = kept_left before.env w.env step (subst (λ z. Grown z w.env) same h.grown);
  assigned = λ x t. subst (λ z. NonFinal z x) same (h.assigned x t);
}
block_done all before begun (refused refusal) same step h = tt

standing_done : (f : tree.StmtForm) (place : Place) (follows : Bool) (w : Walk) (v : Verdict TypedStmt) → InStep w.env → If (Walked (node_at place follows) f w) v →
    If (λ made u. (follows ≡ false) × Stood (tree.statement place f) w made u) v
standing_done f place follows w (passes made u) step h = (follows_none place follows h.free, kept_stands f place (node_at place follows) w made u step h)
standing_done f place follows w (refused refusal) step h = tt

before_true : (b : Bool) → not b ≡ false → b ≡ true
before_true true h = refl
before_true false h = cc

order_done : (before : Bool) (s : PlainStmt) (ss : PlainStmts) (w u z : Walk) (made : TypedStmt) (others : List TypedStmt) → before ≡ true → Stood s w made u → Ordered (before && tree_completes.completes s) ss u others z →
    Ordered before (tree.more_stmts s ss) w (made ∷ others) z
order_done before s ss w u z made others begun first rest = record {
  starts = inl begun;
  complete_so = ap (λ b. b && all_complete (stmts_of others)) first.complete_so ∙ ap (λ b. tree_completes.completes s && b) rest.complete_so;
  grown = grown_then w.env u.env z.env first.grown rest.grown;
  assigned = λ x h. ⊎_elim (λ t. first.assigned x t)
      (λ t. (let p = and_true (not (declares x s)) (stmts_assign x ss) t in non_final_by u.env w.env x (first.same x (not_so (declares x s) p.0)) (rest.assigned x p.1)))
      (or_true (stmt_assigns x s) (not (declares x s) && stmts_assign x ss) h);
}

branch_done : (s : PlainStmt) (ss : PlainStmts) (w u g : Walk) (es : List Effect) (env : Env) (made : TypedStmt) (v : BranchesVerdict) → g.env ≡ u.env → Scoped s w made u → BranchesDone ss g v →
    BranchesDone (tree.more_stmts s ss) w (after_branch es (branch_of env s made) v)
branch_done s ss w u g es env made (all_pass effects branches z) same first rest =
    let later : Kept u.env z.env = subst (λ e. Kept e z.env) same rest.0 in (
      kept_then w.env u.env z.env first.kept later,
      λ x h. ⊎_elim (λ t. first.assigned x t)
          (λ t. non_final_by u.env w.env x (kept_local w.env u.env x first.kept) (subst (λ e. NonFinal e x) same (rest.1 x t))) (or_true (stmt_assigns x s) (branches_assign x ss) h),
    )
branch_done s ss w u g es env made (one_refused refusal) same first rest = tt

-- the scope of the body of a `foreach_parts`
pub record PartsOpened (node : Node) (view var : Named) (w : Walk) (noted : Node) (x : Walk) : Type 0 where
  pub ty : Ty
  pub env_is : x.env ≡ parts_declared w.env view var ty
  pub free : fault_of noted ≡ None → fault_of node ≡ None

abbrev pub OpenedSo : Node → Named → Named → Walk → Opened → Type 0
OpenedSo node view var w (opened source size noted x) = PartsOpened node view var w noted x
OpenedSo node view var w (not_opened refusal) = Unit {0}

pub opening_done : {node : Node} {view var : Named} {array count : PlainExpr} {w : Walk} {o : Opened} → Opening node view var array count w o → OpenedSo node view var w o
opening_done {node} {view} {var} {array} {count} {w} (Opening.both_given t {fault = found} {u = u} c d) = record {
  ty = t;
  env_is = refl;
  free = λ none.
      let f = parts_free w.env view var t (with_fault_if (with_found node found) kind.Type (not (may_be is_int (type_in u)))) none in
      (free_found node found (free_if (with_found node found) _ (not (may_be is_int (type_in u))) f).0).0;
}

-- what goes on after a piece with its own node
noted_of : (f : tree.StmtForm) (node noted : Node) (w : Walk) (v : Verdict TypedStmt) → (fault_of noted ≡ None → fault_of node ≡ None) → If (Walked noted f w) v → If (Walked node f w) v
noted_of f node noted w (passes made u) free h = record { free = free h.free; complete_so = h.complete_so; env = h.env; assigned = h.assigned }
noted_of f node noted w (refused refusal) free h = tt

second_of : (w : Walk) (s : PlainStmt) (v : Verdict TypedStmt) → If (λ made u. (false ≡ false) × Stood s w made u) v → If (Stood s w) v
second_of w s (passes made u) h = h.1
second_of w s (refused refusal) h = tt

-- after an expression the same is in scope
scope_found : (w : Walk) (s : PlainStmt) (v : Verdict TypedStmt) (found : Found) → If (Scoped s (record w { found = found })) v → If (Scoped s w) v
scope_found w s (passes made u) found h = record { complete_so = h.complete_so; kept = h.kept; assigned = h.assigned }
scope_found w s (refused refusal) found h = tt

mutual
  -- a statement that passes
  pub checking_walked : {params : List Bool} {around : Around} {node : Node} {f : tree.StmtForm} {w : Walk} {v : Verdict TypedStmt} → InStep w.env → Checking params around node f w v → If (Walked node f w) v
  checking_walked {node = node} {w = w} step (Checking.of_block {all = all} {u = u} d j) =
      subst (If (Walked node (tree.block all) w)) j
      (after_if (Blocked all w) (Walked node (tree.block all) w) (fault_of node) (λ ss. statement node.place (typed.block (stmts_of ss))) u (block_walked step d)
      (λ made x free h. record { free = free; complete_so = h.complete_so; env = h.kept; assigned = h.assigned }))
  checking_walked step (Checking.of_declaration d) = walked_declaring step d
  checking_walked step (Checking.of_local_assignment d) = walked_assigning d
  checking_walked step (Checking.of_field_assignment {target = target} {value = value} d) = walked_placing (tree.assign_field target value) (record { none = λ x h. no_case h; completes_so = refl; kept = λ a b k. k }) d
  checking_walked step (Checking.of_element_assignment {target = target} {value = value} d) = walked_placing (tree.assign_element target value) (record { none = λ x h. no_case h; completes_so = refl; kept = λ a b k. k }) d
  checking_walked step (Checking.of_call Performing.is_refused) = tt
  checking_walked {node = node} {w = w} step (Checking.of_call {value = value} (Performing.performed {t = t} d j)) =
      subst (If (Walked node (tree.perform value) w)) j
      (judged_if (Walked node (tree.perform value) w) _ _ _ (λ free. record { free = free; complete_so = refl; env = kept_same w.env; assigned = λ x h. no_case h }))
  checking_walked {around = around} {node = node} {w = w} step (Checking.of_return j) =
      subst (If (Walked node tree.return_nothing w)) j
      (judged_if (Walked node tree.return_nothing w) _ _ _ (λ free. record {
        free = (free_if node _ (is_misplaced around false) free).0;
        complete_so = refl;
        env = kept_same w.env;
        assigned = λ x h. no_case h;
      }))
  checking_walked step (Checking.of_return_value Returning.is_refused) = tt
  checking_walked {around = around} {node = node} {w = w} step (Checking.of_return_value {value = value} (Returning.returned {fit = fit} d fits j)) =
      subst (If (Walked node (tree.return_value value) w)) j
      (judged_if (Walked node (tree.return_value value) w) _ _ _ (λ free. record {
        free = (free_if node _ (is_misplaced around true) (free_if (with_fault_if node kind.Return (is_misplaced around true)) _ (not fit) free).0).0;
        complete_so = refl;
        env = kept_same w.env;
        assigned = λ x h. no_case h;
      }))
  checking_walked step (Checking.of_print Printing.is_refused) = tt
  checking_walked {node = node} {w = w} step (Checking.of_print {value = value} (Printing.printed {t = t} d j)) =
      subst (If (Walked node (tree.print value) w)) j
      (judged_if (Walked node (tree.print value) w) _ _ _ (λ free. record {
        free = (free_if node _ (not (may_print (type_in t))) free).0;
        complete_so = printed_completes node.place (node_of value t);
        env = kept_same w.env;
        assigned = λ x h. no_case h;
      }))
  checking_walked {node = node} {w = w} step (Checking.of_text {text = text} j) =
      subst (If (Walked node (tree.print_text text) w)) j (judged_if (Walked node (tree.print_text text) w) _ _ _ (λ free. record { free = free; complete_so = refl; env = kept_same w.env; assigned = λ x h. no_case h }))
  checking_walked {node = node} {w = w} step (Checking.of_regions {names = names} j) =
      subst (If (Walked node (tree.local_regions names) w)) j
      (judged_if (Walked node (tree.local_regions names) w) _ _ _ (λ free. record {
        free = regions_free w.env node names free;
        complete_so = refl;
        env = (grown_regions w.env names, step_regions w.env names step, λ x. regions_other w.env names x);
        assigned = λ x h. no_case h;
      }))
  checking_walked {node = node} {w = w} {v = v} step (Checking.of_choice {test = test} {part = part} d) = chosen_so v (choosing_walked step d)
    where
      chosen_so : (x : Verdict TypedStmt) → If (Chosen node part None w) x → If (Walked node (tree.choice test part) w) x
      chosen_so (passes made u) h = record { free = h.free; complete_so = h.complete_so; env = h.kept; assigned = λ x t. h.assigned x (in_first (stmt_assigns x part) t) }
        where
          in_first : (b : Bool) → b ≡ true → (b || false) ≡ true
          in_first true t = refl
          in_first false t = t
      chosen_so (refused refusal) h = tt
  checking_walked {node = node} {w = w} {v = v} step (Checking.of_choice_else {test = test} {first = first} {second = second} d) = chosen_so v (choosing_walked step d)
    where
      chosen_so : (x : Verdict TypedStmt) → If (Chosen node first (Some second) w) x → If (Walked node (tree.choice_else test first second) w) x
      chosen_so (passes made u) h = record { free = h.free; complete_so = h.complete_so; env = h.kept; assigned = h.assigned }
      chosen_so (refused refusal) h = tt
  checking_walked step Checking.is_refused = tt
  checking_walked {node = node} {w = w} step (Checking.of_while {test = test} {body = body} {t = t} {g = g} {u = u} d i j) =
      subst (If (Walked node (tree.while_loop test body) w)) j
      (after_if (Scoped body w) (Walked node (tree.while_loop test body) w) (fault_of (with_fault_if node kind.Type (not (may_be is_boolean (type_in t)))))
      (λ s. statement node.place (typed.while_loop (node_of test t) s)) u (scope_found w body u g (scope_walked step i))
      (λ made x free h. record { free = (free_if node _ (not (may_be is_boolean (type_in t))) free).0; complete_so = refl; env = h.kept; assigned = h.assigned }))
  checking_walked step (Checking.of_cobegin d) = forking_walked step d
  checking_walked {node = node} {w = w} {v = v} step (Checking.of_foreach {nd = nd} {var = var} {start = start} {count = count} {body = body} {t = t} {u = u} d i n) =
      noted_of (tree.foreach nd var start count body) node _ w v
      (λ free. (free_if node _ (not (may_be is_int (type_in t))) (free_if (with_fault_if node kind.Type (not (may_be is_int (type_in t)))) kind.Type (not (may_be is_int (type_in u))) free).0).0)
      (iterating_walked start count w refl step n)
  checking_walked step (Checking.of_parts d) = parting_walked step d
  checking_walked {node = node} {w = w} step (Checking.of_atomic {all = all} {u = u} d j) =
      let h = block_walked step d in
      subst (If (Walked node (tree.atomic all) w)) j
      (judged_if (Walked node (tree.atomic all) w) _ _ _ (λ free. record { free = (free_if node _ u.found.reaches_nd free).0; complete_so = refl; env = h.kept; assigned = h.assigned }))

  choosing_walked : {params : List Bool} {around : Around} {node : Node} {test : PlainExpr} {first : PlainStmt} {other : Option PlainStmt} {w : Walk} {v : Verdict TypedStmt} → InStep w.env →
      Choosing params around node test first other w v → If (Chosen node first other w) v
  choosing_walked step Choosing.choice_refused = tt
  choosing_walked {node = node} {test = test} {first = first} {other = other} {w = w} step (Choosing.chosen {x = x} {t = t} {made = made} {u = u} d i n j) =
      let h = scope_walked step i in
      subst (If (Chosen node first other w)) j
      (after_if (OtherDone other x) (Chosen node first other w) (fault_of (with_fault_if node kind.Type (not (may_be is_boolean (type_in t)))))
      (λ part. statement node.place (choice_form (node_of test t) made part)) u (other_walked (kept_step w.env x.env h.kept step) n)
      (λ part y free o. chosen_of node.place node (node_of test t) first other w x y made part (free_if node _ (not (may_be is_boolean (type_in t))) free).0
      (record { complete_so = h.complete_so; kept = h.kept; assigned = h.assigned }) o))

  pub other_walked : {params : List Bool} {around : Around} {other : Option PlainStmt} {w : Walk} {v : Verdict (Option TypedStmt)} → InStep w.env → InOther params around other w v → If (OtherDone other w) v
  other_walked {w = w} step InOther.no_other = kept_same w.env
  other_walked {w = w} step (InOther.an_other {s = s} {u = u} d j) =
      subst (If (OtherDone (Some s) w)) j (after_if (Scoped s w) (OtherDone (Some s) w) None Some u (scope_walked step d) (λ made x free h. h))

  pub standing_walked : {params : List Bool} {around : Around} {follows : Bool} {s : PlainStmt} {w : Walk} {v : Verdict TypedStmt} → InStep w.env → Standing params around follows s w v →
      If (λ made u. (follows ≡ false) × Stood s w made u) v
  standing_walked {w = w} {v = v} step (standing {follows = follows} {place = place} {f = f} d) = standing_done f place follows w v step (checking_walked step d)

  pub scope_walked : {params : List Bool} {around : Around} {s : PlainStmt} {w : Walk} {v : Verdict TypedStmt} → InStep w.env → InScope params around s w v → If (Scoped s w) v
  scope_walked {s = s} {w = w} step (in_scope {u = u} d j) = subst (If (Scoped s w)) j (scope_done s w u step (second_of w s u (standing_walked step d)))

  pub block_walked : {params : List Bool} {around : Around} {all : PlainStmts} {w : Walk} {v : Verdict (List TypedStmt)} → InStep w.env → InBlock params around all w v → If (Blocked all w) v
  block_walked {all = all} {w = w} step (in_block {u = u} d j) = subst (If (Blocked all w)) j (block_done all w _ u refl step (order_walked step d))

  pub order_walked : {params : List Bool} {around : Around} {before : Bool} {ss : PlainStmts} {w : Walk} {v : Verdict (List TypedStmt)} → InStep w.env → InOrder params around before ss w v → If (Ordered before ss w) v
  order_walked {w = w} step InOrder.none_left = record { starts = inr refl; complete_so = refl; grown = grown_kept w.env w.env (kept_same w.env); assigned = λ x h. no_case h }
  order_walked step InOrder.order_refused = tt
  order_walked {before = before} {w = w} step (InOrder.then_others {s = s} {ss = ss} {u = u} {made = made} {x = x} d rest j) =
      let first = standing_walked step d in
      subst (If (Ordered before (tree.more_stmts s ss) w)) j
      (after_if (Ordered (before && tree_completes.completes s) ss u) (Ordered before (tree.more_stmts s ss) w) None (λ others. made ∷ others) x (order_walked first.1.step rest)
      (λ others z free h. order_done before s ss w u z made others (before_true before first.0) first.1 h))

  pub branching_walked : {params : List Bool} {around : Around} {nd : Bool} {ss : PlainStmts} {w : Walk} {v : BranchesVerdict} → InStep w.env → Branching params around nd ss w v → BranchesDone ss w v
  branching_walked {w = w} step Branching.no_branches = (kept_same w.env, λ x h. no_case h)
  branching_walked step Branching.branch_refused = tt
  branching_walked {nd = nd} {w = w} step (Branching.then_branches {s = s} {ss = ss} {u = u} {made = made} {v = v} d rest j) =
      let first = scope_walked step d in
      subst (BranchesDone (tree.more_stmts s ss) w) j
      (branch_done s ss w u (gathers (taken_in (from_here w.env (marks_after nd)) w.found u.found) u) (with_uses u.found.effects u.found.uses) w.env made v refl (record { complete_so = first.complete_so; kept = first.kept; assigned = first.assigned }) (branching_walked (kept_step w.env u.env first.kept step) rest))

  forking_walked : {params : List Bool} {around : Around} {node : Node} {nd : Bool} {branches : PlainStmts} {w : Walk} {v : Verdict TypedStmt} → InStep w.env → Forking params around node nd branches w v →
      If (Walked node (tree.cobegin nd branches) w) v
  forking_walked step Forking.fork_refused = tt
  forking_walked {node = node} {nd = nd} {branches = branches} {w = w} step (Forking.forked effects d free j) =
      let h = branching_walked step d in
      subst (If (Walked node (tree.cobegin nd branches) w)) j
      (judged_if (Walked node (tree.cobegin nd branches) w) _ _ _ (λ later. record { free = (free_if node _ (some_disturb branches) free).0; complete_so = refl; env = h.0; assigned = h.1 }))

  iterating_walked : {params : List Bool} {around : Around} {node : Node} {nd : Bool} {var : Named} {lowest size : TypedExpr} {body : PlainStmt} {w : Walk} {v : Verdict TypedStmt} (start count : PlainExpr) (before : Walk) →
      w.env ≡ before.env → InStep before.env → Iterating params around node nd var lowest size body w v → If (Walked node (tree.foreach nd var start count body) before) v
  iterating_walked start count before same step Iterating.iteration_refused = tt
  iterating_walked {node = node} {nd = nd} {var = var} {body = body} {w = w} start count before same step (Iterating.iterated {u = u} place placed d free j) =
      let begun : InStep w.env = subst InStep (sym same) step in
      let h = scope_walked (step_local w.env var.name _ true begun) d in
      let f = free_if (variable_noted w.env var node) _ (assigns_outer body) free in
      subst (If (Walked node (tree.foreach nd var start count body) before)) j
      (judged_if (Walked node (tree.foreach nd var start count body) before) _ _ _ (λ later. record {
        free = declared_free w.env var.name var.place node f.0;
        complete_so = refl;
        env = subst (λ z. Kept z (left_to u.env (mark_of w.env))) same
            (kept_left w.env u.env begun (grown_then w.env (variable_declared w.env var) u.env (grown_local w.env var.name _ true) (grown_kept (variable_declared w.env var) u.env h.kept)));
        assigned = λ x t.
            let p = and_true (not (var.name == x)) (stmt_assigns x body) t in
            absurd (false≢true (sym f.1 ∙ assigns_some body x p.1));
      }))

  parting_walked : {params : List Bool} {around : Around} {node : Node} {view var : Named} {array count : PlainExpr} {body : PlainStmt} {w : Walk} {v : Verdict TypedStmt} → InStep w.env →
      Parting params around node view var array count body w v → If (Walked node (tree.foreach_parts view var array count body) w) v
  parting_walked step Parting.parting_refused = tt
  parting_walked {node = node} {view = view} {var = var} {array = array} {count = count} {body = body} {w = w} step (Parting.parted {x = x} {u = u} {noted = noted} o d free j) =
      let p = opening_done o in
      let begun : InStep x.env = subst InStep (sym p.env_is) (step_parts w.env view var p.ty step) in
      let h = scope_walked begun d in
      let f = free_if noted _ (assigns_outer body) free in
      let grown : Grown w.env x.env = subst (Grown w.env) (sym p.env_is) (grown_parts w.env view var p.ty) in
      subst (If (Walked node (tree.foreach_parts view var array count body) w)) j
      (judged_if (Walked node (tree.foreach_parts view var array count body) w) _ _ _ (λ later. record {
        free = p.free f.0;
        complete_so = refl;
        env = kept_left w.env u.env step (grown_then w.env x.env u.env grown (grown_kept x.env u.env h.kept));
        assigned = λ n t.
            let q = and_true (not (view.name == n)) (not (var.name == n) && stmt_assigns n body) t in
            let r = and_true (not (var.name == n)) (stmt_assigns n body) q.1 in
            absurd (false≢true (sym f.1 ∙ assigns_some body n r.1));
      }))
