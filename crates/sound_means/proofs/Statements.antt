-- What is made of the statements of a body that pass is what they mean.
use Rattle.std.proofs.Common.{◌≡◌, ◌∙◌, ◌≤◌, ◌+◌, ℕ, suc, Bool, true, false, not, cond, List, [], ◌∷◌, length, Option, Some, None, Result, Ok, Err, refl, sym, ap, subst}
use Rattle.std.specs.Option.{option_map_or}
use Rattle.lang_base.specs.declared.effect.Effect.{Effect}
use Rattle.lang_base.specs.declared.place.Place.{Place}
use Rattle.lang_base.specs.declared.refusal.Kind.{Kind}
use Rattle.lang_base.specs.declared.refusal.Kind.TheVariants as kind
use Rattle.lang_base.specs.declared.refusal.Refusal.{Refusal}
use Rattle.lang_base.specs.declared.ty.Ty.TheVariants as variant
use Rattle.lang_base.specs.Types.{PlainType, plain_type}
use Rattle.lang_base.specs.Types.{PlainType as ty}
use Rattle.region_types.specs.Access.{PlainElement, element_of}
use Rattle.decl_headers.specs.declared.faults.Order.TheVariants as order
use Rattle.decl_headers.specs.Faults.{none_by}
use Rattle.decl_headers.specs.Passes.{fault}
use Rattle.decl_resolve.specs.Written.{type_faults}
use Rattle.syntax_tree.specs.declared.region.Named.{Named}
use Rattle.syntax_tree.specs.declared.region.TypeTree.{TypeTree}
use Rattle.syntax_tree.specs.Plain.{PlainExpr, expression, PlainStmt, PlainStmts}
use Rattle.syntax_tree.specs.Plain as tree
use Rattle.syntax_tree.specs.Targets.{IsField, IsElement, HasTargets, FormHasTargets, AllHaveTargets}
use Rattle.syntax_grammar.specs.Written.{Fitting, StmtFitting, StmtFormFitting, StmtsFitting}
use Rattle.lang_typed.specs.Plain.{TypedExpr, type_of, Source, TypedStmt, statement, TypedStmts, stmts_of, branches_of, choice_form}
use Rattle.lang_typed.specs.Plain as typed
use Rattle.syntax_means.specs.Bodies.{with_local, ExprMeans, SourceMeans, StmtMeans, PartMeans, AllMean, BranchesMean}
use Rattle.syntax_means.specs.Bodies.{with_regions as numbered_regions}
use Rattle.syntax_means.specs.Paths.{Around, TypeMeans}
use Rattle.body_exprs.specs.declared.env.Env.{Env}
use Rattle.body_exprs.specs.declared.env.LocalRow.{LocalRow}
use Rattle.body_exprs.specs.declared.found.Found.{Found}
use Rattle.body_exprs.specs.Answer.{gives}
use Rattle.body_exprs.specs.Elements.{index_of, array_element, element_in_part}
use Rattle.body_exprs.specs.Env.{table_of, scope_of, part_of, with_part, part_declared, region_declared}
use Rattle.body_exprs.specs.Fields.{PlainField, field_through}
use Rattle.body_exprs.specs.Targeting.{to_element, TargetAnswer, aims, misses, aimed, in_field, field_target, in_element, element_target, in_part_element, part_target, Targeting}
use Rattle.body_exprs.specs.Typed.{may_be, is_int, is_boolean, is_array, type_in}
use Rattle.body_exprs.specs.Typing.{Typing}
use Rattle.body_check.specs.declared.node.Around.{Around as Standing'}
use Rattle.body_check.specs.declared.node.Node.{Node}
use Rattle.body_check.specs.Checking.{own_block, own_scope, branch_of, variable_noted, parts_noted, parts_declared}
use Rattle.body_check.specs.Deciding.{whole_fault}
use Rattle.body_check.specs.Gathering.{with_uses}
use Rattle.body_check.specs.Noting.{with_found, with_fault_if, node_at as standing_node, fault_of}
use Rattle.body_check.specs.Simple.{place_of, node_of, declared_type, declared_reported, declaration_noted, region_noted, regions_noted, with_regions, regions_made, stored, printed_form}
use Rattle.body_check.specs.Walks.{Walk, Verdict, passes, refused}
use Rattle.sound_lemmas.proofs.StatementRules.{cut_fault, cut_type, Cutting, Opening, BranchesVerdict, all_pass, one_refused, after_branch, Checking, Choosing, InOther, Standing, standing, InScope, in_scope, InBlock, in_block, InOrder, Branching, Forking, Iterating, Parting, Declaring, AssigningLocal, AssigningPlace, Performing, Returning, Printing}
use Rattle.sound_lemmas.proofs.Bodies.{free_if, free_found, declared_free, regions_free}
use Rattle.sound_lemmas.proofs.Free.{parts_free}
use Rattle.sound_lemmas.proofs.Rules.{TargetRules, target_rules}
use Rattle.sound_lemmas.proofs.Known.{type_known}
use Rattle.sound_bodies.proofs.scope.Growing.{Kept, room_free}
use Rattle.sound_bodies.proofs.statements.Walks.{If, judged_if, after_if, After, Walked, checking_walked, scope_walked}
use Rattle.sound_means.proofs.Counting.{region_room}
use Rattle.sound_means.proofs.Expressions.{Meant, steps_meant, typing_meant, PartMeant, part_meant, FieldMeant, field_meant}
use Rattle.sound_means.proofs.Knows.{Knows, knows_kept, knows_local, knows_part, knows_region}
use Rattle.sound_means.proofs.Written.{type_here}

-- the typed expression that was made of an expression
expr_made : (A : Around) (env : Env) → Knows A env → (e : PlainExpr) (f g : Found) (t : Option TypedExpr) → Fitting e → Typing env e f (gives t g) → ExprMeans A e (node_of e t)
expr_made A env k e f g None fits d = absurd (typing_meant A env k e f fits d)
expr_made A env k e f g (Some t) fits d = typing_meant A env k e f fits d

-- what is made of a statement that stands at a node, of one with a scope of its own, and of several, is what they mean
abbrev MeansSo : Around → Node → tree.StmtForm → TypedStmt → Walk → Type 0
MeansSo A node f made u = StmtMeans A (tree.statement node.place f) made

at_place : {A : Around} {f : tree.StmtForm} {made : TypedStmt} (at place : Place) → at ≡ place → StmtMeans A (tree.statement at f) made → StmtMeans A (tree.statement place f) made
at_place {A} {f} {made} at place same m = subst (λ (z : Place). StmtMeans A (tree.statement z f) made) same m

abbrev PartSo : Around → PlainStmt → TypedStmt → Walk → Type 0
PartSo A s made u = PartMeans A s made

abbrev AllSo : Around → PlainStmts → List TypedStmt → Walk → Type 0
AllSo A all made u = AllMean A all (stmts_of made)

-- a statement before others: what is known after it, and that it means what was made of it, whatever follows
pub record Goes (A : Around) (d : PlainStmt) (made : TypedStmt) (u : Walk) : Type 0 where
  pub after : Around
  pub knows : Knows after u.env
  pub before : (ds : PlainStmts) (ss : TypedStmts) → AllMean after ds ss → AllMean A (tree.more_stmts d ds) (typed.more_stmts made ss)

-- one after which the same is in scope
kept_goes : (A : Around) (f : tree.StmtForm) (node : Node) (w : Walk) → ((a b : Env) → After f a b → Kept a b) → Knows A w.env → (v : Verdict TypedStmt) →
    If (MeansSo A node f) v → If (Walked node f w) v → If (Goes A (tree.statement node.place f)) v
kept_goes A f node w kept k (passes made u) m h = record { after = A; knows = knows_kept A w.env u.env (kept w.env u.env h.env) k; before = λ ds ss rest. AllMean.more_stmts m rest }
kept_goes A f node w kept k (refused refusal) m h = tt

-- declarations

declared_means : (A : Around) (env : Env) → Knows A env → (written : TypeTree) → length written.suffixes ≤ 4294967295 → declared_reported env written ≡ None → TypeMeans A written (declared_type env written)
declared_means A env k written few unreported =
    let w = type_known (scope_of env) written (parts_free (none_by order.Kind) (type_faults (scope_of env) written) unreported) in
    subst (TypeMeans A written) (sym (ap (λ o. option_map_or (λ t. t) o ty.void) w.1)) (type_here A (scope_of env) k.paths written w.0 few w.1)

declaring_goes : (A : Around) {node : Node} {is_final : Bool} {written : TypeTree} {name : ℕ} {value : PlainExpr} {w : Walk} {v : Verdict TypedStmt} → Knows A w.env → length written.suffixes ≤ 4294967295 → Fitting value →
    Declaring node is_final written name value w v → If (Goes A (tree.statement node.place (tree.declare is_final written name value))) v
declaring_goes A k few fits Declaring.is_refused = tt
declaring_goes A {node} {is_final} {written} {name} {value} {w} k few fits (Declaring.declared {t = t} {g = g} {fit = fit} made unreported same d fitting j) =
    subst (If (Goes A (tree.statement node.place (tree.declare is_final written name value)))) j
    (judged_if (Goes A (tree.statement node.place (tree.declare is_final written name value))) _ _ _ (λ free. record {
      after = with_local name w.env.slots A;
      knows = knows_local A w.env name made is_final (room_free w.env name node.place node (free_if (declaration_noted w.env name node.place node) _ (not fit) free).0) k;
      before = λ ds ss rest. AllMean.a_declaration (declared_means A w.env k written few unreported) (expr_made A w.env k value w.found g t fits d) rest;
    }))

-- local regions that are declared are as many as their names
record RegionsGo (A : Around) (env : Env) (names : List Named) : Type 0 where
  knows : Knows (numbered_regions names (regions_made env names) A) (with_regions env names)
  many : length (regions_made env names) ≡ length names

regions_go : (A : Around) (env : Env) (node : Node) (names : List Named) → Knows A env → fault_of (regions_noted env node names) ≡ None → RegionsGo A env names
regions_go A env node [] k free = record { knows = k; many = refl }
regions_go A env node (named ∷ names) k free =
    let room = region_room env named node (regions_free (region_declared env named.name) (region_noted env named node) names free) in
    let next = knows_region A env named.name room k in
    let rest = regions_go (record A { regions = (named.name, env.declared) ∷ A.regions }) (region_declared env named.name) (region_noted env named node) names next free in
    record { knows = rest.knows; many = ap suc rest.many }

-- assignments

local_means : (A : Around) {node : Node} {target : Named} {value : PlainExpr} {w : Walk} {v : Verdict TypedStmt} → Knows A w.env → Fitting value → AssigningLocal node target value w v →
    If (MeansSo A node (tree.assign_local target value)) v
local_means A k fits AssigningLocal.is_refused = tt
local_means A {node} {target} {value} {w} k fits (AssigningLocal.assigned {t = t} {g = g} {row = row} d is fitting j) =
    subst (If (MeansSo A node (tree.assign_local target value))) j
    (judged_if (MeansSo A node (tree.assign_local target value)) _ _ _ (λ free. StmtMeans.to_local (k.locals target.name row is) (expr_made A w.env k value w.found g t fits d)))

-- what is assigned to, by the form of its assignment
abbrev StoreMeans : Around → (PlainExpr → PlainExpr → tree.StmtForm) → PlainExpr → TargetAnswer → Type 0
StoreMeans A make target (aims None g) = ⊥
StoreMeans A make target (aims (Some aim) g) = (at : Place) (e : PlainExpr) (v : TypedExpr) → ExprMeans A e v → StmtMeans A (tree.statement at (make target e)) (statement (place_of target) (stored aim.spot v))
StoreMeans A make target (misses refusal) = Unit {0}

module _ (A : Around) (env : Env) (k : Knows A env)
  where
    field_store : (place : Place) (of : PlainExpr) (name : ℕ) (g : Found) (t : Option TypedExpr) → Meant A env k of (gives t g) →
        StoreMeans A tree.assign_field (expression place (tree.field of name)) (aimed (field_target env t name place) g)
    field_store place of name g None m = absurd m
    field_store place of name g (Some e) m = by (field_through (table_of env) (type_of e) name place) (field_meant A env k (type_of e) name place)
      where
        by : (r : Result PlainField Refusal) → FieldMeant A env k name r → StoreMeans A tree.assign_field (expression place (tree.field of name)) (aimed (in_field e r) g)
        by (Err refusal) f = tt
        by (Ok seen) f = λ at d v n. StmtMeans.to_field m f n

    part_store : (place : Place) (array index : PlainExpr) (g : Found) (row : LocalRow) (t : Option TypedExpr) → part_of env array ≡ Some row → Meant A env k index (gives t g) →
        StoreMeans A tree.assign_element (expression place (tree.element array index)) (aimed (part_target row t place) g)
    part_store place array index g row None l m = absurd m
    part_store place array index g row (Some i) l m = by (is_int (type_of i))
      where
        p : PartMeant A env k array row
        p = part_meant A env k array row l

        made : (u : PlainType) → is_array u ≡ true → StoreMeans A tree.assign_element (expression place (tree.element array index)) (aimed (in_part_element i (Ok (element_in_part row.slot u))) g)
        made (ty.array elem rpl named) is =
            λ at d v n. subst (λ e. StmtMeans A (tree.statement at (tree.assign_element (expression place (tree.element e index)) d)) (statement place (typed.store_part row.slot i v))) p.is (StmtMeans.to_part p.slot m n)
        made ty.int is = cc
        made ty.boolean is = cc
        made ty.void is = cc
        made ty.null is = cc
        made (ty.class c args) is = cc

        by : (b : Bool) → StoreMeans A tree.assign_element (expression place (tree.element array index))
            (aimed (in_part_element i (cond b (Ok (element_in_part row.slot (plain_type row.ty))) (Err (fault kind.Type place)))) g)
        by true = made (plain_type row.ty) p.array_so
        by false = tt

    element_store : (place : Place) (array index : PlainExpr) (g h : Found) (t u : Option TypedExpr) → Meant A env k array (gives t g) → Meant A env k index (gives u h) →
        StoreMeans A tree.assign_element (expression place (tree.element array index)) (aimed (element_target env t index u place) h)
    element_store place array index g h None u m n = absurd m
    element_store place array index g h (Some e) None m n = absurd n
    element_store place array index g h (Some e) (Some i) m n = by (is_int (type_of i))
      where
        at : (o : Option PlainElement) → StoreMeans A tree.assign_element (expression place (tree.element array index))
            (aimed (in_element (to_element e i) (option_map_or (λ element. Ok (Some element)) o (Err (fault kind.Type place)))) h)
        at None = tt
        at (Some seen) = λ there d v o. StmtMeans.to_element m n o

        by : (b : Bool) → StoreMeans A tree.assign_element (expression place (tree.element array index))
            (aimed (in_element (to_element e i) (cond b (array_element (Some (type_of e)) (index_of env index) place) (Err (fault kind.Type place)))) h)
        by true = at (element_of (type_of e) (index_of env index))
        by false = tt

    fields_store : {e : PlainExpr} {f : Found} {a : TargetAnswer} → IsField e → Fitting e → TargetRules env e f a → StoreMeans A tree.assign_field e a
    fields_store is fits TargetRules.is_missed = tt
    fields_store is fits (TargetRules.field_assigned {place = place} {of = of} {name = name} {g = g} {t = t} l d r) =
        subst (StoreMeans A tree.assign_field (expression place (tree.field of name))) r (field_store place of name g t (steps_meant A env k fits d))
    fields_store is fits (TargetRules.part_element_assigned l d r) = absurd is
    fields_store is fits (TargetRules.element_assigned l d i r) = absurd is

    elements_store : {e : PlainExpr} {f : Found} {a : TargetAnswer} → IsElement e → Fitting e → TargetRules env e f a → StoreMeans A tree.assign_element e a
    elements_store is fits TargetRules.is_missed = tt
    elements_store is fits (TargetRules.field_assigned l d r) = absurd is
    elements_store is fits (TargetRules.part_element_assigned {place = place} {array = array} {index = index} {g = g} {row = row} {t = t} l d r) =
        subst (StoreMeans A tree.assign_element (expression place (tree.element array index))) r (part_store place array index g row t l (steps_meant A env k fits.1 d))
    elements_store is fits (TargetRules.element_assigned {place = place} {array = array} {index = index} {g = g} {h = h} {t = t} {u = u} l d i r) =
        subst (StoreMeans A tree.assign_element (expression place (tree.element array index))) r
        (element_store place array index g h t u (steps_meant A env k fits.0 d) (steps_meant A env k fits.1 i))

placing_means : (A : Around) (make : PlainExpr → PlainExpr → tree.StmtForm) {node : Node} {target value : PlainExpr} {w : Walk} {v : Verdict TypedStmt} → Knows A w.env → Fitting value →
    ((a : TargetAnswer) → Targeting w.env target w.found a → StoreMeans A make target a) → AssigningPlace node target value w v → If (MeansSo A node (make target value)) v
placing_means A make k fits store AssigningPlace.is_refused = tt
placing_means A make k fits store (AssigningPlace.anything_assigned {g = g} d i j) = absurd (store (aims None g) d)
placing_means A make {node} {target} {value} {w} k fits store (AssigningPlace.place_assigned {aim = aim} {g = g} {h = h} {t = t} d i fitting j) =
    subst (If (MeansSo A node (make target value))) j
    (judged_if (MeansSo A node (make target value)) _ _ _ (λ free. store (aims (Some aim) g) d node.place value (node_of value t) (expr_made A w.env k value g h t fits i)))

-- a value that is printed
printed_means : (A : Around) (at : Place) (e : PlainExpr) (v : TypedExpr) → ExprMeans A e v → StmtMeans A (tree.statement at (tree.print e)) (statement at (printed_form v))
printed_means A at e v m = by (is_boolean (type_of v))
  where
    by : (b : Bool) → StmtMeans A (tree.statement at (tree.print e)) (statement at (cond b (typed.print_boolean v) (typed.print_int v)))
    by true = StmtMeans.print_boolean m
    by false = StmtMeans.print_int m

-- the part after the `else`
abbrev OtherMeans : Around → Option PlainStmt → Option TypedStmt → Type 0
OtherMeans A None None = Unit {0}
OtherMeans A (Some s) (Some made) = PartMeans A s made
OtherMeans A None (Some made) = ⊥
OtherMeans A (Some s) None = ⊥

abbrev OtherSo : Around → Option PlainStmt → Option TypedStmt → Walk → Type 0
OtherSo A other part u = OtherMeans A other part

chosen_means : (A : Around) (at : Place) (test : PlainExpr) (t : TypedExpr) (first : PlainStmt) (made : TypedStmt) (other : Option PlainStmt) (part : Option TypedStmt) → ExprMeans A test t → PartMeans A first made →
    OtherMeans A other part → StmtMeans A (tree.statement at (tree.choice_form test first other)) (statement at (choice_form t made part))
chosen_means A at test t first made None None m p o = StmtMeans.a_choice m p
chosen_means A at test t first made (Some s) (Some second) m p o = StmtMeans.a_choice_else m p o
chosen_means A at test t first made None (Some second) m p o = absurd o
chosen_means A at test t first made (Some s) None m p o = absurd o

abbrev OtherHasTargets : Option PlainStmt → Type 0
OtherHasTargets None = Unit {0}
OtherHasTargets (Some s) = HasTargets s

abbrev OtherFitting : Option PlainStmt → Type 0
OtherFitting None = Unit {0}
OtherFitting (Some s) = StmtFitting s

abbrev BranchesMeant : Around → PlainStmts → BranchesVerdict → Type 0
BranchesMeant A ss (all_pass effects made u) = BranchesMean A ss (branches_of made)
BranchesMeant A ss (one_refused refusal) = Unit {0}

branch_means : (A : Around) (s : PlainStmt) (ss : PlainStmts) (effects : List Effect) (env : Env) (made : TypedStmt) (v : BranchesVerdict) → PartMeans A s made → BranchesMeant A ss v →
    BranchesMeant A (tree.more_stmts s ss) (after_branch effects (branch_of env s made) v)
branch_means A s ss effects env made (all_pass others branches u) m rest = BranchesMean.more_branches m rest
branch_means A s ss effects env made (one_refused refusal) m rest = tt

-- a statement in a scope of its own
scope_means : (A : Around) (s : PlainStmt) (before : Walk) (u : Verdict TypedStmt) → If (Goes A s) u → If (PartSo A s) (own_scope before u)
scope_means A s before (passes made x) g = PartMeans.a_part (g.before tree.no_stmts typed.no_stmts AllMean.no_stmts)
scope_means A s before (refused refusal) g = tt

block_means : (A : Around) (all : PlainStmts) (before : Walk) (u : Verdict (List TypedStmt)) → If (AllSo A all) u →
    If (AllSo A all) (own_block before u)
block_means A all before (passes made x) m = m
block_means A all before (refused refusal) m = tt

-- a node keeps its place when faults are noted
noted_place : (node : Node) (reason : Kind) (b : Bool) → (with_fault_if node reason b).place ≡ node.place
noted_place node reason true = refl
noted_place node reason false = refl

standing_place : (place : Place) (follows : Bool) → (standing_node place follows).place ≡ place
standing_place place true = refl
standing_place place false = refl

whole_array : (t : PlainType) → whole_fault t ≡ None → is_array t ≡ true
whole_array (ty.array elem a named) h = refl
whole_array ty.int h = cc
whole_array ty.boolean h = cc
whole_array ty.void h = cc
whole_array ty.null h = cc
whole_array (ty.class c args) h = cc

-- what is cut
cut_array : (A : Around) (env : Env) → Knows A env → (array : PlainExpr) (f g : Found) (t : Option TypedExpr) → Fitting array → Typing env array f (gives t g) → cut_fault t ≡ None →
    SourceMeans A array (typed.of_array (node_of array t)) × (is_array (cut_type t) ≡ true)
cut_array A env k array f g None fits d none = absurd (typing_meant A env k array f fits d)
cut_array A env k array f g (Some e) fits d none = (SourceMeans.an_array (typing_meant A env k array f fits d), whole_array (type_of e) none)

cutting_means : (A : Around) {env : Env} {array : PlainExpr} {f g : Found} {t : PlainType} {source : Source} {wrong : Option Kind} → Knows A env → Fitting array → Cutting env array f t source wrong g → wrong ≡ None →
    SourceMeans A array source × (is_array t ≡ true)
cutting_means A {env} {array} k fits (Cutting.a_part {row = row} l) none =
    let p = part_meant A env k array row l in
    (subst (λ e. SourceMeans A e (typed.of_part row.slot)) p.is (SourceMeans.a_part p.slot), p.array_so)
cutting_means A {env} {array} {f} {g} k fits (Cutting.an_array {t = t} l d) none = cut_array A env k array f g t fits d none

mutual
  checking_goes : {params : List Bool} {around : Standing'} {node : Node} {f : tree.StmtForm} {w : Walk} {v : Verdict TypedStmt} (A : Around) → Knows A w.env → FormHasTargets f → StmtFormFitting f → Checking params around node f w v →
      If (Goes A (tree.statement node.place f)) v
  checking_goes A k targets fits (Checking.of_declaration d) = declaring_goes A k fits.0 fits.1 d
  checking_goes {params = params} {around = around} {node = node} {w = w} A k targets fits (Checking.of_regions {names = names} j) =
      subst (If (Goes A (tree.statement node.place (tree.local_regions names)))) j
      (judged_if (Goes A (tree.statement node.place (tree.local_regions names))) _ _ _ (λ free.
      let r = regions_go A w.env node names k free in
      record { after = numbered_regions names (regions_made w.env names) A; knows = r.knows; before = λ ds ss rest. AllMean.new_regions r.many rest }))
  checking_goes {params = params} {around = around} {node = node} {w = w} {v = v} A k targets fits (Checking.of_block {all = all} {u = u} d j) =
      kept_goes A (tree.block all) node w (λ a b h. h) k v
      (subst (If (MeansSo A node (tree.block all))) j
      (after_if (AllSo A all) (MeansSo A node (tree.block all)) (fault_of node) (λ ss. statement node.place (typed.block (stmts_of ss))) u (blocks_mean A k targets fits d)
      (λ made x free m. StmtMeans.a_block m)))
      (checking_walked {params = params} {around = around} k.step (Checking.of_block d j))
  checking_goes {params = params} {around = around} {node = node} {w = w} {v = v} A k targets fits (Checking.of_local_assignment {target = target} {value = value} d) =
      kept_goes A (tree.assign_local target value) node w (λ a b h. h) k v (local_means A k fits d) (checking_walked {params = params} {around = around} k.step (Checking.of_local_assignment d))
  checking_goes {params = params} {around = around} {node = node} {w = w} {v = v} A k targets fits (Checking.of_field_assignment {target = target} {value = value} d) =
      kept_goes A (tree.assign_field target value) node w (λ a b h. h) k v
      (placing_means A tree.assign_field k fits.1 (λ a aim. fields_store A w.env k targets fits.0 (target_rules w.env target w.found aim)) d) (checking_walked {params = params} {around = around} k.step (Checking.of_field_assignment d))
  checking_goes {params = params} {around = around} {node = node} {w = w} {v = v} A k targets fits (Checking.of_element_assignment {target = target} {value = value} d) =
      kept_goes A (tree.assign_element target value) node w (λ a b h. h) k v
      (placing_means A tree.assign_element k fits.1 (λ a aim. elements_store A w.env k targets fits.0 (target_rules w.env target w.found aim)) d) (checking_walked {params = params} {around = around} k.step (Checking.of_element_assignment d))
  checking_goes A k targets fits (Checking.of_call Performing.is_refused) = tt
  checking_goes {params = params} {around = around} {node = node} {w = w} {v = v} A k targets fits (Checking.of_call {value = value} (Performing.performed {t = t} {g = g} d j)) =
      kept_goes A (tree.perform value) node w (λ a b h. h) k v
      (subst (If (MeansSo A node (tree.perform value))) j (judged_if (MeansSo A node (tree.perform value)) _ _ _ (λ free. StmtMeans.performed (expr_made A w.env k value w.found g t fits.0 d))))
      (checking_walked {params = params} {around = around} k.step (Checking.of_call (Performing.performed d j)))
  checking_goes {params = params} {around = around} {node = node} {w = w} {v = v} A k targets fits (Checking.of_return j) =
      kept_goes A tree.return_nothing node w (λ a b h. h) k v
      (subst (If (MeansSo A node tree.return_nothing)) j (judged_if (MeansSo A node tree.return_nothing) _ _ _ (λ free. StmtMeans.a_return)))
      (checking_walked {params = params} {around = around} k.step (Checking.of_return j))
  checking_goes A k targets fits (Checking.of_return_value Returning.is_refused) = tt
  checking_goes {params = params} {around = around} {node = node} {w = w} {v = v} A k targets fits (Checking.of_return_value {value = value} (Returning.returned {t = t} {g = g} d fitting j)) =
      kept_goes A (tree.return_value value) node w (λ a b h. h) k v
      (subst (If (MeansSo A node (tree.return_value value))) j (judged_if (MeansSo A node (tree.return_value value)) _ _ _ (λ free. StmtMeans.a_return_value (expr_made A w.env k value w.found g t fits d))))
      (checking_walked {params = params} {around = around} k.step (Checking.of_return_value (Returning.returned d fitting j)))
  checking_goes A k targets fits (Checking.of_print Printing.is_refused) = tt
  checking_goes {params = params} {around = around} {node = node} {w = w} {v = v} A k targets fits (Checking.of_print {value = value} (Printing.printed {t = t} {g = g} d j)) =
      kept_goes A (tree.print value) node w (λ a b h. h) k v
      (subst (If (MeansSo A node (tree.print value))) j
      (judged_if (MeansSo A node (tree.print value)) _ _ _ (λ free. printed_means A node.place value (node_of value t) (expr_made A w.env k value w.found g t fits d))))
      (checking_walked {params = params} {around = around} k.step (Checking.of_print (Printing.printed d j)))
  checking_goes {params = params} {around = around} {node = node} {w = w} {v = v} A k targets fits (Checking.of_text {text = text} j) =
      kept_goes A (tree.print_text text) node w (λ a b h. h) k v
      (subst (If (MeansSo A node (tree.print_text text))) j (judged_if (MeansSo A node (tree.print_text text)) _ _ _ (λ free. StmtMeans.print_text)))
      (checking_walked {params = params} {around = around} k.step (Checking.of_text j))
  checking_goes {params = params} {around = around} {node = node} {w = w} {v = v} A k targets fits (Checking.of_choice {test = test} {part = part} d) =
      kept_goes A (tree.choice test part) node w (λ a b h. h) k v (choosing_means A k (targets, tt) (fits.0, fits.1, tt) d) (checking_walked {params = params} {around = around} k.step (Checking.of_choice d))
  checking_goes {params = params} {around = around} {node = node} {w = w} {v = v} A k targets fits (Checking.of_choice_else {test = test} {first = first} {second = second} d) =
      kept_goes A (tree.choice_else test first second) node w (λ a b h. h) k v (choosing_means A k (targets.0, targets.1) (fits.0, fits.1, fits.2) d) (checking_walked {params = params} {around = around} k.step (Checking.of_choice_else d))
  checking_goes A k targets fits Checking.is_refused = tt
  checking_goes {params = params} {around = around} {node = node} {w = w} {v = v} A k targets fits (Checking.of_while {test = test} {body = body} {t = t} {g = g} {u = u} d i j) =
      kept_goes A (tree.while_loop test body) node w (λ a b h. h) k v
      (subst (If (MeansSo A node (tree.while_loop test body))) j
      (after_if (PartSo A body) (MeansSo A node (tree.while_loop test body))
      (fault_of (with_fault_if node kind.Type (not (may_be is_boolean (type_in t))))) (λ s. statement node.place (typed.while_loop (node_of test t) s)) u (scopes_mean A k targets fits.1 i)
      (λ made x free m. StmtMeans.a_while (expr_made A w.env k test w.found g t fits.0 d) m)))
      (checking_walked {params = params} {around = around} k.step (Checking.of_while d i j))
  checking_goes {params = params} {around = around} {node = node} {w = w} {v = v} A k targets fits (Checking.of_cobegin {nd = nd} {branches = branches} d) =
      kept_goes A (tree.cobegin nd branches) node w (λ a b h. h) k v (forking_means A k targets fits d) (checking_walked {params = params} {around = around} k.step (Checking.of_cobegin d))
  checking_goes {params = params} {around = around} {node = node} {w = w} {v = v} A k targets fits (Checking.of_foreach {nd = nd} {var = var} {start = start} {count = count} {body = body} {t = t} {u = u} {g = g} {h = h} d i n) =
      kept_goes A (tree.foreach nd var start count body) node w (λ a b h. h) k v
      (subst (λ place. If (λ made x. StmtMeans A (tree.statement place (tree.foreach nd var start count body)) made) v)
      (noted_place (with_fault_if node kind.Type (not (may_be is_int (type_in t)))) kind.Type (not (may_be is_int (type_in u))) ∙ noted_place node kind.Type (not (may_be is_int (type_in t))))
      (iterating_means A start count k targets fits.2 (expr_made A w.env k start w.found g t fits.0 d) (expr_made A w.env k count g h u fits.1 i) n))
      (checking_walked {params = params} {around = around} k.step (Checking.of_foreach d i n))
  checking_goes {params = params} {around = around} {node = node} {w = w} {v = v} A k targets fits (Checking.of_parts {view = view} {var = var} {array = array} {count = count} {body = body} d) =
      kept_goes A (tree.foreach_parts view var array count body) node w (λ a b h. h) k v (parting_means A k targets fits.0 fits.1 fits.2 d) (checking_walked {params = params} {around = around} k.step (Checking.of_parts d))
  checking_goes {params = params} {around = around} {node = node} {w = w} {v = v} A k targets fits (Checking.of_atomic {all = all} d j) =
      kept_goes A (tree.atomic all) node w (λ a b h. h) k v
      (subst (If (MeansSo A node (tree.atomic all))) j (judged_if (MeansSo A node (tree.atomic all)) _ _ _ (λ free. StmtMeans.an_atomic (blocks_mean A k targets fits d))))
      (checking_walked {params = params} {around = around} k.step (Checking.of_atomic d j))

  choosing_means : {params : List Bool} {around : Standing'} {node : Node} {test : PlainExpr} {first : PlainStmt} {other : Option PlainStmt} {w : Walk} {v : Verdict TypedStmt} (A : Around) → Knows A w.env →
      HasTargets first × OtherHasTargets other → Fitting test × StmtFitting first × OtherFitting other → Choosing params around node test first other w v →
      If (MeansSo A node (tree.choice_form test first other)) v
  choosing_means A k targets fits Choosing.choice_refused = tt
  choosing_means {node = node} {test = test} {first = first} {other = other} {w = w} A k targets fits (Choosing.chosen {x = x} {t = t} {g = g} {made = made} {u = u} d i n j) =
      let h = scope_walked k.step i in
      subst (If (MeansSo A node (tree.choice_form test first other))) j
      (after_if (OtherSo A other) (MeansSo A node (tree.choice_form test first other)) (fault_of (with_fault_if node kind.Type (not (may_be is_boolean (type_in t)))))
      (λ part. statement node.place (choice_form (node_of test t) made part)) u (others_mean A (knows_kept A w.env x.env h.kept k) targets.1 fits.2 n)
      (λ part y free o. chosen_means A node.place test (node_of test t) first made other part (expr_made A w.env k test w.found g t fits.0 d) (scopes_mean A k targets.0 fits.1 i) o))

  others_mean : {params : List Bool} {around : Standing'} {other : Option PlainStmt} {w : Walk} {v : Verdict (Option TypedStmt)} (A : Around) → Knows A w.env → OtherHasTargets other → OtherFitting other →
      InOther params around other w v → If (OtherSo A other) v
  others_mean A k targets fits InOther.no_other = tt
  others_mean A k targets fits (InOther.an_other {s = s} {u = u} d j) =
      subst (If (OtherSo A (Some s))) j
      (after_if (PartSo A s) (OtherSo A (Some s)) None Some u (scopes_mean A k targets fits d) (λ made x free m. m))

  standing_goes : {params : List Bool} {around : Standing'} {follows : Bool} {s : PlainStmt} {w : Walk} {v : Verdict TypedStmt} (A : Around) → Knows A w.env → HasTargets s → StmtFitting s → Standing params around follows s w v →
      If (Goes A s) v
  standing_goes {v = v} A k targets fits (standing {follows = follows} {place = place} {f = f} d) =
      subst (λ at. If (Goes A (tree.statement at f)) v) (standing_place place follows) (checking_goes A k targets fits d)

  scopes_mean : {params : List Bool} {around : Standing'} {s : PlainStmt} {w : Walk} {v : Verdict TypedStmt} (A : Around) → Knows A w.env → HasTargets s → StmtFitting s → InScope params around s w v → If (PartSo A s) v
  scopes_mean {s = s} {w = w} A k targets fits (in_scope {u = u} d j) = subst (If (PartSo A s)) j (scope_means A s w u (standing_goes A k targets fits d))

  blocks_mean : {params : List Bool} {around : Standing'} {all : PlainStmts} {w : Walk} {v : Verdict (List TypedStmt)} (A : Around) → Knows A w.env → AllHaveTargets all → StmtsFitting all → InBlock params around all w v →
      If (AllSo A all) v
  blocks_mean {all = all} {w = w} A k targets fits (in_block {u = u} d j) = subst (If (AllSo A all)) j (block_means A all w u (order_means A k targets fits d))

  order_means : {params : List Bool} {around : Standing'} {complete : Bool} {all : PlainStmts} {w : Walk} {v : Verdict (List TypedStmt)} (A : Around) → Knows A w.env → AllHaveTargets all → StmtsFitting all →
      InOrder params around complete all w v → If (AllSo A all) v
  order_means A k targets fits InOrder.none_left = AllMean.no_stmts
  order_means A k targets fits InOrder.order_refused = tt
  order_means A k targets fits (InOrder.then_others {s = s} {ss = ss} {made = made} {x = x} d rest j) =
      let g = standing_goes A k targets.0 fits.0 d in
      subst (If (AllSo A (tree.more_stmts s ss))) j
      (after_if (AllSo g.after ss) (AllSo A (tree.more_stmts s ss)) None (λ others. made ∷ others) x (order_means g.after g.knows targets.1 fits.1 rest)
      (λ others z free m. g.before ss (stmts_of others) m))

  branching_means : {params : List Bool} {around : Standing'} {nd : Bool} {ss : PlainStmts} {w : Walk} {v : BranchesVerdict} (A : Around) → Knows A w.env → AllHaveTargets ss → StmtsFitting ss → Branching params around nd ss w v →
      BranchesMeant A ss v
  branching_means A k targets fits Branching.no_branches = BranchesMean.no_branches
  branching_means A k targets fits Branching.branch_refused = tt
  branching_means {w = w} A k targets fits (Branching.then_branches {s = s} {ss = ss} {u = u} {made = made} {v = v} d rest j) =
      subst (BranchesMeant A (tree.more_stmts s ss)) j
      (branch_means A s ss (with_uses u.found.effects u.found.uses) w.env made v (scopes_mean A k targets.0 fits.0 d)
      (branching_means A (knows_kept A w.env u.env (scope_walked k.step d).kept k) targets.1 fits.1 rest))

  forking_means : {params : List Bool} {around : Standing'} {node : Node} {nd : Bool} {branches : PlainStmts} {w : Walk} {v : Verdict TypedStmt} (A : Around) → Knows A w.env → AllHaveTargets branches → StmtsFitting branches →
      Forking params around node nd branches w v → If (MeansSo A node (tree.cobegin nd branches)) v
  forking_means A k targets fits Forking.fork_refused = tt
  forking_means {node = node} {nd = nd} {branches = branches} A k targets fits (Forking.forked effects d free j) =
      subst (If (MeansSo A node (tree.cobegin nd branches))) j (judged_if (MeansSo A node (tree.cobegin nd branches)) _ _ _ (λ free. StmtMeans.a_cobegin refl (branching_means A k targets fits d)))

  iterating_means : {params : List Bool} {around : Standing'} {node : Node} {nd : Bool} {var : Named} {lowest size : TypedExpr} {body : PlainStmt} {w : Walk} {v : Verdict TypedStmt} (A : Around) (start count : PlainExpr) → Knows A w.env →
      HasTargets body → StmtFitting body → ExprMeans A start lowest → ExprMeans A count size → Iterating params around node nd var lowest size body w v →
      If (MeansSo A node (tree.foreach nd var start count body)) v
  iterating_means A start count k targets fits low high Iterating.iteration_refused = tt
  iterating_means {node = node} {nd = nd} {var = var} {body = body} {w = w} A start count k targets fits low high (Iterating.iterated place placed d free j) =
      let room = room_free w.env var.name var.place node (free_if (variable_noted w.env var node) _ _ free).0 in
      subst (If (MeansSo A node (tree.foreach nd var start count body))) j
      (judged_if (MeansSo A node (tree.foreach nd var start count body)) _ _ _ (λ later. at_place place node.place placed (StmtMeans.a_foreach refl low high
      (scopes_mean (with_local var.name w.env.slots A) (knows_local A w.env var.name variant.Int true room k) targets fits d))))

  parting_means : {params : List Bool} {around : Standing'} {node : Node} {view var : Named} {array count : PlainExpr} {body : PlainStmt} {w : Walk} {v : Verdict TypedStmt} (A : Around) → Knows A w.env → HasTargets body → Fitting array →
      Fitting count → StmtFitting body → Parting params around node view var array count body w v → If (MeansSo A node (tree.foreach_parts view var array count body)) v
  parting_means A k targets array_fits count_fits fits Parting.parting_refused = tt
  parting_means {node = node} {view = view} {var = var} {array = array} {count = count} {body = body} {w = w} A k targets array_fits count_fits fits
      (Parting.parted (Opening.both_given t {source = source} {fault = wrong} {g = g} {h = h} {u = q} c i) d free j) =
      let first : Node = with_fault_if (with_found node wrong) kind.Type (not (may_be is_int (type_in q))) in
      let f = free_if (parts_noted w.env view var t first) _ _ free in
      let var_room = room_free (part_declared w.env view.name t) var.name var.place (declaration_noted w.env view.name view.place first) f.0 in
      let before = declared_free (part_declared w.env view.name t) var.name var.place (declaration_noted w.env view.name view.place first) f.0 in
      let view_room = room_free w.env view.name view.place first before in
      let found = free_if (with_found node wrong) _ (not (may_be is_int (type_in q))) (declared_free w.env view.name view.place first before) in
      let cut = cutting_means A k array_fits c (free_found node wrong found.0).1 in
      let slots = ap (λ b. (cond b (with_part w.env view.name t) w.env).slots) view_room in
      let inside = subst (λ x. Knows (with_local var.name x (with_local view.name w.env.slots A)) (parts_declared w.env view var t)) slots
      (knows_local (with_local view.name w.env.slots A) (part_declared w.env view.name t) var.name variant.Int true var_room (knows_part A w.env view.name t view_room cut.1 k)) in
      subst (If (MeansSo A node (tree.foreach_parts view var array count body))) j
      (judged_if (MeansSo A node (tree.foreach_parts view var array count body)) _ _ _ (λ later. StmtMeans.a_foreach_parts cut.0 (expr_made A w.env k count g h q count_fits i)
      (scopes_mean (with_local var.name (w.env.slots + 4) (with_local view.name w.env.slots A)) inside targets fits d)))

-- the statements of a block that pass
pub block_meant : {params : List Bool} {around : Standing'} {all : PlainStmts} {w u : Walk} {made : List TypedStmt} (A : Around) → Knows A w.env → AllHaveTargets all → StmtsFitting all → InBlock params around all w (passes made u) →
    AllMean A all (stmts_of made)
block_meant A k targets fits d = blocks_mean A k targets fits d
