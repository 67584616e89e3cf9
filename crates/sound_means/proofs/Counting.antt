-- The slots and the local regions that the statements of a body are given are counted on, in the order of the text.
use Rattle.std.proofs.Common.{◌≡◌, ◌∙◌, ℕ, suc, ◌+◌, Bool, true, false, not, cond, List, [], ◌∷◌, ◌++◌, length, Option, Some, None, refl, sym, ap, subst, arith}
use Rattle.std.proofs.lemmas.List.{append-nil}
use Rattle.lang_base.specs.declared.effect.Effect.{Effect}
use Rattle.lang_base.specs.declared.place.Place.{Place}
use Rattle.lang_base.specs.declared.refusal.Kind.TheVariants as kind
use Rattle.lang_base.specs.declared.ty.Ty.{Ty}
use Rattle.lang_base.specs.declared.ty.Ty.TheVariants as variant
use Rattle.syntax_tree.specs.declared.class.Formal.{Formal}
use Rattle.syntax_tree.specs.declared.region.Named.{Named}
use Rattle.syntax_tree.specs.Plain.{PlainExpr, PlainStmt, PlainStmts}
use Rattle.syntax_tree.specs.Plain as tree
use Rattle.lang_typed.specs.Plain.{TypedExpr, type_of, TypedStmt, statement, stmts_of, branches_of, choice_form}
use Rattle.lang_typed.specs.Plain as typed
use Rattle.syntax_means.specs.Numbered.{Counts, given_in, given_in_all, given_in_branches, own_slots, own_regions}
use Rattle.body_exprs.specs.declared.env.Env.{Env}
use Rattle.body_exprs.specs.Env.{with_local, with_part, with_region, has_room, local_declared, part_declared, region_declared}
use Rattle.body_exprs.specs.Targeting.{PlainSpot, to_field, to_element, to_part}
use Rattle.body_exprs.specs.Typed.{may_be, is_int, is_boolean, type_in}
use Rattle.body_check.specs.declared.node.Around.{Around}
use Rattle.body_check.specs.declared.node.Node.{Node}
use Rattle.body_check.specs.Checking.{own_block, own_scope, branch_of, variable_declared, variable_noted, parts_noted, parts_declared}
use Rattle.body_check.specs.Methods.{formals_declared}
use Rattle.body_check.specs.Noting.{with_fault, with_found, with_fault_if, fault_of}
use Rattle.body_check.specs.Simple.{place_of, node_of, declaration_noted, is_region_name, region_noted, regions_noted, with_regions, regions_made, stored, printed_form}
use Rattle.body_check.specs.Walks.{Walk, Verdict, passes, refused}
use Rattle.sound_lemmas.proofs.StatementRules.{Opening, BranchesVerdict, all_pass, one_refused, after_branch, Checking, Choosing, InOther, Standing, standing, InScope, in_scope, InBlock, in_block, InOrder, Branching, Forking, Iterating, Parting, Declaring, AssigningLocal, AssigningPlace, Performing, Returning, Printing}
use Rattle.sound_lemmas.proofs.Bodies.{not_faulty, free_if, declared_free, regions_free}
use Rattle.sound_bodies.proofs.scope.Growing.{room_free}
use Rattle.sound_bodies.proofs.statements.Walks.{If, judged_if, after_if}

counts_then : (n m k : ℕ) (xs ys : List ℕ) → Counts n m xs → Counts m k ys → Counts n k (xs ++ ys)
counts_then n m k [] ys h l = subst (λ z. Counts z k ys) (sym h) l
counts_then n m k (x ∷ xs) ys h l = (h.0, counts_then (suc n) m k xs ys h.1 l)

-- from one scope to another these slots and local regions are given
abbrev Counted : Env → Env → List ℕ → List ℕ → Type 0
Counted a b slots regions = Counts a.slots b.slots slots × Counts a.declared b.declared regions

counted_then : (a b c : Env) (xs ys rs qs : List ℕ) → Counted a b xs rs → Counted b c ys qs → Counted a c (xs ++ ys) (rs ++ qs)
counted_then a b c xs ys rs qs h l = (counts_then a.slots b.slots c.slots xs ys h.0 l.0, counts_then a.declared b.declared c.declared rs qs h.1 l.1)

-- by a statement that was made, by several, and by branches
abbrev CountedSo : Env → TypedStmt → Walk → Type 0
CountedSo a made u = Counted a u.env (given_in own_slots made) (given_in own_regions made)

abbrev AllCounted : Env → List TypedStmt → Walk → Type 0
AllCounted a made u = Counted a u.env (given_in_all own_slots (stmts_of made)) (given_in_all own_regions (stmts_of made))

abbrev OtherCounted : Env → Option TypedStmt → Walk → Type 0
OtherCounted a None u = Counted a u.env [] []
OtherCounted a (Some made) u = CountedSo a made u

abbrev BranchesCounted : Env → BranchesVerdict → Type 0
BranchesCounted a (all_pass effects made u) = Counted a u.env (given_in_branches own_slots (branches_of made)) (given_in_branches own_regions (branches_of made))
BranchesCounted a (one_refused refusal) = Unit {0}

-- what is declared, where there is room for it

local_counted : (env : Env) (name : ℕ) (t : Ty) (is_final : Bool) → has_room env ≡ true → Counted env (local_declared env name t is_final) (env.slots ∷ []) []
local_counted env name t is_final room =
    subst (λ b. Counted env (cond b (with_local env name t is_final) env) (env.slots ∷ []) []) (sym room) ((refl, omega arith), refl)

part_counted : (env : Env) (name : ℕ) (t : Ty) → has_room env ≡ true →
    Counted env (part_declared env name t) (env.slots ∷ (env.slots + 1) ∷ (env.slots + 2) ∷ (env.slots + 3) ∷ []) []
part_counted env name t room =
    subst (λ b. Counted env (cond b (with_part env name t) env) (env.slots ∷ (env.slots + 1) ∷ (env.slots + 2) ∷ (env.slots + 3) ∷ []) []) (sym room)
    ((refl, (omega arith, (omega arith, (omega arith, omega arith)))), refl)

region_counted : (env : Env) (name : ℕ) → has_room env ≡ true → Counted env (region_declared env name) [] (env.declared ∷ [])
region_counted env name room = subst (λ b. Counted env (cond b (with_region env name) env) [] (env.declared ∷ [])) (sym room) (refl, (refl, omega arith))

pub region_room : (env : Env) (named : Named) (node : Node) → fault_of (region_noted env named node) ≡ None → has_room env ≡ true
region_room env named node h = by (has_room env) (cond (is_region_name env named.name) (with_fault node kind.Duplicate named.place) node) h
  where
    by : (b : Bool) (x : Node) → fault_of (cond b x (with_fault x kind.TooLong named.place)) ≡ None → b ≡ true
    by true x h = refl
    by false x h = absurd (not_faulty x kind.TooLong named.place h)

regions_counted : (env : Env) (node : Node) (names : List Named) → fault_of (regions_noted env node names) ≡ None → Counted env (with_regions env names) [] (regions_made env names)
regions_counted env node [] free = (refl, refl)
regions_counted env node (named ∷ names) free =
    let room = region_room env named node (regions_free (region_declared env named.name) (region_noted env named node) names free) in
    counted_then env (region_declared env named.name) (with_regions env (named ∷ names)) [] [] (env.declared ∷ []) (regions_made (region_declared env named.name) names)
    (region_counted env named.name room) (regions_counted (region_declared env named.name) (region_noted env named node) names free)

-- there was room before there was a further local
pub room_before : (env : Env) (formals : List Formal) (types : List Ty) → has_room (formals_declared env formals types) ≡ true → has_room env ≡ true
room_before env [] types room = room
room_before env (formal ∷ formals) [] room = room
room_before env (formal ∷ formals) (t ∷ types) room = by (has_room env) refl (room_before (local_declared env formal.name t false) formals types room)
  where
    by : (b : Bool) → has_room env ≡ b → has_room (cond b (with_local env formal.name t false) env) ≡ true → has_room env ≡ true
    by true is h = is
    by false is h = h

-- formals have one slot each, and declare no region
pub formals_counted : (env : Env) (formals : List Formal) (types : List Ty) → length formals ≡ length types → has_room (formals_declared env formals types) ≡ true →
    ((formals_declared env formals types).slots ≡ env.slots + length types) × ((formals_declared env formals types).declared ≡ env.declared)
formals_counted env [] [] many room = (omega arith, refl)
formals_counted env [] (t ∷ types) many room = absurd (omega (arith, many))
formals_counted env (formal ∷ formals) [] many room = absurd (omega (arith, many))
formals_counted env (formal ∷ formals) (t ∷ types) many room =
    let first = room_before env (formal ∷ formals) (t ∷ types) room in
    let one = local_counted env formal.name t false first in
    let rest = formals_counted (local_declared env formal.name t false) formals types (omega (arith, many)) room in
    let slot : suc env.slots ≡ (local_declared env formal.name t false).slots = one.0.1 in
    (rest.0 ∙ subst (λ k. k + length types ≡ env.slots + suc (length types)) slot (omega arith), rest.1 ∙ sym one.1)

-- statements that hold no other

declaring_counted : {node : Node} {is_final : Bool} {written : _} {name : ℕ} {value : PlainExpr} {w : Walk} {v : Verdict TypedStmt} →
    Declaring node is_final written name value w v → If (CountedSo w.env) v
declaring_counted Declaring.is_refused = tt
declaring_counted {node} {is_final} {written} {name} {value} {w} (Declaring.declared {fit = fit} made unreported same d fits j) =
    subst (If (CountedSo w.env)) j
    (judged_if (CountedSo w.env) _ _ _
    (λ free. local_counted w.env name made is_final (room_free w.env name node.place node (free_if (declaration_noted w.env name node.place node) _ (not fit) free).0)))

assigning_counted : {node : Node} {target : Named} {value : PlainExpr} {w : Walk} {v : Verdict TypedStmt} → AssigningLocal node target value w v → If (CountedSo w.env) v
assigning_counted AssigningLocal.is_refused = tt
assigning_counted {w = w} (AssigningLocal.assigned d is fits j) = subst (If (CountedSo w.env)) j (judged_if (CountedSo w.env) _ _ _ (λ free. (refl, refl)))

stored_counted : (a : Env) (place : Place) (spot : PlainSpot) (e : TypedExpr) →
    Counted a a (given_in own_slots (statement place (stored spot e))) (given_in own_regions (statement place (stored spot e)))
stored_counted a place (to_field of class slot) e = (refl, refl)
stored_counted a place (to_element array index) e = (refl, refl)
stored_counted a place (to_part part index) e = (refl, refl)

placing_counted : {node : Node} {target value : PlainExpr} {w : Walk} {v : Verdict TypedStmt} → AssigningPlace node target value w v → If (CountedSo w.env) v
placing_counted AssigningPlace.is_refused = tt
placing_counted {w = w} (AssigningPlace.anything_assigned d i j) = subst (If (CountedSo w.env)) j (judged_if (CountedSo w.env) _ _ _ (λ free. (refl, refl)))
placing_counted {target = target} {value = value} {w = w} (AssigningPlace.place_assigned {aim = aim} {t = t} d i fits j) =
    subst (If (CountedSo w.env)) j (judged_if (CountedSo w.env) _ _ _ (λ free. stored_counted w.env (place_of target) aim.spot (node_of value t)))

performing_counted : {node : Node} {value : PlainExpr} {w : Walk} {v : Verdict TypedStmt} → Performing node value w v → If (CountedSo w.env) v
performing_counted Performing.is_refused = tt
performing_counted {w = w} (Performing.performed d j) = subst (If (CountedSo w.env)) j (judged_if (CountedSo w.env) _ _ _ (λ free. (refl, refl)))

returning_counted : {around : Around} {node : Node} {value : PlainExpr} {w : Walk} {v : Verdict TypedStmt} → Returning around node value w v → If (CountedSo w.env) v
returning_counted Returning.is_refused = tt
returning_counted {w = w} (Returning.returned d fits j) = subst (If (CountedSo w.env)) j (judged_if (CountedSo w.env) _ _ _ (λ free. (refl, refl)))

printed_counted : (a : Env) (place : Place) (e : TypedExpr) →
    Counted a a (given_in own_slots (statement place (printed_form e))) (given_in own_regions (statement place (printed_form e)))
printed_counted a place e = by (is_boolean (type_of e))
  where
    by : (b : Bool) → Counted a a (given_in own_slots (statement place (cond b (typed.print_boolean e) (typed.print_int e))))
        (given_in own_regions (statement place (cond b (typed.print_boolean e) (typed.print_int e))))
    by true = (refl, refl)
    by false = (refl, refl)

printing_counted : {node : Node} {value : PlainExpr} {w : Walk} {v : Verdict TypedStmt} → Printing node value w v → If (CountedSo w.env) v
printing_counted Printing.is_refused = tt
printing_counted {node = node} {value = value} {w = w} (Printing.printed {t = t} d j) =
    subst (If (CountedSo w.env)) j (judged_if (CountedSo w.env) _ _ _ (λ free. printed_counted w.env node.place (node_of value t)))

-- the parts of statements

-- what a scope declared is given no more
left_counted : (a : Env) (before : Walk) (u : Verdict TypedStmt) → If (CountedSo a) u → If (CountedSo a) (own_scope before u)
left_counted a before (passes made x) h = h
left_counted a before (refused refusal) h = tt

left_all_counted : (a : Env) (before : Walk) (u : Verdict (List TypedStmt)) → If (AllCounted a) u → If (AllCounted a) (own_block before u)
left_all_counted a before (passes made x) h = h
left_all_counted a before (refused refusal) h = tt

chosen_counted : (a b : Env) (place : Place) (test : TypedExpr) (made : TypedStmt) (part : Option TypedStmt) (u : Walk) → Counted a b (given_in own_slots made) (given_in own_regions made) → OtherCounted b part u →
    CountedSo a (statement place (choice_form test made part)) u
chosen_counted a b place test made None u h o = (subst (λ k. Counts a.slots k (given_in own_slots made)) o.0 h.0, subst (λ k. Counts a.declared k (given_in own_regions made)) o.1 h.1)
chosen_counted a b place test made (Some other) u h o =
    counted_then a b u.env (given_in own_slots made) (given_in own_slots other) (given_in own_regions made) (given_in own_regions other) h o

branch_counted : (a b : Env) (made : TypedStmt) (effects : List Effect) (s : PlainStmt) (v : BranchesVerdict) → Counted a b (given_in own_slots made) (given_in own_regions made) → BranchesCounted b v →
    BranchesCounted a (after_branch effects (branch_of a s made) v)
branch_counted a b made effects s (all_pass others branches u) h rest =
    counted_then a b u.env (given_in own_slots made) (given_in_branches own_slots (branches_of branches)) (given_in own_regions made) (given_in_branches own_regions (branches_of branches)) h rest
branch_counted a b made effects s (one_refused refusal) h rest = tt

mutual
  checking_counted : {params : List Bool} {around : Around} {node : Node} {f : tree.StmtForm} {w : Walk} {v : Verdict TypedStmt} → Checking params around node f w v → If (CountedSo w.env) v
  checking_counted (Checking.of_declaration d) = declaring_counted d
  checking_counted {node = node} {w = w} (Checking.of_regions {names = names} j) =
      subst (If (CountedSo w.env)) j
      (judged_if (CountedSo w.env) _ _ _ (λ free.
      let given = regions_counted w.env node names free in
      (given.0, subst (Counts w.env.declared (with_regions w.env names).declared) (sym (append-nil (regions_made w.env names))) given.1)))
  checking_counted {node = node} {w = w} (Checking.of_block {u = u} d j) =
      subst (If (CountedSo w.env)) j
      (after_if (AllCounted w.env) (CountedSo w.env) (fault_of node) (λ ss. statement node.place (typed.block (stmts_of ss))) u (block_counted d) (λ made x free h. h))
  checking_counted (Checking.of_local_assignment d) = assigning_counted d
  checking_counted (Checking.of_field_assignment d) = placing_counted d
  checking_counted (Checking.of_element_assignment d) = placing_counted d
  checking_counted (Checking.of_call d) = performing_counted d
  checking_counted {w = w} (Checking.of_return j) = subst (If (CountedSo w.env)) j (judged_if (CountedSo w.env) _ _ _ (λ free. (refl, refl)))
  checking_counted (Checking.of_return_value d) = returning_counted d
  checking_counted (Checking.of_print d) = printing_counted d
  checking_counted {w = w} (Checking.of_text j) = subst (If (CountedSo w.env)) j (judged_if (CountedSo w.env) _ _ _ (λ free. (refl, refl)))
  checking_counted (Checking.of_choice d) = choosing_counted d
  checking_counted (Checking.of_choice_else d) = choosing_counted d
  checking_counted Checking.is_refused = tt
  checking_counted {node = node} {w = w} (Checking.of_while {test = test} {t = t} {u = u} d i j) =
      subst (If (CountedSo w.env)) j
      (after_if (CountedSo w.env) (CountedSo w.env) (fault_of (with_fault_if node kind.Type (not (may_be is_boolean (type_in t)))))
      (λ s. statement node.place (typed.while_loop (node_of test t) s)) u (scope_counted i) (λ made x free h. h))
  checking_counted (Checking.of_cobegin d) = forking_counted d
  checking_counted (Checking.of_foreach d i n) = iterating_counted n
  checking_counted (Checking.of_parts d) = parting_counted d
  checking_counted {w = w} (Checking.of_atomic d j) = subst (If (CountedSo w.env)) j (judged_if (CountedSo w.env) _ _ _ (λ free. block_counted d))

  choosing_counted : {params : List Bool} {around : Around} {node : Node} {test : PlainExpr} {first : PlainStmt} {other : Option PlainStmt} {w : Walk} {v : Verdict TypedStmt} →
      Choosing params around node test first other w v → If (CountedSo w.env) v
  choosing_counted Choosing.choice_refused = tt
  choosing_counted {node = node} {test = test} {w = w} (Choosing.chosen {x = x} {t = t} {made = made} {u = u} d i n j) =
      subst (If (CountedSo w.env)) j
      (after_if (OtherCounted x.env) (CountedSo w.env) (fault_of (with_fault_if node kind.Type (not (may_be is_boolean (type_in t)))))
      (λ part. statement node.place (choice_form (node_of test t) made part)) u (other_counted n)
      (λ part y free o. chosen_counted w.env x.env node.place (node_of test t) made part y (scope_counted i) o))

  other_counted : {params : List Bool} {around : Around} {other : Option PlainStmt} {w : Walk} {v : Verdict (Option TypedStmt)} → InOther params around other w v → If (OtherCounted w.env) v
  other_counted InOther.no_other = (refl, refl)
  other_counted {w = w} (InOther.an_other {u = u} d j) =
      subst (If (OtherCounted w.env)) j (after_if (CountedSo w.env) (OtherCounted w.env) None Some u (scope_counted d) (λ made x free h. h))

  standing_counted : {params : List Bool} {around : Around} {follows : Bool} {s : PlainStmt} {w : Walk} {v : Verdict TypedStmt} → Standing params around follows s w v → If (CountedSo w.env) v
  standing_counted (standing d) = checking_counted d

  scope_counted : {params : List Bool} {around : Around} {s : PlainStmt} {w : Walk} {v : Verdict TypedStmt} → InScope params around s w v → If (CountedSo w.env) v
  scope_counted {w = w} (in_scope {u = u} d j) = subst (If (CountedSo w.env)) j (left_counted w.env w u (standing_counted d))

  block_counted : {params : List Bool} {around : Around} {all : PlainStmts} {w : Walk} {v : Verdict (List TypedStmt)} → InBlock params around all w v → If (AllCounted w.env) v
  block_counted {w = w} (in_block {u = u} d j) = subst (If (AllCounted w.env)) j (left_all_counted w.env w u (order_counted d))

  order_counted : {params : List Bool} {around : Around} {complete : Bool} {all : PlainStmts} {w : Walk} {v : Verdict (List TypedStmt)} → InOrder params around complete all w v → If (AllCounted w.env) v
  order_counted InOrder.none_left = (refl, refl)
  order_counted InOrder.order_refused = tt
  order_counted {w = w} (InOrder.then_others {u = u} {made = made} {x = x} d rest j) =
      subst (If (AllCounted w.env)) j
      (after_if (AllCounted u.env) (AllCounted w.env) None (λ others. made ∷ others) x (order_counted rest)
      (λ others z free h. counted_then w.env u.env z.env (given_in own_slots made) (given_in_all own_slots (stmts_of others)) (given_in own_regions made) (given_in_all own_regions (stmts_of others)) (standing_counted d) h))

  branching_counted : {params : List Bool} {around : Around} {nd : Bool} {ss : PlainStmts} {w : Walk} {v : BranchesVerdict} → Branching params around nd ss w v → BranchesCounted w.env v
  branching_counted Branching.no_branches = (refl, refl)
  branching_counted Branching.branch_refused = tt
  branching_counted {w = w} (Branching.then_branches {s = s} {u = u} {made = made} {v = v} d rest j) =
      subst (BranchesCounted w.env) j (branch_counted w.env u.env made _ s v (scope_counted d) (branching_counted rest))

  forking_counted : {params : List Bool} {around : Around} {node : Node} {nd : Bool} {branches : PlainStmts} {w : Walk} {v : Verdict TypedStmt} → Forking params around node nd branches w v → If (CountedSo w.env) v
  forking_counted Forking.fork_refused = tt
  forking_counted {w = w} (Forking.forked effects d free j) = subst (If (CountedSo w.env)) j (judged_if (CountedSo w.env) _ _ _ (λ later. branching_counted d))

  iterating_counted : {params : List Bool} {around : Around} {node : Node} {nd : Bool} {var : Named} {start count : TypedExpr} {body : PlainStmt} {w : Walk} {v : Verdict TypedStmt} →
      Iterating params around node nd var start count body w v → If (CountedSo w.env) v
  iterating_counted Iterating.iteration_refused = tt
  iterating_counted {node = node} {var = var} {w = w} (Iterating.iterated {u = u} {made = made} place placed d free j) =
      let room = room_free w.env var.name var.place node (free_if (variable_noted w.env var node) _ _ free).0 in
      subst (If (CountedSo w.env)) j
      (judged_if (CountedSo w.env) _ _ _ (λ later.
      counted_then w.env (variable_declared w.env var) u.env (w.env.slots ∷ []) (given_in own_slots made) [] (given_in own_regions made) (local_counted w.env var.name variant.Int true room) (scope_counted d)))

  parting_counted : {params : List Bool} {around : Around} {node : Node} {view var : Named} {array count : PlainExpr} {body : PlainStmt} {w : Walk} {v : Verdict TypedStmt} →
      Parting params around node view var array count body w v → If (CountedSo w.env) v
  parting_counted Parting.parting_refused = tt
  parting_counted {node = node} {view = view} {var = var} {w = w} (Parting.parted {u = u} {made = made} (Opening.both_given t {fault = wrong} {u = q} c i) d free j) =
      let first : Node = with_fault_if (with_found node wrong) kind.Type (not (may_be is_int (type_in q))) in
      let part : Env = part_declared w.env view.name t in
      let f = free_if (parts_noted w.env view var t first) _ _ free in
      let var_room = room_free part var.name var.place (declaration_noted w.env view.name view.place first) f.0 in
      let view_room = room_free w.env view.name view.place first (declared_free part var.name var.place (declaration_noted w.env view.name view.place first) f.0) in
      let slot = ap (λ b. (cond b (with_part w.env view.name t) w.env).slots) view_room in
      let four = part_counted w.env view.name t view_room in
      let inside = counted_then part (parts_declared w.env view var t) u.env (part.slots ∷ []) (given_in own_slots made) [] (given_in own_regions made)
      (local_counted part var.name variant.Int true var_room) (scope_counted d) in
      let all = counted_then w.env part u.env (w.env.slots ∷ (w.env.slots + 1) ∷ (w.env.slots + 2) ∷ (w.env.slots + 3) ∷ []) (part.slots ∷ given_in own_slots made) [] (given_in own_regions made) four inside in
      subst (If (CountedSo w.env)) j
      (judged_if (CountedSo w.env) _ _ _ (λ later.
      (subst (λ k. Counts w.env.slots u.env.slots (w.env.slots ∷ (w.env.slots + 1) ∷ (w.env.slots + 2) ∷ (w.env.slots + 3) ∷ k ∷ given_in own_slots made)) slot all.0, all.1)))

-- by the statements of a block that pass
pub block_numbered : {params : List Bool} {around : Around} {all : PlainStmts} {w u : Walk} {made : List TypedStmt} → InBlock params around all w (passes made u) →
    Counts w.env.slots u.env.slots (given_in_all own_slots (stmts_of made)) × Counts w.env.declared u.env.declared (given_in_all own_regions (stmts_of made))
block_numbered d = block_counted d
