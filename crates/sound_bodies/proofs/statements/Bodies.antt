-- The statements of a body that pass for the checker pass in the judgement.
use Rattle.std.proofs.Common.{◌≡◌, ◌∙◌, ◌==◌, ℕ, Bool, true, false, not, ◌&&◌, ◌||◌, cond, IsTrue, List, [], Option, Some, None, refl, sym, ap, subst, arith}
use Rattle.std.proofs.lemmas.Bool.{or_left, or_right, or_parts, eq-eqb, false≢true}
use Rattle.lang_base.specs.declared.place.Place.{Place}
use Rattle.lang_base.specs.declared.refusal.Kind.TheVariants as kind
use Rattle.lang_base.specs.declared.refusal.Refusal.{Refusal}
use Rattle.lang_base.specs.declared.ty.Ty.TheVariants as variant
use Rattle.lang_base.specs.Branches.{iterations_clash}
use Rattle.lang_base.specs.Types.{PlainType as ty}
use Rattle.lang_base.specs.Effects.{same_bool}
use Rattle.body_locals.specs.Touches.{expr_reads, stmt_reads, stmt_form_reads, stmts_read, stmt_assigns, stmt_form_assigns, stmts_assign, declares_form}
use Rattle.syntax_tree.specs.declared.region.Named.{Named}
use Rattle.syntax_tree.specs.Plain.{PlainExpr, PlainStmt, PlainStmts}
use Rattle.syntax_tree.specs.Plain as tree
use Rattle.lang_typed.specs.Plain.{PlainProgram, TypedExpr, type_of, TypedStmt, statement, stmts_of, choice_form}
use Rattle.lang_typed.specs.Plain as typed
use Rattle.lang_typed.specs.Scope.{Scope, in_atomic_block}
use Rattle.lang_typed.specs.Statements.{Passes, AllPass}
use Rattle.body_exprs.specs.declared.env.Env.{Env}
use Rattle.body_exprs.specs.declared.found.Found.{Found}
use Rattle.body_exprs.specs.Answer.{gives}
use Rattle.body_exprs.specs.Env.{given_in, slots_in, with_local, with_part, part_declared}
use Rattle.body_exprs.specs.Typed.{may_be, is_int, is_boolean, type_in}
use Rattle.body_exprs.specs.Typing.{Typing}
use Rattle.body_check.specs.declared.node.Around.{Around}
use Rattle.body_check.specs.declared.node.Node.{Node}
use Rattle.body_check.specs.Checking.{parts_noted, parts_declared, part_slot, part_variable, parts_left, variable_declared, variable_noted}
use Rattle.body_check.specs.Deciding.{is_misplaced, interference, marks_after}
use Rattle.body_check.specs.Gathering.{with_uses}
use Rattle.body_check.specs.Around.{inside}
use Rattle.body_check.specs.Meeting.{declared_atomic, some_interfere, branches_interfere}
use Rattle.body_check.specs.Touching.{assigns_outer, some_disturb}
use Rattle.body_check.proofs.Touched.{assigns_some}
use Rattle.body_check.specs.Noting.{with_found, with_fault_if, settled_node, fault_of}
use Rattle.body_check.specs.Simple.{declaration_noted, node_of}
use Rattle.body_check.specs.Walks.{Walk, Verdict, passes, found_so, judged}
use Rattle.region_interfere.specs.Uses.{parts_interfere}
use Rattle.sound_lemmas.proofs.Bodies.{free_if, free_found, declared_free}
use Rattle.sound_lemmas.proofs.Free.{not_false}
use Rattle.sound_bodies.specs.Laws.{Stands, BlockPasses}
use Rattle.sound_bodies.specs.Naming.{Signed}
use Rattle.sound_bodies.specs.Ready.{Ready, Room, NdFree}
use Rattle.syntax_grammar.specs.Written.{Fitting, StmtFitting, StmtFormFitting, StmtsFitting}
use Rattle.sound_bodies.proofs.statements.Expressions.{int_is}
use Rattle.sound_bodies.proofs.effects.Gathered.{nothing_gathered}
use Rattle.sound_bodies.proofs.scope.InScopeStatements.{all_names}
use Rattle.sound_bodies.proofs.scope.LocalRegions.{regions_go}
use Rattle.sound_bodies.proofs.statements.Loops.{ready_iteration, foreach_plain, Inner}
use Rattle.sound_bodies.proofs.statements.PartLoops.{cutting_so, Parted, ready_parts, parts_plain}
use Rattle.sound_bodies.proofs.scope.Readiness.{ready_kept, ready_atomic}
use Rattle.sound_bodies.proofs.statements.Singles.{assigning, performing, returning, printing}
use Rattle.sound_bodies.proofs.statements.Statements.{Plainly, Goes, ScopeGoes, BlockGoes, OrderGoes, OtherGoes, expr_at, declaring_goes, plain_if, single_if, scope_if, block_if, order_if, later_reads, later_assigns, while_plain, choice_plain, atomic_plain, both_other}
use Rattle.sound_bodies.proofs.statements.Targets.{placing}
use Rattle.sound_bodies.proofs.statements.Walks.{If, judged_if, after_if, OtherDone, checking_walked, standing_walked, scope_walked, order_walked, other_walked}
use Rattle.std.specs.List.{list_any}
use Rattle.std.specs.Prelude.{◌∷◌, ◌++◌, AllPairs, length, nat_lt}
use Rattle.lang_base.specs.declared.effect.Effect.{Effect}
use Rattle.lang_base.specs.Branches.{lists_clash}
use Rattle.body_locals.specs.Touches.{branches_read, branches_assign}
use Rattle.lang_typed.specs.declared.stmt.Forking.TheVariants.{Deterministic}
use Rattle.lang_typed.specs.Effects.{Own, as_effects, after_branches}
use Rattle.lang_typed.specs.Plain.{TypedBranch, branches_of}
use Rattle.lang_typed.specs.Scope.{constant, in_branch, atomic_for}
use Rattle.lang_typed.specs.Statements.{joined, all_copies, BranchesPass}
use Rattle.body_check.specs.Walks.{apart_from}
use Rattle.body_check.specs.Gathering.{with_uses, taken_in}
use Rattle.body_check.specs.Leaving.{from_here}
use Rattle.body_check.specs.Checking.{with_nd, forking_of, gathers, branch_of}
use Rattle.sound_lemmas.proofs.StatementRules.{Opening, Parting, Checking, Choosing, InOther, standing, InScope, in_scope, InBlock, in_block, InOrder, Iterating, AssigningLocal, AssigningPlace, Performing, Returning, Printing, BranchesVerdict, all_pass, one_refused, after_branch, Branching, Forking}
use Rattle.sound_bodies.specs.Gathered.{Gathers}
use Rattle.sound_bodies.specs.Naming.{IsIndex, IsRegion}
use Rattle.sound_bodies.proofs.statements.Branches.{neither, BranchesAre, branches_static, AllApart, all_apart, Earlier, foreign, own_variables, own_apart, next_earlier, after_append}
use Rattle.sound_bodies.proofs.effects.Clashing.{AllSame, same_effects, no_pair, none_apart}
use Rattle.sound_bodies.proofs.statements.Cobegins.{ready_branch}
use Rattle.sound_bodies.proofs.effects.Gathered.{then_gathered, gathered_nd}
use Rattle.sound_bodies.proofs.scope.Growing.{Kept, kept_same, kept_then, kept_step, room_free}
use Rattle.sound_bodies.proofs.scope.InScope.{all_over_of}
use Rattle.sound_bodies.proofs.effects.Left.{left_kept, taken}
use Rattle.sound_bodies.proofs.statements.Loops.{atomic_same, marks_same}
use Rattle.sound_bodies.proofs.statements.Walks.{BranchesDone, branching_walked}

module _ (P : PlainProgram) (signed : Signed P)
  where
    plainly_judged : (L : Scope) (w : Walk) (reported : Option Refusal) (made : TypedStmt) (u : Walk) → (reported ≡ None → Plainly P signed L w made u) → If (Plainly P signed L w) (judged reported made u)
    plainly_judged L w reported made u h = judged_if (Plainly P signed L w) reported made u h

    other_less : (L : Scope) (other : Option PlainStmt) (w : Walk) (v : Verdict (Option TypedStmt)) → If (OtherGoes P signed L other w) v → If (OtherGoes P signed L other w) v
    other_less L other w v h = h

    no_return : (L : Scope) (w : Walk) (place : Place) → L.result ≡ Some ty.void → Plainly P signed L w (statement place typed.return_nothing) w
    no_return L w place result = record { nd_free = λ c. c; alone = λ room nd_free. record { effects = []; passes_so = Passes.return_nothing result; gathers = nothing_gathered w.found } }

    abbrev OtherFitting : Option PlainStmt → Type 0
    OtherFitting None = Unit {0}
    OtherFitting (Some s) = StmtFitting s

    abbrev other_reads : ℕ → Option PlainStmt → Bool
    other_reads x None = false
    other_reads x (Some s) = stmt_reads x s

    abbrev other_writes : ℕ → Option PlainStmt → Bool
    other_writes x None = false
    other_writes x (Some s) = stmt_assigns x s

    same_name : (n : ℕ) → (n == n) ≡ true
    same_name n = eq-eqb n n refl

    none_has : (b : Bool) → not (same_bool false b) ≡ false → b ≡ false
    none_has true h = cc
    none_has false h = refl

    -- from where to where a loop goes
    record Range (L : Scope) (before : Found) (lowest size : TypedExpr) (after : Found) : Type 0 where
      mid : Found
      low : Stands P L before lowest mid
      low_int : type_of lowest ≡ ty.int
      high : Stands P L mid size after
      size_int : type_of size ≡ ty.int

    int_at : (t : Option TypedExpr) (e : TypedExpr) → t ≡ Some e → may_be is_int (type_in t) ≡ true → type_of e ≡ ty.int
    int_at t e is h = int_is (type_of e) (subst (λ q. may_be is_int (type_in q) ≡ true) is h)

    range_at : (L : Scope) (params : List Bool) (around : Around) (reads assigns : ℕ → Bool) (node : Node) (w : Walk) (start count : PlainExpr) (t u : Option TypedExpr) (g h : Found) → Ready P L w.env params around reads assigns →
        Fitting start → Fitting count → ((x : ℕ) → IsTrue (expr_reads x start) → IsTrue (reads x)) → ((x : ℕ) → IsTrue (expr_reads x count) → IsTrue (reads x)) → Typing w.env start w.found (gives t g) →
        Typing w.env count g (gives u h) → fault_of (with_fault_if (with_fault_if node kind.Type (not (may_be is_int (type_in t)))) kind.Type (not (may_be is_int (type_in u)))) ≡ None →
        Range L w.found (node_of start t) (node_of count u) h
    range_at L params around reads assigns node w start count t u g h ready start_fits count_fits start_all count_all d i free =
        let second_int = free_if (with_fault_if node kind.Type (not (may_be is_int (type_in t)))) kind.Type (not (may_be is_int (type_in u))) free in
        let first_int = free_if node _ (not (may_be is_int (type_in t))) second_int.0 in
        let x = expr_at P signed L w.env params around reads assigns start w.found g t ready start_fits start_all d in
        let y = expr_at P signed L w.env params around reads assigns count g h u ready count_fits count_all i in
        subst (λ q. Range L w.found q (node_of count u) h) (sym (ap (node_of start) x.1))
        (subst (λ q. Range L w.found x.0 q h) (sym (ap (node_of count) y.1)) (record {
          mid = g;
          low = x.2;
          low_int = int_at t x.0 x.1 (not_false (may_be is_int (type_in t)) first_int.1);
          high = y.2;
          size_int = int_at u y.0 y.1 (not_false (may_be is_int (type_in u)) second_int.1);
        }))

    -- branches after earlier ones that assign these slots
    record BranchesGo (L : Scope) (env : Env) (nd : Bool) (ss : PlainStmts) (w : Walk) (effects : List (List Effect)) (made : List TypedBranch) (u : Walk) : Type 0 where
      nd_free : u.found.reaches_nd ≡ false → w.found.reaches_nd ≡ false
      go : Room L u.env → NdFree L u → BranchesAre env ss made → AllApart ss → (others : List ℕ) → ((x : ℕ) → list_any (λ y. x == y) others ≡ true → Earlier L env x ss) →
          (Es : List (List Own)) × BranchesPass P L others (branches_of made) Es × AllSame effects Es × Gathers w.found (after_branches (forking_of nd) (joined Es)) u.found

    abbrev BranchesVerdictGo : Scope → Env → Bool → PlainStmts → Walk → BranchesVerdict → Type 0
    BranchesVerdictGo L env nd ss w (all_pass effects made u) = BranchesGo L env nd ss w effects made u
    BranchesVerdictGo L env nd ss w (one_refused refusal) = Unit {0}

    -- one branch before others
    branch_then : (L : Scope) (params : List Bool) (around : Around) (reads assigns : ℕ → Bool) (env : Env) (nd : Bool) (s : PlainStmt) (ss : PlainStmts) (w u : Walk) (made : TypedStmt) (v : BranchesVerdict) →
        Ready P L env params around reads assigns → Kept env w.env → ((n : ℕ) → IsTrue (branches_read n (tree.more_stmts s ss)) → IsTrue (reads n)) →
        ((n : ℕ) → IsTrue (branches_assign n (tree.more_stmts s ss)) → IsTrue (assigns n)) →
        ((M : Scope) → Ready P M w.env params (inside around) (λ n. stmt_reads n s) (λ n. stmt_assigns n s) → ScopeGoes P signed M (apart_from w) made u) →
        BranchesDone ss (gathers (taken_in (from_here w.env (marks_after nd)) w.found u.found) u) v → BranchesVerdictGo L env nd ss (gathers (taken_in (from_here w.env (marks_after nd)) w.found u.found) u) v →
        BranchesVerdictGo L env nd (tree.more_stmts s ss) w (after_branch (with_uses u.found.effects u.found.uses) (branch_of w.env s made) v)
    branch_then L params around reads assigns env nd s ss w u made (one_refused refusal) ready kept all writes one walked rest = tt
    branch_then L params around reads assigns env nd s ss w u made (all_pass effects bs z) ready kept all writes one walked rest = record {
      nd_free = λ c. (or_parts w.found.reaches_nd u.found.reaches_nd (rest.nd_free c)).0;
      go = λ room nd_free are apart others earlier.
          let b : TypedBranch = branch_of w.env s made in
          let next : List ℕ = others ++ all_copies (branches_of bs) in
          let far = foreign P L env params around reads assigns ready s ss b bs are writes apart others earlier in
          let begun = ready_kept P (in_branch b.copies next L) env w.env params (inside around) (λ n. stmt_reads n s) (λ n. stmt_assigns n s) kept
          (ready_branch P L env params around reads assigns ready s b.copies next are.0.0 far are.0.1 (λ n h. all n (or_left (stmt_reads n s) (branches_read n ss) h)) (λ n h. writes n (or_left (stmt_assigns n s) (branches_assign n ss) h))) in
          let sg = one (in_branch b.copies next L) begun in
          let ends = walked.0 in
          let slots = ends.slots in
          let declared = ends.declared in
          let room_slots = room.slots in
          let room_regions = room.regions in
          let r = sg.goes (record { slots = omega (arith, slots, room_slots); regions = omega (arith, declared, room_regions) }) (λ c. (or_parts w.found.reaches_nd u.found.reaches_nd (rest.nd_free (nd_free c))).1) in
          let q = rest.go room nd_free are.1 apart.1 (others ++ b.copies) (next_earlier P L env params around reads assigns ready s ss b bs are writes apart others earlier) in
          let inside_so = all_names P signed {L = in_branch b.copies next L} begun.locals r.1 in
          let same = left_kept (from_here w.env (marks_after nd)) (IsIndex (in_branch b.copies next L)) (IsRegion (in_branch b.copies next L)) (in_branch b.copies next L) (λ x i. begun.below x (constant ty.int) i) begun.regions r.0
          (all_over_of (in_branch b.copies next L) r.0 inside_so) ∙ marks_same nd r.0 in (
            r.0 ∷ q.0,
            BranchesPass.one_branch (own_variables P L env params around reads assigns ready s ss b bs are writes apart others earlier)
                (own_apart P L env params around reads assigns ready s ss b bs are writes apart others earlier) r.1 q.1,
            (same_effects u.found r.0 r.2, q.2),
            subst (λ k. Gathers w.found k z.found) (sym (after_append (forking_of nd) r.0 (joined q.0)))
                (then_gathered w.found (taken_in (from_here w.env (marks_after nd)) w.found u.found) z.found (after_branches (forking_of nd) r.0) (after_branches (forking_of nd) (joined q.0))
                (subst (λ k. Gathers w.found k (taken_in (from_here w.env (marks_after nd)) w.found u.found)) same (taken (from_here w.env (marks_after nd)) w.found u.found r.0 r.2)) q.3),
          );
    }

    none_after : (nd : Bool) → [] ≡ after_branches (forking_of nd) []
    none_after true = refl
    none_after false = refl

    deterministic : (b : Bool) → b ≡ false → forking_of b ≡ Deterministic
    deterministic true h = cc
    deterministic false h = refl

    forked_plain : (L : Scope) (params : List Bool) (around : Around) (reads assigns : ℕ → Bool) (place : Place) (nd : Bool) (branches : PlainStmts) (w : Walk) (effects : List (List Effect)) (made : List TypedBranch)
        (u : Walk) → Ready P L w.env params around reads assigns → BranchesGo L w.env nd branches w effects made u → BranchesAre w.env branches made → some_disturb branches ≡ false →
        branches_interfere params nd w.env effects ≡ false → Plainly P signed L w (statement place (typed.cobegin (forking_of nd) (branches_of made))) (gathers (with_nd nd u.found) u)
    forked_plain L params around reads assigns place nd branches w effects made u ready g are none apart = record {
      nd_free = λ c. g.nd_free (or_parts u.found.reaches_nd nd c).0;
      alone = λ room nd_free.
          let r = g.go (record { slots = room.slots; regions = room.regions }) (λ c. (or_parts u.found.reaches_nd nd (nd_free c)).0) are (all_apart branches none) [] (λ x h. absurd (false≢true h)) in
          record {
            effects = after_branches (forking_of nd) (joined r.0);
            passes_so = Passes.cobegin (λ c. deterministic nd (or_parts u.found.reaches_nd nd (nd_free c)).1) r.1
                (subst (λ z. AllPairs (λ E F. lists_clash z (atomic_for (forking_of nd) P L) (as_effects E) (as_effects F) ≡ false) r.0) (sym ready.sees.given) (no_clash r.0 r.2));
            gathers = gathered_nd w.found u.found (after_branches (forking_of nd) (joined r.0)) (u.found.reaches_nd || nd) r.3;
          };
    }
      where
        no_clash : (Es : List (List Own)) → AllSame effects Es → AllPairs (λ E F. lists_clash (given_in w.env) (atomic_for (forking_of nd) P L) (as_effects E) (as_effects F) ≡ false) Es
        no_clash Es same =
            subst (λ z. AllPairs (λ E F. lists_clash (given_in w.env) z (as_effects E) (as_effects F) ≡ false) Es) (atomic_same P L w.env params nd ready.tells.atomic ready.atomic)
            (none_apart (given_in w.env) (declared_atomic params nd w.env) effects Es same (no_pair (given_in w.env) (declared_atomic params nd w.env) effects (neither (not (nat_lt (length effects) 4294967296)) (some_interfere (given_in w.env) (declared_atomic params nd w.env) effects) apart).1))

    mutual
      -- a statement
      checking_goes : {params : List Bool} {around : Around} {node : Node} {f : tree.StmtForm} {w : Walk} {v : Verdict TypedStmt} (L : Scope) (reads assigns : ℕ → Bool) → Ready P L w.env params around reads assigns →
          StmtFormFitting f → ((x : ℕ) → IsTrue (stmt_form_reads x f) → IsTrue (reads x)) → ((x : ℕ) → IsTrue (stmt_form_assigns x f) → IsTrue (assigns x)) → Checking params around node f w v →
          If (Goes P signed L params around reads assigns f w) v
      checking_goes {params} {around} {node} {w = w} {v = v} L reads assigns ready fits all writes (Checking.of_block {all = body} {u = u} d j) =
          plain_if P signed L params around reads assigns (tree.block body) node w v (λ x. refl) (λ a b k. k) ready (checking_walked {params = params} {around = around} {node = node} {w = w} {v = v} ready.step (Checking.of_block d j))
          (subst (If (Plainly P signed L w)) j
          (after_if (BlockGoes P signed L w) (Plainly P signed L w) (fault_of node) (λ ss. statement node.place (typed.block (stmts_of ss))) u (block_goes L reads assigns ready fits all writes d)
          (λ made x free h. record { nd_free = h.nd_free; alone = λ room nd_free. (let r = h.goes room nd_free in record { effects = r.0; passes_so = Passes.nested r.1; gathers = r.2 }) })))
      checking_goes {params} {around} L reads assigns ready fits all writes (Checking.of_declaration d) = declaring_goes P signed L params around reads assigns ready fits all d
      checking_goes {params} {around} {node} {w = w} {v = v} L reads assigns ready fits all writes (Checking.of_local_assignment {target = target} {value = value} d) =
          plain_if P signed L params around reads assigns (tree.assign_local target value) node w v (λ x. refl) (λ a b k. k) ready (checking_walked {params = params} {around = around} {node = node} {w = w} {v = v} ready.step (Checking.of_local_assignment d))
          (single_if P signed L w v (λ made u is.
          assigning P L w reads assigns ready.tells ready.sees node target value u made fits (λ x h. all x h) (writes target.name (same_name target.name)) (subst (AssigningLocal node target value w) is d)))
      checking_goes {params} {around} {node} {w = w} {v = v} L reads assigns ready fits all writes (Checking.of_field_assignment {target = target} {value = value} d) =
          plain_if P signed L params around reads assigns (tree.assign_field target value) node w v (λ x. refl) (λ a b k. k) ready (checking_walked {params = params} {around = around} {node = node} {w = w} {v = v} ready.step (Checking.of_field_assignment d))
          (single_if P signed L w v (λ made u is.
          placing P L w reads assigns ready.tells ready.sees signed ready.locals node target value u made fits.0 fits.1 (λ x h. all x (or_left (expr_reads x target) (expr_reads x value) h))
          (λ x h. all x (or_right (expr_reads x target) (expr_reads x value) h)) (subst (AssigningPlace node target value w) is d)))
      checking_goes {params} {around} {node} {w = w} {v = v} L reads assigns ready fits all writes (Checking.of_element_assignment {target = target} {value = value} d) =
          plain_if P signed L params around reads assigns (tree.assign_element target value) node w v (λ x. refl) (λ a b k. k) ready (checking_walked {params = params} {around = around} {node = node} {w = w} {v = v} ready.step (Checking.of_element_assignment d))
          (single_if P signed L w v (λ made u is.
          placing P L w reads assigns ready.tells ready.sees signed ready.locals node target value u made fits.0 fits.1 (λ x h. all x (or_left (expr_reads x target) (expr_reads x value) h))
          (λ x h. all x (or_right (expr_reads x target) (expr_reads x value) h)) (subst (AssigningPlace node target value w) is d)))
      checking_goes {params} {around} {node} {w = w} {v = v} L reads assigns ready fits all writes (Checking.of_call {value = value} d) =
          plain_if P signed L params around reads assigns (tree.perform value) node w v (λ x. refl) (λ a b k. k) ready (checking_walked {params = params} {around = around} {node = node} {w = w} {v = v} ready.step (Checking.of_call d))
          (single_if P signed L w v (λ made u is. performing P L w reads assigns ready.tells ready.sees node value u made fits.0 (λ x h. all x h) fits.1 (subst (Performing node value w) is d)))
      checking_goes {params} {around} {node} {w = w} {v = v} L reads assigns ready fits all writes (Checking.of_return j) =
          plain_if P signed L params around reads assigns tree.return_nothing node w v (λ x. refl) (λ a b k. k) ready (checking_walked {params = params} {around = around} {node = node} {w = w} {v = v} ready.step (Checking.of_return j))
          (subst (If (Plainly P signed L w)) j
          (plainly_judged L w _ _ _ (λ free.
          let p = or_parts around.enclosed (not (same_bool false around.has_result)) (free_if node _ (is_misplaced around false) free).1 in
          no_return L w node.place (ready.returns.nothing p.0 (none_has around.has_result p.1)))))
      checking_goes {params} {around} {node} {w = w} {v = v} L reads assigns ready fits all writes (Checking.of_return_value {value = value} d) =
          plain_if P signed L params around reads assigns (tree.return_value value) node w v (λ x. refl) (λ a b k. k) ready (checking_walked {params = params} {around = around} {node = node} {w = w} {v = v} ready.step (Checking.of_return_value d))
          (single_if P signed L w v (λ made u is. returning P L w reads assigns ready.tells ready.sees around node value u made fits (λ x h. all x h) ready.returns (subst (Returning around node value w) is d)))
      checking_goes {params} {around} {node} {w = w} {v = v} L reads assigns ready fits all writes (Checking.of_print {value = value} d) =
          plain_if P signed L params around reads assigns (tree.print value) node w v (λ x. refl) (λ a b k. k) ready (checking_walked {params = params} {around = around} {node = node} {w = w} {v = v} ready.step (Checking.of_print d))
          (single_if P signed L w v (λ made u is. printing P L w reads assigns ready.tells ready.sees node value u made fits (λ x h. all x h) (subst (Printing node value w) is d)))
      checking_goes {params} {around} {node} {w = w} {v = v} L reads assigns ready fits all writes (Checking.of_text {text = text} j) =
          plain_if P signed L params around reads assigns (tree.print_text text) node w v (λ x. refl) (λ a b k. k) ready (checking_walked {params = params} {around = around} {node = node} {w = w} {v = v} ready.step (Checking.of_text j))
          (subst (If (Plainly P signed L w)) j
          (plainly_judged L w _ _ _ (λ free. record { nd_free = λ c. c; alone = λ room nd_free. record { effects = []; passes_so = Passes.print_text; gathers = nothing_gathered w.found } })))
      checking_goes {params} {around} {node} {w = w} L reads assigns ready fits all writes (Checking.of_regions {names = names} j) =
          subst (If (Goes P signed L params around reads assigns (tree.local_regions names) w)) j
          (judged_if (Goes P signed L params around reads assigns (tree.local_regions names) w) _ _ _ (λ free. regions_go P signed L params around reads assigns w ready names node free node.place))
      checking_goes {params} {around} {node} {w = w} {v = v} L reads assigns ready fits all writes (Checking.of_choice {test = test} {part = first} d) =
          plain_if P signed L params around reads assigns (tree.choice test first) node w v (λ x. refl) (λ a b k. k) ready (checking_walked {params = params} {around = around} {node = node} {w = w} {v = v} ready.step (Checking.of_choice d))
          (choosing_goes L reads assigns ready fits.0 fits.1 tt (λ x h. all x (or_left (expr_reads x test) (stmt_reads x first) h)) (λ x h. all x (or_right (expr_reads x test) (stmt_reads x first) h)) writes (λ x h. absurd (false≢true h)) (λ x h. absurd (false≢true h)) d)
      checking_goes {params} {around} {node} {w = w} {v = v} L reads assigns ready fits all writes (Checking.of_choice_else {test = test} {first = first} {second = second} d) =
          plain_if P signed L params around reads assigns (tree.choice_else test first second) node w v (λ x. refl) (λ a b k. k) ready (checking_walked {params = params} {around = around} {node = node} {w = w} {v = v} ready.step (Checking.of_choice_else d))
          (choosing_goes L reads assigns ready fits.0 fits.1 fits.2
          (λ x h. all x (or_left (expr_reads x test || stmt_reads x first) (stmt_reads x second) (or_left (expr_reads x test) (stmt_reads x first) h)))
          (λ x h. all x (or_left (expr_reads x test || stmt_reads x first) (stmt_reads x second) (or_right (expr_reads x test) (stmt_reads x first) h)))
          (λ x h. writes x (or_left (stmt_assigns x first) (stmt_assigns x second) h)) (λ x h. all x (or_right (expr_reads x test || stmt_reads x first) (stmt_reads x second) h))
          (λ x h. writes x (or_right (stmt_assigns x first) (stmt_assigns x second) h)) d)
      checking_goes L reads assigns ready fits all writes Checking.is_refused = tt
      checking_goes {params} {around} {node} {w = w} {v = v} L reads assigns ready fits all writes (Checking.of_while {test = test} {body = body} {t = t} {g = g} {u = u} d i j) =
          plain_if P signed L params around reads assigns (tree.while_loop test body) node w v (λ x. refl) (λ a b k. k) ready (checking_walked {params = params} {around = around} {node = node} {w = w} {v = v} ready.step (Checking.of_while d i j))
          (subst (If (Plainly P signed L w)) j
          (after_if (ScopeGoes P signed L (found_so w g)) (Plainly P signed L w) (fault_of (with_fault_if node kind.Type (not (may_be is_boolean (type_in t))))) (λ s. statement node.place (typed.while_loop (node_of test t) s)) u
          (scope_goes L reads assigns ready fits.1 (λ x h. all x (or_right (expr_reads x test) (stmt_reads x body) h)) writes i)
          (λ made x free h.
          while_plain P signed L params around reads assigns node.place test w t g made x ready fits.0 (λ y k. all y (or_left (expr_reads y test) (stmt_reads y body) k)) d
          (not_false (may_be is_boolean (type_in t)) (free_if node _ (not (may_be is_boolean (type_in t))) free).1) h)))
      checking_goes {params} {around} {node} {w = w} {v = v} L reads assigns ready fits all writes (Checking.of_cobegin {nd = nd} {branches = branches} d) =
          plain_if P signed L params around reads assigns (tree.cobegin nd branches) node w v (λ x. refl) (λ a b k. k) ready
          (checking_walked {params = params} {around = around} {node = node} {w = w} {v = v} ready.step (Checking.of_cobegin d)) (forking_goes L reads assigns ready fits all writes d)
      checking_goes {params} {around} {node} {w = w} {v = v} L reads assigns ready fits all writes (Checking.of_foreach {nd = nd} {var = var} {start = start} {count = count} {body = body} {t = t} {u = u} {g = g} {h = h} d i n) =
          plain_if P signed L params around reads assigns (tree.foreach nd var start count body) node w v (λ x. refl) (λ a b k. k) ready (checking_walked {params = params} {around = around} {node = node} {w = w} {v = v} ready.step (Checking.of_foreach d i n))
          (iterating_goes w.found L reads assigns ready fits.2 (λ x k. all x (or_right (expr_reads x start || expr_reads x count) (not (var.name == x) && stmt_reads x body) k))
          (range_at L params around reads assigns node w start count t u g h ready fits.0 fits.1
          (λ x k. all x (or_left (expr_reads x start || expr_reads x count) (not (var.name == x) && stmt_reads x body) (or_left (expr_reads x start) (expr_reads x count) k)))
          (λ x k. all x (or_left (expr_reads x start || expr_reads x count) (not (var.name == x) && stmt_reads x body) (or_right (expr_reads x start) (expr_reads x count) k))) d i) n)
      checking_goes {params} {around} {node} {w = w} {v = v} L reads assigns ready fits all writes (Checking.of_parts {view = view} {var = var} {array = array} {count = count} {body = body} d) =
          plain_if P signed L params around reads assigns (tree.foreach_parts view var array count body) node w v (λ x. refl) (λ a b k. k) ready
          (checking_walked {params = params} {around = around} {node = node} {w = w} {v = v} ready.step (Checking.of_parts d)) (parting_goes L reads assigns ready fits.0 fits.1 fits.2 all d)
      checking_goes {params} {around} {node} {w = w} {v = v} L reads assigns ready fits all writes (Checking.of_atomic {all = body} {u = u} {ss = ss} d j) =
          plain_if P signed L params around reads assigns (tree.atomic body) node w v (λ x. refl) (λ a b k. k) ready (checking_walked {params = params} {around = around} {node = node} {w = w} {v = v} ready.step (Checking.of_atomic d j))
          (subst (If (Plainly P signed L w)) j
          (plainly_judged L w _ _ _ (λ free.
          atomic_plain P signed L params around reads assigns node.place w ss u ready (free_if node _ u.found.reaches_nd free).1
          (block_goes (in_atomic_block L) reads assigns (ready_atomic P L w.env params around reads assigns ready) fits all writes d))))

      choosing_goes : {params : List Bool} {around : Around} {node : Node} {test : PlainExpr} {first : PlainStmt} {other : Option PlainStmt} {w : Walk} {v : Verdict TypedStmt} (L : Scope) (reads assigns : ℕ → Bool) →
          Ready P L w.env params around reads assigns → Fitting test → StmtFitting first → OtherFitting other → ((x : ℕ) → IsTrue (expr_reads x test) → IsTrue (reads x)) →
          ((x : ℕ) → IsTrue (stmt_reads x first) → IsTrue (reads x)) → ((x : ℕ) → IsTrue (stmt_assigns x first) → IsTrue (assigns x)) → ((x : ℕ) → IsTrue (other_reads x other) → IsTrue (reads x)) →
          ((x : ℕ) → IsTrue (other_writes x other) → IsTrue (assigns x)) → Choosing params around node test first other w v → If (Plainly P signed L w) v
      choosing_goes L reads assigns ready fits first_fits other_fits all first_all first_writes other_all other_writes_so Choosing.choice_refused = tt
      choosing_goes {params} {around} {node} {test} {first} {other} {w} L reads assigns ready fits first_fits other_fits all first_all first_writes other_all other_writes_so
          (Choosing.chosen {x = y} {t = t} {g = g} {made = made} {u = u} d i n j) =
          let s = scope_goes L reads assigns ready first_fits first_all first_writes i in
          let k = scope_walked ready.step i in
          let later : Ready P L y.env params around reads assigns = ready_kept P L w.env y.env params around reads assigns k.kept ready in
          subst (If (Plainly P signed L w)) j
          (after_if (λ part u. OtherGoes P signed L other y part u × OtherDone other y part u) (Plainly P signed L w) (fault_of (with_fault_if node kind.Type (not (may_be is_boolean (type_in t)))))
          (λ part. statement node.place (choice_form (node_of test t) made part)) u
          (both_other P signed L other y u (other_goes L reads assigns later other_fits other_all other_writes_so n) (other_walked later.step n))
          (λ part x free o.
          choice_plain P signed L params around reads assigns node.place test other w y x t g made part ready fits all d (not_false (may_be is_boolean (type_in t)) (free_if node _ (not (may_be is_boolean (type_in t))) free).1) s o.0 o.1))

      other_goes : {params : List Bool} {around : Around} {other : Option PlainStmt} {w : Walk} {v : Verdict (Option TypedStmt)} (L : Scope) (reads assigns : ℕ → Bool) → Ready P L w.env params around reads assigns →
          OtherFitting other → ((x : ℕ) → IsTrue (other_reads x other) → IsTrue (reads x)) → ((x : ℕ) → IsTrue (other_writes x other) → IsTrue (assigns x)) → InOther params around other w v →
          If (OtherGoes P signed L other w) v
      other_goes L reads assigns ready fits all writes InOther.no_other = refl
      other_goes {w = w} L reads assigns ready fits all writes (InOther.an_other {s = s} {u = u} d j) =
          subst (If (OtherGoes P signed L (Some s) w)) j
          (after_if (ScopeGoes P signed L w) (OtherGoes P signed L (Some s) w) None Some u (scope_goes L reads assigns ready fits all writes d) (λ made x free h. h))

      scope_goes : {params : List Bool} {around : Around} {s : PlainStmt} {w : Walk} {v : Verdict TypedStmt} (L : Scope) (reads assigns : ℕ → Bool) → Ready P L w.env params around reads assigns →
          StmtFitting s → ((x : ℕ) → IsTrue (stmt_reads x s) → IsTrue (reads x)) → ((x : ℕ) → IsTrue (stmt_assigns x s) → IsTrue (assigns x)) → InScope params around s w v → If (ScopeGoes P signed L w) v
      scope_goes {params} {around} {w = w} L reads assigns ready fits all writes (in_scope {u = u} (standing {f = f} d) j) =
          subst (If (ScopeGoes P signed L w)) j (scope_if P signed L params around reads assigns f w u (checking_goes L reads assigns ready fits all writes d))

      block_goes : {params : List Bool} {around : Around} {all : PlainStmts} {w : Walk} {v : Verdict (List TypedStmt)} (L : Scope) (reads assigns : ℕ → Bool) → Ready P L w.env params around reads assigns →
          StmtsFitting all → ((x : ℕ) → IsTrue (stmts_read x all) → IsTrue (reads x)) → ((x : ℕ) → IsTrue (stmts_assign x all) → IsTrue (assigns x)) → InBlock params around all w v →
          If (BlockGoes P signed L w) v
      block_goes {w = w} L reads assigns ready fits all writes (in_block {u = u} d j) = subst (If (BlockGoes P signed L w)) j (block_if P signed L w u (order_goes L reads assigns ready fits all writes d))

      order_goes : {params : List Bool} {around : Around} {before : Bool} {ss : PlainStmts} {w : Walk} {v : Verdict (List TypedStmt)} (L : Scope) (reads assigns : ℕ → Bool) → Ready P L w.env params around reads assigns →
          StmtsFitting ss → ((x : ℕ) → IsTrue (stmts_read x ss) → IsTrue (reads x)) → ((x : ℕ) → IsTrue (stmts_assign x ss) → IsTrue (assigns x)) → InOrder params around before ss w v →
          If (OrderGoes P signed L w) v
      order_goes {w = w} L reads assigns ready fits all writes InOrder.none_left = record { nd_free = λ c. c; goes = λ room nd_free. ([], AllPass.no_more, nothing_gathered w.found, tt) }
      order_goes L reads assigns ready fits all writes InOrder.order_refused = tt
      order_goes {params} {around} {before} {w = w} L reads assigns ready fits all writes (InOrder.then_others {ss = ss} {u = u} {made = made} {x = x} (standing {place = place} {f = f} d) rest j) =
          let g = checking_goes L reads assigns ready fits.0 (λ y h. all y (or_left (stmt_form_reads y f) (not (declares_form y f) && stmts_read y ss) h))
          (λ y h. writes y (or_left (stmt_form_assigns y f) (not (declares_form y f) && stmts_assign y ss) h)) d in
          let k = standing_walked ready.step (standing d) in
          let next = g.ready (λ y. stmts_read y ss) (λ y. stmts_assign y ss) (later_reads P signed f place ss reads all) (later_assigns P signed f place ss assigns writes) in
          subst (If (OrderGoes P signed L w)) j
          (order_if P signed L params around reads assigns before place f ss w u made ready k.1 g x (order_walked next.step rest)
          (order_goes g.scope (λ y. stmts_read y ss) (λ y. stmts_assign y ss) next fits.1 (λ y h. h) (λ y h. h) rest))

      iterating_goes : {params : List Bool} {around : Around} {node : Node} {nd : Bool} {var : Named} {lowest size : TypedExpr} {body : PlainStmt} {x : Walk} {v : Verdict TypedStmt} (found : Found) (L : Scope)
          (reads assigns : ℕ → Bool) → Ready P L x.env params around reads assigns → StmtFitting body → ((n : ℕ) → IsTrue (not (var.name == n) && stmt_reads n body) → IsTrue (reads n)) →
          (fault_of node ≡ None → Range L found lowest size x.found) → Iterating params around node nd var lowest size body x v → If (Plainly P signed L (record { env = x.env; found = found })) v
      iterating_goes found L reads assigns ready fits all range Iterating.iteration_refused = tt
      iterating_goes {params} {around} {node} {nd} {var} {lowest} {size} {body} {x} found L reads assigns ready fits all range (Iterating.iterated {u = z} {made = made} place placed b free j) =
          let w : Walk = record { env = x.env; found = found } in
          let f = free_if (variable_noted x.env var node) _ (assigns_outer body) free in
          let has_one = room_free x.env var.name var.place node f.0 in
          let r = range (declared_free x.env var.name var.place node f.0) in
          let none : (n : ℕ) → IsTrue (stmt_assigns n body) → ⊥ = λ n k. false≢true (sym f.1 ∙ assigns_some body n k) in
          let begun : Ready P (Inner P signed L params around reads assigns w ready) (variable_declared x.env var) params (inside around) (λ n. stmt_reads n body) (λ n. stmt_assigns n body) =
          subst (λ q. Ready P (Inner P signed L params around reads assigns w ready) (cond q (with_local x.env var.name variant.Int true) x.env) params (inside around) (λ n. stmt_reads n body) (λ n. stmt_assigns n body)) (sym has_one)
          (ready_iteration P signed L params around reads assigns w ready var body all none) in
          let s = scope_goes (Inner P signed L params around reads assigns w ready) (λ n. stmt_reads n body) (λ n. stmt_assigns n body) begun fits (λ n k. k) (λ n k. k) b in
          let more = (scope_walked begun.step b).kept.slots in
          let slots_are = ap (λ q. slots_in (cond q (with_local x.env var.name variant.Int true) x.env)) has_one in
          subst (If (Plainly P signed L w)) j
          (plainly_judged L w _ _ _ (λ later.
          foreach_plain P signed L params around reads assigns w ready place nd lowest size r.mid x.found made z begun.locals r.low r.low_int r.high r.size_int (omega (arith, more, slots_are))
          (record { nd_free = λ c. refl; goes = s.goes })
          (free_if (settled_node (with_fault_if (variable_noted x.env var node) kind.Assign (assigns_outer body))) (interference nd)
          (iterations_clash (given_in x.env) (declared_atomic params nd x.env) (slots_in x.env) (with_uses z.found.effects z.found.uses)) later).1))

      parting_goes : {params : List Bool} {around : Around} {node : Node} {view var : Named} {array count : PlainExpr} {body : PlainStmt} {w : Walk} {v : Verdict TypedStmt} (L : Scope) (reads assigns : ℕ → Bool) →
          Ready P L w.env params around reads assigns → Fitting array → Fitting count → StmtFitting body →
          ((x : ℕ) → IsTrue ((expr_reads x array || expr_reads x count) || (not (view.name == x) && (not (var.name == x) && stmt_reads x body))) → IsTrue (reads x)) → Parting params around node view var array count body w v →
          If (Plainly P signed L w) v
      parting_goes L reads assigns ready array_fits count_fits fits all Parting.parting_refused = tt
      parting_goes {params} {around} {node} {view} {var} {array} {count} {body} {w} L reads assigns ready array_fits count_fits fits all
          (Parting.parted {u = z} {made = made} (Opening.both_given t {source = source} {fault = fault} {g = g} {h = h} {u = q} c d) b free j) =
          let first : Node = with_fault_if (with_found node fault) kind.Type (not (may_be is_int (type_in q))) in
          let f = free_if (parts_noted w.env view var t first) _ (assigns_outer body) free in
          let var_room = room_free (part_declared w.env view.name t) var.name var.place (declaration_noted w.env view.name view.place first) f.0 in
          let before = declared_free (part_declared w.env view.name t) var.name var.place (declaration_noted w.env view.name view.place first) f.0 in
          let view_room = room_free w.env view.name view.place first before in
          let count_int = free_if (with_found node fault) _ (not (may_be is_int (type_in q))) (declared_free w.env view.name view.place first before) in
          let cut = cutting_so P signed L params around reads assigns w ready array_fits
          (λ x k. all x (or_left (expr_reads x array || expr_reads x count) (not (view.name == x) && (not (var.name == x) && stmt_reads x body)) (or_left (expr_reads x array) (expr_reads x count) k))) c
          (free_found node fault count_int.0).1 in
          let y = expr_at P signed L w.env params around reads assigns count g h q ready count_fits
          (λ x k. all x (or_left (expr_reads x array || expr_reads x count) (not (view.name == x) && (not (var.name == x) && stmt_reads x body)) (or_right (expr_reads x array) (expr_reads x count) k))) d in
          let none : (n : ℕ) → IsTrue (stmt_assigns n body) → ⊥ = λ n k. false≢true (sym f.1 ∙ assigns_some body n k) in
          let part_is : part_declared w.env view.name t ≡ with_part w.env view.name t = ap (λ r. cond r (with_part w.env view.name t) w.env) view_room in
          let env_is : parts_declared w.env view var t ≡ with_local (with_part w.env view.name t) var.name variant.Int true =
          ap (λ r. cond r (with_local (part_declared w.env view.name t) var.name variant.Int true) (part_declared w.env view.name t)) var_room ∙ ap (λ (e : Env). with_local e var.name variant.Int true) part_is in
          let N : Scope = Parted P signed L params around reads assigns w ready cut.elem cut.path cut.names in
          let begun : Ready P N (parts_declared w.env view var t) params (inside around) (λ n. stmt_reads n body) (λ n. stmt_assigns n body) =
          subst (λ e. Ready P N e params (inside around) (λ n. stmt_reads n body) (λ n. stmt_assigns n body)) (sym env_is)
          (ready_parts P signed L params around reads assigns w ready cut.elem cut.path cut.names view var t body cut.is
          (λ x k. all x (or_right (expr_reads x array || expr_reads x count) (not (view.name == x) && (not (var.name == x) && stmt_reads x body)) k)) none) in
          let s = scope_goes N (λ n. stmt_reads n body) (λ n. stmt_assigns n body) begun fits (λ n k. k) (λ n k. k) b in
          let more = (scope_walked begun.step b).kept.slots in
          let slots_are = ap slots_in env_is in
          subst (If (Plainly P signed L w)) j
          (plainly_judged L w _ _ _ (λ later.
          subst (λ e. Plainly P signed L w (statement node.place (typed.foreach_parts w.env.slots source e made)) (parts_left w.env.slots w source h z)) (sym (ap (node_of count) y.1))
          (parts_plain P signed L params around reads assigns w ready cut.elem cut.path cut.names node.place source y.0 g h cut.effects made z begun.locals cut.cuts cut.part_is cut.gathers cut.nd_free y.2
          (int_at q y.0 y.1 (not_false (may_be is_int (type_in q)) count_int.1)) (omega (arith, more, slots_are)) (λ room nd_free. s.goes room nd_free)
          (free_if (settled_node (with_fault_if (parts_noted w.env view var t first) kind.Assign (assigns_outer body))) (interference false)
          (parts_interfere (given_in w.env) (part_slot w.env) (part_variable w.env) z.found.effects z.found.uses) later).1)))

      branching_goes : {params : List Bool} {around : Around} {nd : Bool} {ss : PlainStmts} {w : Walk} {v : BranchesVerdict} (outer : Around) (L : Scope) (reads assigns : ℕ → Bool) (env : Env) → around ≡ inside outer →
          Ready P L env params outer reads assigns → Kept env w.env → StmtsFitting ss → ((n : ℕ) → IsTrue (branches_read n ss) → IsTrue (reads n)) → ((n : ℕ) → IsTrue (branches_assign n ss) → IsTrue (assigns n)) →
          Branching params around nd ss w v → BranchesVerdictGo L env nd ss w v
      branching_goes {nd = nd} {w = w} outer L reads assigns env at ready kept fits all writes Branching.no_branches =
          record { nd_free = λ c. c; go = λ room nd_free are apart others earlier. ([], BranchesPass.no_branch, tt, subst (λ k. Gathers w.found k w.found) (none_after nd) (nothing_gathered w.found)) }
      branching_goes outer L reads assigns env at ready kept fits all writes Branching.branch_refused = tt
      branching_goes {params} {around} {nd} {w = w} outer L reads assigns env at ready kept fits all writes (Branching.then_branches {s = s} {ss = ss} {u = u} {made = made} {v = v} d rest j) =
          let step = kept_step env w.env kept ready.step in
          let k = scope_walked step d in
          subst (BranchesVerdictGo L env nd (tree.more_stmts s ss) w) j
          (branch_then L params outer reads assigns env nd s ss w u made v ready kept all writes
          (λ M begun. scope_goes M (λ n. stmt_reads n s) (λ n. stmt_assigns n s) (subst (λ a. Ready P M w.env params a (λ n. stmt_reads n s) (λ n. stmt_assigns n s)) (sym at) begun) fits.0 (λ n h. h) (λ n h. h) d)
          (branching_walked (kept_step w.env u.env k.kept step) rest)
          (branching_goes outer L reads assigns env at ready (kept_then env w.env u.env kept k.kept) fits.1 (λ n h. all n (or_right (stmt_reads n s) (branches_read n ss) h))
          (λ n h. writes n (or_right (stmt_assigns n s) (branches_assign n ss) h)) rest))

      forking_goes : {params : List Bool} {around : Around} {node : Node} {nd : Bool} {branches : PlainStmts} {w : Walk} {v : Verdict TypedStmt} (L : Scope) (reads assigns : ℕ → Bool) → Ready P L w.env params around reads assigns →
          StmtsFitting branches → ((n : ℕ) → IsTrue (branches_read n branches) → IsTrue (reads n)) → ((n : ℕ) → IsTrue (branches_assign n branches) → IsTrue (assigns n)) →
          Forking params around node nd branches w v → If (Plainly P signed L w) v
      forking_goes L reads assigns ready fits all writes Forking.fork_refused = tt
      forking_goes {params} {around} {node} {nd} {branches} {w} L reads assigns ready fits all writes (Forking.forked {u = u} effects {made = made} d free j) =
          let g = branching_goes around L reads assigns w.env refl ready (kept_same w.env) fits all writes d in
          let f = free_if node _ (some_disturb branches) free in
          subst (If (Plainly P signed L w)) j
          (plainly_judged L w _ _ _ (λ later.
          forked_plain L params around reads assigns node.place nd branches w effects made u ready g (branches_static w.env (kept_same w.env) ready.step d) f.1
          (free_if (settled_node (with_fault_if node kind.Assign (some_disturb branches))) (interference nd) (branches_interfere params nd w.env effects) later).1))

    pub block_agrees : (L : Scope) (params : List Bool) (around : Around) (reads assigns : ℕ → Bool) (w : Walk) → Ready P L w.env params around reads assigns → (all : PlainStmts) → StmtsFitting all →
        ((x : ℕ) → IsTrue (stmts_read x all) → IsTrue (reads x)) → ((x : ℕ) → IsTrue (stmts_assign x all) → IsTrue (assigns x)) → (made : List TypedStmt) (u : Walk) → InBlock params around all w (passes made u) →
        Room L u.env → NdFree L u → BlockPasses P L w.found made u.found
    block_agrees L params around reads assigns w ready all fits all_reads all_writes made u d room nd_free =
        let r = (block_goes L reads assigns ready fits all_reads all_writes d).goes room nd_free in
        record { effects = r.0; passes_so = r.1; gathers = r.2; in_scope = all_names P signed ready.locals r.1 }
