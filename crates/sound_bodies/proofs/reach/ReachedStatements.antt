-- The statements of a body reach an nd construct only where one stands among them, or by a call or a creation of what forks.
use Rattle.std.proofs.Common.{◌≡◌, ℕ, Bool, true, false, not, ◌||◌, List, [], ◌∷◌, ◌++◌, inl, Option, Some, None, refl, sym, subst, rules}
use Rattle.lang_base.specs.declared.effect.Effect.{Effect}
use Rattle.lang_base.specs.declared.refusal.Kind.{Kind}
use Rattle.lang_base.specs.declared.place.Place.{Place}
use Rattle.lang_base.specs.declared.refusal.Kind.TheVariants as kind
use Rattle.lang_base.specs.declared.ty.Ty.{the_lemmas}
use Rattle.lang_base.specs.declared.ty.Ty.TheVariants as variant
use Rattle.lang_base.specs.Types.{PlainType, plain_type}
use Rattle.lang_base.specs.Types.{PlainType as ty}
use Rattle.syntax_tree.specs.declared.region.Named.{Named}
use Rattle.syntax_tree.specs.declared.region.TypeTree.{TypeTree}
use Rattle.syntax_tree.specs.Nd.{holds_nd, some_holds_nd}
use Rattle.syntax_tree.specs.Plain.{PlainExpr, PlainStmt, PlainStmts}
use Rattle.syntax_tree.specs.Plain as tree
use Rattle.lang_typed.specs.Plain.{TypedExpr, Source, TypedStmt, stmts_of}
use Rattle.lang_typed.specs.Plain as typed
use Rattle.decl_resolve.specs.Names.{Names}
use Rattle.decl_resolve.specs.Scoped.{with_name}
use Rattle.decl_reach.specs.declared.shape.Shape.{Shape}
use Rattle.decl_table.specs.declared.table.Table.{Table}
use Rattle.decl_reach.specs.Calls.{shape_of, calls_of, stmt_calls, block_calls, branch_calls}
use Rattle.decl_reach.specs.Calls.{following as after_stmt}
use Rattle.decl_reach.specs.Edges.{without_forks}
use Rattle.decl_reach.specs.Shapes.{no_class, tree_shape}
use Rattle.decl_table.specs.Table.{headers_of}
use Rattle.body_exprs.specs.declared.env.Env.{Env}
use Rattle.body_exprs.specs.declared.found.Found.{Found}
use Rattle.body_exprs.specs.Answer.{gives}
use Rattle.body_exprs.specs.Env.{table_of, scope_of, part_declared}
use Rattle.body_exprs.specs.Targeting.{aims, Targeting}
use Rattle.body_exprs.specs.Typed.{may_be, is_int, is_boolean, type_in}
use Rattle.body_exprs.specs.Typing.{Typing}
use Rattle.body_check.specs.declared.node.Around.{Around}
use Rattle.body_check.specs.declared.node.Node.{Node}
use Rattle.body_check.specs.Checking.{own_block, own_scope, branch_of, gathers, outer_part, part_slot, variable_noted}
use Rattle.body_check.specs.Deciding.{marks_after}
use Rattle.body_check.specs.Gathering.{with_uses, taken_in}
use Rattle.body_check.specs.Leaving.{from_here}
use Rattle.body_check.specs.Noting.{with_fault_if, with_found, fault_of}
use Rattle.body_check.specs.Simple.{node_of, declaration_noted}
use Rattle.body_check.specs.Walks.{Walk, Verdict, passes, refused, apart_from}
use Rattle.sound_lemmas.proofs.StatementRules.{cut_type, Cutting, Opened, opened, not_opened, Opening, BranchesVerdict, all_pass, one_refused, after_branch, Checking, Choosing, InOther, Standing, standing, InScope, in_scope, InBlock, in_block, InOrder, Branching, Forking, Iterating, Parting, Declaring, AssigningLocal, AssigningPlace, Performing, Returning, Printing}
use Rattle.sound_lemmas.proofs.Bodies.{free_if, declared_free}
use Rattle.sound_bodies.proofs.scope.Growing.{room_free}
use Rattle.sound_bodies.proofs.reach.Reached.{Adds, adds_none, adds_then, adds_apart, adds_nd, write_same, handed_same}
use Rattle.sound_bodies.proofs.reach.ReachedExpressions.{AreShallow, Shown, part_shown, typing_answered, targeting_answered}
use Rattle.sound_bodies.proofs.reach.ShapedLocals.{Shaped, longer_then, longer_one, longer_after, longer_all, all_after, local_shaped, local_added, part_added, regions_added, scope_closed}
use Rattle.sound_bodies.proofs.reach.TypeShapes.{IsShape, declared_shaped}
use Rattle.sound_bodies.proofs.statements.Walks.{If, judged_if, after_if}

module _ (table : Table) (class : ℕ) (rows : AreShallow table)
  where
    abbrev T : Table
    T = without_forks table

    abbrev shape : Names Shape → PlainExpr → Shape
    shape locals e = shape_of T class locals e

    abbrev calls : Names Shape → PlainExpr → List ℕ
    calls locals e = calls_of T class locals e

    abbrev inner : Names Shape → PlainStmt → List ℕ
    inner locals s = stmt_calls T class locals s

    abbrev More : Found → Bool → List ℕ → Found → Type 0
    More f nd ids g = Adds table f.reaches_nd nd ids g.reaches_nd

    -- from one place of a body to another, where this is in scope afterwards
    pub record Goes (nd : Bool) (ids : List ℕ) (after : Names Shape) (w u : Walk) : Type 0 where
      pub env : Shaped table class after u.env
      pub adds : More w.found nd ids u.found

    then_more : (f g h : Found) (n m : Bool) (xs ys : List ℕ) → More f n xs g → More g m ys h → More f (n || m) (xs ++ ys) h
    then_more f g h n m xs ys first second = adds_then table f.reaches_nd g.reaches_nd h.reaches_nd n m xs ys first second

    -- expressions

    expr_at : {locals : Names Shape} {env : Env} (e : PlainExpr) (f : Found) {g : Found} {t : Option TypedExpr} → Shaped table class locals env → Typing env e f (gives t g) → Shown (shape locals e) t × More f false (calls locals e) g
    expr_at {locals} {env} e f {g} {t} at d =
        subst (λ z. Shown (shape_of (without_forks z) class locals e) t × Adds z f.reaches_nd false (calls_of (without_forks z) class locals e) g.reaches_nd) at.table_is
        (subst (λ c. Shown (shape_of (without_forks (table_of env)) c locals e) t × Adds (table_of env) f.reaches_nd false (calls_of (without_forks (table_of env)) c locals e) g.reaches_nd) at.class_is
        (typing_answered env locals (subst AreShallow (sym at.table_is) rows) (local_shaped at) e f d))

    target_at : {locals : Names Shape} {env : Env} (e : PlainExpr) (f : Found) {g : Found} {aim : _} → Shaped table class locals env → Targeting env e f (aims aim g) → More f false (calls locals e) g
    target_at {locals} {env} e f {g} {aim} at d =
        subst (λ z. Adds z f.reaches_nd false (calls_of (without_forks z) class locals e) g.reaches_nd) at.table_is
        (subst (λ c. Adds (table_of env) f.reaches_nd false (calls_of (without_forks (table_of env)) c locals e) g.reaches_nd) at.class_is
        (targeting_answered env locals (subst AreShallow (sym at.table_is) rows) (local_shaped at) e f d))

    -- what a `foreach_parts` cuts has the shape of its part
    cutting_at : {locals : Names Shape} {env : Env} {array : PlainExpr} {f g : Found} {t : PlainType} {source : Source} {fault : Option Kind} → Shaped table class locals env → Cutting env array f t source fault g →
        IsShape (shape locals array) t × More f false (calls locals array) g
    cutting_at {locals} {env} {array} at (Cutting.a_part {row = row} is) = (
      subst (λ z. IsShape (shape_of (without_forks z) class locals array) (plain_type row.ty)) at.table_is
          (subst (λ c. IsShape (shape_of (without_forks (table_of env)) c locals array) (plain_type row.ty)) at.class_is
          (part_shown env locals (subst AreShallow (sym at.table_is) rows) (local_shaped at) array row is)),
      λ h. inl h,
    )
    cutting_at {locals} {env} {array} {f} at (Cutting.an_array {t = t} none d) = let w = expr_at array f at d in (by t w.0, w.1)
      where
        by : (o : Option TypedExpr) → Shown (shape locals array) o → IsShape (shape locals array) (cut_type o)
        by None h = tt
        by (Some e) h = h

    -- statements that hold no other

    declaring : {locals : Names Shape} {node : Node} {is_final : Bool} {written : TypeTree} {name : ℕ} {value : PlainExpr} {w : Walk} {v : Verdict TypedStmt} → Shaped table class locals w.env →
        Declaring node is_final written name value w v → If (λ made u. Goes false (calls locals value) (with_name locals name (tree_shape (headers_of table) written)) w u) v
    declaring at Declaring.is_refused = tt
    declaring {locals} {node} {is_final} {written} {name} {value} {w} at (Declaring.declared {t = t} {g = g} {fit = fit} made unreported same d fits j) =
        subst (If (λ made u. Goes false (calls locals value) (with_name locals name (tree_shape (headers_of table) written)) w u)) j
        (judged_if (λ made u. Goes false (calls locals value) (with_name locals name (tree_shape (headers_of table) written)) w u) _ _ _ (λ free.
        let f = free_if (declaration_noted w.env name node.place node) _ (not fit) free in
        record {
          env = local_added name made is_final (tree_shape (headers_of table) written) (room_free w.env name node.place node f.0)
              (subst (λ z. IsShape (tree_shape (headers_of z) written) (plain_type made)) at.table_is
              (subst (IsShape (tree_shape (headers_of (table_of w.env)) written)) (sym same) (declared_shaped (scope_of w.env) written))) at;
          adds = (expr_at value w.found at d).1;
        }))

    assigning : {locals : Names Shape} {node : Node} {target : Named} {value : PlainExpr} {w : Walk} {v : Verdict TypedStmt} → Shaped table class locals w.env → AssigningLocal node target value w v →
        If (λ made u. Goes false (calls locals value) locals w u) v
    assigning at AssigningLocal.is_refused = tt
    assigning {locals} {node} {target} {value} {w} at (AssigningLocal.assigned d is fits j) =
        subst (If (λ made u. Goes false (calls locals value) locals w u)) j
        (judged_if (λ made u. Goes false (calls locals value) locals w u) _ _ _ (λ free. record { env = at; adds = (expr_at value w.found at d).1 }))

    placing : {locals : Names Shape} {node : Node} {target value : PlainExpr} {w : Walk} {v : Verdict TypedStmt} → Shaped table class locals w.env → AssigningPlace node target value w v →
        If (λ made u. Goes false (calls locals target ++ calls locals value) locals w u) v
    placing at AssigningPlace.is_refused = tt
    placing {locals} {node} {target} {value} {w} at (AssigningPlace.anything_assigned {g = g} {h = h} d i j) =
        subst (If (λ made u. Goes false (calls locals target ++ calls locals value) locals w u)) j
        (judged_if (λ made u. Goes false (calls locals target ++ calls locals value) locals w u) _ _ _
        (λ free. record { env = at; adds = then_more w.found g h false false (calls locals target) (calls locals value) (target_at target w.found at d) (expr_at value g at i).1 }))
    placing {locals} {node} {target} {value} {w} at (AssigningPlace.place_assigned {aim = aim} {g = g} {h = h} d i fits j) =
        subst (If (λ made u. Goes false (calls locals target ++ calls locals value) locals w u)) j
        (judged_if (λ made u. Goes false (calls locals target ++ calls locals value) locals w u) _ _ _ (λ free. record {
          env = at;
          adds = subst (Adds table w.found.reaches_nd false (calls locals target ++ calls locals value)) (sym (write_same h aim))
              (then_more w.found g h false false (calls locals target) (calls locals value) (target_at target w.found at d) (expr_at value g at i).1);
        }))

    performing : {locals : Names Shape} {node : Node} {value : PlainExpr} {w : Walk} {v : Verdict TypedStmt} → Shaped table class locals w.env → Performing node value w v → If (λ made u. Goes false (calls locals value) locals w u) v
    performing at Performing.is_refused = tt
    performing {locals} {node} {value} {w} at (Performing.performed d j) =
        subst (If (λ made u. Goes false (calls locals value) locals w u)) j
        (judged_if (λ made u. Goes false (calls locals value) locals w u) _ _ _ (λ free. record { env = at; adds = (expr_at value w.found at d).1 }))

    returning : {locals : Names Shape} {around : Around} {node : Node} {value : PlainExpr} {w : Walk} {v : Verdict TypedStmt} → Shaped table class locals w.env → Returning around node value w v →
        If (λ made u. Goes false (calls locals value) locals w u) v
    returning at Returning.is_refused = tt
    returning {locals} {around} {node} {value} {w} at (Returning.returned d fits j) =
        subst (If (λ made u. Goes false (calls locals value) locals w u)) j
        (judged_if (λ made u. Goes false (calls locals value) locals w u) _ _ _ (λ free. record { env = at; adds = (expr_at value w.found at d).1 }))

    printing : {locals : Names Shape} {node : Node} {value : PlainExpr} {w : Walk} {v : Verdict TypedStmt} → Shaped table class locals w.env → Printing node value w v → If (λ made u. Goes false (calls locals value) locals w u) v
    printing at Printing.is_refused = tt
    printing {locals} {node} {value} {w} at (Printing.printed d j) =
        subst (If (λ made u. Goes false (calls locals value) locals w u)) j
        (judged_if (λ made u. Goes false (calls locals value) locals w u) _ _ _ (λ free. record { env = at; adds = (expr_at value w.found at d).1 }))

    -- the scope of the body of a loop

    int_shaped : (s : Shape) → IsShape s (plain_type variant.Int)
    int_shaped s = let is : plain_type variant.Int ≡ ty.int = search (rules, the_lemmas) in subst (IsShape s) (sym is) tt

    abbrev parts_locals : Names Shape → Named → Named → PlainExpr → Names Shape
    parts_locals locals view var array = with_name (with_name locals view.name (shape locals array)) var.name no_class

    abbrev OpenedSo : Names Shape → Named → Named → PlainExpr → PlainExpr → Walk → Opened → Type 0
    OpenedSo locals view var array count w (opened source size noted x) =
        fault_of noted ≡ None → Goes false (calls locals array ++ calls locals count) (parts_locals locals view var array) w x
    OpenedSo locals view var array count w (not_opened refusal) = Unit {0}

    opening : {locals : Names Shape} {node : Node} {view var : Named} {array count : PlainExpr} {w : Walk} {o : Opened} → Shaped table class locals w.env → Opening node view var array count w o →
        OpenedSo locals view var array count w o
    opening {locals} {node} {view} {var} {array} {count} {w} at (Opening.both_given t {fault = found} {g = g} {h = h} {u = u} c d) = λ free.
        let cut = cutting_at at c in
        let plain = with_fault_if (with_found node found) kind.Type (not (may_be is_int (type_in u))) in
        let noted = declaration_noted w.env view.name view.place plain in
        let second = room_free (part_declared w.env view.name t) var.name var.place noted free in
        let first = room_free w.env view.name view.place plain (declared_free (part_declared w.env view.name t) var.name var.place noted free) in
        record {
          env = local_added var.name variant.Int true no_class second (int_shaped no_class) (part_added view.name t (shape locals array) first cut.0 at);
          adds = then_more w.found g h false false (calls locals array) (calls locals count) cut.1 (expr_at count g at d).1;
        }

    -- branches and blocks

    abbrev StmtGoes : Names Shape → PlainStmt → Walk → TypedStmt → Walk → Type 0
    StmtGoes locals s w made u = Goes (holds_nd s) (inner locals s) (after_stmt (headers_of table) locals s) w u

    abbrev ScopeGoes : Names Shape → PlainStmt → Walk → TypedStmt → Walk → Type 0
    ScopeGoes locals s w made u = Goes (holds_nd s) (inner locals s) locals w u

    abbrev OrderGoes : Names Shape → PlainStmts → Walk → List TypedStmt → Walk → Type 0
    OrderGoes locals ss w made u = Goes (some_holds_nd ss) (block_calls T class locals ss) (all_after (headers_of table) locals ss) w u

    abbrev BlockGoes : Names Shape → PlainStmts → Walk → List TypedStmt → Walk → Type 0
    BlockGoes locals ss w made u = Goes (some_holds_nd ss) (block_calls T class locals ss) locals w u

    abbrev OtherGoes : Names Shape → Option PlainStmt → Walk → Option TypedStmt → Walk → Type 0
    OtherGoes locals None w made u = w ≡ u
    OtherGoes locals (Some s) w made u = Goes (holds_nd s) (inner locals s) locals w u

    abbrev BranchesGo : Names Shape → PlainStmts → Walk → BranchesVerdict → Type 0
    BranchesGo locals ss w (all_pass effects made u) = Goes (some_holds_nd ss) (branch_calls T class locals ss) locals w u
    BranchesGo locals ss w (one_refused refusal) = Unit {0}

    abbrev choice_nd : PlainStmt → Option PlainStmt → Bool
    choice_nd first None = holds_nd first
    choice_nd first (Some s) = holds_nd first || holds_nd s

    abbrev choice_calls : Names Shape → PlainExpr → PlainStmt → Option PlainStmt → List ℕ
    choice_calls locals test first None = calls locals test ++ inner locals first
    choice_calls locals test first (Some s) = calls locals test ++ inner locals first ++ inner locals s

    scope_goes : (locals : Names Shape) (s : PlainStmt) (w : Walk) (v : Verdict TypedStmt) → Shaped table class locals w.env → If (StmtGoes locals s w) v → If (ScopeGoes locals s w) (own_scope w v)
    scope_goes locals s w (passes made u) at h = record { env = scope_closed (longer_after (headers_of table) locals s) at h.env; adds = h.adds }
    scope_goes locals s w (refused refusal) at h = tt

    block_goes : (locals : Names Shape) (ss : PlainStmts) (w : Walk) (v : Verdict (List TypedStmt)) → Shaped table class locals w.env → If (OrderGoes locals ss (apart_from w)) v → If (BlockGoes locals ss w) (own_block w v)
    block_goes locals ss w (passes made u) at h = record {
      env = scope_closed (longer_all (headers_of table) locals ss) at h.env;
      adds = adds_apart table w.found.reaches_nd u.found.reaches_nd (some_holds_nd ss) (block_calls T class locals ss) h.adds;
    }
    block_goes locals ss w (refused refusal) at h = tt

    order_goes : (locals : Names Shape) (s : PlainStmt) (ss : PlainStmts) (w u z : Walk) (made : TypedStmt) (others : List TypedStmt) → StmtGoes locals s w made u → OrderGoes (after_stmt (headers_of table) locals s) ss u others z →
        OrderGoes locals (tree.more_stmts s ss) w (made ∷ others) z
    order_goes locals s ss w u z made others first rest = record {
      env = rest.env;
      adds = then_more w.found u.found z.found (holds_nd s) (some_holds_nd ss) (inner locals s) (block_calls T class (after_stmt (headers_of table) locals s) ss) first.adds rest.adds;
    }

    branch_goes : (locals : Names Shape) (env : Env) (nd : Bool) (s : PlainStmt) (ss : PlainStmts) (w u : Walk) (es : List Effect) (made : TypedStmt) (v : BranchesVerdict) → ScopeGoes locals s (apart_from w) made u →
        BranchesGo locals ss (gathers (taken_in (from_here w.env (marks_after nd)) w.found u.found) u) v → BranchesGo locals (tree.more_stmts s ss) w (after_branch es (branch_of env s made) v)
    branch_goes locals env nd s ss w u es made (one_refused refusal) first rest = tt
    branch_goes locals env nd s ss w u es made (all_pass effects bs z) first rest = record {
      env = rest.env;
      adds = adds_then table w.found.reaches_nd (w.found.reaches_nd || u.found.reaches_nd) z.found.reaches_nd (holds_nd s) (some_holds_nd ss) (inner locals s) (branch_calls T class locals ss)
          (adds_apart table w.found.reaches_nd u.found.reaches_nd (holds_nd s) (inner locals s) first.adds) rest.adds;
    }

    chosen_goes : (locals : Names Shape) (test : PlainExpr) (first : PlainStmt) (other : Option PlainStmt) (w x u : Walk) (g : Found) (made : TypedStmt) (part : Option TypedStmt) → More w.found false (calls locals test) g →
        Goes (holds_nd first) (inner locals first) locals (record w { found = g }) x → OtherGoes locals other x part u → Goes (choice_nd first other) (choice_calls locals test first other) locals w u
    chosen_goes locals test first None w x u g made part m one same =
        subst (λ z. Goes (holds_nd first) (calls locals test ++ inner locals first) locals w z) same
        (record { env = one.env; adds = then_more w.found g x.found false (holds_nd first) (calls locals test) (inner locals first) m one.adds })
    chosen_goes locals test first (Some s) w x u g made part m one two = record {
      env = two.env;
      adds = then_more w.found x.found u.found (holds_nd first) (holds_nd s) (calls locals test ++ inner locals first) (inner locals s)
          (then_more w.found g x.found false (holds_nd first) (calls locals test) (inner locals first) m one.adds) two.adds;
    }

    -- the same of a statement that is a block, of one with nothing in it, and of a loop
    abbrev InnerGoes : Names Shape → PlainStmts → Walk → TypedStmt → Walk → Type 0
    InnerGoes locals ss w made u = Goes (some_holds_nd ss) (block_calls T class locals ss) locals w u

    abbrev NoneGoes : Names Shape → Walk → TypedStmt → Walk → Type 0
    NoneGoes locals w made u = Goes false [] locals w u

    none_goes : (locals : Names Shape) (w : Walk) → Shaped table class locals w.env → Goes false [] locals w w
    none_goes locals w at = record { env = at; adds = adds_none table w.found.reaches_nd }

    abbrev WhileGoes : Names Shape → PlainExpr → PlainStmt → Walk → TypedStmt → Walk → Type 0
    WhileGoes locals test body w made u = Goes (holds_nd body) (calls locals test ++ inner locals body) locals w u

    mutual
      checking_goes : {params : List Bool} {around : Around} {node : Node} {f : tree.StmtForm} {w : Walk} {v : Verdict TypedStmt} (place : Place) (locals : Names Shape) → Shaped table class locals w.env → Checking params around node f w v →
          If (StmtGoes locals (tree.statement place f) w) v
      checking_goes {node = node} {w = w} place locals at (Checking.of_block {all = all} {u = u} d j) =
          subst (If (InnerGoes locals all w)) j
          (after_if (BlockGoes locals all w) (InnerGoes locals all w) (fault_of node) (λ ss. typed.statement node.place (typed.block (stmts_of ss))) u (block_reaches locals at d) (λ made x free h. h))
      checking_goes place locals at (Checking.of_declaration d) = declaring at d
      checking_goes place locals at (Checking.of_local_assignment d) = assigning at d
      checking_goes place locals at (Checking.of_field_assignment d) = placing at d
      checking_goes place locals at (Checking.of_element_assignment d) = placing at d
      checking_goes place locals at (Checking.of_call d) = performing at d
      checking_goes {w = w} place locals at (Checking.of_return j) = subst (If (NoneGoes locals w)) j (judged_if (NoneGoes locals w) _ _ _ (λ free. none_goes locals w at))
      checking_goes place locals at (Checking.of_return_value d) = returning at d
      checking_goes place locals at (Checking.of_print d) = printing at d
      checking_goes {w = w} place locals at (Checking.of_text j) = subst (If (NoneGoes locals w)) j (judged_if (NoneGoes locals w) _ _ _ (λ free. none_goes locals w at))
      checking_goes {w = w} place locals at (Checking.of_regions {names = names} j) =
          subst (If (NoneGoes locals w)) j (judged_if (NoneGoes locals w) _ _ _ (λ free. record { env = regions_added w.env names at; adds = adds_none table w.found.reaches_nd }))
      checking_goes place locals at (Checking.of_choice d) = choosing_goes locals at d
      checking_goes place locals at (Checking.of_choice_else d) = choosing_goes locals at d
      checking_goes place locals at Checking.is_refused = tt
      checking_goes {node = node} {w = w} place locals at (Checking.of_while {test = test} {body = body} {t = t} {g = g} {u = u} d i j) =
          subst (If (WhileGoes locals test body w)) j
          (after_if (ScopeGoes locals body (record w { found = g })) (WhileGoes locals test body w) (fault_of (with_fault_if node kind.Type (not (may_be is_boolean (type_in t)))))
          (λ s. typed.statement node.place (typed.while_loop (node_of test t) s)) u (scope_reaches locals at i)
          (λ made x free h. record { env = h.env; adds = then_more w.found g x.found false (holds_nd body) (calls locals test) (inner locals body) (expr_at test w.found at d).1 h.adds }))
      checking_goes place locals at (Checking.of_cobegin d) = forking_goes locals at d
      checking_goes {w = w} place locals at (Checking.of_foreach {nd = nd} {var = var} {start = start} {count = count} {body = body} {g = g} {h = h} {v = v} d i n) =
          by v (iterating_goes locals at n)
        where
          range : More w.found false (calls locals start ++ calls locals count) h
          range = then_more w.found g h false false (calls locals start) (calls locals count) (expr_at start w.found at d).1 (expr_at count g at i).1

          by : (x : Verdict TypedStmt) → If (λ made u. Goes (nd || holds_nd body) (inner (with_name locals var.name no_class) body) locals (record w { found = h }) u) x →
              If (λ made u. Goes (nd || holds_nd body) (calls locals start ++ calls locals count ++ inner (with_name locals var.name no_class) body) locals w u) x
          by (passes made u) k = record {
            env = k.env;
            adds = then_more w.found h u.found false (nd || holds_nd body) (calls locals start ++ calls locals count) (inner (with_name locals var.name no_class) body) range k.adds;
          }
          by (refused refusal) k = tt
      checking_goes place locals at (Checking.of_parts d) = parting_goes locals at d
      checking_goes {node = node} {w = w} place locals at (Checking.of_atomic {all = all} {u = u} d j) =
          let h = block_reaches locals at d in
          subst (If (InnerGoes locals all w)) j
          (judged_if (InnerGoes locals all w) _ _ _
          (λ free. record { env = h.env; adds = adds_apart table w.found.reaches_nd u.found.reaches_nd (some_holds_nd all) (block_calls T class locals all) h.adds }))

      choosing_goes : {params : List Bool} {around : Around} {node : Node} {test : PlainExpr} {first : PlainStmt} {other : Option PlainStmt} {w : Walk} {v : Verdict TypedStmt} (locals : Names Shape) → Shaped table class locals w.env →
          Choosing params around node test first other w v → If (λ made u. Goes (choice_nd first other) (choice_calls locals test first other) locals w u) v
      choosing_goes locals at Choosing.choice_refused = tt
      choosing_goes {node = node} {test = test} {first = first} {other = other} {w = w} locals at (Choosing.chosen {x = x} {t = t} {g = g} {made = made} {u = u} d i n j) =
          let h = scope_reaches locals at i in
          subst (If (λ made u. Goes (choice_nd first other) (choice_calls locals test first other) locals w u)) j
          (after_if (OtherGoes locals other x) (λ made u. Goes (choice_nd first other) (choice_calls locals test first other) locals w u)
          (fault_of (with_fault_if node kind.Type (not (may_be is_boolean (type_in t))))) (λ part. typed.statement node.place (typed.choice_form (node_of test t) made part)) u
          (other_reaches locals h.env n) (λ part z free o. chosen_goes locals test first other w x z g made part (expr_at test w.found at d).1 h o))

      other_reaches : {params : List Bool} {around : Around} {other : Option PlainStmt} {w : Walk} {v : Verdict (Option TypedStmt)} (locals : Names Shape) → Shaped table class locals w.env → InOther params around other w v →
          If (OtherGoes locals other w) v
      other_reaches locals at InOther.no_other = refl
      other_reaches {w = w} locals at (InOther.an_other {s = s} {u = u} d j) =
          subst (If (OtherGoes locals (Some s) w)) j (after_if (ScopeGoes locals s w) (OtherGoes locals (Some s) w) None Some u (scope_reaches locals at d) (λ made x free h. h))

      standing_goes : {params : List Bool} {around : Around} {follows : Bool} {s : PlainStmt} {w : Walk} {v : Verdict TypedStmt} (locals : Names Shape) → Shaped table class locals w.env → Standing params around follows s w v →
          If (StmtGoes locals s w) v
      standing_goes locals at (standing {place = place} d) = checking_goes place locals at d

      scope_reaches : {params : List Bool} {around : Around} {s : PlainStmt} {w : Walk} {v : Verdict TypedStmt} (locals : Names Shape) → Shaped table class locals w.env → InScope params around s w v → If (ScopeGoes locals s w) v
      scope_reaches {s = s} {w = w} locals at (in_scope {u = u} d j) = subst (If (ScopeGoes locals s w)) j (scope_goes locals s w u at (standing_goes locals at d))

      pub block_reaches : {params : List Bool} {around : Around} {all : PlainStmts} {w : Walk} {v : Verdict (List TypedStmt)} (locals : Names Shape) → Shaped table class locals w.env → InBlock params around all w v →
          If (BlockGoes locals all w) v
      block_reaches {all = all} {w = w} locals at (in_block {u = u} d j) = subst (If (BlockGoes locals all w)) j (block_goes locals all w u at (order_reaches locals at d))

      order_reaches : {params : List Bool} {around : Around} {before : Bool} {ss : PlainStmts} {w : Walk} {v : Verdict (List TypedStmt)} (locals : Names Shape) → Shaped table class locals w.env → InOrder params around before ss w v →
          If (OrderGoes locals ss w) v
      order_reaches {w = w} locals at InOrder.none_left = record { env = at; adds = adds_none table w.found.reaches_nd }
      order_reaches locals at InOrder.order_refused = tt
      order_reaches {w = w} locals at (InOrder.then_others {s = s} {ss = ss} {u = u} {made = made} {x = x} d rest j) =
          let first = standing_goes locals at d in
          subst (If (OrderGoes locals (tree.more_stmts s ss) w)) j
          (after_if (OrderGoes (after_stmt (headers_of table) locals s) ss u) (OrderGoes locals (tree.more_stmts s ss) w) None (λ others. made ∷ others) x
          (order_reaches (after_stmt (headers_of table) locals s) first.env rest) (λ others z free h. order_goes locals s ss w u z made others first h))

      branching_goes : {params : List Bool} {around : Around} {nd : Bool} {ss : PlainStmts} {w : Walk} {v : BranchesVerdict} (locals : Names Shape) → Shaped table class locals w.env → Branching params around nd ss w v →
          BranchesGo locals ss w v
      branching_goes {w = w} locals at Branching.no_branches = record { env = at; adds = adds_none table w.found.reaches_nd }
      branching_goes locals at Branching.branch_refused = tt
      branching_goes {nd = nd} {w = w} locals at (Branching.then_branches {s = s} {ss = ss} {u = u} {made = made} {v = v} d rest j) =
          let first = scope_reaches locals at d in
          subst (BranchesGo locals (tree.more_stmts s ss) w) j
          (branch_goes locals w.env nd s ss w u (with_uses u.found.effects u.found.uses) made v first (branching_goes locals first.env rest))

      forking_goes : {params : List Bool} {around : Around} {node : Node} {nd : Bool} {branches : PlainStmts} {w : Walk} {v : Verdict TypedStmt} (locals : Names Shape) → Shaped table class locals w.env → Forking params around node nd branches w v →
          If (λ made u. Goes (nd || some_holds_nd branches) (branch_calls T class locals branches) locals w u) v
      forking_goes locals at Forking.fork_refused = tt
      forking_goes {nd = nd} {branches = branches} {w = w} locals at (Forking.forked {u = u} effects d free j) =
          let h = branching_goes locals at d in
          subst (If (λ made u. Goes (nd || some_holds_nd branches) (branch_calls T class locals branches) locals w u)) j
          (judged_if (λ made u. Goes (nd || some_holds_nd branches) (branch_calls T class locals branches) locals w u) _ _ _
          (λ later. record { env = h.env; adds = adds_nd table w.found.reaches_nd u.found.reaches_nd (some_holds_nd branches) nd (branch_calls T class locals branches) h.adds }))

      iterating_goes : {params : List Bool} {around : Around} {node : Node} {nd : Bool} {var : Named} {start count : TypedExpr} {body : PlainStmt} {w : Walk} {v : Verdict TypedStmt} (locals : Names Shape) → Shaped table class locals w.env →
          Iterating params around node nd var start count body w v → If (λ made u. Goes (nd || holds_nd body) (inner (with_name locals var.name no_class) body) locals w u) v
      iterating_goes locals at Iterating.iteration_refused = tt
      iterating_goes {node = node} {nd = nd} {var = var} {body = body} {w = w} locals at (Iterating.iterated {u = u} place placed d free j) =
          let f = free_if (variable_noted w.env var node) _ _ free in
          let more = with_name locals var.name no_class in
          let h = scope_reaches more (local_added var.name variant.Int true no_class (room_free w.env var.name var.place node f.0) (int_shaped no_class) at) d in
          subst (If (λ made u. Goes (nd || holds_nd body) (inner (with_name locals var.name no_class) body) locals w u)) j
          (judged_if (λ made u. Goes (nd || holds_nd body) (inner (with_name locals var.name no_class) body) locals w u) _ _ _ (λ later. record {
            env = scope_closed (longer_one locals var.name no_class) at h.env;
            adds = adds_apart table w.found.reaches_nd (u.found.reaches_nd || nd) (nd || holds_nd body) (inner more body)
                (adds_nd table false u.found.reaches_nd (holds_nd body) nd (inner more body) h.adds);
          }))

      parting_goes : {params : List Bool} {around : Around} {node : Node} {view var : Named} {array count : PlainExpr} {body : PlainStmt} {w : Walk} {v : Verdict TypedStmt} (locals : Names Shape) → Shaped table class locals w.env →
          Parting params around node view var array count body w v →
          If (λ made u. Goes (holds_nd body) (calls locals array ++ calls locals count ++ inner (parts_locals locals view var array) body) locals w u) v
      parting_goes locals at Parting.parting_refused = tt
      parting_goes {view = view} {var = var} {array = array} {count = count} {body = body} {w = w} locals at (Parting.parted {x = x} {u = u} {source = source} {noted = noted} o d free j) =
          let k = opening at o (free_if noted _ _ free).0 in
          let more = parts_locals locals view var array in
          let h = scope_reaches more k.env d in
          subst (If (λ made u. Goes (holds_nd body) (calls locals array ++ calls locals count ++ inner (parts_locals locals view var array) body) locals w u)) j
          (judged_if (λ made u. Goes (holds_nd body) (calls locals array ++ calls locals count ++ inner (parts_locals locals view var array) body) locals w u) _ _ _ (λ later. record {
            env = scope_closed (longer_then locals (with_name locals view.name (shape locals array)) more (longer_one locals view.name (shape locals array))
                (longer_one (with_name locals view.name (shape locals array)) var.name no_class)) at h.env;
            adds = subst (λ b. Adds table w.found.reaches_nd (holds_nd body) (calls locals array ++ calls locals count ++ inner more body) (x.found.reaches_nd || b)) (sym (handed_same (part_slot w.env) (outer_part source) u.found))
                (adds_then table w.found.reaches_nd x.found.reaches_nd (x.found.reaches_nd || u.found.reaches_nd) false (holds_nd body) (calls locals array ++ calls locals count) (inner more body) k.adds
                (adds_apart table x.found.reaches_nd u.found.reaches_nd (holds_nd body) (inner more body) h.adds));
          }))
