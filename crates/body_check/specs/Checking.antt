-- The rules of statements: what becomes of a statement where it stands. Its parts are walked in the order of evaluation,
-- and a fault of a part is the fault of the whole; then the faults of its own node are reported.
use Rattle.std.specs.Prelude.{◌+◌, ℕ, Bool, true, false, not, ◌&&◌, ◌||◌, cond, map, List, [], ◌∷◌, Option, Some, None}
use Rattle.std.specs.Option.{option_map_or}
use Rattle.lang_base.specs.declared.effect.Effect.{Effect}
use Rattle.lang_base.specs.declared.refusal.Kind.{Kind}
use Rattle.lang_base.specs.declared.refusal.Kind.TheVariants as kind
use Rattle.lang_base.specs.declared.ty.Ty.{Ty}
use Rattle.lang_base.specs.declared.ty.Ty.TheVariants as variant
use Rattle.lang_base.specs.Branches.{iterations_clash}
use Rattle.lang_base.specs.Types.{PlainType, plain_type}
use Rattle.lang_base.specs.Types.{PlainType as ty}
use Rattle.syntax_tree.specs.declared.region.Named.{Named}
use Rattle.syntax_tree.specs.Plain.{PlainExpr, PlainStmt, statement, StmtForm, PlainStmts, no_stmts, more_stmts}
use Rattle.syntax_tree.specs.Plain.{StmtForm as form}
use Rattle.lang_typed.specs.declared.stmt.Forking.{Forking as Order}
use Rattle.lang_typed.specs.declared.stmt.Forking.TheVariants.{Deterministic, Nondeterministic}
use Rattle.lang_typed.specs.Plain.{TypedExpr, type_of, Source, TypedStmt, TypedBranch, stmts_of, branches_of, plain_source}
use Rattle.lang_typed.specs.declared.stmt.Branch.{Branch}
use Rattle.lang_typed.specs.Plain.{plain_stmt as typed_stmt}
use Rattle.lang_typed.specs.Plain as typed
use Rattle.region_interfere.specs.Uses.{parts_interfere}
use Rattle.body_exprs.specs.declared.env.Env.{Env}
use Rattle.body_exprs.specs.declared.env.LocalRow.{LocalRow}
use Rattle.body_exprs.specs.declared.found.Found.{Found}
use Rattle.body_exprs.specs.Env.{given_in, local_of, slots_in, left_to, mark_of, part_of, local_declared, part_declared}
use Rattle.body_exprs.specs.Steps.{given}
use Rattle.body_exprs.specs.Typed.{may_be, is_int, is_boolean, type_in}
use Rattle.body_check.specs.declared.leaving.Marks.{Marks}
use Rattle.body_check.specs.declared.leaving.Marks.TheVariants as marks
use Rattle.body_check.specs.declared.node.Around.{Around}
use Rattle.body_check.specs.declared.node.Node.{Node}
use Rattle.body_check.specs.declared.parts.Whole.{Whole as Cut}
use Rattle.body_check.specs.Completes.{completes}
use Rattle.body_check.specs.Deciding.{interference, marks_after, whole_fault}
use Rattle.body_check.specs.Gathering.{with_uses, entered, taken_in, handed_on}
use Rattle.body_check.specs.Around.{inside}
use Rattle.body_check.specs.Leaving.{from_here}
use Rattle.body_check.specs.Meeting.{declared_atomic, branches_interfere}
use Rattle.body_check.specs.Noting.{node_at, with_found, with_fault_if, fault_of, settled_node}
use Rattle.body_check.specs.Simple.{code_type, node_of, declaration_noted, declare, assign_local, assign_place, perform, leave, leave_with, print, declare_regions}
use Rattle.body_check.specs.Touching.{assigned, assigns_outer, some_disturb}
use Rattle.body_check.specs.Walks.{Walk, Verdict, passes, refused, judged, expr_at, found_so, scope_so, nothing_found, apart_from, scope_left, ◌>>=◌, ◌>>◌}

-- with an nd construct, where it is one
abbrev pub with_nd : Bool → Found → Found
with_nd nd found = record found { reaches_nd = found.reaches_nd || nd }

-- after a piece of which what is found is gathered by itself
abbrev pub gathers : Found → Walk → Walk
gathers found w = record w { found = found }

-- after a piece that began at the first walk and of which this was found: what it declared is out of scope, in its
-- effects too
abbrev pub closed : Walk → Marks → Found → Walk → Walk
closed before kept inner w = record {
  env = left_to w.env (mark_of before.env);
  found = taken_in (from_here before.env kept) before.found inner;
}

-- a branch or a body that began at the first walk, in a scope of its own
abbrev pub own_scope : {T : Type 0} → Walk → Verdict T → Verdict T
own_scope before (passes made w) = passes made (scope_left before w)
own_scope before (refused refusal) = refused refusal

-- the statements of a block that began there, of which what is found is gathered by itself
abbrev pub own_block : {T : Type 0} → Walk → Verdict T → Verdict T
own_block before (passes made w) = passes made (closed before marks.Kept w.found w)
own_block before (refused refusal) = refused refusal

-- the slots of locals that are in scope by these names
abbrev pub slots_of : Env → List ℕ → List ℕ
slots_of env [] = []
slots_of env (name ∷ names) = option_map_or (λ row. row.slot ∷ slots_of env names) (local_of env name) (slots_of env names)

-- a branch, and the slots that the join copies back from it
abbrev pub branch_of : Env → PlainStmt → TypedStmt → TypedBranch
branch_of env s made = record { copies = slots_of env (assigned s); body = made }

-- a branch of the code
abbrev pub plain_branch : Branch → TypedBranch
plain_branch branch = record { copies = map (λ slot. slot.number) branch.copies; body = typed_stmt branch.body }

abbrev pub forking_of : Bool → Order
forking_of nd = cond nd Nondeterministic Deterministic

-- the variable of a loop, which is a final int, is in scope
abbrev pub variable_declared : Env → Named → Env
variable_declared env var = local_declared env var.name variant.Int true

abbrev pub variable_noted : Env → Named → Node → Node
variable_noted env var node = declaration_noted env var.name var.place node

-- at the begin of an iteration: the variable is in scope
abbrev pub iteration_begun : Named → Walk → Walk
iteration_begun var w = record w { env = variable_declared w.env var; found = nothing_found }

-- what a `foreach_parts` cuts: its type, the part or the array expression, and what is wrong with it
pub record Whole : Type 0 where
  pub ty : PlainType
  pub source : Source
  pub fault : Option Kind

abbrev pub cut_part : LocalRow → Whole
cut_part row = record { ty = plain_type row.ty; source = typed.of_part row.slot; fault = None }

-- an array that is cut; what comes from a part of what is no array has no type
abbrev pub cut_array : PlainExpr → Option TypedExpr → Whole
cut_array array (Some e) = record { ty = type_of e; source = typed.of_array e; fault = whole_fault (type_of e) }
cut_array array None = record { ty = ty.void; source = typed.of_array (node_of array None); fault = None }

-- what is cut, as the code holds it
abbrev pub plain_whole : Cut → Whole
plain_whole whole = record { ty = plain_type whole.ty; source = plain_source whole.source; fault = whole.fault }

abbrev pub cut : PlainExpr → Walk → Verdict Whole
cut array w = given (part_of w.env array) (λ row. passes (cut_part row) w) (do
  (t, x) ← expr_at array w
  passes (cut_array array t) x)

-- the slot of a part that is cut
abbrev pub outer_part : Source → Option ℕ
outer_part (typed.of_part part) = Some part
outer_part (typed.of_array e) = None

-- the part and the variable of a `foreach_parts`
abbrev pub parts_noted : Env → Named → Named → Ty → Node → Node
parts_noted env view var t node = variable_noted (part_declared env view.name t) var (declaration_noted env view.name view.place node)

abbrev pub parts_declared : Env → Named → Named → Ty → Env
parts_declared env view var t = variable_declared (part_declared env view.name t) var

-- at the begin of a branch of a `foreach_parts`: the part and the variable are in scope
abbrev pub parts_begun : Named → Named → Whole → Walk → Walk
parts_begun view var whole w = apart_from (scope_so w (parts_declared w.env view var (code_type whole.ty)))

-- the slots of a part of an array, of which it has four, and of the variable of its construct
abbrev pub part_slot : Env → ℕ
part_slot env = slots_in env

abbrev pub part_variable : Env → ℕ
part_variable env = slots_in env + 4

-- a `foreach_parts` with the faults of what is cut, of the count, and of the two names
abbrev pub opened_node : Env → Named → Named → Whole → Option TypedExpr → Node → Node
opened_node env view var whole count node =
    parts_noted env view var (code_type whole.ty) (with_fault_if (with_found node whole.fault) kind.Type (not (may_be is_int (type_in count))))

-- after a `foreach_parts`: the uses of the part, which has this slot, are handed on
abbrev pub parts_left : ℕ → Walk → Source → Found → Walk → Walk
parts_left part before source found w = closed (found_so before found) marks.Dropped (handed_on part (outer_part source) w.found) w

-- a construct whose body assigns outer locals or not, and then whether its branches interfere
abbrev pub meeting : Node → Bool → Kind → Bool → TypedStmt → Walk → Verdict TypedStmt
meeting node assigns interference interfere made w = do
  fault_of (with_fault_if node kind.Assign assigns)
  judged (fault_of (with_fault_if (settled_node (with_fault_if node kind.Assign assigns)) interference interfere)) made w

-- the branches of a `cobegin` that pass: the effects of each, and the typed ones
pub record Branches : Type 0 where
  pub effects : List (List Effect)
  pub typed : List TypedBranch

abbrev pub with_first : List Effect → TypedBranch → Branches → Branches
with_first effects branch others = record { effects = effects ∷ others.effects; typed = branch ∷ others.typed }

-- the steps of a clause in order: the first that refuses is the fault. The list says which region parameters are declared
-- atomic
abbrev mutual
  -- a statement, which stands after one that doesn't complete or not
  pub check_stmt : List Bool → Around → Bool → PlainStmt → Walk → Verdict TypedStmt
  check_stmt params around follows (statement place form) w = check_form params around (node_at place follows) form w

  pub check_form : List Bool → Around → Node → StmtForm → Walk → Verdict TypedStmt
  check_form params around node (form.block all) w = do
    (ss, x) ← own_block w (check_all params around true all (apart_from w))
    judged (fault_of node) (typed.statement node.place (typed.block (stmts_of ss))) x
  check_form params around node (form.declare is_final tree name value) w = declare node is_final tree name value w
  check_form params around node (form.assign_local target value) w = assign_local node target value w
  check_form params around node (form.assign_field target value) w = assign_place node target value w
  check_form params around node (form.assign_element target value) w = assign_place node target value w
  check_form params around node (form.perform value) w = perform node value w
  check_form params around node form.return_nothing w = leave around node w
  check_form params around node (form.return_value value) w = leave_with around node value w
  check_form params around node (form.print value) w = print node value w
  check_form params around node (form.print_text text) w = judged (fault_of node) (typed.statement node.place (typed.print_text text)) w
  check_form params around node (form.local_regions names) w = declare_regions node names w
  check_form params around node (form.choice test first) w = do
    (t, x) ← expr_at test w
    (s, y) ← own_scope x (check_stmt params around false first x)
    judged (fault_of (with_fault_if node kind.Type (not (may_be is_boolean (type_in t)))))
        (typed.statement node.place (typed.choice_form (node_of test t) s None)) y
  check_form params around node (form.choice_else test first second) w = do
    (t, x) ← expr_at test w
    (s, y) ← own_scope x (check_stmt params around false first x)
    (u, z) ← own_scope y (check_stmt params around false second y)
    judged (fault_of (with_fault_if node kind.Type (not (may_be is_boolean (type_in t)))))
        (typed.statement node.place (typed.choice_form (node_of test t) s (Some u))) z
  check_form params around node (form.while_loop test body) w = do
    (t, x) ← expr_at test w
    (s, y) ← own_scope x (check_stmt params around false body x)
    judged (fault_of (with_fault_if node kind.Type (not (may_be is_boolean (type_in t)))))
        (typed.statement node.place (typed.while_loop (node_of test t) s)) y
  -- the branches, then whether two of them clash over locals, then whether two interfere
  check_form params around node (form.cobegin nd branches) w = do
    (made, x) ← check_branches params (inside around) nd branches w
    meeting node (some_disturb branches) (interference nd) (branches_interfere params nd w.env made.effects)
        (typed.statement node.place (typed.cobegin (forking_of nd) (branches_of made.typed))) (gathers (with_nd nd x.found) x)
  -- start and count, the body, whether this assigns outer locals, then whether iterations interfere
  check_form params around node (form.foreach nd var start count body) w = do
    (t, x) ← expr_at start w
    (u, y) ← expr_at count x
    (s, z) ← own_scope (iteration_begun var y) (check_stmt params (inside around) false body (iteration_begun var y))
    meeting
        (variable_noted y.env var (with_fault_if (with_fault_if node kind.Type (not (may_be is_int (type_in t)))) kind.Type (not (may_be is_int (type_in u)))))
        (assigns_outer body) (interference nd)
        (iterations_clash (given_in y.env) (declared_atomic params nd y.env) (slots_in y.env) (with_uses z.found.effects z.found.uses))
        (typed.statement node.place (typed.foreach (forking_of nd) (slots_in y.env) (node_of start t) (node_of count u) s))
        (closed y (marks_after nd) (with_nd nd z.found) z)
  -- the array and the count, the body, whether this assigns outer locals, then whether branches interfere by other ways
  -- than through their parts
  check_form params around node (form.foreach_parts view var array count body) w = do
    (whole, x) ← cut array w
    (u, y) ← expr_at count x
    (s, z) ← own_scope (parts_begun view var whole y) (check_stmt params (inside around) false body (parts_begun view var whole y))
    meeting (opened_node w.env view var whole u node) (assigns_outer body) (interference false)
        (parts_interfere (given_in w.env) (part_slot w.env) (part_variable w.env) z.found.effects z.found.uses)
        (typed.statement node.place (typed.foreach_parts (part_slot w.env) whole.source (node_of count u) s))
        (parts_left (part_slot w.env) w whole.source y.found z)
  -- the block, then whether an nd construct is reached from it
  check_form params around node (form.atomic all) w = do
    (ss, x) ← own_block (apart_from w) (check_all params (inside around) true all (apart_from w))
    judged (fault_of (with_fault_if node kind.AtomicBody x.found.reaches_nd))
        (typed.statement node.place (typed.atomic (entered x.found) (stmts_of ss)))
        (record { env = x.env; found = taken_in (from_here w.env marks.Set) w.found x.found })

  -- statements one after the other, where those before them complete or not
  pub check_all : List Bool → Around → Bool → PlainStmts → Walk → Verdict (List TypedStmt)
  check_all params around complete no_stmts w = passes [] w
  check_all params around complete (more_stmts s ss) w = do
    (made, x) ← check_stmt params around (not complete) s w
    (others, y) ← check_all params around (complete && completes s) ss x
    passes (made ∷ others) y

  -- the branches of a `cobegin`, each of which is gathered by itself
  pub check_branches : List Bool → Around → Bool → PlainStmts → Walk → Verdict Branches
  check_branches params around nd no_stmts w = passes (record { effects = []; typed = [] }) w
  check_branches params around nd (more_stmts s ss) w = do
    (made, x) ← own_scope (apart_from w) (check_stmt params around false s (apart_from w))
    (others, y) ← check_branches params around nd ss (gathers (taken_in (from_here w.env (marks_after nd)) w.found x.found) x)
    passes (with_first (with_uses x.found.effects x.found.uses) (branch_of w.env s made) others) y

-- a branch or a body, which has a scope of its own
abbrev pub check_scope : List Bool → Around → PlainStmt → Walk → Verdict TypedStmt
check_scope params around s w = own_scope w (check_stmt params around false s w)

-- the statements of a block, in a scope of their own
abbrev pub check_block : List Bool → Around → PlainStmts → Walk → Verdict (List TypedStmt)
check_block params around all w = own_block w (check_all params around true all (apart_from w))
