-- The steps that a statement that is accepted takes by the rules, as inversions of their function; of what is refused nothing is
-- said.
use Rattle.std.proofs.Common.{◌≡◌, ℕ, Bool, true, false, not, ◌&&◌, List, [], ◌∷◌, Option, Some, None}
use Rattle.lang_base.specs.declared.effect.Effect.{Effect}
use Rattle.lang_base.specs.declared.place.Place.{Place}
use Rattle.lang_base.specs.declared.refusal.Kind.{Kind}
use Rattle.lang_base.specs.declared.refusal.Kind.TheVariants as kind
use Rattle.lang_base.specs.declared.refusal.Refusal.{Refusal}
use Rattle.lang_base.specs.declared.ty.Ty.{Ty}
use Rattle.lang_base.specs.Branches.{iterations_clash}
use Rattle.lang_base.specs.Types.{PlainType, plain_type}
use Rattle.lang_base.specs.Types.{PlainType as ty}
use Rattle.decl_table.specs.Table.{numbered}
use Rattle.syntax_tree.specs.declared.region.Named.{Named}
use Rattle.syntax_tree.specs.declared.region.TypeTree.{TypeTree}
use Rattle.syntax_tree.specs.Plain.{PlainExpr, PlainStmt, statement, StmtForm, PlainStmts, no_stmts, more_stmts}
use Rattle.syntax_tree.specs.Plain.{StmtForm as form}
use Rattle.lang_typed.specs.Plain.{TypedExpr, type_of, Source, TypedStmt, TypedBranch, stmts_of, branches_of}
use Rattle.lang_typed.specs.Plain as typed
use Rattle.region_interfere.specs.Uses.{parts_interfere}
use Rattle.body_exprs.specs.declared.env.Env.{Env}
use Rattle.body_exprs.specs.declared.env.LocalRow.{LocalRow}
use Rattle.body_exprs.specs.declared.found.Found.{Found}
use Rattle.body_exprs.specs.Answer.{gives}
use Rattle.body_exprs.specs.Env.{table_of, supers_of, given_in, local_of, slots_in, part_of, local_declared}
use Rattle.body_exprs.specs.Fits.{fits_as}
use Rattle.body_exprs.specs.Targeting.{PlainTarget, aims, Targeting, with_write}
use Rattle.body_exprs.specs.Typed.{may_be, is_int, is_boolean, is_value, type_in}
use Rattle.body_exprs.specs.Typing.{Typing}
use Rattle.body_check.specs.declared.leaving.Marks.TheVariants as marks
use Rattle.body_check.specs.declared.node.Around.{Around}
use Rattle.body_check.specs.declared.node.Node.{Node}
use Rattle.body_check.specs.Checking.{own_scope, own_block, with_nd, gathers, closed, branch_of, forking_of, variable_noted, iteration_begun, parts_noted, parts_declared, part_slot, part_variable, parts_left}
use Rattle.body_check.specs.Completes.{completes}
use Rattle.body_check.specs.Deciding.{is_misplaced, interference, local_fault, marks_after, may_return, whole_fault}
use Rattle.body_check.specs.Gathering.{with_uses, entered, taken_in}
use Rattle.body_check.specs.Around.{inside}
use Rattle.body_check.specs.Leaving.{from_here}
use Rattle.body_check.specs.Meeting.{declared_atomic, branches_interfere}
use Rattle.body_check.specs.Noting.{node_at, with_found, with_fault_if, fault_of, settled_node}
use Rattle.body_check.specs.Simple.{declared_type, declared_reported, declaration_noted, place_of, node_of, stored, target_fault, may_print, printed_form, declare, assign_local, perform, print, declare_regions}
use Rattle.body_check.specs.Touching.{assigns_outer, some_disturb}
use Rattle.body_check.specs.Walks.{Walk, Verdict, passes, refused, judged, found_so, scope_so, apart_from, ◌>>=◌}

-- a value of the type may stand where the other is declared, or not
abbrev pub FitIs : Env → Option PlainType → PlainType → Bool → Type 0
FitIs env value declared fit = fits_as (supers_of env) value declared ≡ fit

-- what becomes of a part, and of the whole after it
abbrev pub following : {T U : Type 0} → Option Refusal → (T → U) → Verdict T → Verdict U
following reported make (passes made w) = judged reported (make made) w
following reported make (refused refusal) = refused refusal

-- statements that hold no other
pub data Declaring (node : Node) (is_final : Bool) (tree : TypeTree) (name : ℕ) (value : PlainExpr) (w : Walk) : Verdict TypedStmt → Type 0 where
  declared : {t : Option TypedExpr} {g : Found} {fit : Bool} (made : Ty) {v : Verdict TypedStmt} →
      declared_reported w.env tree ≡ None → plain_type made ≡ declared_type w.env tree →
      Typing w.env value w.found (gives t g) → FitIs w.env (type_in t) (declared_type w.env tree) fit →
      judged (fault_of (with_fault_if (declaration_noted w.env name node.place node) kind.Type (not fit)))
      (typed.statement node.place (typed.declare (slots_in w.env) (declared_type w.env tree) is_final (node_of value t)))
      (scope_so (found_so w g) (local_declared w.env name made is_final)) ≡ v →
      Declaring node is_final tree name value w v
  is_refused : {q : Refusal} → Declaring node is_final tree name value w (refused q)

pub data AssigningLocal (node : Node) (target : Named) (value : PlainExpr) (w : Walk) : Verdict TypedStmt → Type 0 where
  assigned : {t : Option TypedExpr} {g : Found} {row : LocalRow} {fit : Bool} {v : Verdict TypedStmt} →
      Typing w.env value w.found (gives t g) → local_of w.env target.name ≡ Some row → FitIs w.env (type_in t) (plain_type row.ty) fit →
      judged (fault_of (with_found node (local_fault fit row.is_final)))
      (typed.statement target.place (typed.store row.slot (node_of value t))) (found_so w g) ≡ v →
      AssigningLocal node target value w v
  is_refused : {q : Refusal} → AssigningLocal node target value w (refused q)

pub data AssigningPlace (node : Node) (target value : PlainExpr) (w : Walk) : Verdict TypedStmt → Type 0 where
  -- it comes from a part of what is no array, where every value fits
  anything_assigned : {g h : Found} {t : Option TypedExpr} {v : Verdict TypedStmt} →
      Targeting w.env target w.found (aims None g) → Typing w.env value g (gives t h) →
      judged (fault_of (with_fault_if node kind.Type (not (may_be is_value (type_in t)))))
      (typed.statement (place_of target) (typed.perform (node_of value t))) (found_so w h) ≡ v →
      AssigningPlace node target value w v
  place_assigned : {aim : PlainTarget} {g h : Found} {t : Option TypedExpr} {fit : Bool} {v : Verdict TypedStmt} →
      Targeting w.env target w.found (aims (Some aim) g) → Typing w.env value g (gives t h) → FitIs w.env (type_in t) aim.ty fit →
      judged (fault_of (with_found node (target_fault fit aim.may_write)))
      (typed.statement (place_of target) (stored aim.spot (node_of value t))) (found_so w (with_write h aim)) ≡ v →
      AssigningPlace node target value w v
  is_refused : {q : Refusal} → AssigningPlace node target value w (refused q)

pub data Performing (node : Node) (value : PlainExpr) (w : Walk) : Verdict TypedStmt → Type 0 where
  performed : {t : Option TypedExpr} {g : Found} {v : Verdict TypedStmt} →
      Typing w.env value w.found (gives t g) →
      judged (fault_of node) (typed.statement node.place (typed.perform (node_of value t))) (found_so w g) ≡ v → Performing node value w v
  is_refused : {q : Refusal} → Performing node value w (refused q)

pub data Returning (around : Around) (node : Node) (value : PlainExpr) (w : Walk) : Verdict TypedStmt → Type 0 where
  returned : {t : Option TypedExpr} {g : Found} {fit : Bool} {v : Verdict TypedStmt} →
      Typing w.env value w.found (gives t g) → may_return (supers_of w.env) around.has_result (numbered (table_of w.env) w.env.method) (type_in t) ≡ fit →
      judged (fault_of (with_fault_if (with_fault_if node kind.Return (is_misplaced around true)) kind.Type (not fit)))
      (typed.statement node.place (typed.return_value (node_of value t))) (found_so w g) ≡ v →
      Returning around node value w v
  is_refused : {q : Refusal} → Returning around node value w (refused q)

pub data Printing (node : Node) (value : PlainExpr) (w : Walk) : Verdict TypedStmt → Type 0 where
  printed : {t : Option TypedExpr} {g : Found} {v : Verdict TypedStmt} →
      Typing w.env value w.found (gives t g) →
      judged (fault_of (with_fault_if node kind.Type (not (may_print (type_in t)))))
      (typed.statement node.place (printed_form (node_of value t))) (found_so w g) ≡ v →
      Printing node value w v
  is_refused : {q : Refusal} → Printing node value w (refused q)

-- what a `foreach_parts` cuts
abbrev pub cut_type : Option TypedExpr → PlainType
cut_type (Some e) = type_of e
cut_type None = ty.void

abbrev pub cut_fault : Option TypedExpr → Option Kind
cut_fault (Some e) = whole_fault (type_of e)
cut_fault None = None

pub data Cutting (env : Env) (array : PlainExpr) (f : Found) : PlainType → Source → Option Kind → Found → Type 0 where
  a_part : {row : LocalRow} → part_of env array ≡ Some row → Cutting env array f (plain_type row.ty) (typed.of_part row.slot) None f
  an_array : {t : Option TypedExpr} {g : Found} → part_of env array ≡ None → Typing env array f (gives t g) →
      Cutting env array f (cut_type t) (typed.of_array (node_of array t)) (cut_fault t) g

pub data Opened : Type 0 where
  opened : Source → TypedExpr → Node → Walk → Opened
  not_opened : Refusal → Opened

pub data Opening (node : Node) (view var : Named) (array count : PlainExpr) (w : Walk) : Opened → Type 0 where
  both_given : (t : Ty) {source : Source} {fault : Option Kind} {g h : Found} {u : Option TypedExpr} →
      Cutting w.env array w.found (plain_type t) source fault g → Typing w.env count g (gives u h) →
      Opening node view var array count w
      (opened source (node_of count u) (parts_noted w.env view var t (with_fault_if (with_found node fault) kind.Type (not (may_be is_int (type_in u)))))
      (scope_so (found_so w h) (parts_declared w.env view var t)))

-- the branches of a `cobegin`
pub data BranchesVerdict : Type 0 where
  all_pass : List (List Effect) → List TypedBranch → Walk → BranchesVerdict
  one_refused : Refusal → BranchesVerdict

abbrev pub after_branch : List Effect → TypedBranch → BranchesVerdict → BranchesVerdict
after_branch effects branch (all_pass others branches w) = all_pass (effects ∷ others) (branch ∷ branches) w
after_branch effects branch (one_refused refusal) = one_refused refusal

mutual
  -- a statement, by its node and its form
  pub data Checking (params : List Bool) : Around → Node → StmtForm → Walk → Verdict TypedStmt → Type 0 where
    of_block : {around : Around} {node : Node} {all : PlainStmts} {w : Walk} {u : Verdict (List TypedStmt)} {v : Verdict TypedStmt} →
        InBlock params around all w u → following (fault_of node) (λ ss. typed.statement node.place (typed.block (stmts_of ss))) u ≡ v →
        Checking params around node (form.block all) w v
    of_declaration : {around : Around} {node : Node} {is_final : Bool} {tree : TypeTree} {name : ℕ} {value : PlainExpr} {w : Walk} {v : Verdict TypedStmt} →
        Declaring node is_final tree name value w v → Checking params around node (form.declare is_final tree name value) w v
    of_local_assignment : {around : Around} {node : Node} {target : Named} {value : PlainExpr} {w : Walk} {v : Verdict TypedStmt} →
        AssigningLocal node target value w v → Checking params around node (form.assign_local target value) w v
    of_field_assignment : {around : Around} {node : Node} {target value : PlainExpr} {w : Walk} {v : Verdict TypedStmt} →
        AssigningPlace node target value w v → Checking params around node (form.assign_field target value) w v
    of_element_assignment : {around : Around} {node : Node} {target value : PlainExpr} {w : Walk} {v : Verdict TypedStmt} →
        AssigningPlace node target value w v → Checking params around node (form.assign_element target value) w v
    of_call : {around : Around} {node : Node} {value : PlainExpr} {w : Walk} {v : Verdict TypedStmt} → Performing node value w v →
        Checking params around node (form.perform value) w v
    of_return : {around : Around} {node : Node} {w : Walk} {v : Verdict TypedStmt} →
        judged (fault_of (with_fault_if node kind.Return (is_misplaced around false))) (typed.statement node.place typed.return_nothing) w ≡ v →
        Checking params around node form.return_nothing w v
    of_return_value : {around : Around} {node : Node} {value : PlainExpr} {w : Walk} {v : Verdict TypedStmt} → Returning around node value w v →
        Checking params around node (form.return_value value) w v
    of_print : {around : Around} {node : Node} {value : PlainExpr} {w : Walk} {v : Verdict TypedStmt} → Printing node value w v →
        Checking params around node (form.print value) w v
    of_text : {around : Around} {node : Node} {text : List ℕ} {w : Walk} {v : Verdict TypedStmt} →
        judged (fault_of node) (typed.statement node.place (typed.print_text text)) w ≡ v → Checking params around node (form.print_text text) w v
    of_regions : {around : Around} {node : Node} {names : List Named} {w : Walk} {v : Verdict TypedStmt} → declare_regions node names w ≡ v →
        Checking params around node (form.local_regions names) w v
    of_choice : {around : Around} {node : Node} {test : PlainExpr} {part : PlainStmt} {w : Walk} {v : Verdict TypedStmt} →
        Choosing params around node test part None w v → Checking params around node (form.choice test part) w v
    of_choice_else : {around : Around} {node : Node} {test : PlainExpr} {first second : PlainStmt} {w : Walk} {v : Verdict TypedStmt} →
        Choosing params around node test first (Some second) w v → Checking params around node (form.choice_else test first second) w v
    of_while : {around : Around} {node : Node} {test : PlainExpr} {body : PlainStmt} {w : Walk} {t : Option TypedExpr} {g : Found} {u v : Verdict TypedStmt} →
        Typing w.env test w.found (gives t g) → InScope params around body (found_so w g) u →
        following (fault_of (with_fault_if node kind.Type (not (may_be is_boolean (type_in t)))))
        (λ s. typed.statement node.place (typed.while_loop (node_of test t) s)) u ≡ v →
        Checking params around node (form.while_loop test body) w v
    of_cobegin : {around : Around} {node : Node} {nd : Bool} {branches : PlainStmts} {w : Walk} {v : Verdict TypedStmt} →
        Forking params around node nd branches w v →
        Checking params around node (form.cobegin nd branches) w v
    of_foreach : {around : Around} {node : Node} {nd : Bool} {var : Named} {start count : PlainExpr} {body : PlainStmt} {w : Walk} {t u : Option TypedExpr}
        {g h : Found} {v : Verdict TypedStmt} →
        Typing w.env start w.found (gives t g) → Typing w.env count g (gives u h) →
        Iterating params around (with_fault_if (with_fault_if node kind.Type (not (may_be is_int (type_in t)))) kind.Type (not (may_be is_int (type_in u))))
        nd var (node_of start t) (node_of count u) body
        (found_so w h) v →
        Checking params around node (form.foreach nd var start count body) w v
    of_parts : {around : Around} {node : Node} {view var : Named} {array count : PlainExpr} {body : PlainStmt} {w : Walk} {v : Verdict TypedStmt} →
        Parting params around node view var array count body w v → Checking params around node (form.foreach_parts view var array count body) w v
    of_atomic : {around : Around} {node : Node} {all : PlainStmts} {w u : Walk} {ss : List TypedStmt} {v : Verdict TypedStmt} →
        InBlock params (inside around) all (apart_from w) (passes ss u) →
        judged (fault_of (with_fault_if node kind.AtomicBody u.found.reaches_nd))
        (typed.statement node.place (typed.atomic (entered u.found) (stmts_of ss)))
        (record { env = u.env; found = taken_in (from_here w.env marks.Set) w.found u.found }) ≡ v → Checking params around node (form.atomic all) w v
    is_refused : {around : Around} {node : Node} {f : StmtForm} {w : Walk} {q : Refusal} → Checking params around node f w (refused q)

  -- an `if`: the condition, then its parts, one after the other
  pub data Choosing (params : List Bool) : Around → Node → PlainExpr → PlainStmt → Option PlainStmt → Walk → Verdict TypedStmt → Type 0 where
    chosen : {around : Around} {node : Node} {test : PlainExpr} {first : PlainStmt} {other : Option PlainStmt} {w x : Walk} {t : Option TypedExpr}
        {g : Found} {made : TypedStmt} {u : Verdict (Option TypedStmt)} {v : Verdict TypedStmt} →
        Typing w.env test w.found (gives t g) → InScope params around first (found_so w g) (passes made x) → InOther params around other x u →
        following (fault_of (with_fault_if node kind.Type (not (may_be is_boolean (type_in t)))))
        (λ part. typed.statement node.place (typed.choice_form (node_of test t) made part)) u ≡ v →
        Choosing params around node test first other w v
    choice_refused : {around : Around} {node : Node} {test : PlainExpr} {first : PlainStmt} {other : Option PlainStmt} {w : Walk} {q : Refusal} →
        Choosing params around node test first other w (refused q)

  -- the part after the `else`, where there is one
  pub data InOther (params : List Bool) : Around → Option PlainStmt → Walk → Verdict (Option TypedStmt) → Type 0 where
    no_other : {around : Around} {w : Walk} → InOther params around None w (passes None w)
    an_other : {around : Around} {s : PlainStmt} {w : Walk} {u : Verdict TypedStmt} {v : Verdict (Option TypedStmt)} →
        InScope params around s w u → following None Some u ≡ v → InOther params around (Some s) w v

  -- a statement, which stands after one that doesn't complete or not
  pub data Standing (params : List Bool) : Around → Bool → PlainStmt → Walk → Verdict TypedStmt → Type 0 where
    standing : {around : Around} {follows : Bool} {place : Place} {f : StmtForm} {w : Walk} {v : Verdict TypedStmt} →
        Checking params around (node_at place follows) f w v → Standing params around follows (statement place f) w v

  -- a branch or a body, which has a scope of its own
  pub data InScope (params : List Bool) : Around → PlainStmt → Walk → Verdict TypedStmt → Type 0 where
    in_scope : {around : Around} {s : PlainStmt} {w : Walk} {u v : Verdict TypedStmt} → Standing params around false s w u → own_scope w u ≡ v →
        InScope params around s w v

  -- the statements of a block, in a scope of their own
  pub data InBlock (params : List Bool) : Around → PlainStmts → Walk → Verdict (List TypedStmt) → Type 0 where
    in_block : {around : Around} {all : PlainStmts} {w : Walk} {u v : Verdict (List TypedStmt)} →
        InOrder params around true all (apart_from w) u → own_block w u ≡ v → InBlock params around all w v

  -- statements one after the other, where those before them complete or not
  pub data InOrder (params : List Bool) : Around → Bool → PlainStmts → Walk → Verdict (List TypedStmt) → Type 0 where
    none_left : {around : Around} {complete : Bool} {w : Walk} → InOrder params around complete no_stmts w (passes [] w)
    then_others : {around : Around} {complete : Bool} {s : PlainStmt} {ss : PlainStmts} {w u : Walk} {made : TypedStmt}
        {x v : Verdict (List TypedStmt)} →
        Standing params around (not complete) s w (passes made u) → InOrder params around (complete && completes s) ss u x →
        following None (λ others. made ∷ others) x ≡ v → InOrder params around complete (more_stmts s ss) w v
    order_refused : {around : Around} {complete : Bool} {ss : PlainStmts} {w : Walk} {q : Refusal} → InOrder params around complete ss w (refused q)

  -- the branches of a `cobegin`, each of which is gathered by itself
  pub data Branching (params : List Bool) : Around → Bool → PlainStmts → Walk → BranchesVerdict → Type 0 where
    no_branches : {around : Around} {nd : Bool} {w : Walk} → Branching params around nd no_stmts w (all_pass [] [] w)
    then_branches : {around : Around} {nd : Bool} {s : PlainStmt} {ss : PlainStmts} {w u : Walk} {made : TypedStmt}
        {v x : BranchesVerdict} →
        InScope params around s (apart_from w) (passes made u) →
        Branching params around nd ss (gathers (taken_in (from_here w.env (marks_after nd)) w.found u.found) u) v →
        after_branch (with_uses u.found.effects u.found.uses) (branch_of w.env s made) v ≡ x → Branching params around nd (more_stmts s ss) w x
    branch_refused : {around : Around} {nd : Bool} {ss : PlainStmts} {w : Walk} {q : Refusal} → Branching params around nd ss w (one_refused q)

  -- a `cobegin`: its branches, then whether two of them clash over locals, then whether two of them interfere
  pub data Forking (params : List Bool) : Around → Node → Bool → PlainStmts → Walk → Verdict TypedStmt → Type 0 where
    forked : {around : Around} {node : Node} {nd : Bool} {branches : PlainStmts} {w u : Walk} (effects : List (List Effect))
        {made : List TypedBranch} {v : Verdict TypedStmt} →
        Branching params (inside around) nd branches w (all_pass effects made u) →
        fault_of (with_fault_if node kind.Assign (some_disturb branches)) ≡ None →
        judged (fault_of (with_fault_if (settled_node (with_fault_if node kind.Assign (some_disturb branches))) (interference nd) (branches_interfere params nd w.env effects)))
        (typed.statement node.place (typed.cobegin (forking_of nd) (branches_of made))) (gathers (with_nd nd u.found) u) ≡ v →
        Forking params around node nd branches w v
    fork_refused : {around : Around} {node : Node} {nd : Bool} {branches : PlainStmts} {w : Walk} {q : Refusal} → Forking params around node nd branches w (refused q)

  -- a `foreach` after its start and count: the variable, the body, whether this assigns outer locals, then whether its
  -- iterations interfere
  pub data Iterating (params : List Bool) : Around → Node → Bool → Named → TypedExpr → TypedExpr → PlainStmt → Walk → Verdict TypedStmt → Type 0 where
    iterated : {around : Around} {node : Node} {nd : Bool} {var : Named} {start count : TypedExpr} {body : PlainStmt} {w u : Walk} {made : TypedStmt}
        (place : Place) {v : Verdict TypedStmt} → place ≡ node.place →
        InScope params (inside around) body (iteration_begun var w) (passes made u) →
        fault_of (with_fault_if (variable_noted w.env var node) kind.Assign (assigns_outer body)) ≡ None →
        judged (fault_of (with_fault_if (settled_node (with_fault_if (variable_noted w.env var node) kind.Assign (assigns_outer body))) (interference nd)
        (iterations_clash (given_in w.env) (declared_atomic params nd w.env) (slots_in w.env) (with_uses u.found.effects u.found.uses))))
        (typed.statement place (typed.foreach (forking_of nd) (slots_in w.env) start count made)) (closed w (marks_after nd) (with_nd nd u.found) u) ≡ v →
        Iterating params around node nd var start count body w v
    iteration_refused : {around : Around} {node : Node} {nd : Bool} {var : Named} {start count : TypedExpr} {body : PlainStmt} {w : Walk} {q : Refusal} →
        Iterating params around node nd var start count body w (refused q)

  -- a `foreach_parts`: the array and the count, the body, whether this assigns outer locals, then whether its branches
  -- interfere by other ways than through their parts
  pub data Parting (params : List Bool) : Around → Node → Named → Named → PlainExpr → PlainExpr → PlainStmt → Walk → Verdict TypedStmt → Type 0 where
    parted : {around : Around} {node : Node} {view var : Named} {array count : PlainExpr} {body : PlainStmt} {w x u : Walk} {made : TypedStmt}
        {source : Source} {size : TypedExpr} {noted : Node}
        {v : Verdict TypedStmt} →
        Opening node view var array count w (opened source size noted x) → InScope params (inside around) body (apart_from x) (passes made u) →
        fault_of (with_fault_if noted kind.Assign (assigns_outer body)) ≡ None →
        judged (fault_of (with_fault_if (settled_node (with_fault_if noted kind.Assign (assigns_outer body))) (interference false)
        (parts_interfere (given_in w.env) (part_slot w.env) (part_variable w.env) u.found.effects u.found.uses)))
        (typed.statement node.place (typed.foreach_parts (part_slot w.env) source size made)) (parts_left (part_slot w.env) w source x.found u) ≡ v →
        Parting params around node view var array count body w v
    parting_refused : {around : Around} {node : Node} {view var : Named} {array count : PlainExpr} {body : PlainStmt} {w : Walk} {q : Refusal} →
        Parting params around node view var array count body w (refused q)
