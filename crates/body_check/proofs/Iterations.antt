-- The iterations of a `foreach`: what is said of each way through the code that checks one.
use Rattle.std.proofs.Common.{◌≡◌, ◌∙◌, ℕ, Bool, not, List, Option, sym, ap}
use Rattle.lang_base.specs.declared.refusal.Kind.TheVariants as kind
use Rattle.lang_base.specs.Branches.{iterations_clash}
use Rattle.syntax_tree.specs.declared.region.Named.{Named}
use Rattle.syntax_tree.specs.Plain.{PlainExpr, PlainStmt}
use Rattle.syntax_tree.specs.Plain.{StmtForm as form}
use Rattle.lang_typed.specs.Plain.{TypedExpr, TypedStmt}
use Rattle.lang_typed.specs.Plain as typed
use Rattle.body_exprs.specs.declared.env.Env.{Env}
use Rattle.body_exprs.specs.declared.found.Found.{Found}
use Rattle.body_exprs.specs.Answer.{gives}
use Rattle.body_exprs.specs.Env.{bare, given_in, slots_in}
use Rattle.body_exprs.specs.Typed.{may_be, is_int, type_in}
use Rattle.body_exprs.specs.Typing.{Typing}
use Rattle.body_check.specs.Methods.{atomic_params}
use Rattle.body_check.specs.declared.node.Around.{Around}
use Rattle.body_check.specs.declared.node.Node.{Node}
use Rattle.body_check.specs.Checking.{check_form, check_scope, closed, forking_of, iteration_begun, meeting, variable_noted, with_nd}
use Rattle.body_check.specs.Deciding.{interference, marks_after}
use Rattle.body_check.specs.Gathering.{with_uses}
use Rattle.body_check.specs.Around.{inside}
use Rattle.body_check.specs.Meeting.{declared_atomic}
use Rattle.body_check.specs.Noting.{with_fault_if}
use Rattle.body_check.specs.Simple.{node_of}
use Rattle.body_check.specs.Touching.{assigns_outer}
use Rattle.body_check.specs.Walks.{Verdict, Walk, passes, walk_of}
use Rattle.body_check.proofs.Homes.{iterations_at_home}

-- an iteration that passed, as it was found
pub record Iterated (b s : Env) (around : Around) (node first number noted : Node) (var : Named) (start count : PlainExpr) (body : PlainStmt)
    (f g h inner : Found) (t u : Option TypedExpr) (part : TypedStmt) : Type 0 where
  pub starts : Typing b start f (gives t g)
  pub counts : Typing b count g (gives u h)
  pub first_is : first ≡ with_fault_if node kind.Type (not (may_be is_int (type_in t)))
  pub number_is : number ≡ with_fault_if first kind.Type (not (may_be is_int (type_in u)))
  pub noted_is : noted ≡ variable_noted b var number
  pub in_scope : check_scope (atomic_params b) (inside around) body (iteration_begun var (walk_of b h)) ≡ passes part (walk_of s inner)

-- whether iterations clash, and what becomes of the construct by that
abbrev pub clash_in : Env → Bool → ℕ → Found → Bool
clash_in env nd slot found =
    iterations_clash (given_in env) (declared_atomic (atomic_params env) nd env) slot (with_uses found.effects found.uses)

abbrev pub iterations_met : Env → Node → Bool → ℕ → PlainStmt → Found → TypedStmt → Walk → Verdict TypedStmt
iterations_met env noted nd slot body found made w = meeting noted (assigns_outer body) (interference nd) (clash_in env nd slot found) made w

abbrev pub iterations_made : Env → Node → Bool → PlainExpr → PlainExpr → Option TypedExpr → Option TypedExpr → TypedStmt → TypedStmt
iterations_made b node nd start count t u part =
    typed.statement node.place (typed.foreach (forking_of nd) (slots_in b) (node_of start t) (node_of count u) part)

abbrev pub iterations_left : Env → Env → Bool → Found → Found → Walk
iterations_left b s nd h inner = closed (walk_of b h) (marks_after nd) (with_nd nd inner) (walk_of s inner)

-- what it was called with, once the scope was left
pub record Left (b s : Env) (nd : Bool) (slot : ℕ) (env : Env) (inner iteration : Found) : Type 0 where
  pub home : bare s ≡ bare b
  pub env_is : bare env ≡ bare s
  pub slot_is : slot ≡ slots_in b
  pub iteration_is : iteration ≡ with_nd nd inner

clash_at : {b s : Env} {nd : Bool} {slot : ℕ} {env : Env} {inner iteration : Found} → Left b s nd slot env inner iteration →
    clash_in env nd slot iteration ≡ clash_in b nd (slots_in b) inner
clash_at {b} {nd = nd} {slot} {env} {iteration = iteration} m =
    iterations_at_home b env nd slot (with_uses iteration.effects iteration.uses) (m.env_is ∙ m.home)
    ∙ ap (λ (z : ℕ). clash_in b nd z iteration) m.slot_is
    ∙ ap (λ (z : Found). clash_in b nd (slots_in b) z) m.iteration_is

iterated : {b s : Env} {around : Around} {node first number noted : Node} (nd : Bool) {var : Named} {start count : PlainExpr} {body : PlainStmt}
    {f g h inner : Found} {t u : Option TypedExpr} {part : TypedStmt} → Iterated b s around node first number noted var start count body f g h inner t u part →
    check_form (atomic_params b) around node (form.foreach nd var start count body) (walk_of b f)
    ≡ iterations_met b noted nd (slots_in b) body inner (iterations_made b node nd start count t u part) (iterations_left b s nd h inner)
iterated nd k = rw (k.starts, k.counts, k.in_scope, ← k.first_is, ← k.number_is, ← k.noted_is)

pub iterations_are : {b s : Env} {around : Around} {node first number noted : Node} {nd : Bool} {var : Named} {start count : PlainExpr} {body : PlainStmt}
    {slot : ℕ} {env : Env} {f g h inner iteration : Found} {t u : Option TypedExpr} {part : TypedStmt} (v : Verdict TypedStmt) →
    Iterated b s around node first number noted var start count body f g h inner t u part → Left b s nd slot env inner iteration →
    iterations_met env noted nd slot body iteration (iterations_made b node nd start count t u part) (iterations_left b s nd h inner) ≡ v →
    check_form (atomic_params b) around node (form.foreach nd var start count body) (walk_of b f) ≡ v
iterations_are {b} {s} {node = node} {noted = noted} {nd} {start = start} {count} {body} {h = h} {inner} {t = t} {u} {part} v k m d =
    iterated nd k
    ∙ ap (λ (z : Bool). meeting noted (assigns_outer body) (interference nd) z (iterations_made b node nd start count t u part) (iterations_left b s nd h inner))
    (sym (clash_at m))
    ∙ d
