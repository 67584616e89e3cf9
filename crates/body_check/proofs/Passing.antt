-- What is passed on from a part of a statement to the statement.
use Rattle.std.proofs.Common.{◌≡◌, ◌∙◌, Bool, true, false, not, Result, Ok, Err, Option, Some, None, IfOk, OnOk, sym, ap, subst}
use Rattle.std.specs.Result.{IsErrAnd}
use Rattle.lang_base.specs.declared.refusal.Kind.{Kind}
use Rattle.lang_base.specs.declared.refusal.Kind.TheVariants as kind
use Rattle.lang_base.specs.declared.refusal.Refusal.{Refusal}
use Rattle.lang_base.specs.declared.refusal.Stop.{Stop}
use Rattle.lang_base.specs.declared.refusal.Stop.TheVariants as stop
use Rattle.lang_base.specs.Refused.{IfRefused}
use Rattle.decl_headers.specs.Faults.{settled}
use Rattle.lang_typed.specs.Plain.{TypedStmt}
use Rattle.body_exprs.specs.declared.env.Env.{Env}
use Rattle.body_exprs.specs.declared.env.Mark.{Mark}
use Rattle.body_exprs.specs.declared.found.Found.{Found}
use Rattle.body_exprs.specs.Answer.{Says}
use Rattle.body_exprs.specs.Env.{left_to, mark_of}
use Rattle.body_check.specs.declared.leaving.Leaving.{Leaving}
use Rattle.body_check.specs.declared.leaving.Marks.{Marks}
use Rattle.body_check.specs.declared.node.Node.{Node}
use Rattle.body_check.specs.declared.statements.Checked.{Checked}
use Rattle.body_check.specs.Checking.{closed, meeting}
use Rattle.body_check.specs.Gathering.{taken_in}
use Rattle.body_check.specs.Leaving.{from_here}
use Rattle.body_check.specs.Noting.{fault_of, settled_node, with_fault_if}
use Rattle.body_check.specs.Walks.{Walk, Verdict, passes, refused, judged, found_so, walk_of}

pub said_of : (P Q : Refusal → Type 0) (s : Stop) → ((q : Refusal) → P q → Q q) → IfRefused s P → IfRefused s Q
said_of P Q (stop.Refused q) next h = next q h
said_of P Q stop.NoMemory next h = tt

-- at the exit of a `?`
pub stopped : {T M : Type 0} (P : Refusal → Type 0) (Q : Verdict M → Type 0) (r : Result T Stop) (made : T → Verdict M) (s : Stop) →
    IsErrAnd r (λ x. x ≡ s) → ((q : Refusal) → P q → Q (refused q)) → IfRefused s P → Says r made refused Q
stopped P Q (Ok x) made s is next h = absurd is
stopped P Q (Err x) made s is next h = said_of P (λ q. Q (refused q)) x next (subst (λ (z : Stop). IfRefused z P) (sym is) h)

-- what stops where the faults of a node are reported
pub settled_stop : (reported : Option Refusal) (s : Stop) → settled reported ≡ Err s → IfRefused s (λ q. reported ≡ Some q)
settled_stop None s is = cc
settled_stop (Some q) s is = of_stop q s is
  where
    of_stop : (p : Refusal) (x : Stop) → settled (Some p) ≡ Err x → IfRefused x (λ z. Some p ≡ Some z)
    of_stop p (stop.Refused z) e = cc
    of_stop p stop.NoMemory e = cc

-- at the exit of a `?` where the faults of a node are reported
pub settle_stopped : {T M : Type 0} (Q : Verdict M → Type 0) (reported : Option Refusal) (r : Result T Stop) (s : Stop) (made : T → Verdict M) →
    IsErrAnd r (λ z. z ≡ s) → Err s ≡ settled reported → ((q : Refusal) → reported ≡ Some q → Q (refused q)) → Says r made refused Q
settle_stopped Q reported r s made is settle next = stopped (λ q. reported ≡ Some q) Q r made s is next (settled_stop reported s (sym settle))

-- a piece whose outcome is passed on
pub says_all : {T M : Type 0} (P Q : Verdict M → Type 0) (r : Result T Stop) (made : T → Verdict M) → ((v : Verdict M) → P v → Q v) →
    Says r made refused P → Says r made refused Q
says_all P Q (Ok t) made next h = next (made t) h
says_all P Q (Err s) made next h = said_of (λ q. P (refused q)) (λ q. Q (refused q)) s (λ q. next (refused q)) h

-- a piece that passes, as it was made
pub passes_so : {M : Type 0} (m made : M) (w u : Walk) → m ≡ made → w ≡ u → passes made u ≡ passes m w
passes_so m made w u m_is w_is = ap (λ (z : Walk). passes made z) (sym w_is) ∙ ap (λ z. passes z w) (sym m_is)

-- a statement whose node was judged
pub judged_so : {T : Type 0} (v : Verdict TypedStmt) (reported : Option Refusal) (m : TypedStmt) (w : Walk) (r : Result T Stop)
    (made : T → Verdict TypedStmt) → v ≡ judged reported m w → Says r made refused (λ z. judged reported m w ≡ z) → Says r made refused (λ z. v ≡ z)
judged_so v reported m w r made is h = subst (λ (x : Verdict TypedStmt). Says r made refused (λ z. x ≡ z)) (sym is) h

-- the same node, of which the same was made
pub judged_as : (reported : Option Refusal) (w : Walk) {m made : TypedStmt} → m ≡ made → judged reported made w ≡ judged reported m w
judged_as reported w is = ap (λ z. judged reported z w) (sym is)

-- whether it completes
pub completes_so : {b d : Bool} (r : Result Checked Stop) → b ≡ d → IfOk r (λ done. done.completes ≡ b) → IfOk r (λ done. done.completes ≡ d)
completes_so r is h = subst (λ (z : Bool). IfOk r (λ done. done.completes ≡ z)) is h

-- what holds whatever came of it
pub anyhow : {T E P : Type 0} (r : Result T E) → P → OnOk r P
anyhow (Ok x) p = p
anyhow (Err e) p = tt

-- a construct whose body assigns outer locals, and one of which it is asked whether branches interfere
pub meeting_first : (node second : Node) (assigns interferes : Bool) (reason : Kind) (made : TypedStmt) (w : Walk) (q : Refusal) →
    second ≡ with_fault_if node kind.Assign assigns → fault_of second ≡ Some q → meeting node assigns reason interferes made w ≡ refused q
meeting_first node second assigns interferes reason made w q second_is reported = rw (← second_is, reported)

pub meeting_then : (node second third : Node) (assigns interferes : Bool) (reason : Kind) (made : TypedStmt) (w : Walk) →
    second ≡ with_fault_if node kind.Assign assigns → fault_of second ≡ None → third ≡ with_fault_if (settled_node second) reason interferes →
    meeting node assigns reason interferes made w ≡ judged (fault_of third) made w
meeting_then node second third assigns interferes reason made w second_is clean third_is = rw (← second_is, clean, ← third_is)

-- where the faults of a node are reported at last
ends : {T : Type 0} (reported : Option Refusal) (v : Verdict T) (made : T) (w : Walk) (r : Result (Unit {0}) Stop) → v ≡ judged reported made w →
    r ≡ settled reported → Says r (λ _. passes made w) refused (λ z. v ≡ z)
ends None v made w r is settle = subst (λ (x : Result (Unit {0}) Stop). Says x (λ _. passes made w) refused (λ z. v ≡ z)) (sym settle) is
ends (Some q) v made w r is settle = subst (λ (x : Result (Unit {0}) Stop). Says x (λ _. passes made w) refused (λ z. v ≡ z)) (sym settle) is

-- both tests, where the first found nothing
pub meeting_ends : (node second third : Node) (assigns interferes : Bool) (reason : Kind) (made : TypedStmt) (w : Walk) (r : Result (Unit {0}) Stop) →
    second ≡ with_fault_if node kind.Assign assigns → fault_of second ≡ None → third ≡ with_fault_if (settled_node second) reason interferes →
    r ≡ settled (fault_of third) → Says r (λ _. passes made w) refused (λ v. meeting node assigns reason interferes made w ≡ v)
meeting_ends node second third assigns interferes reason made w r second_is clean third_is settle =
    ends (fault_of third) (meeting node assigns reason interferes made w) made w r
    (meeting_then node second third assigns interferes reason made w second_is clean third_is) settle

pub not_not : (x y : Bool) → x ≡ not y → not x ≡ y
not_not x true is = ap not is
not_not x false is = ap not is

-- the second test, as the code makes it
pub third_is : (second settle third : Node) (reason reason' : Kind) (there there' : Bool) → settle ≡ settled_node second → reason ≡ reason' →
    there ≡ there' → third ≡ with_fault_if settle reason there → third ≡ with_fault_if (settled_node second) reason' there'
third_is second settle third reason reason' there there' settle_is reason_is there_is is =
    is ∙ ap (λ (z : Node). with_fault_if z reason there) settle_is ∙ ap (λ (z : Kind). with_fault_if (settled_node second) z there) reason_is
    ∙ ap (λ (z : Bool). with_fault_if (settled_node second) reason' z) there_is

abbrev pub walk_from : Env → Found → Walk
walk_from env found = record { env = env; found = found }

-- a scope that was left
pub closed_is : (b s : Env) (env : Env) (scope : Mark) (leaving : Leaving) (marking marking' : Marks) (f g inner inner' rest out : Found) →
    scope ≡ mark_of b → env ≡ left_to s scope → leaving ≡ from_here b marking → marking ≡ marking' → inner ≡ inner' → out ≡ taken_in leaving g inner →
    closed (found_so (walk_of b f) g) marking' inner' (walk_of s rest) ≡ walk_from env out
closed_is b s env scope leaving marking marking' f g inner inner' rest out scope_is env_is leaving_is kept_is inner_is out_is =
    let env_so : env ≡ left_to s (mark_of b) = env_is ∙ ap (λ (z : Mark). left_to s z) scope_is in
    let out_so : out ≡ taken_in (from_here b marking') g inner' =
    out_is ∙ ap (λ (z : Leaving). taken_in z g inner) (leaving_is ∙ ap (from_here b) kept_is)
    ∙ ap (λ (z : Found). taken_in (from_here b marking') g z) inner_is in
    ap (λ (z : Env). walk_from z (taken_in (from_here b marking') g inner')) (sym env_so)
    ∙ ap (λ (z : Found). walk_from env z) (sym out_so)
