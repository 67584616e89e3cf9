-- When a start in a code is that of a task, and what it means that the code does what the task's meaning says.
use Rattle.std.specs.Prelude.{◌≡◌, Bool, List, [], ◌∷◌}
use Rattle.lang_typed.specs.Plain.{PlainProgram}
use Rattle.lang_typed.specs.Resolved.{StmtsFit}
use Rattle.lang_meaning.specs.Values.{Naming}
use Rattle.lang_meaning.specs.Actions.{Task, Action, Do, Fork, Begin, Join, End, Answer, Reply, Next, Over, Unknown}
use Rattle.code_instrs.specs.Plain.{PlainCode, body_at}
use Rattle.code_instrs.specs.Machine.{Start, Solo}
use Rattle.code_scheme.specs.Stands.{BodyIs}

-- a start is that of the task: its body is the task's, and its frame
pub record Compiled {N M : Type 0} (C : PlainCode) (P : PlainProgram) (b : Start N M) (t : Task N M) : Type 0 where
  pub body : BodyIs C (body_at C b.body) t.work
  pub frame : b.frame ≡ t.frame
  pub gives : Bool
  pub fits : StmtsFit P gives t.work.stmts

abbrev pub AllCompiled : {N M : Type 0} → PlainCode → PlainProgram → List (Start N M) → List (Task N M) → Type 0
AllCompiled C P [] [] = Unit {0}
AllCompiled C P [] (t ∷ ts) = ⊥
AllCompiled C P (b ∷ bs) [] = ⊥
AllCompiled C P (b ∷ bs) (t ∷ ts) = Compiled C P b t × AllCompiled C P bs ts

-- the same action; of a fork, with starts of its tasks
abbrev pub SameAct : {N M : Type 0} → PlainCode → PlainProgram → Action N M (Task N M) → Action N M (Start N M) → Type 0
SameAct C P (Do o) a = a ≡ Do o
SameAct {N} {M} C P (Fork ts) a = (bs : List (Start N M)) × (a ≡ Fork (record { kind = ts.kind; tasks = bs })) × AllCompiled C P bs ts.tasks
SameAct C P (Begin b) a = a ≡ Begin b
SameAct C P Join a = a ≡ Join
SameAct C P (End e) a = a ≡ End e

-- the same action after as many ticks; or both are over. Something is known
abbrev pub SameReply : {N M : Type 0} → PlainCode → PlainProgram → Reply N M (Task N M) → Reply N M (Start N M) → Type 0
SameReply {N} {M} C P (Next n a) r = (b : Action N M (Start N M)) × (r ≡ Next n b) × SameAct C P a b
SameReply C P Over r = r ≡ Over
SameReply C P Unknown r = ⊥

-- the solo run stands at what is asked
pub record Right {N M : Type 0} (names : Naming N M) (C : PlainCode) (P : PlainProgram) (b : Start N M) (got : List (Answer N M))
    (asked : Reply N M (Task N M)) : Type 0 where
  pub reply : Reply N M (Start N M)
  pub runs : Solo names C b got reply
  pub same : SameReply C P asked reply
