-- What holds of a whole run of a well-typed program: what has been made and what stands in it, what each task keeps to, and that
-- each action of a task is in order where the task stands and is answered by what fits there.
use Rattle.std.specs.Prelude.{◌≡◌, ℕ, pos, List, [], ◌∷◌, Some}
use Rattle.lang_base.specs.declared.region.Rpl.{Rpl}
use Rattle.lang_base.specs.Matching.{Env}
use Rattle.lang_base.specs.Types.{PlainType}
use Rattle.lang_typed.specs.Plain.{PlainProgram}
use Rattle.lang_typed.specs.Scope.{Scope}
use Rattle.runs_theory.specs.Actions.{Program, Task, Branches, Own, Action, Do, Fork, Begin, Join, End, Answer}
use Rattle.runs_theory.specs.Objects.{Path, Name, Thing}
use Rattle.runs_theory.specs.Runs.{Event, Run, Upto, mine, answers, count, Begun, thing_of, value_in}
use Rattle.runs_sound.specs.Shapes.{Shape, Shapes, Grows, FitsIn, CellAt, Describes}
use Rattle.runs_program.specs.Steps.{named_by}
use Rattle.runs_sound.specs.Accesses.{Bounds, Entry}
use Rattle.runs_sound.specs.Counting.{regions_made}
use Rattle.runs_sound.specs.Frames.{State}
use Rattle.runs_sound.specs.Branches.{Forks}
use Rattle.runs_sound.specs.Laws.{branch_bounds}
use Rattle.runs_sound.specs.Work.{Moves, Answers, After, entries_after}

-- everything that has been made has a shape and is what that says, and in each cell stands a value of its type
pub record HeapFits (P : PlainProgram) (Q : Program) (R : Run) (S : Shapes) : Type 0 where
  pub things : (n : Name) (t : Thing) → thing_of Q R n ≡ Some t → (s : Shape) × (S n ≡ Some s) × Describes P s t
  pub cells : (n : Name) (s : Shape) (t : Thing) (k : ℕ) (env : Env) (ty : PlainType) (a : Rpl) → S n ≡ Some s → thing_of Q R n ≡ Some t → CellAt P s (pos k) env ty a →
      FitsIn P S env ty (value_in R t (record { object = n; slot = k }))

-- the entries of the blocks that a task stands inside after these events of its own, the latest first, where it has made so many local regions
-- after its answers; an end leaves them all
abbrev pub entries_then : ℕ → Action → List Entry → List Entry
entries_then made (Do o) entries = entries_after made o entries
entries_then made (End x) entries = []
entries_then made (Fork ts) entries = entries
entries_then made (Begin i) entries = entries
entries_then made Join entries = entries

abbrev pub own_entries : (List Answer → ℕ) → Run → List Entry
own_entries made [] = []
own_entries made (e ∷ es) = entries_then (made (answers es)) e.act (own_entries made es)

-- an action that is in order where the task stands after these events of its own, and an answer that fits there
pub record ActedInOrder (P : PlainProgram) (b : Bounds) (made : List Answer → ℕ) (S : Shapes) (es : Run) (o : Own) (x : Answer) : Type 0 where
  pub state : State
  pub entries : state.entries ≡ own_entries made es
  pub moves : Moves P b state o
  pub after : State
  pub comes : After o state after
  pub answered : Answers P b state o moves x after
  pub grown : Grows after.shapes S

-- branches that are in order at their fork, which stands after these events of its task; and what each keeps to, and the scope in which it
-- begins
pub record ForkedInOrder (P : PlainProgram) (b : Bounds) (made : List Answer → ℕ) (branch : ℕ → Bounds) (scope : ℕ → Scope) (S : Shapes) (es : Run)
    (number : ℕ) (ts : Branches) : Type 0 where
  pub state : State
  pub entries : state.entries ≡ own_entries made es
  pub forks : Forks P b state ts.kind ts.tasks
  pub grown : Grows state.shapes S
  pub kept : (i : ℕ) → branch i ≡ branch_bounds b state forks (number, i)
  pub scopes : (i : ℕ) → scope i ≡ forks.scope i

-- each task keeps to its bounds: the root to those of `main`, and a branch to those that its fork gave it
pub record KeepsTo (P : PlainProgram) (Q : Program) (main : Bounds) (R : Run) : Type 0 where
  pub shapes : Shapes
  pub heap : HeapFits P Q R shapes
  pub bounds : Path → Bounds
  pub scopes : Path → Scope
  -- how many local regions it has made after its answers, where it enters a block next
  pub made : Path → List Answer → ℕ
  pub counts : (p : Path) (t : Task) → Begun Q R p t → (got : List Answer) → made p got ≡ regions_made (named_by p) P t got
  pub root : bounds [] ≡ main
  pub named : (p : Path) (t : Task) → Begun Q R p t → (bounds p).path ≡ p
  pub forks : (f : Event) (F : Run) (ts : Branches) → Upto (f ∷ F) R → f.act ≡ Fork ts →
      ForkedInOrder P (bounds f.path) (made f.path) (λ i. bounds ((count F f.path, i) ∷ f.path)) (λ i. scopes ((count F f.path, i) ∷ f.path)) shapes (mine F f.path) (count F f.path) ts
  pub acts : (y : Event) (Y : Run) (o : Own) → Upto (y ∷ Y) R → y.act ≡ Do o → ActedInOrder P (bounds y.path) (made y.path) shapes (mine Y y.path) o y.ans
