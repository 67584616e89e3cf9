-- What holds of a run of a well-typed program: what has been made and what stands in it, where each task stands, and what each
-- event keeps to.
use Rattle.std.proofs.Common.{◌≡◌, ◌≤◌, ◌+◌, ℕ, suc, ℤ, pos, Bool, true, false, List, [], ◌∷◌, ◌++◌, length, reverse, Some, slice_index_or}
use Rattle.lang_base.specs.declared.region.Rpl.{Rpl}
use Rattle.lang_base.specs.Matching.{Env}
use Rattle.lang_base.specs.Types.{PlainType}
use Rattle.lang_typed.specs.declared.stmt.Forking.{Forking}
use Rattle.lang_typed.specs.Plain.{PlainProgram}
use Rattle.lang_typed.specs.Scope.{Scope}
use Rattle.lang_meaning.specs.Asking.{replied}
use Rattle.lang_meaning.specs.Core.{run}
use Rattle.runs_program.specs.Steps.{named_by}
use Rattle.runs_theory.specs.Actions.{Answer, Reply, Program, Task, Branches, Own, Rest, Read, Write, Look, New, Print, Enter, Exit, Action, Do, Fork, Begin, Join, End}
use Rattle.runs_theory.specs.Blocks.{Hold, Out_of, own_hold, hold}
use Rattle.runs_theory.specs.Objects.{Path, Name, Thing, Effect}
use Rattle.runs_theory.specs.Runs.{Event, Run, Upto, mine, answers, count, Begun, thing_of, value_in}
use Rattle.runs_sound.specs.Shapes.{Shape, Shapes, Grows, FitsIn, CellAt, Describes}
use Rattle.runs_sound.specs.Accesses.{Bounds, Entry, MayEnterWith}
use Rattle.runs_sound.specs.Counting.{counting, number_of}
use Rattle.runs_sound.specs.Frames.{State}
use Rattle.runs_sound.specs.Branches.{Forks}
use Rattle.runs_sound.specs.Laws.{branch_bounds}
use Rattle.runs_sound.specs.Work.{Prog, Reaches}
use Rattle.runs_sound.proofs.work.NdFree.{NdFreeFork}
use Rattle.runs_sound.specs.Runs.{own_entries, ActedInOrder}
use Rattle.runs_sound.specs.Soundness.{EndFits}
use Rattle.runs_sound.proofs.moments.Moments.{Moment, at, forked, state_of, Goes}

-- what a task keeps to, the scope in which it began, what it is to do, and what each task does
pub record Kept : Type 0 where
  pub bounds : Bounds
  pub scope : Scope
  pub task : Task
  pub work : Path → Task → Prog

-- of the branch of this number, of the fork of that number
abbrev pub branch_kept : {P : PlainProgram} {forking : Forking} {ts : List Task} (k : Kept) (st : State) → Forks P k.bounds st forking ts → ℕ → ℕ → Kept
branch_kept {ts = ts} k st forks n i = record { bounds = branch_bounds k.bounds st forks (n, i); scope = forks.scope i; task = slice_index_or ts i k.task; work = k.work }

-- what it asks after these answers, the latest first, where it counts its local regions
abbrev pub asks_counting : Kept → List Answer → Reply
asks_counting k got = replied k.task.work (run (counting (named_by k.bounds.path)) (k.work k.bounds.path k.task) (record { since = 0; made = 0; to_come = reverse got }))

-- and how many it has made then
abbrev pub made_of : Kept → List Answer → ℕ
made_of k got = number_of (asks_counting k got)

-- the entries as the theory of runs counts them: the outermost, and how many are inside it
abbrev pub hold_of : List Entry → Hold
hold_of [] = Out_of
hold_of (E ∷ Es) = own_hold (Enter E.effects) (hold_of Es)

-- an access of a task that has made these events
pub record Accessed (P : PlainProgram) (k : Kept) (S : Shapes) (es : Run) (n : Name) (i : ℤ) (write : Bool) : Type 0 where
  pub state : State
  pub reaches : Reaches P k.bounds state n i write
  pub grown : Grows state.shapes S
  pub held : hold es ≡ hold_of state.entries
  pub entered : state.entries ≡ own_entries (made_of k) es

-- an entry
pub record EnteredAt (b : Bounds) (S : Shapes) (es : Run) (E : List Effect) : Type 0 where
  pub state : State
  pub may : MayEnterWith b state.entries E
  pub grown : Grows state.shapes S
  pub held : hold es ≡ hold_of state.entries

-- a fork
pub record ForkedAt (P : PlainProgram) (k : Kept) (branch : ℕ → Kept) (S : Shapes) (es : Run) (ts : Branches) : Type 0 where
  pub state : State
  pub forks : Forks P k.bounds state ts.kind ts.tasks
  pub nd_free : NdFreeFork P k.bounds state.entries ts.kind ts.tasks
  pub grown : Grows state.shapes S
  pub held : hold es ≡ hold_of state.entries
  pub entered : state.entries ≡ own_entries (made_of k) es
  pub kept : (i : ℕ) → branch i ≡ branch_kept k state forks (length es) i

-- an action of a task's own, with its answer
abbrev pub ActOk : PlainProgram → Kept → Shapes → Run → Path → Action → Answer → Type 0
ActOk P k S Y p (Do o) x = ActedInOrder P k.bounds (made_of k) S (mine Y p) o x
ActOk P k S Y p (Fork ts) x = Unit {0}
ActOk P k S Y p (Begin i) x = Unit {0}
ActOk P k S Y p Join x = Unit {0}
ActOk P k S Y p (End y) x = Unit {0}

module _ (P : PlainProgram) (Q : Program) where
  abbrev pub OwnOk : Kept → Shapes → Run → Own → Type 0
  OwnOk k S es (Read n i) = Accessed P k S es n i false
  OwnOk k S es (Write n i v) = Accessed P k S es n i true
  OwnOk k S es Rest = Unit {0}
  OwnOk k S es (Look n) = Unit {0}
  OwnOk k S es (New t c) = Unit {0}
  OwnOk k S es (Print bytes) = Unit {0}
  OwnOk k S es (Enter E) = EnteredAt k.bounds S es E
  OwnOk k S es Exit = hold es ≡ Out_of → ⊥

  -- what an event of a task keeps to, with the run before it
  abbrev pub EventOk : Kept → (ℕ → ℕ → Kept) → Shapes → Run → Path → Action → Type 0
  EventOk k branch S Y p (Do o) = OwnOk k S (mine Y p) o
  EventOk k branch S Y p (Fork ts) = ForkedAt P k (branch (count Y p)) S (mine Y p) ts
  EventOk k branch S Y p (End x) = (t : Task) × Begun Q Y p t × EndFits P k.bounds k.scope t.work.copies S x
  EventOk k branch S Y p (Begin i) = Unit {0}
  EventOk k branch S Y p Join = Unit {0}

  -- the fork after which a task stands
  pub record AtFork (R : Run) (p : Path) (k : Kept) (branch : ℕ → ℕ → Kept) (st : State) (forking : Forking) (ts : List Task) (forks : Forks P k.bounds st forking ts) (n : ℕ) : Type 0 where
    pub before : Run
    pub event : Event
    pub stands : Upto (event ∷ before) R
    pub path : event.path ≡ p
    pub act : event.act ≡ Fork (record { kind = forking; tasks = ts })
    pub number : count R p ≡ suc (count before p + n)
    pub kept : (i : ℕ) → branch (count before p) i ≡ branch_kept k st forks (count before p) i

  abbrev pub IsAt : Run → Path → (k : Kept) → (ℕ → ℕ → Kept) → Moment P k.bounds → Type 0
  IsAt R p k branch (at st) = Unit {0}
  IsAt R p k branch (forked st forking ts forks n) = AtFork R p k branch st forking ts forks n

  -- where a task stands: its next events are in order, as many as the run may still have
  pub record Stands (N : ℕ) (R : Run) (k : Kept) (branch : ℕ → ℕ → Kept) (S : Shapes) (p : Path) (t : Task) : Type 0 where
    pub path : k.bounds.path ≡ p
    pub task : k.task ≡ t
    pub moment : Moment P k.bounds
    pub grown : Grows (state_of moment).shapes S
    pub entered : (state_of moment).entries ≡ own_entries (made_of k) (mine R p)
    pub is_at : IsAt R p k branch moment
    pub depth : ℕ
    pub enough : suc N ≤ depth + length R
    pub goes : Goes P k.bounds k.scope t.work.copies depth moment (λ xs. asks_counting k (reverse xs ++ answers (mine R p)))

  abbrev pub branches_of : (Path → Kept) → Path → ℕ → ℕ → Kept
  branches_of keeping p n i = keeping ((n, i) ∷ p)

  pub record Sound (N : ℕ) (R : Run) : Type 0 where
    pub shapes : Shapes
    pub keeping : Path → Kept
    pub root : (keeping []).bounds.inside ≡ false
    pub things : (n : Name) (s : Shape) → shapes n ≡ Some s → (t : Thing) × (thing_of Q R n ≡ Some t) × Describes P s t
    pub shaped : (n : Name) (t : Thing) → thing_of Q R n ≡ Some t → (s : Shape) × (shapes n ≡ Some s)
    pub cells : (n : Name) (s : Shape) (t : Thing) (k : ℕ) (env : Env) (ty : PlainType) (a : Rpl) → shapes n ≡ Some s → thing_of Q R n ≡ Some t → CellAt P s (pos k) env ty a →
        FitsIn P shapes env ty (value_in R t (record { object = n; slot = k }))
    pub events : (y : Event) (Y : Run) → Upto (y ∷ Y) R → EventOk (keeping y.path) (branches_of keeping y.path) shapes Y y.path y.act
    pub acted : (y : Event) (Y : Run) → Upto (y ∷ Y) R → ActOk P (keeping y.path) shapes Y y.path y.act y.ans
    pub tasks : (p : Path) (t : Task) → Begun Q R p t → Stands N R (keeping p) (branches_of keeping p) shapes p t
