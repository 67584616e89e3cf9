-- Soundness of a whole run, said at once: values have their types, each action is in order and answered by what fits, tasks end and are
-- joined as they are to, and what conflicts is atomic.
use Rattle.std.specs.Prelude.{◌≡◌, ◌≢◌, ◌⊎◌, ◌<◌, ◌≤◌, ℕ, suc, ◌+◌, ℤ, pos, Bool, true, false, List, [], ◌∷◌, ◌++◌, length, map, Some, Contains}
use Rattle.lang_base.specs.Branches.{ends_atomic}
use Rattle.lang_base.specs.declared.elems.Elem.{Elem}
use Rattle.lang_base.specs.declared.elems.Elem.TheVariants.{Local}
use Rattle.lang_base.specs.Matching.{put_in}
use Rattle.lang_base.specs.Types.{PlainType}
use Rattle.lang_typed.specs.declared.stmt.Forking.{Forking}
use Rattle.lang_typed.specs.Plain.{PlainProgram}
use Rattle.lang_typed.specs.Scope.{Scope, variable}
use Rattle.lang_meaning.specs.Counts.{Back}
use Rattle.runs_reduction.specs.Guarded.{Guarded}
use Rattle.runs_theory.specs.Actions.{Program, Task, Branches, Rule, Read, Write, Do, Fork, Join, End, Ending, Returned, Assigned, Trapped}
use Rattle.runs_theory.specs.Actions.{Answer, Went, Got, Out, Class, Length, Named, Joined, Fell}
use Rattle.runs_theory.specs.Blocks.{Hold, Out_of, In_block, hold}
use Rattle.runs_theory.specs.Objects.{Path, Name, Made, Value, Effect, Cell}
use Rattle.runs_theory.specs.Order.{Unordered, Conflict, read_write, write_read, write_write}
use Rattle.runs_theory.specs.Runs.{Event, Run, Upto, mine, answers, count, Begun}
use Rattle.runs_theory.specs.Standing.{Standing, Outside, Inside, standing}
use Rattle.runs_sound.specs.Settings.{local_code, env_of}
use Rattle.runs_sound.specs.Shapes.{Shapes, Grows, FitsIn, IsInt}
use Rattle.runs_sound.specs.Accesses.{Access, Bounds, LiesIn, LiesInEntry, InOwnRegion}
use Rattle.runs_sound.specs.Frames.{State, Since}
use Rattle.runs_sound.specs.Branches.{Forks, Brings}
use Rattle.runs_sound.specs.Work.{Touches}
use Rattle.runs_sound.specs.Runs.{ForkedInOrder, KeepsTo}

-- an event that accesses the cell of this name and index, and whether it writes
pub data Accesses (y : Event) : Name → ℤ → Bool → Type 0 where
  reads : {n : Name} {i : ℤ} → y.act ≡ Do (Read n i) → Accesses y n i false
  writes : {n : Name} {i : ℤ} {v : Value} → y.act ≡ Do (Write n i v) → Accesses y n i true

abbrev pub is_inside : Standing → Bool
is_inside Outside = false
is_inside (Inside opener effects) = true

-- of the events of a task that stands inside a block, those before the outermost entry
abbrev pub before_entry : Hold → Run → Run → Run
before_entry Out_of es earlier = es
before_entry (In_block inner effects) es earlier = earlier

abbrev pub before_block : Run → Run
before_block [] = []
before_block (e ∷ es) = before_entry (hold es) es (before_block es)

-- a local region is made inside a block: by the opener, with as many others as it had made at the entry; or by a task below it, in a branch of a
-- fork after the entry
abbrev pub MadeInside : (others entry : ℕ) → Path → Path → ℕ → Type 0
MadeInside others entry opener maker count =
    ((maker ≡ opener) × (others ≤ count)) ⊎ ((below : Path) × (u : ℕ × ℕ) × (maker ≡ below ++ u ∷ opener) × (entry < u.0))

-- the region begins with a local region made inside the block in which this task stands after these events of its own
pub record InBlockRegion (made : List Answer → ℕ) (es : Run) (opener : Path) (r : List Elem) : Type 0 where
  pub maker : Path
  pub count : ℕ
  pub inside : MadeInside (made (answers (before_block es))) (length (before_block es)) opener maker count
  pub rest : List Elem
  pub is : r ≡ Local (local_code (Made maker count)).0 (local_code (Made maker count)).1 ∷ rest

-- an access that a task makes next: it lies in the effects of the task and of each above it, or in a local region that this or one below it has
-- made; and inside a block in the effects with which the outermost entry was made, or in a local region made inside the block
pub record LiesThroughout (bounds : Path → Bounds) (made : Path → List Answer → ℕ) (Y : Run) (p : Path) (a : Access) : Type 0 where
  pub above : (below q : Path) → p ≡ below ++ q → LiesIn (bounds q).setting (bounds q).effects a ⊎ InOwnRegion q a.region
  pub block : (opener : Path) (effects : List Effect) → standing Y p ≡ Inside opener effects →
      LiesInEntry effects a ⊎ InBlockRegion (made opener) (mine Y opener) opener a.region

-- it is one of a cell of what was made
pub record AccessLies (P : PlainProgram) (bounds : Path → Bounds) (made : Path → List Answer → ℕ) (S : Shapes) (Y : Run) (p : Path) (n : Name) (i : ℤ)
    (write : Bool) : Type 0 where
  pub cell : Touches P S n i
  pub lies : LiesThroughout bounds made Y p
      (record { object = n; index = i; write = write; guarded = is_inside (standing Y p); region = (put_in cell.env cell.rpl).elems; of_cell = true })

-- a task ends with a trap of the language; or, the root, with an int; or, a branch, with the locals that it copies back: variables
-- of the scope in which it began, with values of their types
abbrev pub EndFits : PlainProgram → Bounds → Scope → List ℕ → Shapes → Ending → Type 0
EndFits P b L copies S (Trapped trap place) = Unit {0}
EndFits P b L copies S (Returned v) = (b.path ≡ []) × IsInt v
EndFits P b L copies S (Assigned ls) = (b.path ≢ []) × (map (λ l. l.0) ls ≡ copies)
    × ((x : ℕ) (v : Value) → Contains ls (x, v) → (t : PlainType) × (L.local x ≡ Some (variable t)) × FitsIn P S (env_of b.setting) t v)

-- the end of a task that has begun
pub record EndsFitting (P : PlainProgram) (Q : Program) (b : Bounds) (L : Scope) (S : Shapes) (Y : Run) (p : Path) (x : Ending) : Type 0 where
  pub task : Task
  pub begun : Begun Q Y p task
  pub fits : EndFits P b L task.work.copies S x

-- the answer to a join: a trap of a branch, or locals that the branches copy back, with values of their types there
abbrev pub JoinFits : (P : PlainProgram) (b : Bounds) (st : State) (forking : Forking) (ts : List Task) → Forks P b st forking ts → State → Answer → Type 0
JoinFits P b st forking ts forks h (Joined ls) = Brings P b st forking ts forks h (Back ls)
JoinFits P b st forking ts forks h (Fell trap place) = Unit {0}
JoinFits P b st forking ts forks h Went = ⊥
JoinFits P b st forking ts forks h (Got v) = ⊥
JoinFits P b st forking ts forks h Out = ⊥
JoinFits P b st forking ts forks h (Class c rs) = ⊥
JoinFits P b st forking ts forks h (Length len) = ⊥
JoinFits P b st forking ts forks h (Named n) = ⊥

-- the join of a fork that was in order, since which its task has made the begins of the branches alone
pub record JoinsFitting (P : PlainProgram) (bounds : Path → Bounds) (made : Path → List Answer → ℕ) (scopes : Path → Scope) (S : Shapes) (Y : Run) (p : Path)
    (x : Answer) : Type 0 where
  pub before : Run
  pub fork : Event
  pub branches : Branches
  pub stands : Upto (fork ∷ before) Y
  pub path : fork.path ≡ p
  pub act : fork.act ≡ Fork branches
  pub number : count Y p ≡ suc (count before p + length branches.tasks)
  pub forked : ForkedInOrder P (bounds p) (made p) (λ i. bounds ((count before p, i) ∷ p)) (λ i. scopes ((count before p, i) ∷ p)) S (mine before p) (count before p) branches
  pub after : State
  pub since : Since forked.state after
  pub fits : JoinFits P (bounds p) forked.state branches.kind branches.tasks forked.forks after x
  pub grown : Grows after.shapes S

abbrev pub cell_of : {x y : Event} → Conflict x y → Cell
cell_of (read_write c r w) = c
cell_of (write_read c w r) = c
cell_of (write_write c v w) = c

-- two events that conflict on a cell: both stand inside atomic blocks, which the rule keeps apart where they are two; and the region of
-- the cell ends by an atomic name, leaving off indices
pub record ConflictIsAtomic (P : PlainProgram) (rule : Rule) (S : Shapes) (X : Run) (x : Event) (Y : Run) (y : Event) (c : Cell) : Type 0 where
  pub blocks : Guarded rule X x Y y
  pub cell : Touches P S c.object (pos c.slot)
  pub atomic : ends_atomic P.region_names (put_in cell.env cell.rpl).elems ≡ true

pub record IsSound (P : PlainProgram) (Q : Program) (main : Bounds) (R : Run) : Type 0 where
  -- what has been made is what its shape says, in each cell stands a value of its type, and each action is in order and answered by what fits
  pub keeps : KeepsTo P Q main R
  pub accesses : (y : Event) (Y : Run) (n : Name) (i : ℤ) (write : Bool) → Upto (y ∷ Y) R → Accesses y n i write →
      AccessLies P keeps.bounds keeps.made keeps.shapes Y y.path n i write
  pub ends : (y : Event) (Y : Run) (x : Ending) → Upto (y ∷ Y) R → y.act ≡ End x → EndsFitting P Q (keeps.bounds y.path) (keeps.scopes y.path) keeps.shapes Y y.path x
  pub joins : (y : Event) (Y : Run) → Upto (y ∷ Y) R → y.act ≡ Join → JoinsFitting P keeps.bounds keeps.made keeps.scopes keeps.shapes Y y.path y.ans
  pub conflicts : (Y X : Run) (y x : Event) → Upto (y ∷ Y) R → Upto (x ∷ X) Y → Unordered x.path y.path → (c : Conflict x y) →
      ConflictIsAtomic P Q.rule keeps.shapes X x Y y (cell_of c)
