-- Runs of a program: what each task has made, and how each event is answered by those before it. Blocks are left aside.
use Rattle.std.specs.Prelude.{ℕ, suc, ◌+◌, ◌≡◌, if◌then◌else◌, List, [], ◌∷◌, ◌++◌, length, map, Option, Some, None, slice_get}
use Rattle.runs_theory.specs.Objects.{Path, same_path, Name, Value, Thing, An_object, An_array, size, or_else, first_value, Cell, slot_of, is_cell}
use Rattle.runs_theory.specs.Actions.{Task, Branches, Ending, Own, Rest, Read, Write, Look, New, Print, Enter, Exit}
use Rattle.runs_theory.specs.Actions.{Action, Do, Fork, Begin, Join, End, Answer, Went, Got, Out, Class, Length, Named, Joined, Fell, Next, Program, steps, cells}
pub use Rattle.lang_meaning.specs.Outcomes.{trap_of, first_trap, locals_of, all_locals, joined_or, joined}

pub record Event : Type 0 where
  pub path : Path
  -- the while ticks of the task since its last event
  pub ticks : ℕ
  pub act : Action
  pub ans : Answer

-- the latest event stands first
abbrev pub Run : Type 0
Run = List Event

-- xs is ys up to some moment. So `Upto (e ∷ B) R` says that e stands in the run R, and B before it
pub data Upto {A : Type 0} (xs : List A) : List A → Type 0 where
  now : Upto xs xs
  later : {y : A} {ys : List A} → Upto xs ys → Upto xs (y ∷ ys)

-- the events of one task
unfoldable pub mine : Run → Path → Run
mine [] p = []
mine (e ∷ R) p = if same_path e.path p then e ∷ mine R p else mine R p

abbrev pub answers : Run → List Answer
answers R = map (λ e. e.ans) R

-- how many events a task has made. This numbers its next one
abbrev pub count : Run → Path → ℕ
count R p = length (mine R p)

-- the task of this name has begun, and this is what it is to do: the root; or a branch of a fork after its begin. The begin
-- of branch b of the fork numbered k is numbered k + 1 + b
pub data Begun (P : Program) (R : Run) (p : Path) (t : Task) : Type 0 where
  root : p ≡ [] → t ≡ P.root → Begun P R p t
  branch : (q : Path) (u : ℕ × ℕ) (F : Run) (f : Event) (ts : Branches) (B : Run) (g : Event) → p ≡ u ∷ q
      → Upto (f ∷ F) R → f.path ≡ q → count F q ≡ u.0 → f.act ≡ Fork ts → slice_get ts.tasks u.1 ≡ Some t
      → Upto (g ∷ B) R → g.path ≡ q → g.act ≡ Begin u.1 → count B q ≡ suc (u.0 + u.1) → Begun P R p t

-- the things that some events of one task made, in order
abbrev pub own_made : Own → List Thing
own_made (New t c) = t ∷ []
own_made Rest = []
own_made (Read n i) = []
own_made (Write n i v) = []
own_made (Look n) = []
own_made (Print bytes) = []
own_made (Enter E) = []
own_made Exit = []

abbrev pub made_by : Action → List Thing
made_by (Do o) = own_made o
made_by (Fork ts) = []
made_by (Begin b) = []
made_by Join = []
made_by (End x) = []

unfoldable pub things : Run → List Thing
things [] = []
things (e ∷ es) = things es ++ made_by e.act

-- what a task has made so far; the object that stands at the start counts as the root's first
abbrev pub at_start : Program → Path → List Thing
at_start P [] = P.object ∷ []
at_start P (u ∷ p) = []

abbrev pub made : Program → Run → Path → List Thing
made P R p = at_start P p ++ things (mine R p)

-- what has this name
abbrev pub thing_of : Program → Run → Name → Option Thing
thing_of P R n = slice_get (made P R n.maker) n.count

-- the value that an event writes to a cell; a write out of bounds writes to none
abbrev pub own_written : Cell → Own → Option Value
own_written c (Write n i v) = if is_cell n i c then Some v else None
own_written c Rest = None
own_written c (Read n i) = None
own_written c (Look n) = None
own_written c (New t b) = None
own_written c (Print bytes) = None
own_written c (Enter E) = None
own_written c Exit = None

abbrev pub written_by : Cell → Action → Option Value
written_by c (Do o) = own_written c o
written_by c (Fork ts) = None
written_by c (Begin b) = None
written_by c Join = None
written_by c (End x) = None

abbrev pub unless_out : {A : Type 0} → Answer → Option A → Option A
unless_out Out o = None
unless_out Went o = o
unless_out (Got v) o = o
unless_out (Class class regions) o = o
unless_out (Length len) o = o
unless_out (Named n) o = o
unless_out (Joined ls) o = o
unless_out (Fell trap place) o = o

abbrev pub written : Cell → Event → Option Value
written c e = unless_out e.ans (written_by c e.act)

abbrev pub first_some : {A : Type 0} → Option A → Option A → Option A
first_some None b = b
first_some (Some v) b = Some v

-- the value of the last write to a cell
unfoldable pub last_written : Run → Cell → Option Value
last_written [] c = None
last_written (e ∷ R) c = first_some (written c e) (last_written R c)

-- the value in a cell: that of the last write, or the first value where there is none
abbrev pub value_in : Run → Thing → Cell → Value
value_in R t c = or_else (last_written R c) (first_value t c.slot)

-- the answers to accesses and looks, by what has the name
abbrev pub read_at : Run → Thing → Name → Option ℕ → Answer
read_at R t n None = Out
read_at R t n (Some slot) = Got (value_in R t (record { object = n; slot = slot }))

abbrev pub wrote_at : Option ℕ → Answer
wrote_at None = Out
wrote_at (Some slot) = Went

abbrev pub seen : Thing → Answer
seen (An_object class regions fields) = Class class regions
seen (An_array region len element) = Length len

abbrev pub answered_by : Option Thing → (Thing → Answer) → Option Answer
answered_by None f = None
answered_by (Some t) f = Some (f t)

-- the answer at this moment to what a task does by itself: none where nothing has the name that it uses
abbrev pub reply : Program → Run → Path → Own → Option Answer
reply P R p (Read n i) = answered_by (thing_of P R n) (λ t. read_at R t n (slot_of i (size t)))
reply P R p (Write n i v) = answered_by (thing_of P R n) (λ t. wrote_at (slot_of i (size t)))
reply P R p (Look n) = answered_by (thing_of P R n) seen
reply P R p (New t c) = Some (Named (record { maker = p; count = length (made P R p) }))
reply P R p Rest = Some Went
reply P R p (Print bytes) = Some Went
reply P R p (Enter E) = Some Went
reply P R p Exit = Some Went

-- a task has ended
pub record Ended (R : Run) (p : Path) (x : Ending) : Type 0 where
  pub before : Run
  pub event : Event
  pub stands : Upto (event ∷ before) R
  pub path : event.path ≡ p
  pub act : event.act ≡ End x

-- since a fork the task has made as many events as the fork has branches, which are their begins; all branches have ended; and
-- this is the answer to the join
pub record Joins (R : Run) (p : Path) (a : Answer) : Type 0 where
  pub before : Run
  pub fork : Event
  pub stands : Upto (fork ∷ before) R
  pub path : fork.path ≡ p
  pub since : Run
  pub last : mine R p ≡ since ++ fork ∷ mine before p
  pub tasks : Branches
  pub act : fork.act ≡ Fork tasks
  pub all_begun : length since ≡ length tasks.tasks
  pub ends : List Ending
  pub each : length ends ≡ length tasks.tasks
  pub ended : (u : ℕ × ℕ) (x : Ending) → u.0 ≡ count before p → slice_get ends u.1 ≡ Some x → Ended R (u ∷ p) x
  pub answer : a ≡ joined ends

-- the answer to an action at this moment
abbrev pub Right : Program → Run → Path → Action → Answer → Type 0
Right P R p (Do o) a = reply P R p o ≡ Some a
Right P R p (Fork ts) a = a ≡ Went
Right P R p (Begin b) a = a ≡ Went
Right P R p Join a = Joins R p a
Right P R p (End x) a = a ≡ Went

-- blocks aside, this event may come next: its task has begun, does this next after its own answers, and is answered rightly
pub record Follows (P : Program) (R : Run) (e : Event) : Type 0 where
  pub task : Task
  pub begun : Begun P R e.path task
  pub asks : P.meaning e.path task (answers (mine R e.path)) ≡ Next e.ticks e.act
  pub right : Right P R e.path e.act e.ans

-- blocks aside, each event came rightly
abbrev pub Faithful : Program → Run → Type 0
Faithful P [] = Unit {0}
Faithful P (e ∷ R) = Follows P R e × Faithful P R

-- the sum of a weight over the events of a run
unfoldable pub total : (Event → ℕ) → Run → ℕ
total w [] = 0
total w (e ∷ R) = w e + total w R

-- each while tick costs one step
abbrev pub event_steps : Event → ℕ
event_steps e = e.ticks + steps e.act

abbrev pub event_cells : Event → ℕ
event_cells e = cells e.act

-- the entry of the root costs one step, with its first event
abbrev pub entry_step : Run → ℕ
entry_step [] = 0
entry_step (e ∷ es) = 1

-- what a run costs, with the cells of the object that stands at the start
abbrev pub steps_of : Run → ℕ
steps_of R = entry_step (mine R []) + total event_steps R

abbrev pub cells_of : Program → Run → ℕ
cells_of P R = suc (size P.object) + total event_cells R
