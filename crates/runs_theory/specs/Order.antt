-- Unordered events, conflicts, the order of elision, and how a run comes out.
use Rattle.std.specs.Prelude.{ℕ, suc, pos, ◌+◌, ◌<◌, ◌≡◌, ◌≢◌, ◌⊎◌, List, [], ◌∷◌, ◌++◌, Option, Some, None}
use Rattle.lang_base.specs.declared.value.Trap.{Trap}
use Rattle.lang_base.specs.declared.place.Place.{Place}
use Rattle.runs_theory.specs.Objects.{Path, Name, Value, Cell}
use Rattle.runs_theory.specs.Actions.{Ending, Trapped, Own, Rest, Read, Write, Look, New, Print, Enter, Exit}
use Rattle.runs_theory.specs.Actions.{Action, Do, Fork, Begin, Join, End, Out, Program}
use Rattle.runs_theory.specs.Runs.{Event, Run, Upto, mine, count, Ended, trap_of, steps_of, cells_of}
use Rattle.lang_meaning.specs.Outcomes.{Outcome as OutcomeOf}
pub use Rattle.lang_meaning.specs.Outcomes.{Came, Limited}

-- paths that part at one fork in different branches
pub record Unordered (p q : Path) : Type 0 where
  pub below_p : Path
  pub below_q : Path
  pub above : Path
  pub u : ℕ × ℕ
  pub v : ℕ × ℕ
  pub one_fork : u.0 ≡ v.0
  pub apart : u.1 ≢ v.1
  pub p_is : p ≡ below_p ++ u ∷ above
  pub q_is : q ≡ below_q ++ v ∷ above

-- where the events numbered k and l of tasks p and q stand to each other in every run: the one is before the other in their
-- task, above a fork that the other is below, below a join that the other is after, or below an earlier fork of one task
pub data Before (p : Path) (k : ℕ) (q : Path) (l : ℕ) : Type 0 where
  in_task : p ≡ q → k < l → Before p k q l
  above_fork : (xs : Path) (u : ℕ × ℕ) → q ≡ xs ++ u ∷ p → k < u.0 → Before p k q l
  below_join : (xs : Path) (u : ℕ × ℕ) → p ≡ xs ++ u ∷ q → u.0 < l → Before p k q l
  across : (xs ys r : Path) (u v : ℕ × ℕ) → p ≡ xs ++ u ∷ r → q ≡ ys ++ v ∷ r → u.0 < v.0 → Before p k q l

-- neither a begin nor a join
pub record Passes (a : Action) : Type 0 where
  pub not_join : a ≡ Join → ⊥
  pub not_begin : (b : ℕ) → a ≡ Begin b → ⊥

-- nor a fork
abbrev pub IsPlain : Action → Type 0
IsPlain (Do o) = Unit {0}
IsPlain (End x) = Unit {0}
IsPlain (Fork ts) = ⊥
IsPlain (Begin b) = ⊥
IsPlain Join = ⊥

-- how two events of one run can stand to each other
pub data Related (p : Path) (k : ℕ) (q : Path) (l : ℕ) : Type 0 where
  one : p ≡ q → k ≡ l → Related p k q l
  first : Before p k q l → Related p k q l
  second : Before q l p k → Related p k q l
  neither : Unordered p q → Related p k q l

-- an access of a cell: a read or a write of it that was not out of bounds
pub record Reads (c : Cell) (e : Event) : Type 0 where
  pub act : e.act ≡ Do (Read c.object (pos c.slot))
  pub in_bounds : e.ans ≢ Out

pub record Writes (c : Cell) (e : Event) : Type 0 where
  pub value : Value
  pub act : e.act ≡ Do (Write c.object (pos c.slot) value)
  pub in_bounds : e.ans ≢ Out

-- accesses of one cell, of which one is a write
pub data Conflict (x y : Event) : Type 0 where
  read_write : (c : Cell) → Reads c x → Writes c y → Conflict x y
  write_read : (c : Cell) → Writes c x → Reads c y → Conflict x y
  write_write : (c : Cell) → Writes c x → Writes c y → Conflict x y

-- no two unordered events conflict
pub record Free (R : Run) : Type 0 where
  pub no : (Y X : Run) (y x : Event) → Upto (y ∷ Y) R → Upto (x ∷ X) Y → Unordered x.path y.path → Conflict x y → ⊥

-- of each task the events of the one run are a beginning of those of the other, or the other way round
pub record Agree (R S : Run) : Type 0 where
  pub both : (p : Path) → Upto (mine R p) (mine S p) ⊎ Upto (mine S p) (mine R p)

-- where an event stands in the order of elision: the number of the begin of each task on the way to it, from the root down,
-- and its own number
abbrev pub way : Path → List ℕ
way [] = []
way (u ∷ p) = way p ++ suc (u.0 + u.1) ∷ []

abbrev pub position : Path → ℕ → List ℕ
position p k = way p ++ k ∷ []

pub data Lex : List ℕ → List ℕ → Type 0 where
  shorter : {y : ℕ} {ys : List ℕ} → Lex [] (y ∷ ys)
  lower : {x y : ℕ} {xs ys : List ℕ} → x < y → Lex (x ∷ xs) (y ∷ ys)
  level_with : {x : ℕ} {xs ys : List ℕ} → Lex xs ys → Lex (x ∷ xs) (x ∷ ys)

-- the run stands in the order of elision: a task's events up to a fork, then each branch after its begin, then what follows
pub record InOrder (R : Run) : Type 0 where
  pub each : (y x : Event) (Y X : Run) → Upto (y ∷ Y) R → Upto (x ∷ X) Y → Lex (position x.path (count X x.path)) (position y.path (count Y y.path))

-- the first trap of a run
abbrev pub trap_in : Action → Option (Trap × Place) → Option (Trap × Place)
trap_in (End x) None = trap_of x None
trap_in (End x) (Some fell) = Some fell
trap_in (Do o) before = before
trap_in (Fork ts) before = before
trap_in (Begin b) before = before
trap_in Join before = before

unfoldable pub trapped : Run → Option (Trap × Place)
trapped [] = None
trapped (e ∷ R) = trap_in e.act (trapped R)

-- what a run prints up to its first trap
abbrev pub own_printed : Own → List ℕ
own_printed (Print bytes) = bytes
own_printed Rest = []
own_printed (Read n i) = []
own_printed (Write n i v) = []
own_printed (Look n) = []
own_printed (New t c) = []
own_printed (Enter E) = []
own_printed Exit = []

abbrev pub printed_by : Action → Option (Trap × Place) → List ℕ
printed_by (Do o) None = own_printed o
printed_by (Do o) (Some fell) = []
printed_by (Fork ts) before = []
printed_by (Begin b) before = []
printed_by Join before = []
printed_by (End x) before = []

unfoldable pub printed : Run → List ℕ
printed [] = []
printed (e ∷ R) = printed R ++ printed_by e.act (trapped R)

-- the first trap, else how the root ended
abbrev pub ending_of : Option (Trap × Place) → Ending → Ending
ending_of None x = x
ending_of (Some fell) x = Trapped fell.0 fell.1

abbrev pub Outcome : Type 0
Outcome = OutcomeOf Name

-- how a run comes out whose root has ended: by its events put into the order of elision
pub record Comes (P : Program) (R : Run) (o : Outcome) : Type 0 where
  pub end : Ending
  pub ended : Ended R [] end
  pub sorted : Run
  pub in_order : InOrder sorted
  pub events : (p : Path) → mine R p ≡ mine sorted p
  pub outcome : o ≡ Came (ending_of (trapped sorted) end) (printed sorted) (steps_of R) (cells_of P R)
