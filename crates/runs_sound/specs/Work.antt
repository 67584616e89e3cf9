-- When the work of a task is in order: each of its actions, whatever fitting answers it gets.
use Rattle.std.specs.Prelude.{◌≡◌, ◌<◌, ◌≤◌, ◌^◌, ℕ, suc, ℤ, Bool, true, false, List, [], ◌∷◌, Option, Some, None}
use Rattle.lang_base.specs.declared.elems.Elem.{Elem}
use Rattle.lang_base.specs.declared.region.Rpl.{Rpl}
use Rattle.lang_base.specs.Matching.{Env, put_in}
use Rattle.lang_base.specs.Types.{PlainType}
use Rattle.lang_typed.specs.Plain.{PlainProgram}
use Rattle.lang_typed.specs.Scope.{Scope}
use Rattle.lang_meaning.specs.Core.{Result as ResultOf, Goes_on, Returns, Prog as ProgOf, Ret, Traps, Act, Makes, Again, Split}
use Rattle.lang_meaning.specs.Counts.{Brought as BroughtOf}
use Rattle.runs_theory.specs.Actions.{Own, Rest, Read, Write, Look, New, Print, Enter, Exit, Answer, Went, Got, Out, Class, Length, Named, Joined, Fell}
use Rattle.runs_theory.specs.Objects.{Path, Name, LocalRegion, Made, Value}
use Rattle.runs_sound.specs.Settings.{Setting, env_of}
use Rattle.runs_sound.specs.Shapes.{Shape, object, elements, Shapes, Grows, FitsIn, CellAt, Describes}
use Rattle.runs_sound.specs.Accesses.{Access, Bounds, Entry, is_guarded, Allowed, MayEnterWith}
use Rattle.runs_sound.specs.Frames.{Frame, State, Since, FrameFits}
use Rattle.runs_sound.specs.Branches.{Forks, Brings}

abbrev pub Result : Type 0
Result = ResultOf Name LocalRegion

abbrev pub Prog : Type 0
Prog = ProgOf Name LocalRegion

abbrev pub Brought : Type 0
Brought = BroughtOf Name

-- the cell at an index of something that was made
pub record Touches (P : PlainProgram) (S : Shapes) (n : Name) (i : ℤ) : Type 0 where
  pub shape : Shape
  pub is : S n ≡ Some shape
  pub env : Env
  pub ty : PlainType
  pub rpl : Rpl
  pub cell : CellAt P shape i env ty rpl

-- it is accessed
abbrev pub access_of : Bounds → State → Name → ℤ → Bool → List Elem → Access
access_of b st n i write region = record { object = n; index = i; write = write; guarded = is_guarded b st.entries; region = region; of_cell = true }

-- an access that is allowed, of a cell that is there
pub record Reaches (P : PlainProgram) (b : Bounds) (st : State) (n : Name) (i : ℤ) (write : Bool) : Type 0 where
  pub cell : Touches P st.shapes n i
  pub allowed : Allowed b st.entries (access_of b st n i write (put_in cell.env cell.rpl).elems)

-- an action in order: what is accessed or looked at is there, accesses and effects of entries are allowed, and what is written has the
-- cell's type; of a new object or array it is said what it is
abbrev pub Moves : PlainProgram → Bounds → State → Own → Type 0
Moves P b st (Read n i) = Reaches P b st n i false
Moves P b st (Write n i v) = (r : Reaches P b st n i true) × FitsIn P st.shapes r.cell.env r.cell.ty v
Moves P b st (Look n) = (s : Shape) × (st.shapes n ≡ Some s)
Moves P b st (New thing constructor) = (s : Shape) × Describes P s thing
Moves P b st Rest = Unit {0}
Moves P b st (Print bytes) = Unit {0}
Moves P b st (Enter effects) = MayEnterWith b st.entries effects
Moves P b st Exit = Unit {0}

-- only an array's index is out of bounds
abbrev pub IsArray : Shape → Type 0
IsArray (object c rs) = ⊥
IsArray (elements g t a) = Unit {0}

abbrev pub ReadFits : {P : PlainProgram} {S : Shapes} {n : Name} {i : ℤ} → Touches P S n i → Shapes → Answer → Type 0
ReadFits {P} c T (Got v) = FitsIn P T c.env c.ty v
ReadFits c T Out = IsArray c.shape
ReadFits c T Went = ⊥
ReadFits c T (Class d rs) = ⊥
ReadFits c T (Length len) = ⊥
ReadFits c T (Named n) = ⊥
ReadFits c T (Joined ls) = ⊥
ReadFits c T (Fell trap place) = ⊥

abbrev pub WriteFits : {P : PlainProgram} {S : Shapes} {n : Name} {i : ℤ} → Touches P S n i → Answer → Type 0
WriteFits c Went = Unit {0}
WriteFits c Out = IsArray c.shape
WriteFits c (Got v) = ⊥
WriteFits c (Class d rs) = ⊥
WriteFits c (Length len) = ⊥
WriteFits c (Named n) = ⊥
WriteFits c (Joined ls) = ⊥
WriteFits c (Fell trap place) = ⊥

abbrev pub LookFits : Shape → Answer → Type 0
LookFits (object c rs) x = x ≡ Class c rs
LookFits (elements g t a) x = (len : ℕ) × (len < 2 ^ 31) × (x ≡ Length len)

-- the answer to an action in order, and what has been made then
abbrev pub Answers : (P : PlainProgram) (b : Bounds) (st : State) (o : Own) → Moves P b st o → Answer → State → Type 0
Answers P b st (Read n i) m x h = ReadFits m.cell h.shapes x
Answers P b st (Write n i v) m x h = WriteFits m.0.cell x
Answers P b st (Look n) m x h = LookFits m.0 x
Answers P b st (New thing constructor) m x h = (n : Name) × (x ≡ Named n) × (h.shapes n ≡ Some m.0)
Answers P b st Rest m x h = x ≡ Went
Answers P b st (Print bytes) m x h = x ≡ Went
Answers P b st (Enter effects) m x h = x ≡ Went
Answers P b st Exit m x h = x ≡ Went

abbrev pub without_latest : List Entry → List Entry
without_latest [] = []
without_latest (E ∷ Es) = Es

-- after an action of a task that had made so many local regions
abbrev pub entries_after : ℕ → Own → List Entry → List Entry
entries_after made (Enter effects) entries = record { effects = effects; made = made } ∷ entries
entries_after made Exit entries = without_latest entries
entries_after made Rest entries = entries
entries_after made (Read n i) entries = entries
entries_after made (Write n i v) entries = entries
entries_after made (Look n) entries = entries
entries_after made (New thing constructor) entries = entries
entries_after made (Print bytes) entries = entries

-- the task stands there after an action of its own; other tasks may have made more
pub record After (o : Own) (s t : State) : Type 0 where
  pub grows : Grows s.shapes t.shapes
  pub made : t.made ≡ s.made
  pub entries : t.entries ≡ entries_after s.made o s.entries

-- at each of these entries it had made at most so many local regions
abbrev pub EnteredBefore : ℕ → List Entry → Type 0
EnteredBefore made [] = Unit {0}
EnteredBefore made (E ∷ Es) = (E.made ≤ made) × EnteredBefore made Es

-- and after it has made a local region, later than it made these entries
pub record AfterMaking (s t : State) : Type 0 where
  pub grows : Grows s.shapes t.shapes
  pub made : t.made ≡ suc s.made
  pub entries : t.entries ≡ s.entries
  pub before : EnteredBefore s.made s.entries

-- a value that fits the type of what a `return` gives
abbrev pub ReturnFits : PlainProgram → Shapes → Setting → Option PlainType → Value → Type 0
ReturnFits P S g None v = ⊥
ReturnFits P S g (Some t) v = FitsIn P S (env_of g) t v

-- locals that fit, or a value of the type that a `return` gives
abbrev pub GoesFitting : PlainProgram → Path → Setting → Scope → State → Result → Type 0
GoesFitting P p g L h (Goes_on v f) = FrameFits P p h g L f
GoesFitting P p g L h (Returns v) = ReturnFits P h.shapes g L.result v

-- what holds after a part of a loop that began in this state
abbrev pub Rounds : PlainProgram → Path → State → Setting → Scope → State → Result → Type 0
Rounds P p st g L h r = Since st h × GoesFitting P p g L h r

-- each action is in order, whatever fits as its answer; a loop keeps locals that fit; branches are in order at their fork; and
-- where the work is done, this holds
unfoldable pub InOrder : PlainProgram → Bounds → (State → Result → Type 0) → State → Prog → Type 0
InOrder P b Q st (Ret r) = Q st r
InOrder P b Q st (Traps trap place) = Unit {0}
InOrder P b Q st (Act o k) = (m : Moves P b st o) × ((x : Answer) (h : State) → After o st h → Answers P b st o m x h → InOrder P b Q h (k x))
InOrder P b Q st (Makes k) = (h : State) → AfterMaking st h → InOrder P b Q h (k (Made b.path st.made))
InOrder P b Q st (Again test body f k) =
    (L : Scope) × (g : Setting) × FrameFits P b.path st g L f
    × ((h : State) (e : Frame) → Since st h → FrameFits P b.path h g L e → InOrder P b (Rounds P b.path h g L) h (test e))
    × ((h : State) (e : Frame) → Since st h → FrameFits P b.path h g L e → InOrder P b (Rounds P b.path h g L) h (body e))
    × ((h : State) (r : Result) → Rounds P b.path st g L h r → InOrder P b Q h (k r))
InOrder P b Q st (Split forking ts does k) =
    (forks : Forks P b st forking ts) × ((x : Brought) (h : State) → Since st h → Brings P b st forking ts forks h x → InOrder P b Q h (k x))
