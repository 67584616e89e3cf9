-- What a task does that runs code: one clause an instruction. What an unfitting value or answer counts as is said by the
-- functions of the meaning.
use Rattle.std.specs.Int.{w32, int_wrapping_add}
use Rattle.std.specs.Prelude.{◌≡◌, ℕ, zero, suc, ◌-◌, ◌==◌, ℤ, pos, Bool, true, false, cond, if◌then◌else◌, List, [], ◌∷◌, ◌++◌, map, length, reverse, Option, Some, None, slice_get, slice_index_or, slice_set}
use Rattle.lang_base.specs.declared.place.Place.{Place}
use Rattle.lang_base.specs.declared.value.Trap.{Trap}
use Rattle.lang_base.specs.declared.value.Trap.TheVariants as trap
use Rattle.lang_base.specs.declared.value.FirstValue.{FirstValue}
use Rattle.lang_base.specs.declared.value.FirstValue.TheVariants as held
use Rattle.lang_base.specs.declared.op.BinaryOp.{BinaryOp}
use Rattle.lang_meaning.specs.Values.{Value, Int, Boolean, Null, Object, Region, An_object, An_array, Naming}
use Rattle.lang_meaning.specs.Actions.{Frame, Ending, Returned, Assigned, Trapped, Rest, Read, Write, Look, New, Print, Enter, Exit, Action, Do, Fork, Begin, Join, End, Answer, Reply, Next, Over, Unknown}
use Rattle.lang_meaning.specs.Counts.{number, truth, reference, value_read, is_out, length_seen, name_made, class_seen, class_entered, operated, unary, slot_value, padded, part_place, part_taken, how_many, assigned, Brought, Back, Trap_of_branch, brought, copied, text_of, line}
use Rattle.lang_meaning.specs.Regions.{around, concrete, concrete_effect, is_long, some_long, unmade_from, regions_above}
use Rattle.lang_meaning.specs.Expressions.{none}
use Rattle.lang_meaning.specs.Statements.{with_value, with_values, numbered_frame}
use Rattle.lang_meaning.specs.Asking.{most_ticks}
use Rattle.code_instrs.specs.declared.instr.Instr.{Instr}
use Rattle.code_instrs.specs.declared.instr.Instr.TheVariants as i
use Rattle.code_instrs.specs.Plain.{Line, Title, of_member, of_branch, Method, Site, fork_site, spread_site, block_site, call_site, new_site, array_site, PlainCode, body_at, class_at, parent_of, method_at, constructor_of, fields_of}

-- a body at work: where it stands, its frame and its stack
pub record Level (N M : Type 0) : Type 0 where
  pub body : ℕ
  pub at : ℕ
  pub frame : Frame N M
  pub stack : List (Value N)

-- how a branch starts
pub record Start (N M : Type 0) : Type 0 where
  pub body : ℕ
  pub frame : Frame N M

-- a task: at work in a body, with its callers, innermost first; rested in front of an entry; at its end; or in a body that
-- isn't there
pub data State (N M : Type 0) : Type 0 where
  On : (g : Level N M) (callers : List (Level N M)) → State N M
  Rested : (g : Level N M) (callers : List (Level N M)) → State N M
  Off : (e : Ending N) → State N M
  Nowhere : State N M

-- what a state leads to: a local step, a tick, a new local region, an action with what follows its answer, the end
pub data Stand (N M : Type 0) : Type 0 where
  Goes : (s : State N M) → Stand N M
  Ticks : (s : State N M) → Stand N M
  Makes : (k : M → State N M) → Stand N M
  Waits : (a : Action N M (Start N M)) (k : Answer N M → State N M) → Stand N M
  Ends : (e : Ending N) → Stand N M
  Stuck : Stand N M

-- at the next instruction, with this stack
abbrev pub next : {N M : Type 0} → Level N M → List (Value N) → List (Level N M) → State N M
next g st fs = On (record g { at = suc g.at; stack = st }) fs

abbrev pub pushes : {N M : Type 0} → Value N → Level N M → List (Level N M) → Stand N M
pushes v g fs = Goes (next g (v ∷ g.stack) fs)

-- the values on top of a stack
abbrev pub one : {N M : Type 0} → List (Value N) → (Value N → List (Value N) → Stand N M) → Stand N M
one [] k = Stuck
one (v ∷ st) k = k v st

abbrev pub two : {N M : Type 0} → List (Value N) → (Value N → Value N → List (Value N) → Stand N M) → Stand N M
two st k = one st (λ u more. one more (λ v rest. k v u rest))

abbrev pub three : {N M : Type 0} → List (Value N) → (Value N → Value N → Value N → List (Value N) → Stand N M) → Stand N M
three st k = one st (λ u more. two more (λ a i rest. k a i u rest))

-- so many, the latest first
abbrev pub taken : {N M : Type 0} → ℕ → List (Value N) → (List (Value N) → List (Value N) → Stand N M) → Stand N M
taken zero st k = k [] st
taken (suc n) [] k = Stuck
taken (suc n) (v ∷ st) k = taken n st (λ vs rest. k (v ∷ vs) rest)

abbrev pub trapped : {N M : Type 0} → Trap → Place → State N M
trapped t at = Off (Trapped t at)

abbrev pub or_trap : {N M A : Type 0} → Trap → Place → Option A → (A → Stand N M) → Stand N M
or_trap t at None k = Goes (trapped t at)
or_trap t at (Some x) k = k x

abbrev pub unless_null : {N M : Type 0} → Place → Value N → (N → Stand N M) → Stand N M
unless_null at v k = or_trap trap.Null at (reference v) k

-- after a read, a write
abbrev pub cell_read : {N M : Type 0} → Place → Option (Value N) → Level N M → List (Value N) → List (Level N M) → State N M
cell_read at None g st fs = trapped trap.Index at
cell_read at (Some v) g st fs = next g (v ∷ st) fs

abbrev pub cell_written : {N M : Type 0} → Place → Bool → Level N M → List (Value N) → List (Level N M) → State N M
cell_written at out g st fs = cond out (trapped trap.Index at) (next g st fs)

abbrev pub reads : {N M : Type 0} → Place → Value N → ℤ → Level N M → List (Value N) → List (Level N M) → Stand N M
reads at v i g st fs = unless_null at v (λ n. Waits (Do (Read n i)) (λ a. cell_read at (value_read a) g st fs))

abbrev pub writes : {N M : Type 0} → Place → Value N → ℤ → Value N → Level N M → List (Value N) → List (Level N M) → Stand N M
writes at v i u g st fs = unless_null at v (λ n. Waits (Do (Write n i u)) (λ a. cell_written at (is_out a) g st fs))

-- where another call or branch may be made
abbrev pub deeper : {N M : Type 0} → ℕ → Place → Stand N M → Stand N M
deeper zero at s = Goes (trapped trap.Stack at)
deeper (suc n) at s = s

abbrev pub unless_long : {N M : Type 0} → Bool → Place → Stand N M → Stand N M
unless_long long at s = cond long (Goes (trapped trap.Stack at)) s

-- at the beginning of a body that is called from a level
abbrev pub entered : {N M : Type 0} → Naming N M → PlainCode → ℕ → List (Value N) → List (Region M) → Level N M → List (Level N M) → State N M
entered names C j vs regions g fs =
    On (record {
      body = j;
      at = 0;
      frame = record {
        values = padded (body_at C j).slots vs;
        regions = regions;
        locals = unmade_from names 0 (body_at C j).local_regions;
        left = g.frame.left - 1;
      };
      stack = [];
    }) (g ∷ fs)

-- the body in the row of a class: its region parameters are those of its class, as the object has them, and then its own
abbrev pub calls_method : {N M : Type 0} → Naming N M → PlainCode → Option Method → ℕ × List (Region M) → List (Value N) → List (Region M) → Level N M →
    List (Level N M) → State N M
calls_method names C None seen vs own g fs = Nowhere
calls_method names C (Some m) seen vs own g fs =
    entered names C m.body vs (regions_above names (parent_of C) (length C.classes) seen.0 seen.1 m.owner ++ own) g fs

abbrev pub enters : {N M : Type 0} → Naming N M → PlainCode → ℕ × List (Region M) → ℕ → List (Value N) → List (Region M) → Level N M → List (Level N M) →
    State N M
enters names C seen r vs own g fs = calls_method names C (method_at C seen.0 r) seen vs own g fs

-- a call, by its site
abbrev pub calls : {N M : Type 0} → Naming N M → PlainCode → Place → ℕ → ℕ → List (Region M) → N → List (Value N) → Level N M → List (Value N) →
    List (Level N M) → Stand N M
calls names C at c r own n vs g st fs =
    deeper g.frame.left at (unless_long (some_long own) at (Waits (Do (Look n)) (λ a.
    enters names C (class_entered (parent_of C) (length C.classes) c (class_seen a)) r (Object n ∷ vs) own (record g { at = suc g.at; stack = st }) fs)))

abbrev pub called : {N M : Type 0} → Naming N M → PlainCode → Place → Option Site → Level N M → List (Level N M) → Stand N M
called names C at (Some (call_site c r formals regions)) g fs =
    taken formals g.stack (λ vs rest. one rest (λ v st. unless_null at v (λ n.
    calls names C at c r (map (concrete names (around g.frame)) regions) n (reverse vs) g st fs)))
called names C at site g fs = Stuck

-- a creation, by its site: the object stands on the caller's stack while its constructor runs
abbrev pub held_first : {N : Type 0} → FirstValue → Value N
held_first held.Zero = Int (pos 0)
held_first held.False = Boolean false
held_first held.Null = Null

abbrev pub creates : {N M : Type 0} → Naming N M → PlainCode → Place → ℕ → List (Region M) → List (Value N) → Option ℕ → Level N M → List (Value N) →
    List (Level N M) → Stand N M
creates names C at c regions vs None g st fs =
    Waits (Do (New (An_object c regions (map held_first (fields_of (class_at C c)))) false)) (λ a. next g (name_made a ∷ st) fs)
creates names C at c regions vs (Some j) g st fs =
    deeper g.frame.left at (Waits (Do (New (An_object c regions (map held_first (fields_of (class_at C c)))) true)) (λ a.
    entered names C j (name_made a ∷ vs) regions (record g { at = suc g.at; stack = name_made a ∷ st }) fs))

abbrev pub created : {N M : Type 0} → Naming N M → PlainCode → Place → Option Site → Level N M → List (Level N M) → Stand N M
created names C at (Some (new_site c formals regions)) g fs =
    taken formals g.stack (λ vs st. (let own = map (concrete names (around g.frame)) regions in
    unless_long (some_long own) at (creates names C at c own (reverse vs) (constructor_of C c) g st fs)))
created names C at site g fs = Stuck

-- the creation of an array, by its site
abbrev pub array_of : {N M : Type 0} → Place → Region M → FirstValue → ℤ → Level N M → List (Value N) → List (Level N M) → Stand N M
array_of at region first (pos k) g st fs =
    unless_long (is_long region) at (Waits (Do (New (An_array region k (held_first first)) false)) (λ a. next g (name_made a ∷ st) fs))
array_of at region first len g st fs = Goes (trapped trap.Size at)

abbrev pub makes_array : {N M : Type 0} → Naming N M → Place → Option Site → Level N M → List (Level N M) → Stand N M
makes_array names at (Some (array_site region first)) g fs =
    one g.stack (λ v st. array_of at (concrete names (around g.frame) region) first (number v) g st fs)
makes_array names at site g fs = Stuck

-- back in the caller, with a value or without one; the first frame ends with a value either way
abbrev pub returned : {N M : Type 0} → Value N → List (Level N M) → State N M
returned v [] = Off (Returned v)
returned v (g ∷ fs) = On (record g { stack = v ∷ g.stack }) fs

abbrev pub left_with : {N M : Type 0} → Value N → List (Level N M) → State N M
left_with v [] = Off (Returned v)
left_with v (g ∷ fs) = On g fs

-- branches begin one call deeper
abbrev pub below : {N M : Type 0} → Frame N M → Frame N M
below f = record f { left = f.left - 1 }

abbrev pub started : {N M : Type 0} → List ℕ → Frame N M → List (Start N M)
started js f = map (λ j. record { body = j; frame = below f }) js

abbrev pub forked : {N M : Type 0} → Place → Option Site → Level N M → List (Level N M) → Stand N M
forked at (Some (fork_site forking js copies)) g fs =
    deeper g.frame.left at (Waits (Fork (record { kind = forking; tasks = started js g.frame })) (λ a. next g (Int (pos (length js)) ∷ g.stack) fs))
forked at site g fs = Stuck

-- a branch for each number
abbrev pub each_started : {N M : Type 0} → ℕ → ℕ → Frame N M → ℤ → ℕ → ℕ → List (Start N M)
each_started j x f start i zero = []
each_started j x f start i (suc n) = record { body = j; frame = below (numbered_frame x start i f) } ∷ each_started j x f start (suc i) n

-- so many are left, the next has this number, and there are so many in all
abbrev pub waiting : {N : Type 0} → ℕ → ℤ → ℕ → List (Value N) → List (Value N)
waiting left next total st = Int (pos left) ∷ Int next ∷ Int (pos total) ∷ st

abbrev pub spread : {N M : Type 0} → Place → Option Site → Level N M → List (Level N M) → Stand N M
spread at (Some (spread_site forking j x)) g fs =
    two g.stack (λ start count st. deeper g.frame.left at
    (Waits (Fork (record { kind = forking; tasks = each_started j x g.frame (number start) 0 (how_many (number count)) }))
    (λ a. next g (waiting (how_many (number count)) (number start) (how_many (number count)) st) fs)))
spread at site g fs = Stuck

-- after a join
abbrev pub joined : {N M : Type 0} → List ℕ → Brought N → Level N M → List (Level N M) → State N M
joined copies (Back ls) g fs = On (record g { at = suc g.at; frame = with_values g.frame (copied copies ls g.frame.values) }) fs
joined copies (Trap_of_branch t place) g fs = trapped t place

abbrev pub all_copied : List (List ℕ) → List ℕ
all_copied [] = []
all_copied (c ∷ cs) = c ++ all_copied cs

-- a branch begins, or all are joined, after a fork; and after a spread, whose next number rises
abbrev pub joins_fork : {N M : Type 0} → ℕ → List ℕ → ℕ → Level N M → List (Value N) → List (Level N M) → Stand N M
joins_fork total copies zero g st fs = Waits Join (λ a. joined copies (brought a) (record g { stack = st }) fs)
joins_fork total copies (suc left) g st fs = Waits (Begin (total - suc left)) (λ a. On (record g { stack = Int (pos left) ∷ st }) fs)

abbrev pub joins_spread : {N M : Type 0} → Value N → ℕ → ℕ → Level N M → List (Value N) → List (Level N M) → Stand N M
joins_spread next total zero g st fs = Waits Join (λ a. joined [] (brought a) (record g { stack = st }) fs)
joins_spread next total (suc left) g st fs =
    Waits (Begin (total - suc left)) (λ a. On (record g { stack = waiting left (int_wrapping_add w32 (number next) (pos 1)) total st }) fs)

abbrev pub joins_site : {N M : Type 0} → Option Site → Level N M → List (Level N M) → Stand N M
joins_site (Some (fork_site forking js copies)) g fs =
    one g.stack (λ left st. joins_fork (length js) (all_copied copies) (how_many (number left)) g st fs)
joins_site (Some (spread_site forking j x)) g fs =
    one g.stack (λ left more. two more (λ total next st. joins_spread next (how_many (number total)) (how_many (number left)) g st fs))
joins_site site g fs = Stuck

-- a join belongs to the fork or the spread before it
abbrev pub branch_site : Instr → Option ℕ
branch_site (i.Fork s) = Some s
branch_site (i.Spread s) = Some s
branch_site x = None

abbrev pub site_of : Option Line → Option ℕ
site_of None = None
site_of (Some l) = branch_site l.instr

abbrev pub line_before : List Line → ℕ → Option Line
line_before lines zero = None
line_before lines (suc p) = slice_get lines p

abbrev pub joins : {N M : Type 0} → PlainCode → Option ℕ → Level N M → List (Level N M) → Stand N M
joins C None g fs = Stuck
joins C (Some s) g fs = joins_site (slice_get C.sites s) g fs

-- a branch gives back the slots that its fork copies back from it
abbrev pub copies_at : Option Site → ℕ → List ℕ
copies_at (Some (fork_site forking js copies)) b = slice_index_or copies b []
copies_at site b = []

abbrev pub copies_of : PlainCode → Title → List ℕ
copies_of C of_member = []
copies_of C (of_branch s b) = copies_at (slice_get C.sites s) b

abbrev pub ends_branch : {N M : Type 0} → PlainCode → Level N M → List (Level N M) → Stand N M
ends_branch C g [] = Goes (Off (Assigned (assigned (copies_of C (body_at C g.body).title) g.frame.values)))
ends_branch C g (f ∷ fs) = Stuck

-- an index of a part becomes the array and the place in it
abbrev pub in_part : {N M : Type 0} → Place → ℕ → Value N → Level N M → (ℤ → Value N → Stand N M) → Stand N M
in_part at k v g j = or_trap trap.Index at (part_place k (number v) g.frame.values) (λ p. j p (slot_value g.frame.values k))

abbrev pub operates : {N M : Type 0} → Naming N M → Place → BinaryOp → Level N M → List (Level N M) → Stand N M
operates names at o g fs = two g.stack (λ v u st. or_trap trap.Divide at (operated names.same o v u) (λ w. Goes (next g (w ∷ st) fs)))

abbrev pub exec : {N M : Type 0} → Naming N M → PlainCode → Place → Instr → Level N M → List (Level N M) → Stand N M
exec names C at (i.Int k) g fs = pushes (Int k) g fs
exec names C at (i.Bool b) g fs = pushes (Boolean b) g fs
exec names C at i.Null g fs = pushes Null g fs
exec names C at (i.Load k) g fs = pushes (slot_value g.frame.values k) g fs
exec names C at (i.Store k) g fs = one g.stack (λ v st. Goes (On (record g { at = suc g.at; frame = with_value g.frame k v; stack = st }) fs))
exec names C at i.Pop g fs = one g.stack (λ v st. Goes (next g st fs))
exec names C at (i.Unary o) g fs = one g.stack (λ v st. Goes (next g (unary o v ∷ st) fs))
exec names C at (i.Binary o) g fs = operates names at o g fs
exec names C at (i.Jump l) g fs = Goes (On (record g { at = l }) fs)
exec names C at (i.Unless l) g fs = one g.stack (λ v st. Goes (On (record g { at = cond (truth v) (suc g.at) l; stack = st }) fs))
exec names C at i.Turn g fs = Ticks (next g g.stack fs)
exec names C at (i.Get k) g fs = one g.stack (λ v st. reads at v (pos k) g st fs)
exec names C at (i.Put k) g fs = two g.stack (λ v u st. writes at v (pos k) u g st fs)
exec names C at i.Elem g fs = two g.stack (λ v j st. reads at v (number j) g st fs)
exec names C at i.PutElem g fs = three g.stack (λ v j u st. writes at v (number j) u g st fs)
exec names C at i.Length g fs = one g.stack (λ v st. unless_null at v (λ n. Waits (Do (Look n)) (λ a. next g (Int (pos (length_seen a)) ∷ st) fs)))
exec names C at (i.Call s) g fs = called names C at (slice_get C.sites s) g fs
exec names C at (i.New s) g fs = created names C at (slice_get C.sites s) g fs
exec names C at (i.Array s) g fs = makes_array names at (slice_get C.sites s) g fs
exec names C at i.Return g fs = one g.stack (λ v st. Goes (returned v fs))
exec names C at i.Leave g fs = Goes (left_with none fs)
exec names C at i.Print g fs = one g.stack (λ v st. Waits (Do (Print (line (text_of v)))) (λ a. next g st fs))
exec names C at (i.Text t) g fs = Waits (Do (Print (line (slice_index_or C.texts t [])))) (λ a. next g g.stack fs)
exec names C at (i.Fork s) g fs = forked at (slice_get C.sites s) g fs
exec names C at (i.Spread s) g fs = spread at (slice_get C.sites s) g fs
exec names C at i.Join g fs = joins C (site_of (line_before (body_at C g.body).lines g.at)) g fs
-- in front of an entry the task rests
exec names C at (i.Enter s) g fs = Waits (Do Rest) (λ a. Rested g fs)
exec names C at i.Exit g fs = Waits (Do Exit) (λ a. next g g.stack fs)
exec names C at i.End g fs = ends_branch C g fs
exec names C at (i.Region r) g fs = Makes (λ m. On (record g { at = suc g.at; frame = record g.frame { locals = slice_set g.frame.locals r m } }) fs)
exec names C at (i.Part k) g fs = Goes (On (record g { at = suc g.at; frame = with_values g.frame (part_taken k g.frame.values) }) fs)
exec names C at (i.InPart k) g fs = one g.stack (λ v st. in_part at k v g (λ p a. Goes (next g (Int p ∷ a ∷ st) fs)))
exec names C at (i.InParts k) g fs = two g.stack (λ v u st. in_part at k v g (λ p a. Goes (next g (u ∷ Int p ∷ a ∷ st) fs)))

abbrev pub exec_line : {N M : Type 0} → Naming N M → PlainCode → Option Line → Level N M → List (Level N M) → Stand N M
exec_line names C None g fs = Stuck
exec_line names C (Some l) g fs = exec names C l.place l.instr g fs

-- a task that has rested enters the block
abbrev pub enters_block : {N M : Type 0} → Naming N M → Option Site → Level N M → List (Level N M) → Stand N M
enters_block names (Some (block_site effects)) g fs = Waits (Do (Enter (map (concrete_effect names (around g.frame)) effects))) (λ a. next g g.stack fs)
enters_block names site g fs = Stuck

abbrev pub rested_at : {N M : Type 0} → Naming N M → PlainCode → Instr → Level N M → List (Level N M) → Stand N M
rested_at names C (i.Enter s) g fs = enters_block names (slice_get C.sites s) g fs
rested_at names C x g fs = Stuck

abbrev pub rested_line : {N M : Type 0} → Naming N M → PlainCode → Option Line → Level N M → List (Level N M) → Stand N M
rested_line names C None g fs = Stuck
rested_line names C (Some l) g fs = rested_at names C l.instr g fs

unfoldable pub step : {N M : Type 0} → Naming N M → PlainCode → State N M → Stand N M
step names C (On g fs) = exec_line names C (slice_get (body_at C g.body).lines g.at) g fs
step names C (Rested g fs) = rested_line names C (slice_get (body_at C g.body).lines g.at) g fs
step names C (Off e) = Ends e
step names C Nowhere = Stuck

-- what a task stands at from a state on, where it has made so many ticks since its last answer and so many local regions,
-- on these answers; none, where that isn't found
abbrev pub Solos : Type 0 → Type 0 → Type 0
Solos N M = ℕ → ℕ → State N M → List (Answer N M) → Option (Reply N M (Start N M))

-- an action, and what follows its answer
abbrev pub answered : {N M : Type 0} → Solos N M → ℕ → ℕ → Action N M (Start N M) → (Answer N M → State N M) → List (Answer N M) →
    Option (Reply N M (Start N M))
answered more ticks made a k [] = Some (Next ticks a)
answered more ticks made a k (x ∷ xs) = more 0 made (k x) xs

-- one tick; the last that may be made without an event is followed by a rest
abbrev pub ticked : {N M : Type 0} → Solos N M → ℕ → ℕ → State N M → List (Answer N M) → Option (Reply N M (Start N M))
ticked more ticks made s xs = if suc ticks == most_ticks then answered more (suc ticks) made (Do Rest) (λ x. s) xs else more (suc ticks) made s xs

abbrev pub stood : {N M : Type 0} → Naming N M → Solos N M → ℕ → ℕ → Stand N M → List (Answer N M) → Option (Reply N M (Start N M))
stood names more ticks made (Goes s) xs = more ticks made s xs
stood names more ticks made (Ticks s) xs = ticked more ticks made s xs
-- a new local region counts as a tick
stood names more ticks made (Makes k) xs = ticked more ticks (suc made) (k (names.made made)) xs
stood names more ticks made (Waits a k) xs = answered more ticks made a k xs
stood names more ticks made (Ends e) [] = Some (Next ticks (End e))
stood names more ticks made (Ends e) (x ∷ xs) = Some Over
stood names more ticks made Stuck xs = Some Unknown

-- in less than so many steps
abbrev pub solo : {N M : Type 0} → Naming N M → PlainCode → ℕ → Solos N M
solo names C zero ticks made s xs = None
solo names C (suc fuel) ticks made s xs = stood names (λ n m t ys. solo names C fuel n m t ys) ticks made (step names C s) xs

-- at work in a body, at a place
abbrev pub spot : {N M : Type 0} → ℕ → List (Level N M) → ℕ → List (Value N) → Frame N M → State N M
spot b fs p st f = On (record { body = b; at = p; frame = f; stack = st }) fs

-- at the beginning of a body
abbrev pub begins_at : {N M : Type 0} → Start N M → State N M
begins_at b = spot b.body [] 0 [] b.frame

-- the start of a run: `main` on an object and its argument, at the first of 500 depths
abbrev pub root_start : {N M : Type 0} → Naming N M → PlainCode → N → ℤ → Start N M
root_start names C object argument = record {
  body = C.main_body;
  frame = record {
    values = padded (body_at C C.main_body).slots (Object object ∷ Int argument ∷ []);
    regions = [];
    locals = unmade_from names 0 (body_at C C.main_body).local_regions;
    left = 499;
  };
}

-- on these answers, of which the latest stands first, the task's solo run stands at this reply; unknown, where it is stuck
pub record Solo {N M : Type 0} (names : Naming N M) (C : PlainCode) (b : Start N M) (got : List (Answer N M)) (r : Reply N M (Start N M)) : Type 0 where
  pub fuel : ℕ
  pub stands : solo names C fuel 0 0 (begins_at b) (reverse got) ≡ Some r
