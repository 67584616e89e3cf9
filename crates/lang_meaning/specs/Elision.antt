-- The serial elision: the same meaning with one heap, branches run one after the other, and blocks run through.
use Rattle.std.specs.Prelude.{ℕ, zero, suc, ◌+◌, ◌==◌, nat_lt, ◌||◌, cond, ℤ, pos, negsuc, true, List, [], ◌∷◌, ◌++◌, length, replicate, Option, Some, None}
use Rattle.std.specs.Prelude.{slice_get, slice_set}
use Rattle.lang_base.specs.declared.place.Place.{Place}
use Rattle.lang_base.specs.declared.value.Trap.{Trap}
use Rattle.lang_base.specs.declared.outcome.Limits.{Limits}
use Rattle.lang_typed.specs.Plain.{PlainProgram, PlainMember, no_stmts}
use Rattle.lang_typed.specs.Scope.{member_at}
use Rattle.lang_meaning.specs.Values.{Value, Int, Object, Thing, An_object, An_array, Naming}
use Rattle.lang_meaning.specs.Actions.{Work, Task, Ending, Trapped, Own, Rest, Read, Write, Look, New, Print, Enter, Exit}
use Rattle.lang_meaning.specs.Actions.{Answer, Went, Got, Out, Class, Length, Named}
use Rattle.lang_meaning.specs.Asking.{ended, does}
use Rattle.lang_meaning.specs.Core.{Result, Done, Stopped, Lost, bind, World, run}
use Rattle.lang_meaning.specs.Core.{Out as out}
use Rattle.lang_meaning.specs.Costs.{size, own_steps, own_cells}
use Rattle.lang_meaning.specs.Counts.{brought}
use Rattle.lang_meaning.specs.Expressions.{entered, new_object}
use Rattle.lang_meaning.specs.Outcomes.{joined, Outcome, Came, Limited}

-- a local region: one that was made, counted over the whole run, or one that is declared and not made yet
pub data LocalRegion : Type 0 where
  Made : (number : ℕ) → LocalRegion
  Unmade : (declaration : ℕ) → LocalRegion

-- objects and arrays are numbered as they are made
abbrev pub in_order : Naming ℕ LocalRegion
in_order = record { same = λ n m. n == m; made = Made; unmade = Unmade }

-- an object or an array, and the values of its fields or elements
pub record Held : Type 0 where
  pub thing : Thing ℕ LocalRegion
  pub values : List (Value ℕ)

-- a new one
abbrev pub held : Thing ℕ LocalRegion → Held
held (An_object class regions fields) = record { thing = An_object class regions fields; values = fields }
held (An_array region len element) = record { thing = An_array region len element; values = replicate len element }

abbrev pub Heap : Type 0
Heap = List Held

pub record Store : Type 0 where
  pub heap : Heap
  -- how many local regions have been made
  pub regions : ℕ
  -- what was printed up to the first trap, and that trap
  pub output : List ℕ
  pub trap : Option (Trap × Place)
  pub steps : ℕ
  pub cells : ℕ
  -- how many ticks may still be made
  pub ticks : ℕ

-- what stands at an index, or nothing where it is negative or out of bounds
abbrev pub at_index : {A : Type 0} → List A → ℤ → Option A
at_index vs (pos k) = slice_get vs k
at_index vs (negsuc k) = None

abbrev pub set_at : {A : Type 0} → List A → ℤ → A → List A
set_at vs (pos k) v = slice_set vs k v
set_at vs (negsuc k) v = vs

-- the answers; no run of a well-typed program uses a name that nothing has
abbrev pub read_of : Option Held → ℤ → Answer ℕ LocalRegion
read_of None i = Went
read_of (Some h) i = elim (at_index h.values i) [ None ↦ Out | Some v ↦ Got v ]

abbrev pub write_of : Option Held → ℤ → Answer ℕ LocalRegion
write_of None i = Went
write_of (Some h) i = elim (at_index h.values i) [ None ↦ Out | Some v ↦ Went ]

abbrev pub seen : Thing ℕ LocalRegion → Answer ℕ LocalRegion
seen (An_object class regions fields) = Class class regions
seen (An_array region len element) = Length len

abbrev pub look_of : Option Held → Answer ℕ LocalRegion
look_of None = Went
look_of (Some h) = seen h.thing

abbrev pub answer : Heap → Own ℕ LocalRegion → Answer ℕ LocalRegion
answer heap (Read n i) = read_of (slice_get heap n) i
answer heap (Write n i v) = write_of (slice_get heap n) i
answer heap (Look n) = look_of (slice_get heap n)
answer heap (New t c) = Named (length heap)
answer heap Rest = Went
answer heap (Print bytes) = Went
answer heap (Enter effects) = Went
answer heap Exit = Went

-- the heap after it
abbrev pub written : Heap → ℕ → Option Held → ℤ → Value ℕ → Heap
written heap n None i v = heap
written heap n (Some h) i v = slice_set heap n (record h { values = set_at h.values i v })

abbrev pub heap_after : Own ℕ LocalRegion → Heap → Heap
heap_after (Write n i v) heap = written heap n (slice_get heap n) i v
heap_after (New t c) heap = heap ++ held t ∷ []
heap_after (Read n i) heap = heap
heap_after (Look n) heap = heap
heap_after Rest heap = heap
heap_after (Print bytes) heap = heap
heap_after (Enter effects) heap = heap
heap_after Exit heap = heap

-- nothing is printed after the first trap
abbrev pub printed : Own ℕ LocalRegion → Option (Trap × Place) → List ℕ
printed (Print bytes) None = bytes
printed (Print bytes) (Some fell) = []
printed (Read n i) fell = []
printed (Write n i v) fell = []
printed (Look n) fell = []
printed (New t c) fell = []
printed Rest fell = []
printed (Enter effects) fell = []
printed Exit fell = []

abbrev pub after : Own ℕ LocalRegion → Store → Store
after o w = record w {
  heap = heap_after o w.heap;
  output = w.output ++ printed o w.trap;
  steps = own_steps o + w.steps;
  cells = own_cells o + w.cells;
}

abbrev pub Steps : Type 0 → Type 0
Steps V = Store → out ℕ LocalRegion V Store

-- a tick costs a step
abbrev pub one_tick : ℕ → Steps (Unit {0})
one_tick zero w = Lost w
one_tick (suc n) w = Done tt (record w { steps = suc w.steps; ticks = n })

-- a new local region counts as a tick
abbrev pub new_region : Steps LocalRegion
new_region w = bind (one_tick w.ticks w) (λ u v. Done (Made v.regions) (record v { regions = suc v.regions }))

abbrev pub one_step : Store → Store
one_step w = record w { steps = suc w.steps }

-- the first trap stays
abbrev pub first_of : Option (Trap × Place) → Trap × Place → Option (Trap × Place)
first_of None fell = Some fell
first_of (Some earlier) fell = Some earlier

-- a task that has run is at its end
abbrev pub at_end : Work → out ℕ LocalRegion (Result ℕ LocalRegion) Store → out ℕ LocalRegion (Ending ℕ) Store
at_end k (Done r w) = Done (ended k r) w
at_end k (out.Trapped trap p w) = Done (Trapped trap p) (record w { trap = first_of w.trap (trap, p) })
at_end k (Stopped n a) = Stopped n a
at_end k (Lost w) = Lost w

-- the branches one after the other, each begun by a step; those after one that traps run too, for what they do and cost
abbrev pub one_by_one : List (Task ℕ LocalRegion) → List (Steps (Result ℕ LocalRegion)) → Steps (List (Ending ℕ))
one_by_one [] ms w = Done [] w
one_by_one (t ∷ ts) [] w = Done [] w
one_by_one (t ∷ ts) (m ∷ ms) w = bind (at_end t.work (m (one_step w))) (λ x v. bind (one_by_one ts ms v) (λ xs u. Done (x ∷ xs) u))

-- a fork and a join each cost a step
abbrev pub sequential : World ℕ LocalRegion Store
sequential = record {
  ticks = λ w. suc w.ticks;
  act = λ o w. Done (answer w.heap o) (after o w);
  tick = λ w. one_tick w.ticks w;
  make = new_region;
  fork = λ forking ts bodies w. bind (one_by_one ts bodies (one_step w)) (λ xs v. Done (brought {M = LocalRegion} (joined xs)) (one_step v));
}

-- the root: `main` of the first object on an argument; it may go 499 calls deeper
abbrev pub enters_main : {N M : Type 0} → Naming N M → N → ℤ → Option PlainMember → Task N M
enters_main names first arg None = record {
  work = record { is_root = true; takes = None; copies = []; stmts = no_stmts };
  frame = record { values = []; regions = []; locals = []; left = 499 };
}
enters_main names first arg (Some m) = record {
  work = record { is_root = true; takes = None; copies = []; stmts = m.body };
  frame = entered names m (Object first ∷ Int arg ∷ []) [] 499;
}

abbrev pub root_task : {N M : Type 0} → Naming N M → PlainProgram → N → ℤ → Task N M
root_task names P first arg = enters_main names first arg (member_at P P.main_member)

-- the object that stands at the start
abbrev pub main_object : {N M : Type 0} → PlainProgram → Thing N M
main_object P = new_object P P.main_class []

-- with so many ticks: the entry of `main` costs a step, and the object its cells
abbrev pub at_start : PlainProgram → ℕ → Store
at_start P n = record {
  heap = held (main_object P) ∷ [];
  regions = 0;
  output = [];
  trap = None;
  steps = 1;
  cells = suc (size (main_object {N = ℕ} {M = LocalRegion} P));
  ticks = n;
}

-- how the elision ends in at most so many ticks, and what it leaves
unfoldable pub ran_through : PlainProgram → ℤ → ℕ → out ℕ LocalRegion (Ending ℕ) Store
ran_through P arg n = (let t : Task ℕ LocalRegion = root_task in_order P 0 arg in
    at_end t.work (run sequential (does in_order P t) (at_start P n)))

abbrev pub judged : Limits → out ℕ LocalRegion (Ending ℕ) Store → Outcome ℕ
judged L (Done x w) = cond (nat_lt L.steps w.steps || nat_lt L.cells w.cells) (Limited L.steps L.cells) (Came x w.output w.steps w.cells)
judged L (out.Trapped trap p w) = Limited L.steps L.cells
judged L (Stopped n a) = Limited L.steps L.cells
judged L (Lost w) = Limited L.steps L.cells

-- the outcome: where the elision ends within both limits at full cost. Each tick costs a step, so one tick more than the limit of
-- steps is enough
unfoldable pub elided : PlainProgram → ℤ → Limits → Outcome ℕ
elided P arg L = judged L (ran_through P arg (suc L.steps))
