-- The store of the code, as that of the elision.
use Rattle.std.specs.Prelude.{◌≡◌, ◌<◌, ◌≤◌, ◌+◌, ℕ, suc, ◌-◌, All, List, map, length}
use Rattle.lang_base.specs.declared.place.Place.{Place}
use Rattle.lang_base.specs.declared.value.Trap.{Trap}
use Rattle.lang_base.specs.declared.outcome.Limits.{Limits}
use Rattle.exec_heap.specs.Heap.{Object, instance, array, values_of}
use Rattle.lang_meaning.specs.Values.{Value}
use Rattle.lang_meaning.specs.Actions.{Answer, Class, Length}
use Rattle.lang_meaning.specs.Elision.{LocalRegion, Held, seen, first_of}
use Rattle.lang_meaning.specs.Elision.{Store as Elided}
use Rattle.exec_frames.specs.Names.{plain_value, plain_region}
use Rattle.exec_walker.specs.declared.store.Store.{Store}

-- what a look and a read see of an object or an array
abbrev pub Sight : Type 0
Sight = Answer ℕ LocalRegion × List (Value ℕ)

abbrev pub look_at : Object → Answer ℕ LocalRegion
look_at (instance class regions fields) = Class class (map plain_region regions)
look_at (array pattern elements) = Length (length elements)

abbrev pub object_seen : Object → Sight
object_seen o = (look_at o, map plain_value (values_of o))

abbrev pub held_seen : Held → Sight
held_seen h = (seen h.thing, h.values)

-- few enough values for a length that a value holds
abbrev pub IsSmall : Object → Type 0
IsSmall o = length (values_of o) ≤ 16777216

-- the two are one, but for the first values of what was made, which nothing sees; within the limits, and there are ticks for
-- all steps that are left
pub record Holds (L : Limits) (s : Store) (w : Elided) : Type 0 where
  pub heap : map object_seen s.heap.objects ≡ map held_seen w.heap
  pub small : All IsSmall s.heap.objects
  pub cells_limit : s.heap.limit ≡ L.cells
  pub cells_small : L.cells ≤ 16777216
  pub steps_limit : s.limit ≡ L.steps
  pub regions : s.regions ≡ w.regions
  pub output : s.output ≡ w.output
  pub trap : s.trap ≡ w.trap
  pub steps : s.steps ≡ w.steps
  pub cells : s.heap.used ≡ w.cells
  pub cells_within : s.heap.used ≤ L.cells
  pub ticks : L.steps < w.ticks + w.steps

-- the store with so many steps more
abbrev pub counted : ℕ → Elided → Elided
counted n w = record w { steps = n + w.steps }

-- the store with a tick less, which costs a step
abbrev pub ticked : Elided → Elided
ticked w = record w { steps = suc w.steps; ticks = w.ticks - 1 }

-- with one local region more, which costs a tick
abbrev pub with_region : Elided → Elided
with_region w = record w { regions = suc w.regions; steps = suc w.steps; ticks = w.ticks - 1 }

-- with a trap noted, of which the first stays
abbrev pub fallen : Trap → Place → Elided → Elided
fallen t p w = record w { trap = first_of w.trap (t, p) }
