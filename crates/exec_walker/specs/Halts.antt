-- Why a walk is broken off.
use Rattle.std.specs.Prelude.{◌≡◌, ◌<◌, ◌⊎◌, Result, Ok, Err}
use Rattle.exec_heap.specs.declared.stop.HeapStop.{HeapStop}
use Rattle.exec_heap.specs.declared.stop.HeapStop.TheVariants.{Full, NoMemory}
use Rattle.lang_meaning.specs.Elision.{Store}
use Rattle.exec_walker.specs.declared.halt.Halt.{Halt}
use Rattle.exec_walker.specs.declared.halt.Halt.TheVariants as halt
use Rattle.lang_base.specs.declared.outcome.Limits.{Limits}

-- the heap is full, or out of memory
abbrev pub IsOfHeap : HeapStop → Halt → Type 0
IsOfHeap Full h = h ≡ halt.Limited
IsOfHeap NoMemory h = h ≡ halt.NoMemory

-- a store that has cost more than a limit allows
abbrev pub IsOver : Limits → Store → Type 0
IsOver L w = (L.steps < w.steps) ⊎ (L.cells < w.cells)

-- the step to this store was made, or refused by a limit that the store is over
abbrev pub After : {A : Type 0} → Limits → Result A Halt → (Store → Type 0) → Store → Type 0
After L (Ok x) P w = P w
After L (Err halt.Limited) P w = IsOver L w
After L (Err halt.NoMemory) P w = Unit {0}
