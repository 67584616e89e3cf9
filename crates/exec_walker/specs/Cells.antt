-- A cell of the heap, by an index that may be out of bounds.
use Rattle.std.specs.Prelude.{ℕ, ℤ, pos, negsuc, Bool, false, nat_lt, cond, List, length, Option, Some, None}
use Rattle.lang_meaning.specs.Values.{Region}
use Rattle.lang_meaning.specs.Elision.{LocalRegion}
use Rattle.lang_base.specs.declared.value.Value.{Value}
use Rattle.exec_heap.specs.Heap.{Object, instance, array, Contents, object_at, values_of, written}

abbrev pub has_index : Object → ℤ → Bool
has_index o (pos k) = nat_lt k (length (values_of o))
has_index o (negsuc k) = false

-- a write out of bounds changes nothing
abbrev pub cell_set : Contents → ℕ → ℤ → Value → Contents
cell_set heap n (pos k) v = cond (nat_lt k (length (values_of (object_at heap n)))) (written heap n k v) heap
cell_set heap n (negsuc k) v = heap

abbrev pub length_of : Object → ℕ
length_of (instance class regions fields) = 0
length_of (array pattern elements) = length elements

-- a class with its region arguments, where there is a class
abbrev pub seen_of : Option ℕ → List (Region LocalRegion) → Option (ℕ × List (Region LocalRegion))
seen_of None rs = None
seen_of (Some c) rs = Some (c, rs)
