-- A heap as its list of objects, with the cells used and their limit.
use Rattle.std.specs.Prelude.{ℕ, ◌+◌, ◌<◌, List, [], ◌∷◌, ◌++◌, length, Option, Some, None, slice_index_or, slice_set}
use Rattle.lang_base.specs.declared.region.Region.{Region}
use Rattle.lang_base.specs.declared.value.Value.{Value}

-- an object has a class, concrete regions and field values; an array has the pattern of its region, in which the index
-- is left open, and element values
pub data Object : Type 0 where
  instance : (class : ℕ) → (regions : List Region) → (fields : List Value) → Object
  array : (pattern : Region) → (elements : List Value) → Object

abbrev pub values_of : Object → List Value
values_of (instance class regions fields) = fields
values_of (array pattern elements) = elements

abbrev pub class_of : Object → Option ℕ
class_of (instance class regions fields) = Some class
class_of (array pattern elements) = None

-- the regions of an object, or the pattern of an array
abbrev pub regions_of : Object → List Region
regions_of (instance class regions fields) = regions
regions_of (array pattern elements) = pattern ∷ []

abbrev pub with_values : Object → List Value → Object
with_values (instance class regions fields) values = instance class regions values
with_values (array pattern elements) values = array pattern values

-- what a contract sees of a heap: its objects by number, the cells used, and how many there may be
pub record Contents : Type 0 where
  pub objects : List Object
  pub used : ℕ
  pub limit : ℕ

abbrev pub no_object : Object
no_object = array (record { elems = [] }) []

abbrev pub object_at : Contents → ℕ → Object
object_at heap n = slice_index_or heap.objects n no_object

-- an object costs one cell and one more for each value
abbrev pub cost : Object → ℕ
cost o = 1 + length (values_of o)

-- these cells more would be over the limit
abbrev pub IsOver : Contents → ℕ → Type 0
IsOver heap cells = heap.limit < heap.used + cells

abbrev pub charged : Contents → ℕ → Contents
charged heap cells = record { objects = heap.objects; used = heap.used + cells; limit = heap.limit }

-- the heap with one object more, after the others
abbrev pub with_object : Contents → Object → Contents
with_object heap o = record { objects = heap.objects ++ o ∷ []; used = heap.used + cost o; limit = heap.limit }

-- the heap after a write of a value of an object
abbrev pub written : Contents → ℕ → ℕ → Value → Contents
written heap n index value = record {
  objects = slice_set heap.objects n (with_values (object_at heap n) (slice_set (values_of (object_at heap n)) index value));
  used = heap.used;
  limit = heap.limit;
}
