-- How the vectors of a heap show its objects.
use Rattle.std.specs.Prelude.{◌≡◌, ℕ, ◌+◌, ◌≤◌, ◌<◌, List, [], ◌∷◌, length, take, drop, All, slice_index_or}
use Rattle.lang_base.specs.declared.region.Region.{Region}
use Rattle.lang_base.specs.declared.value.Value.{Value}
use Rattle.exec_heap.specs.Heap.{Object, instance, array}
use Rattle.exec_heap.specs.declared.header.Kind.{Kind}
use Rattle.exec_heap.specs.declared.header.Kind.TheVariants.{Instance, Array}
use Rattle.exec_heap.specs.declared.header.Header.{Header}

abbrev pub first_region : List Region → Region
first_region [] = record { elems = [] }
first_region (region ∷ regions) = region

abbrev pub object_of : Kind → List Region → List Value → Object
object_of (Instance class) row values = instance class row values
object_of Array row values = array (first_region row) values

abbrev pub row_at : List (List Region) → ℕ → List Region
row_at rows n = slice_index_or rows n []

abbrev pub shown : List (List Region) → Header → List Value → Object
shown rows h values = object_of h.kind (row_at rows h.row) values

-- the objects of the headers: their values follow each other in the cells
abbrev pub objects_in : List (List Region) → List Header → List Value → List Object
objects_in rows [] cells = []
objects_in rows (h ∷ hs) cells = shown rows h (take h.len cells) ∷ objects_in rows hs (drop h.len cells)

-- from a place on, each header's values begin where those of the one before end, and the last end where the cells do
abbrev pub Follow : ℕ → List Header → ℕ → Type 0
Follow at [] end = at ≡ end
Follow at (h ∷ hs) end = (h.start ≡ at) × Follow (at + h.len) hs end

abbrev pub FitsKind : Kind → List Region → Type 0
FitsKind (Instance class) row = Unit {0}
FitsKind Array row = length row ≡ 1

-- the row of a header is there, and an array's has the one pattern
abbrev pub HasRow : List (List Region) → Header → Type 0
HasRow rows h = (h.row < length rows) × FitsKind h.kind (row_at rows h.row)

-- what the vectors of a heap keep
pub record IsFlat (cells : List Value) (headers : List Header) (rows : List (List Region)) (used limit : ℕ) : Type 0 where
  pub follow : Follow 0 headers (length cells)
  pub rows_there : All (HasRow rows) headers
  pub few_rows : length rows ≤ length headers
  pub counted : length headers + length cells ≤ used
  pub within : used ≤ limit
  pub small : limit ≤ 16777216
