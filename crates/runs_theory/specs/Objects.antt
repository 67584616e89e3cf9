-- What a run speaks of: tasks by their paths, objects and local regions by their makers; and with these names the values, regions
-- and things of the meaning.
use Rattle.std.specs.Prelude.{ℕ, ℤ, pos, negsuc, Bool, true, false, ◌&&◌, ◌==◌, if◌then◌else◌, nat_lt, List, [], ◌∷◌, Option, Some, None, slice_get}
use Rattle.lang_meaning.specs.Actions.{Effect as EffectOf}
use Rattle.lang_meaning.specs.Values.{Value as ValueOf, Part as PartOf, Region as RegionOf, Thing as ThingOf}
pub use Rattle.lang_meaning.specs.Values.{Int, Boolean, Null, Object, Region_name, Number, Local, Own_index, Any_index, Any_parts, An_object, An_array}
pub use Rattle.lang_meaning.specs.Costs.{size}

-- A task's name: for each fork above it the number of the event that forked, in the task that forked, and the branch. The
-- innermost pair stands first, and the root's name is empty.
abbrev pub Path : Type 0
Path = List (ℕ × ℕ)

abbrev pub same_path : Path → Path → Bool
same_path [] [] = true
same_path [] (y ∷ q) = false
same_path (x ∷ p) [] = false
same_path (x ∷ p) (y ∷ q) = (x.0 == y.0) && ((x.1 == y.1) && same_path p q)

-- an object or an array: the task that made it, and how many this task had made before
pub record Name : Type 0 where
  pub maker : Path
  pub count : ℕ

abbrev pub same_name : Name → Name → Bool
same_name n m = same_path n.maker m.maker && (n.count == m.count)

-- a local region: the task that made it, and how many this task had made before; or one that is declared and not made yet
pub data LocalRegion : Type 0 where
  Made : (maker : Path) (count : ℕ) → LocalRegion
  Unmade : (declaration : ℕ) → LocalRegion

abbrev pub Value : Type 0
Value = ValueOf Name

abbrev pub Part : Type 0
Part = PartOf LocalRegion

abbrev pub Region : Type 0
Region = RegionOf LocalRegion

-- an effect with which a block is entered
abbrev pub Effect : Type 0
Effect = EffectOf LocalRegion

abbrev pub Thing : Type 0
Thing = ThingOf Name LocalRegion

abbrev pub or_else : {A : Type 0} → Option A → A → A
or_else None a = a
or_else (Some v) a = v

abbrev pub first_value : Thing → ℕ → Value
first_value (An_object class regions fields) slot = or_else (slice_get fields slot) Null
first_value (An_array region len element) slot = element

-- a cell of an object or an array, by its slot or index
pub record Cell : Type 0 where
  pub object : Name
  pub slot : ℕ

-- the slot that an index means among so many: none where it is negative or out of bounds
abbrev pub slot_of : ℤ → ℕ → Option ℕ
slot_of (pos k) n = if nat_lt k n then Some k else None
slot_of (negsuc k) n = None

-- whether an index of an object means this cell
abbrev pub is_slot : ℤ → ℕ → Bool
is_slot (pos k) slot = k == slot
is_slot (negsuc k) slot = false

abbrev pub is_cell : Name → ℤ → Cell → Bool
is_cell n i c = same_name n c.object && is_slot i c.slot
