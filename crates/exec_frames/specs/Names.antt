-- Values, regions and frames of a body at work, as the meaning has them.
use Rattle.std.specs.Prelude.{ℕ, suc, zero, Bool, ◌==◌, List, map}
use Rattle.lang_base.specs.declared.elems.Elem.{Elem}
use Rattle.lang_base.specs.declared.elems.Elem.TheVariants as elem
use Rattle.lang_base.specs.declared.elems.Index.{Index}
use Rattle.lang_base.specs.declared.elems.Index.TheVariants as index
use Rattle.lang_base.specs.declared.region.Region.{Region as DeclaredRegion}
use Rattle.lang_base.specs.declared.value.Value.{Value as Constant}
use Rattle.lang_base.specs.declared.value.Value.TheVariants as constant
use Rattle.lang_meaning.specs.Values.{Value, Int, Boolean, Null, Object, Part, Region_name, Number, Local, Own_index, Any_index, Any_parts, Region, Naming}
use Rattle.lang_meaning.specs.Actions as meaning
use Rattle.lang_meaning.specs.Elision.{LocalRegion, Made, Unmade}
use Rattle.exec_frames.specs.declared.frame.Frame.{Frame}

abbrev pub same_object : ℕ → ℕ → Bool
same_object n m = n == m

abbrev pub plain_value : Constant → Value ℕ
plain_value (constant.Int k) = Int k
plain_value (constant.Bool b) = Boolean b
plain_value constant.Null = Null
plain_value (constant.Obj n) = Object n

-- whose names two numbers are: those of the task with this number, or those of a walk in sequence
pub data Reading : Type 0 where
  Of_task : (task : ℕ) → Reading
  In_order : Reading

abbrev pub LocalOf : Reading → Type 0
LocalOf (Of_task task) = ℕ × ℕ
LocalOf In_order = LocalRegion

-- a local region that isn't made yet is its declaration and 0. Of a task, a made one is its maker and its count there, from 1;
-- in sequence its number and 1
abbrev pub local_region : ℕ → ℕ → LocalRegion
local_region n zero = Unmade n
local_region n (suc k) = Made n

abbrev pub local_by : (k : Reading) → ℕ × ℕ → LocalOf k
local_by (Of_task task) l = l
local_by In_order l = local_region l.0 l.1

abbrev pub locals_by : (k : Reading) → List (ℕ × ℕ) → List (LocalOf k)
locals_by (Of_task task) ls = ls
locals_by In_order ls = map (local_by In_order) ls

abbrev pub made_by : (k : Reading) → ℕ → LocalOf k
made_by (Of_task task) = λ n. (task, suc n)
made_by In_order = Made

abbrev pub unmade_by : (k : Reading) → ℕ → LocalOf k
unmade_by (Of_task task) = λ r. (r, 0)
unmade_by In_order = Unmade

-- an object is its number in the heap
abbrev pub names_by : (k : Reading) → Naming ℕ (LocalOf k)
names_by k = record { same = same_object; made = made_by k; unmade = unmade_by k }

-- a variable stands in no region of a run
abbrev pub plain_index : {M : Type 0} → Index → Part M
plain_index (index.Literal k) = Number k
plain_index (index.Variable x) = Any_index
plain_index (index.Renamed x) = Any_index
plain_index (index.Own d) = Own_index

abbrev pub part_by : (k : Reading) → Elem → Part (LocalOf k)
part_by k (elem.Name n) = Region_name n
part_by k (elem.At i) = plain_index i
part_by k elem.Any = Any_index
part_by k elem.Star = Any_parts
part_by k (elem.Local r n) = Local (local_by k (r, n))

abbrev pub region_by : (k : Reading) → DeclaredRegion → Region (LocalOf k)
region_by k r = map (part_by k) r.elems

abbrev pub frame_by : (k : Reading) → Frame → meaning.Frame ℕ (LocalOf k)
frame_by k f = record { values = map plain_value f.values; regions = map (region_by k) f.regions; locals = locals_by k f.locals; left = f.left }

-- in sequence
abbrev pub plain_local : ℕ × ℕ → LocalRegion
plain_local = local_by In_order

abbrev pub plain_region : DeclaredRegion → Region LocalRegion
plain_region = region_by In_order

abbrev pub plain_frame : Frame → meaning.Frame ℕ LocalRegion
plain_frame = frame_by In_order
