-- Regions of a run as elements of region paths, and what the region paths of a body stand for in a run.
use Rattle.std.specs.Prelude.{◌≡◌, Bool, true, false, ℕ, ℤ, pos, zero, suc, ◌+◌, ◌*◌, ◌==◌, cond, List, [], ◌∷◌, map, slice_index_or, IsTrue}
use Rattle.lang_base.specs.declared.elems.Elem.{Elem}
use Rattle.lang_base.specs.declared.elems.Elem.TheVariants as elem
use Rattle.lang_base.specs.declared.elems.Index.TheVariants as index
use Rattle.lang_base.specs.Branches.{ends_atomic}
use Rattle.lang_base.specs.Matching.{Env, all_plain}
use Rattle.region_paths.specs.Laws.{another}
use Rattle.runs_theory.specs.Objects.{Path, LocalRegion, Made, Unmade, Value, Null, Part, Region_name, Number, Local, Own_index, Any_index, Any_parts, Region}

-- two numbers as one, and a task's name as one
abbrev pub pair : ℕ → ℕ → ℕ
pair zero b = 2 * b + 1
pair (suc a) b = 2 * pair a b

abbrev pub path_code : Path → ℕ
path_code [] = 0
path_code (u ∷ p) = pair u.0 (pair u.1 (path_code p))

-- local regions of a run by two numbers, as elements of region paths have them: declared ones, made ones; and by others the
-- copies of iterations
abbrev pub local_code : LocalRegion → ℕ × ℕ
local_code (Unmade r) = (0, r)
local_code (Made p c) = (2 * path_code p + 2, c)

abbrev pub local_in : (ℕ → LocalRegion) → ℕ → ℕ → ℕ × ℕ
local_in made r zero = local_code (made r)
local_in made r (suc n) = (2 * n + 1, r)

abbrev pub elem_of : Part → Elem
elem_of (Region_name n) = elem.Name n
elem_of (Number k) = elem.At (index.Literal k)
elem_of (Local l) = elem.Local (local_code l).0 (local_code l).1
elem_of Own_index = elem.At (index.Own 0)
elem_of Any_index = elem.Any
elem_of Any_parts = elem.Star

abbrev pub elems_of : Region → List Elem
elems_of r = map elem_of r

-- a part of an array: the array, its first place and its length
pub record Places : Type 0 where
  pub array : Value
  pub first : ℤ
  pub len : ℤ

-- what stands for the region parameters, the index variables, the local regions and the parts of a body
pub record Setting : Type 0 where
  pub regions : List Region
  pub index : ℕ → ℤ
  pub made : ℕ → LocalRegion
  pub part : ℕ → Places

-- the elements of a parameter's region
abbrev pub region_in : List Region → ℕ → List Elem
region_in rs p = elems_of (slice_index_or rs p [])

-- they are names and numbers alone
abbrev pub ArePlain : List Region → Type 0
ArePlain rs = (p : ℕ) → IsTrue (all_plain (region_in rs p))

-- those of parameters that are declared atomic end by an atomic name, leaving off indices
abbrev pub EndAtomic : List Bool → List Bool → List Region → Type 0
EndAtomic names params rs = (p : ℕ) → slice_index_or params p false ≡ true → ends_atomic names (region_in rs p) ≡ true

abbrev pub env_of : Setting → Env
env_of g = record { region = region_in g.regions; index = g.index; renamed = λ x. another (g.index x); own = λ d. pos 0; made = local_in g.made }

-- the setting in which an index variable has this number
abbrev pub with_number : ℕ → ℤ → Setting → Setting
with_number x k g = record g { index = λ y. cond (x == y) k (g.index y) }

-- for what stands in a class there are region parameters alone
abbrev pub class_setting : List Region → Setting
class_setting rs = record { regions = rs; index = λ x. pos 0; made = Unmade; part = λ k. record { array = Null; first = pos 0; len = pos 0 } }

abbrev pub class_env : List Region → Env
class_env rs = env_of (class_setting rs)

-- inside an array type, at an index of the array
abbrev pub after_own : ℤ → (ℕ → ℤ) → ℕ → ℤ
after_own k own zero = k
after_own k own (suc d) = own d

abbrev pub under : ℤ → Env → Env
under k env = record env { own = after_own k env.own }

-- the region of the element at an index, of an array in this region
abbrev pub element_part : ℤ → Part → Part
element_part k Own_index = Number k
element_part k (Region_name n) = Region_name n
element_part k (Number j) = Number j
element_part k (Local l) = Local l
element_part k Any_index = Any_index
element_part k Any_parts = Any_parts

abbrev pub element_region : ℤ → Region → Region
element_region k r = map (element_part k) r
