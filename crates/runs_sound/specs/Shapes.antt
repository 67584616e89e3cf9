-- What objects and arrays are, and which values have a type: a region argument and the region of an array's elements are upper
-- bounds of those in the run, and the elements of an array have one type.
use Rattle.std.specs.Prelude.{◌≡◌, ◌↔◌, ◌<◌, ◌^◌, ℕ, ℤ, pos, FitsSigned, List, [], All, map, length, Option, Some}
use Rattle.std.specs.Int.{w32}
use Rattle.std.specs.List.{AllZip}
use Rattle.lang_base.specs.declared.elems.Elem.{Elem}
use Rattle.lang_base.specs.declared.region.Rpl.{Rpl}
use Rattle.lang_base.specs.Matching.{Env, Holds, Matches, put_in}
use Rattle.lang_base.specs.Types.{PlainType, int, boolean, void, null, class, array}
use Rattle.lang_typed.specs.Plain.{PlainProgram, PlainClass, PlainField, PlainParent}
use Rattle.lang_typed.specs.Scope.{class_at, field_at, parent_of}
use Rattle.lang_meaning.specs.Expressions.{first_of, class_fields}
use Rattle.lang_meaning.specs.Regions.{handed_up}
use Rattle.runs_theory.specs.Objects.{Name, Value, Int, Boolean, Null, Object, Region, Thing, An_object, An_array}
use Rattle.runs_program.specs.Steps.{named_by}
use Rattle.runs_sound.specs.Settings.{Setting, env_of, class_env, elems_of, ArePlain, EndAtomic, under, element_region}

-- an object of a class with its region arguments; or an array of such elements in such a region, as they were written where
-- it was made
pub data Shape : Type 0 where
  object : (class : ℕ) (regions : List Region) → Shape
  elements : (setting : Setting) (element : PlainType) (rpl : Rpl) → Shape

-- what has been made
abbrev pub Shapes : Type 0
Shapes = Name → Option Shape

-- it grows
abbrev pub Grows : Shapes → Shapes → Type 0
Grows S T = (n : Name) (s : Shape) → S n ≡ Some s → T n ≡ Some s

-- the regions of a class as its superclass has them
abbrev pub regions_of_parent : List Region → PlainParent → List Region
regions_of_parent rs p = handed_up (named_by []) rs p.args

-- an object of a class with these regions is, as one of a class at or above it, one with those
pub data Is (P : PlainProgram) : ℕ → List Region → ℕ → List Region → Type 0 where
  same : {d : ℕ} {rs : List Region} → Is P d rs d rs
  up : {d c : ℕ} {rs qs : List Region} {p : PlainParent} → parent_of P d ≡ Some p → Is P p.class (regions_of_parent rs p) c qs → Is P d rs c qs

-- each region is one that the path at its place matches
abbrev pub AllMatch : Env → List Rpl → List Region → Type 0
AllMatch env args regions = AllZip (λ a r. Matches env a (elems_of r)) args regions

-- objects of the class can have these regions: as many as it has parameters, plain, atomic ones for atomic parameters, and its
-- constraints hold of them
pub record GoodObject (P : PlainProgram) (c : ℕ) (rs : List Region) : Type 0 where
  pub class : PlainClass
  pub is : class_at P c ≡ Some class
  pub arity : length rs ≡ length class.params
  pub plain : ArePlain rs
  pub atomic : EndAtomic P.region_names class.params rs
  pub given : All (Holds (class_env rs)) class.given

-- of a class with these arguments, or one below it
pub record Instance (P : PlainProgram) (S : Shapes) (env : Env) (c : ℕ) (args : List Rpl) (n : Name) : Type 0 where
  pub class : ℕ
  pub made_with : List Region
  pub regions : List Region
  pub shape : S n ≡ Some (object class made_with)
  pub good : GoodObject P class made_with
  pub is_one : Is P class made_with c regions
  pub matches : AllMatch env args regions

-- two types, each in its environment, are of the same values
abbrev pub SameIn : Env → PlainType → Env → PlainType → Type 0
SameIn env int env' int = Unit {0}
SameIn env boolean env' boolean = Unit {0}
SameIn env void env' void = Unit {0}
SameIn env null env' null = Unit {0}
SameIn env (class c args) env' (class d args') = (c ≡ d) × ((rs : List Region) → AllMatch env args rs ↔ AllMatch env' args' rs)
SameIn env (array t a named) env' (array u b named') =
    ((k : ℤ) (r : List Elem) → Matches (under k env) a r ↔ Matches (under k env') b r) × ((k : ℤ) → SameIn (under k env) t (under k env') u)
SameIn env t env' u = ⊥

-- an array whose elements each lie in the path at their index, and have the type there
pub record ArrayInstance (S : Shapes) (env : Env) (t : PlainType) (a : Rpl) (n : Name) : Type 0 where
  pub setting : Setting
  pub element : PlainType
  pub rpl : Rpl
  pub shape : S n ≡ Some (elements setting element rpl)
  pub region : (k : ℤ) → Matches (under k env) a (put_in (under k (env_of setting)) rpl).elems
  pub same : (k : ℤ) → SameIn (under k env) t (under k (env_of setting)) element

-- a number of 32 bits
abbrev pub IsInt : Value → Type 0
IsInt (Int k) = FitsSigned w32 k
IsInt (Boolean b) = ⊥
IsInt Null = ⊥
IsInt (Object n) = ⊥

abbrev pub IsBoolean : Value → Type 0
IsBoolean (Boolean b) = Unit {0}
IsBoolean (Int k) = ⊥
IsBoolean Null = ⊥
IsBoolean (Object n) = ⊥

-- null, or what has such a name
abbrev pub IsNullOr : (Name → Type 0) → Value → Type 0
IsNullOr P Null = Unit {0}
IsNullOr P (Object n) = P n
IsNullOr P (Int k) = ⊥
IsNullOr P (Boolean b) = ⊥

-- the value has the type, in an environment; a call that gives nothing gives null
abbrev pub FitsIn : PlainProgram → Shapes → Env → PlainType → Value → Type 0
FitsIn P S env int v = IsInt v
FitsIn P S env boolean v = IsBoolean v
FitsIn P S env void v = IsNullOr (λ n. ⊥) v
FitsIn P S env null v = IsNullOr (λ n. ⊥) v
FitsIn P S env (class c args) v = IsNullOr (Instance P S env c args) v
FitsIn P S env (array t a named) v = IsNullOr (ArrayInstance S env t a) v

-- the cell at an index of what has this shape, with its type and its region path in an environment
pub data CellAt (P : PlainProgram) : Shape → ℤ → Env → PlainType → Rpl → Type 0 where
  of_object : {c k : ℕ} {rs : List Region} {f : PlainField} → field_at P c k ≡ Some f → CellAt P (object c rs) (pos k) (class_env rs) f.ty f.region
  of_array : {g : Setting} {t : PlainType} {a : Rpl} {i : ℤ} → CellAt P (elements g t a) i (under i (env_of g)) t a

-- what is made has this shape; the length of an array is an int
abbrev pub Describes : PlainProgram → Shape → Thing → Type 0
Describes P (object c rs) (An_object d qs fields) = (c ≡ d) × (rs ≡ qs) × GoodObject P c rs × (fields ≡ map (λ f. first_of f.ty) (class_fields P c))
Describes P (elements g t a) (An_array region len first) =
    ((k : ℤ) → elems_of (element_region k region) ≡ (put_in (under k (env_of g)) a).elems) × (len < 2 ^ 31) × (first ≡ first_of t)
Describes P s thing = ⊥
