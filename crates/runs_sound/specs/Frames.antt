-- Which locals fit the types of a scope.
use Rattle.std.specs.Prelude.{◌≡◌, ◌⊎◌, ◌<◌, ◌≤◌, ℕ, ◌+◌, false, IsTrue, List, ◌∷◌, ◌++◌, All, length, Some, slice_index_or}
use Rattle.lang_base.specs.declared.region.Rpl.{Rpl}
use Rattle.lang_base.specs.Matching.{Holds}
use Rattle.lang_base.specs.Types.{PlainType, int, array, has_index, mentions_index}
use Rattle.lang_typed.specs.Plain.{PlainProgram}
use Rattle.lang_typed.specs.Scope.{Local, variable, frozen, constant, part, reserved, Scope}
use Rattle.lang_meaning.specs.Actions.{Frame as FrameOf}
use Rattle.lang_meaning.specs.Counts.{number, slot_value}
use Rattle.runs_theory.specs.Objects.{Path, Name, LocalRegion, Made, Unmade, Value}
use Rattle.runs_sound.specs.Accesses.{Entry}
use Rattle.runs_sound.specs.Settings.{Setting, env_of, ArePlain, EndAtomic}
use Rattle.runs_sound.specs.Shapes.{Shapes, Grows, FitsIn}

abbrev pub Frame : Type 0
Frame = FrameOf Name LocalRegion

-- where a task stands: what has been made, how many local regions it has made itself, and its own entries of the blocks that it stands inside, the
-- latest first
pub record State : Type 0 where
  pub shapes : Shapes
  pub made : ℕ
  pub entries : List Entry

-- later, inside the same blocks
pub record Since (s t : State) : Type 0 where
  pub grows : Grows s.shapes t.shapes
  pub made : s.made ≤ t.made
  pub entries : t.entries ≡ s.entries

-- a local region that is declared in this place and not made yet, or that a task above this one made, or it itself earlier
abbrev pub IsOld : Path → ℕ → ℕ → LocalRegion → Type 0
IsOld p made r (Unmade k) = k ≡ r
IsOld p made r (Made q c) = ((q ≡ p) × (c < made)) ⊎ ((u : ℕ × ℕ) × (below : Path) × (p ≡ below ++ u ∷ q))

-- a part is of an array of such elements, and its slots say where it stands
pub record PartFits (P : PlainProgram) (S : Shapes) (g : Setting) (values : List Value) (k : ℕ) (t : PlainType) (a : Rpl) : Type 0 where
  pub no_index : has_index 0 a ≡ false
  pub none_mentioned : mentions_index 0 t ≡ false
  pub array : FitsIn P S (env_of g) (array t a false) (slot_value values k)
  pub first : FitsIn P S (env_of g) int (slot_value values (k + 1))
  pub len : FitsIn P S (env_of g) int (slot_value values (k + 2))
  pub places : g.part k ≡ record { array = slot_value values k; first = number (slot_value values (k + 1)); len = number (slot_value values (k + 2)) }

abbrev pub LocalFits : PlainProgram → Shapes → Setting → List Value → ℕ → Local → Type 0
LocalFits P S g values x (variable t) = FitsIn P S (env_of g) t (slot_value values x)
LocalFits P S g values x (frozen t) = FitsIn P S (env_of g) t (slot_value values x)
LocalFits P S g values x (constant t) = FitsIn P S (env_of g) t (slot_value values x)
LocalFits P S g values x (part t a) = PartFits P S g values x t a
LocalFits P S g values x reserved = Unit {0}

-- the setting is the frame's: its region parameters, the numbers of its index variables, and its local regions in scope; and
-- each local fits
pub record FrameFits (P : PlainProgram) (p : Path) (st : State) (g : Setting) (L : Scope) (f : Frame) : Type 0 where
  pub regions : f.regions ≡ g.regions
  pub plain : ArePlain g.regions
  pub atomic : EndAtomic P.region_names L.atomic g.regions
  pub given : All (Holds (env_of g)) L.given
  pub index : (x : ℕ) → L.local x ≡ Some (constant int) → number (slot_value f.values x) ≡ g.index x
  pub made : (r : ℕ) → IsTrue (L.regions r) → slice_index_or f.locals r (Unmade r) ≡ g.made r
  pub distinct : (r q : ℕ) → g.made r ≡ g.made q → r ≡ q
  pub old : (r : ℕ) → IsOld p st.made r (g.made r)
  pub slots : length f.values ≡ L.slots
  pub local_regions : length f.locals ≡ L.local_regions
  pub each : (x : ℕ) (l : Local) → L.local x ≡ Some l → LocalFits P st.shapes g f.values x l
