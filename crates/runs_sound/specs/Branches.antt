-- Branches that are in order at their fork: each is typed and its frame fits, what its effects speak of is allowed, and no two
-- of them touch one cell in a way that shows.
use Rattle.std.specs.Prelude.{◌≡◌, ◌≢◌, ◌<◌, ℕ, true, false, ◌||◌, ◌&&◌, List, [], ◌∷◌, All, length, None, Some, slice_get, Contains}
use Rattle.lang_base.specs.Apart.{apart}
use Rattle.lang_base.specs.Branches.{ends_atomic}
use Rattle.lang_base.specs.Types.{PlainType}
use Rattle.lang_typed.specs.declared.stmt.Forking.{Forking}
use Rattle.lang_typed.specs.declared.stmt.Forking.TheVariants.{Deterministic, Nondeterministic}
use Rattle.lang_typed.specs.Plain.{PlainProgram}
use Rattle.lang_typed.specs.Effects.{Own}
use Rattle.lang_typed.specs.Scope.{Scope, variable}
use Rattle.lang_typed.specs.Statements.{AllPass, IsVariable}
use Rattle.lang_meaning.specs.Counts.{Brought as BroughtOf, Back, Trap_of_branch}
use Rattle.lang_meaning.specs.Statements.{begun}
use Rattle.runs_theory.specs.Actions.{Task}
use Rattle.runs_theory.specs.Objects.{Name, Value}
use Rattle.runs_sound.specs.Settings.{Setting, env_of}
use Rattle.runs_sound.specs.Shapes.{FitsIn}
use Rattle.runs_sound.specs.Accesses.{Access, unguarded, at_root, Bounds, is_guarded, LiesIn, Allowed, Within}
use Rattle.runs_sound.specs.Frames.{State, FrameFits}
use Rattle.runs_sound.specs.Scopes.{GoodScope}

-- accesses of one cell, of which one is a write
pub record Meet (a c : Access) : Type 0 where
  pub cells : (a.of_cell ≡ true) × (c.of_cell ≡ true)
  pub object : a.object ≡ c.object
  pub index : a.index ≡ c.index
  pub region : a.region ≡ c.region
  pub write : (a.write || c.write) ≡ true

-- what is left where they meet: nothing, or in branches of an nd construct that both stand in atomic blocks, in an atomic region
abbrev pub MayMeet : PlainProgram → Forking → Access → Access → Type 0
MayMeet P Deterministic a c = ⊥
MayMeet P Nondeterministic a c = (a.guarded ≡ true) × (c.guarded ≡ true) × (ends_atomic P.region_names a.region ≡ true)

abbrev pub Quiet : PlainProgram → Forking → Setting → List Own → Setting → List Own → Type 0
Quiet P forking g E k F = (a c : Access) → Meet a c → LiesIn g E a → LiesIn k F c → MayMeet P forking a c

-- of two accesses that effects of two branches of an nd construct speak of, where one is a write and not both stand in atomic blocks, the
-- regions are apart, also where they are of no cells
abbrev pub Separate : Setting → List Own → Setting → List Own → Type 0
Separate g E k F = (a c : Access) → (a.write || c.write) ≡ true → (a.guarded && c.guarded) ≡ false → LiesIn g E a → LiesIn k F c → apart [] (at_root a.region) (at_root c.region) ≡ true

-- the branch of this number
pub record BranchFits (P : PlainProgram) (b : Bounds) (st : State) (i : ℕ) (t : Task) (M : Scope) (k : Setting) (F : List Own) : Type 0 where
  pub is_branch : t.work.is_root ≡ false
  pub no_return : M.result ≡ None
  pub passes : AllPass P M t.work.stmts F
  pub scope : GoodScope M
  pub fits : (u : ℕ) → FrameFits P ((u, i) ∷ b.path) (record { shapes = st.shapes; made = 0; entries = [] }) k M (begun t.work.takes t.frame)
  pub copies : All (IsVariable M) t.work.copies
  pub within : Within b st.entries k F

pub record Forks (P : PlainProgram) (b : Bounds) (st : State) (forking : Forking) (ts : List Task) : Type 0 where
  pub scope : ℕ → Scope
  pub setting : ℕ → Setting
  pub effects : ℕ → List Own
  pub branch : (i : ℕ) (t : Task) → slice_get ts i ≡ Some t → BranchFits P b st i t (scope i) (setting i) (effects i)
  pub quiet : (i j : ℕ) → i ≢ j → i < length ts → j < length ts → Quiet P forking (setting i) (effects i) (setting j) (effects j)
  -- outside all blocks a deterministic construct has no marks
  pub unmarked : forking ≡ Deterministic → is_guarded b st.entries ≡ false → (i : ℕ) (t : Task) → slice_get ts i ≡ Some t → (a : Access) →
      LiesIn (setting i) (effects i) a → Allowed b st.entries (unguarded a)
  pub separate : forking ≡ Nondeterministic → (i j : ℕ) → i ≢ j → i < length ts → j < length ts → Separate (setting i) (effects i) (setting j) (effects j)

-- a local that a join copies back: one that the branch of this number assigns, and its value fits there
pub record Returned (P : PlainProgram) (b : Bounds) (st : State) (forking : Forking) (ts : List Task) (forks : Forks P b st forking ts) (h : State) (x : ℕ) (v : Value) : Type 0 where
  pub number : ℕ
  pub task : Task
  pub is : slice_get ts number ≡ Some task
  pub copied : Contains task.work.copies x
  pub ty : PlainType
  pub local : (forks.scope number).local x ≡ Some (variable ty)
  pub fits : FitsIn P h.shapes (env_of (forks.setting number)) ty v

abbrev pub Brings : (P : PlainProgram) (b : Bounds) (st : State) (forking : Forking) (ts : List Task) → Forks P b st forking ts → State →
    BroughtOf Name → Type 0
Brings P b st forking ts forks h (Back ls) = (x : ℕ) (v : Value) → Contains ls (x, v) → Returned P b st forking ts forks h x v
Brings P b st forking ts forks h (Trap_of_branch trap place) = Unit {0}
