-- What gathering and moving ask of a run, and a check of its program gives.
use Rattle.std.specs.Prelude.{◌≡◌, suc, true, false, List, ◌∷◌}
use Rattle.runs_theory.specs.Objects.{Path, Effect}
use Rattle.runs_theory.specs.Actions.{Do, Enter, Rule}
use Rattle.runs_theory.specs.Runs.{Event, Run, Upto, mine}
use Rattle.runs_theory.specs.Standing.{Outside, Inside, standing, first_of}
use Rattle.runs_theory.specs.Order.{Unordered, Conflict}
use Rattle.runs_reduction.specs.Moved.{inner, is_det}

pub record InBlock (R : Run) (p : Path) : Type 0 where
  pub opener : Path
  pub effects : List Effect
  pub stands : standing R p ≡ Inside opener effects

-- blocks with these effects are never open at once
abbrev pub Barred : Rule → List Effect → List Effect → Type 0
Barred rule E F = (rule E F ≡ false) × (rule F E ≡ false)

-- and may be
abbrev pub LetBy : Rule → List Effect → List Effect → Type 0
LetBy rule E F = (rule E F ≡ true) × (rule F E ≡ true)

-- two events inside blocks; where these are two blocks, the rule keeps them apart
pub record Guarded (rule : Rule) (X : Run) (x : Event) (Y : Run) (y : Event) : Type 0 where
  pub former : InBlock X x.path
  pub latter : InBlock Y y.path
  pub barred : (former.opener ≡ latter.opener → ⊥) → Barred rule former.effects latter.effects

-- unordered conflicts are guarded
pub record ConflictsGuarded (rule : Rule) (R : Run) : Type 0 where
  pub each : (Y X : Run) (y x : Event) → Upto (y ∷ Y) R → Upto (x ∷ X) Y → Unordered x.path y.path → Conflict x y → Guarded rule X x Y y

-- two events inside blocks of two openers that are in one branch of a deterministic construct, or both in none; the rule keeps
-- these blocks apart
pub record Levelled (rule : Rule) (X : Run) (x : Event) (Y : Run) (y : Event) : Type 0 where
  pub former : InBlock X x.path
  pub latter : InBlock Y y.path
  pub differ : former.opener ≡ latter.opener → ⊥
  pub level : inner X former.opener ≡ inner Y latter.opener
  pub barred : Barred rule former.effects latter.effects

-- unordered conflicts are guarded on one level; and blocks of unordered tasks on two levels never wait for each other
pub record LevelsGuarded (rule : Rule) (R : Run) : Type 0 where
  pub accesses : (Y X : Run) (y x : Event) → Upto (y ∷ Y) R → Upto (x ∷ X) Y → Unordered x.path y.path → Conflict x y → Levelled rule X x Y y
  pub entries : (Y X : Run) (y x : Event) (E F : List Effect) → Upto (y ∷ Y) R → Upto (x ∷ X) Y → Unordered x.path y.path
      → x.act ≡ Do (Enter E) → y.act ≡ Do (Enter F) → standing X x.path ≡ Outside → standing Y y.path ≡ Outside
      → (inner X x.path ≡ inner Y y.path → ⊥) → LetBy rule E F

-- of conflicts alone: the unordered ones are guarded on one level
pub record AccessesLevelled (rule : Rule) (R : Run) : Type 0 where
  pub each : (Y X : Run) (y x : Event) → Upto (y ∷ Y) R → Upto (x ∷ X) Y → Unordered x.path y.path → Conflict x y → Levelled rule X x Y y

-- two tasks part at the fork of an nd construct
abbrev pub PartAtNd : (R : Run) (p q : Path) → Unordered p q → Type 0
PartAtNd R p q n = is_det (first_of (suc n.u.0) (mine R n.above)) ≡ false

-- and of blocks alone: those on two levels whose tasks part at an nd construct never wait for each other
pub record EntriesLet (rule : Rule) (R : Run) : Type 0 where
  pub each : (Y X : Run) (y x : Event) (E F : List Effect) → Upto (y ∷ Y) R → Upto (x ∷ X) Y → (n : Unordered x.path y.path) → PartAtNd R x.path y.path n
      → x.act ≡ Do (Enter E) → y.act ≡ Do (Enter F) → standing X x.path ≡ Outside → standing Y y.path ≡ Outside
      → (inner X x.path ≡ inner Y y.path → ⊥) → LetBy rule E F

-- the rule by which blocks never wait
abbrev pub anything : Rule
anything F E = true
