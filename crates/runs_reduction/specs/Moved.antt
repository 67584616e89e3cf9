-- The run with deterministic constructs moved: each one's branches directly after its fork, one after another.
use Rattle.std.specs.Prelude.{ℕ, suc, ◌+◌, ◌<◌, ◌≡◌, Bool, true, false, if◌then◌else◌, [], ◌∷◌, ◌++◌, length}
use Rattle.runs_theory.specs.Objects.{Path}
use Rattle.runs_theory.specs.Actions.{Branches, is_deterministic, Action, Do, Fork, Begin, Join, End}
use Rattle.runs_theory.specs.Runs.{Event, Run, Upto, mine, count}
use Rattle.runs_theory.specs.Standing.{first_of}
use Rattle.runs_reduction.specs.Insertion.{Spot, Branch_of, All_of, rearranged, Earlier}

-- whether the latest construct among these events of one task is a deterministic one
abbrev pub kind_after : Action → Bool → Bool
kind_after (Fork ts) d = is_deterministic ts.kind
kind_after (Do o) d = d
kind_after (Begin b) d = d
kind_after Join d = d
kind_after (End x) d = d

abbrev pub is_det : Run → Bool
is_det [] = false
is_det (e ∷ es) = kind_after e.act (is_det es)

-- the innermost branch of a deterministic construct that a task is in, or all where it is in none
unfoldable pub inner : Run → Path → Spot
inner R [] = All_of []
inner R (u ∷ q) = if is_det (first_of (suc u.0) (mine R q)) then Branch_of u q else inner R q

-- the begin of a branch of a deterministic construct belongs after all that its task and those below have made; any other event
-- in the innermost branch
abbrev pub spot_of : Run → Path → Action → Spot
spot_of R p (Begin b) = if is_det (mine R p) then All_of p else inner R p
spot_of R p (Do o) = inner R p
spot_of R p (Fork ts) = inner R p
spot_of R p Join = inner R p
spot_of R p (End x) = inner R p

abbrev pub construct_spot : Run → Event → Spot
construct_spot R e = spot_of R e.path e.act

abbrev pub move : Run → Run
move R = rearranged construct_spot R

-- the event numbered k of task q is the fork of a deterministic construct
pub record DetFork (R : Run) (q : Path) (k : ℕ) : Type 0 where
  pub before : Run
  pub event : Event
  pub stands : Upto (event ∷ before) R
  pub path : event.path ≡ q
  pub number : count before q ≡ k
  pub branches : Branches
  pub act : event.act ≡ Fork branches
  pub det : is_deterministic branches.kind ≡ true

-- the event numbered n of task p is in branch b of the fork numbered k of task q: it is the branch's begin, or below it
pub data InBranch (q : Path) (k b : ℕ) (p : Path) (n : ℕ) : Type 0 where
  its_begin : p ≡ q → n ≡ suc (k + b) → InBranch q k b p n
  below : (xs : Path) → p ≡ xs ++ (k, b) ∷ q → InBranch q k b p n

-- it is in one of the first m branches
pub record InConstruct (m : ℕ) (q : Path) (k : ℕ) (p : Path) (n : ℕ) : Type 0 where
  pub branch : ℕ
  pub there : branch < m
  pub is : InBranch q k branch p n

-- G is R with the events of each deterministic construct directly after its fork, branch after branch; and all else in its
-- order: what is directly in one branch, or in none, stands as it stood
pub record AfterForks (R G : Run) : Type 0 where
  pub kept : (X Y : Run) (x y : Event) → Upto (x ∷ X) Y → Upto (y ∷ Y) R → construct_spot X x ≡ construct_spot Y y
      → Earlier G x.path (count X x.path) y.path (count Y y.path)
  pub after_its_fork : (q : Path) (k : ℕ) (d : DetFork R q k) (X Z : Run) (x z : Event) → Upto (x ∷ X) R → Upto (z ∷ Z) R
      → InConstruct (length d.branches.tasks) q k x.path (count X x.path) → (InConstruct (length d.branches.tasks) q k z.path (count Z z.path) → ⊥)
      → Earlier G q k z.path (count Z z.path) → Earlier G x.path (count X x.path) z.path (count Z z.path)
  pub in_turn : (q : Path) (k a b : ℕ) (d : DetFork R q k) (X Y : Run) (x y : Event) → Upto (x ∷ X) R → Upto (y ∷ Y) R
      → a < b → b < length d.branches.tasks → InBranch q k a x.path (count X x.path) → InBranch q k b y.path (count Y y.path)
      → Earlier G x.path (count X x.path) y.path (count Y y.path)
