-- What the first of several branches do with a local.
use Rattle.std.specs.Prelude.{ℕ, Bool, ◌<◌, ◌||◌, List, Contains, slice_index_or}
use Rattle.std.specs.List.{list_any}
use Rattle.std.specs.BTreeSet.{BTreeSet}
use Rattle.body_locals.specs.declared.branch.Touched.{Touched}
use Rattle.body_locals.specs.Clash.{Uses}
use Rattle.body_locals.specs.Gains.{has}

-- one of the first n branches is such a one
abbrev pub Earlier : (Touched → Type 0) → List Touched → ℕ → Type 0
Earlier P branches n = (i : ℕ) × (i < n) × ((d : Touched) → P (slice_index_or branches i d))

-- the branch reads or assigns the local; it assigns the local
abbrev pub UsesLocal : ℕ → Touched → Type 0
UsesLocal local b = Uses b local

abbrev pub AssignsLocal : ℕ → Touched → Type 0
AssignsLocal local b = Contains b.writes local

-- one of the locals is in the set
abbrev pub has_some : BTreeSet ℕ → List ℕ → Bool
has_some set locals = list_any (λ x. has set x) locals

-- the branch assigns a local that is used before, or reads one that is assigned before
abbrev pub meets : BTreeSet ℕ → BTreeSet ℕ → Touched → Bool
meets used assigned b = has_some used b.writes || has_some assigned b.reads
