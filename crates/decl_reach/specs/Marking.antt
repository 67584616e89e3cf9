-- The steps of marking, of which only functions of this crate speak: what leads to a position, the positions that are
-- marked, and a further one marked and noted.
use Rattle.std.specs.Prelude.{ℕ, ◌+◌, Bool, true, ◌==◌, cond, List, [], ◌∷◌, ◌++◌, slice_index_or, slice_set}
use Rattle.decl_reach.specs.declared.reach.Edge.{Edge}

-- what leads to a position by one edge
abbrev pub sources : List Edge → ℕ → List ℕ
sources [] to = []
sources (edge ∷ edges) to = cond (edge.to == to) (edge.from ∷ sources edges to) (sources edges to)

-- a further edge
abbrev pub with_source : List (List ℕ) → Edge → List (List ℕ)
with_source made edge = slice_set made edge.to (slice_index_or made edge.to [] ++ edge.from ∷ [])

-- the positions of what is marked, counted on from a number
abbrev pub places_from : ℕ → List Bool → List ℕ
places_from at [] = []
places_from at (mark ∷ marks) = cond mark (at ∷ places_from (at + 1) marks) (places_from (at + 1) marks)

-- a further one is marked; what is beyond all marks can't be
abbrev pub marked : List Bool → ℕ → List Bool
marked marks at = cond (slice_index_or marks at true) marks (slice_set marks at true)

-- it is noted, where it wasn't marked
abbrev pub added : List Bool → List ℕ → ℕ → List ℕ
added marks pending at = cond (slice_index_or marks at true) pending (pending ++ at ∷ [])

-- the same of all of these
abbrev pub all_marked : List Bool → List ℕ → List Bool
all_marked marks [] = marks
all_marked marks (at ∷ more) = all_marked (marked marks at) more

abbrev pub all_added : List Bool → List ℕ → List ℕ → List ℕ
all_added marks pending [] = pending
all_added marks pending (at ∷ more) = all_added (marked marks at) (added marks pending at) more
