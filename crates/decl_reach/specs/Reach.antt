-- What reaches something that is marked, by any chain of edges.
use Rattle.std.specs.Prelude.{ℕ, zero, suc, Bool, false, ◌&&◌, ◌||◌, ◌==◌, List, map, length, slice_index_or}
use Rattle.std.specs.List.{list_any, range_with_len}
use Rattle.decl_reach.specs.declared.reach.Edge.{Edge}

abbrev pub is_marked : List Bool → ℕ → Bool
is_marked marks at = slice_index_or marks at false

-- an edge leads from it to one that is marked
abbrev pub leads_on : List Edge → List Bool → ℕ → Bool
leads_on edges marks at = list_any (λ edge. (edge.from == at) && is_marked marks edge.to) edges

-- what is marked, and what an edge leads from to one that is
abbrev pub spread : List Edge → List Bool → List Bool
spread edges marks = map (λ at. is_marked marks at || leads_on edges marks at) (range_with_len 0 (length marks))

-- the same so many times
abbrev pub spread_by : ℕ → List Edge → List Bool → List Bool
spread_by zero edges marks = marks
spread_by (suc n) edges marks = spread edges (spread_by n edges marks)

-- what is marked, and what any chain of edges leads from to one that is: no chain needs more edges than there are marks
abbrev pub reaching : List Edge → List Bool → List Bool
reaching edges marks = spread_by (length marks) edges marks
