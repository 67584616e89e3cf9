-- A scope: how many branches its fork has, and those that have begun, in branch order, each with its end once it has ended.
use Rattle.std.specs.Prelude.{◌≡◌, ℕ, zero, suc, ◌+◌, ◌<◌, ◌≤◌, Bool, not, ◌||◌, nat_lt, List, [], ◌∷◌, ◌++◌, length, is_some, Option, Some, None}
use Rattle.std.specs.List.{list_all}
use Rattle.exec_tasks.specs.declared.end.TaskEnd.{TaskEnd}

pub record Branches : Type 0 where
  pub count : ℕ
  pub ends : List (Option TaskEnd)

abbrev pub no_branch_yet : ℕ → Branches
no_branch_yet count = record { count = count; ends = [] }

-- the next branch has begun
abbrev pub with_branch : Branches → Branches
with_branch s = record { count = s.count; ends = s.ends ++ None ∷ [] }

-- the end of a branch that runs
abbrev pub put_end : List (Option TaskEnd) → ℕ → TaskEnd → List (Option TaskEnd)
put_end [] branch how = []
put_end (None ∷ ends) zero how = Some how ∷ ends
put_end (Some e ∷ ends) zero how = Some e ∷ ends
put_end (e ∷ ends) (suc branch) how = e ∷ put_end ends branch how

abbrev pub with_end : Branches → ℕ → TaskEnd → Branches
with_end s branch how = record { count = s.count; ends = put_end s.ends branch how }

abbrev pub all_begun : Branches → Bool
all_begun s = not (nat_lt (length s.ends) s.count)

abbrev pub all_ended : Branches → Bool
all_ended s = list_all is_some s.ends

-- what stands after the fork can go on: a branch can begin, or the scope can be joined
abbrev pub can_go_on : Branches → Bool
can_go_on s = nat_lt (length s.ends) s.count || all_ended s

-- how many branches run
abbrev pub running_in : List (Option TaskEnd) → ℕ
running_in [] = 0
running_in (None ∷ ends) = running_in ends + 1
running_in (Some e ∷ ends) = running_in ends

-- what a scope keeps: it counts the branches that run
pub record IsCounted (count left : ℕ) (ends : List (Option TaskEnd)) : Type 0 where
  pub running : left ≡ running_in ends
  pub within : length ends ≤ count
  pub small : count < 4294967296
