use Rattle.std.proofs.Common.{◌≡◌, ◌+◌, ◌-◌, ℕ, None, is_some, count_by, slice_index_or}
use Rattle.exec_tasks.proofs.page.reach.Given as goal

-- no value has come or gone
abbrev pub invariant-loop-list : goal.invariant-loop-list
invariant-loop-list g l =
    ((k : ℕ) → slice_index_or l.list.items k None ≡ slice_index_or l.fn.list.items k None) × (count_by is_some l.list.items ≡ count_by is_some l.fn.list.items)

abbrev pub decreases-loop-list : goal.decreases-loop-list
decreases-loop-list g l = l.place + 1 - l.list.len
