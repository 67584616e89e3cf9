use Rattle.std.proofs.Common.{◌≡◌, ℕ, ◌++◌, drop}
use Rattle.decl_headers.specs.Way.{extensions, roots, walks, Each, IsEnded}
use Rattle.decl_headers.proofs.forest.way.Given as goal

abbrev pub invariant-loop-at : goal.invariant-loop-at
invariant-loop-at l = (n : ℕ) → Each (IsEnded (extensions l.parents) n) (roots 0 l.parents) → Each (IsEnded (extensions l.parents) n) (roots l.at (drop l.at l.parents)) × (l.steps.items ++ walks (extensions l.parents) n (roots l.at (drop l.at l.parents)) ≡ walks (extensions l.parents) n (roots 0 l.parents))
