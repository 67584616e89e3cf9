-- What small trees mean, and what they don't.
use Rattle.std.specs.Prelude.{◌≡◌, ℕ, false, List, [], ◌∷◌, None}
use Rattle.syntax_means.specs.Means.{Means}
use Rattle.syntax_means.specs.Paths.{root_path}
use Rattle.trial_samples.specs.trees.Nodes.{OtherPicks, other_right, other_program}
use Rattle.trial_samples.specs.trees.Nodes.{tree as other_tree}
use Rattle.trial_samples.specs.trees.Rows.{rows_program}
use Rattle.trial_samples.specs.trees.Rows.{tree as rows_tree}
use Rattle.trial_samples.specs.trees.Cells.{Picks, right, program, tree}

-- the first means one program, and no other of that form
pub record SampleMeans : Type 0 where
  pub means : Means tree (program right)
  pub only : (q : Picks) → Means tree (program q) → q ≡ right

-- so does the other
pub record OtherMeans : Type 0 where
  pub means : Means other_tree (other_program other_right)
  pub only : (q : OtherPicks) → Means other_tree (other_program q) → q ≡ other_right

-- so the first means none with `Root` for the region of a field, with the superclass's method in an overridden row, without the region argument of a
-- creation, with the slots of two locals the other way round, with a local of another block, with another local region, with the slot of the field
-- before, with an outer local for the loop's variable or another local for a formal, or with another method to begin in
pub record WrongAreRefused : Type 0 where
  pub region : Means tree (program (record right { region = root_path })) → ⊥
  pub parent : Means tree (program (record right { parent = root_path })) → ⊥
  pub row : Means tree (program (record right { row = 0 })) → ⊥
  pub summary : Means tree (program (record right { summary = root_path })) → ⊥
  pub no_args : Means tree (program (record right { args = [] })) → ⊥
  pub root_args : Means tree (program (record right { args = root_path ∷ [] })) → ⊥
  pub slots : Means tree (program (record right { first = 4; second = 3; printed = 3 })) → ⊥
  pub printed : Means tree (program (record right { printed = 3 })) → ⊥
  pub local_region : Means tree (program (record right { local_region = 1 })) → ⊥
  pub slot : Means tree (program (record right { slot = 0 })) → ⊥
  pub index : Means tree (program (record right { index = 1 })) → ⊥
  pub actual : Means tree (program (record right { actual = 2 })) → ⊥
  pub main : Means tree (program (record right { main = 0 })) → ⊥

-- and the other none without the constructor, with another row, without the region argument of a call, with another slot for a part, with
-- the field before, with the variable of the loop inside for that outside, or without the mark of nd
pub record WrongOthersAreRefused : Type 0 where
  pub constructor : Means other_tree (other_program (record other_right { constructor = None })) → ⊥
  pub row : Means other_tree (other_program (record other_right { row = 1 })) → ⊥
  pub no_regions : Means other_tree (other_program (record other_right { regions = [] })) → ⊥
  pub part : Means other_tree (other_program (record other_right { part = 3 })) → ⊥
  pub slot : Means other_tree (other_program (record other_right { slot = 0 })) → ⊥
  pub subtracted : Means other_tree (other_program (record other_right { subtracted = 14 })) → ⊥
  pub uses_nd : Means other_tree (other_program (record other_right { uses_nd = false })) → ⊥

-- a class has the rows of its superclass first, and its own method in the row of the one that it overrides; the rows of both in the other
-- order are refused
pub record RowsMean : Type 0 where
  pub means : Means rows_tree (rows_program (0 ∷ 1 ∷ []) (0 ∷ 2 ∷ []))
  pub only : (low high : List ℕ) → Means rows_tree (rows_program low high) → (low ≡ 0 ∷ 1 ∷ []) × (high ≡ 0 ∷ 2 ∷ [])
  pub other_order : Means rows_tree (rows_program (1 ∷ 0 ∷ []) (2 ∷ 0 ∷ [])) → ⊥
