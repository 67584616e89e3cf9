-- The gathered run: each block's events together at its entry.
use Rattle.std.specs.Prelude.{ℕ, ◌≡◌, ◌⊎◌, List, [], ◌∷◌}
use Rattle.runs_theory.specs.Objects.{Path, Effect}
use Rattle.runs_theory.specs.Actions.{Do, Enter}
use Rattle.runs_theory.specs.Runs.{Event, Run, Upto, mine, count}
use Rattle.runs_theory.specs.Blocks.{Out_of, In_block, hold}
use Rattle.runs_theory.specs.Standing.{Standing, Outside, Inside, standing}
use Rattle.runs_reduction.specs.Insertion.{Spot, All_of, rearranged, Earlier}

-- an event inside a block belongs after the latest event of its opener and of the tasks below it; any other after all
abbrev pub block_of : Standing → Spot
block_of Outside = All_of []
block_of (Inside o E) = All_of o

abbrev pub block_spot : Run → Event → Spot
block_spot R e = block_of (standing R e.path)

abbrev pub gather : Run → Run
gather R = rearranged block_spot R

-- the outermost entry of the block of o that is open at this moment
pub record EntryOf (X : Run) (o : Path) (E : List Effect) (A : Run) (a : Event) : Type 0 where
  pub stands : Upto (a ∷ A) X
  pub path : a.path ≡ o
  pub outside : hold (mine A o) ≡ Out_of
  pub act : a.act ≡ Do (Enter E)
  pub open_since : (Z : Run) → Upto Z X → Upto (a ∷ A) Z → (n : ℕ) × (hold (mine Z o) ≡ In_block n E)

-- where an event belongs in the gathered run: inside a block at the block's outermost entry, else at its own place
pub data Anchor (X : Run) (x : Event) (A : Run) (a : Event) : Type 0 where
  itself : standing X x.path ≡ Outside → A ≡ X → a ≡ x → Anchor X x A a
  entry : (o : Path) (E : List Effect) → standing X x.path ≡ Inside o E → EntryOf X o E A a → Anchor X x A a

-- G is R with each block's events at its entry, in their order, and all else in its order
pub record AtEntries (R G : Run) : Type 0 where
  pub each : (X Y A B : Run) (x y a b : Event) → Upto (x ∷ X) R → Upto (y ∷ Y) R → Anchor X x A a → Anchor Y y B b
      → Upto (a ∷ A) B ⊎ ((A ≡ B) × Upto (x ∷ X) Y) → Earlier G x.path (count X x.path) y.path (count Y y.path)
  pub has : (X : Run) (x : Event) → Upto (x ∷ X) R → (A : Run) × (a : Event) × Anchor X x A a

-- what stands in G between two events of one block is of that block
pub record Together (R G : Run) : Type 0 where
  pub none_between : (X Y Z A B C : Run) (x y z a b c : Event) → Upto (x ∷ X) R → Upto (y ∷ Y) R → Upto (z ∷ Z) R
      → Anchor X x A a → Anchor Y y B b → Anchor Z z C c → A ≡ C
      → Earlier G x.path (count X x.path) y.path (count Y y.path) → Earlier G y.path (count Y y.path) z.path (count Z z.path) → A ≡ B
