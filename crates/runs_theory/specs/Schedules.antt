-- Recorded runs: a schedule names the task of each event, within limits.
use Rattle.std.specs.Prelude.{ℕ, suc, ◌+◌, ◌≤◌, ◌≡◌, List, [], ◌∷◌}
use Rattle.runs_theory.specs.Objects.{Path}
use Rattle.runs_theory.specs.Actions.{Action, Do, Fork, Begin, Join, End, Program}
use Rattle.runs_theory.specs.Runs.{Event, Run, Upto, count, steps_of, cells_of}
use Rattle.runs_theory.specs.Blocks.{Allowed}
use Rattle.runs_theory.specs.Order.{Outcome, Limited, Comes}
pub use Rattle.lang_base.specs.declared.outcome.Limits.{Limits}

pub record Within (P : Program) (L : Limits) (R : Run) : Type 0 where
  pub steps : steps_of R ≤ L.steps
  pub cells : cells_of P R ≤ L.cells

-- how many branches have begun
abbrev pub one_begin : Action → ℕ
one_begin (Begin b) = 1
one_begin (Do o) = 0
one_begin (Fork ts) = 0
one_begin Join = 0
one_begin (End x) = 0

unfoldable pub begins : Run → ℕ
begins [] = 0
begins (e ∷ R) = one_begin e.act + begins R

-- the root is task 0, and the k-th branch begun is task k
pub data Numbered (R : Run) (k : ℕ) (p : Path) : Type 0 where
  root_is : p ≡ [] → k ≡ 0 → Numbered R k p
  branch_is : (q : Path) (u : ℕ × ℕ) (G : Run) (g : Event) → p ≡ u ∷ q → Upto (g ∷ G) R → g.path ≡ q → g.act ≡ Begin u.1
      → count G q ≡ suc (u.0 + u.1) → k ≡ suc (begins G) → Numbered R k p

-- this event of the task of this number may come next
pub record Ready (P : Program) (R : Run) (k : ℕ) (e : Event) : Type 0 where
  pub allowed : Allowed P R e
  pub number : Numbered R k e.path

-- no task with a greater number could make an event
pub record Greatest (P : Program) (R : Run) (e : Event) : Type 0 where
  pub none : (f : Event) (j k : ℕ) → Allowed P R f → Numbered R j f.path → Numbered R k e.path → j ≤ k

-- each event was made by the ready task with the greatest number
abbrev pub Greedy : Program → Run → Type 0
Greedy P [] = Unit {0}
Greedy P (e ∷ R) = Greatest P R e × Greedy P R

-- the run that a schedule records, the latest number first: each number lets its task make its next event, within the limits
abbrev pub Ran : Program → Limits → List ℕ → Run → Type 0
Ran P L [] [] = Within P L []
Ran P L [] (e ∷ R) = ⊥
Ran P L (k ∷ ks) [] = ⊥
Ran P L (k ∷ ks) (e ∷ R) = Ran P L ks R × Ready P R k e × Within P L (e ∷ R)

-- a schedule that has finished, and how it comes out: its run comes out; or its last number's event would be over a limit; or
-- the object that stands at the start is over the limit of cells
pub data Finished (P : Program) (L : Limits) : List ℕ → Outcome → Type 0 where
  ended : {ks : List ℕ} {o : Outcome} (R : Run) → Ran P L ks R → Comes P R o → Finished P L ks o
  over : (k : ℕ) (ks : List ℕ) (R : Run) (e : Event) → Ran P L ks R → Ready P R k e → (Within P L (e ∷ R) → ⊥) → Finished P L (k ∷ ks) (Limited L.steps L.cells)
  no_room : (Within P L [] → ⊥) → Finished P L [] (Limited L.steps L.cells)
