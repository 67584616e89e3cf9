-- How many steps a task takes to its next action.
use Rattle.std.specs.Prelude.{◌≡◌, ◌<◌, ℕ, Bool, true, false, Option, Some, None}
use Rattle.std.proofs.Common.{arith, sym, ◌∙◌}
use Rattle.std.proofs.Math.Bool.{Bool-set}
use mathlib.Core.HLevel.{Π_prop, ×_prop, Σ_prop_path}
use Rattle.code_instrs.specs.RunsToActions.{Halt, Asks, Finished, Dead}
use Rattle.code_instrs.specs.Plain.{PlainCode}
use Rattle.exec_task.specs.declared.task.Task.{Task}
use Rattle.exec_task.specs.Halts.{run_from}
use Rattle.exec_task.specs.Names.{names_of}
use Rattle.exec_task.specs.Tasks.{state_of}

abbrev pub is_well : {N M : Type 0} → Option (Halt N M) → Bool
is_well None = false
is_well (Some (Asks n m a k)) = true
is_well (Some (Finished n e)) = true
is_well (Some Dead) = false

-- with so many steps it comes to a halt that isn't stuck
abbrev pub is_enough : PlainCode → Task → ℕ → Bool
is_enough C t n = is_well (run_from (names_of t.number) C n t.ticks t.made (state_of t))

-- and with fewer it doesn't
abbrev pub Least : PlainCode → Task → Type 0
Least C t = (n : ℕ) × ((is_enough C t n ≡ true) × ((k : ℕ) → k < n → is_enough C t k ≡ false))

below_least : (C : PlainCode) (t : Task) (a b : Least C t) → a.0 < b.0 → ⊥
below_least C t a b h = let c = sym a.1.0 ∙ b.1.1 a.0 h in cc

pub one_least : (C : PlainCode) (t : Task) (a b : Least C t) → a.0 ≡ b.0
one_least C t a b = let h = below_least C t a b in let k = below_least C t b a in omega arith

pub Least-prop : (C : PlainCode) (t : Task) → IsProp (Least C t)
Least-prop C t a b = Σ_prop_path (λ n. ×_prop (Bool-set _ _) (Π_prop λ k. Π_prop λ h. Bool-set _ _)) (one_least C t a b)
