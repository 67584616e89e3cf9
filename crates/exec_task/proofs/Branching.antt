-- In front of a join a task waits to begin a branch, or to join all.
use Rattle.std.proofs.Common.{◌≡◌, ℕ, zero, suc, ◌-◌, List, refl}
use Rattle.lang_meaning.specs.Values.{Value}
use Rattle.code_instrs.specs.Machine.{Level, joins_fork, joins_spread}
use Rattle.code_instrs.specs.Plain.{PlainCode}
use Rattle.exec_task.specs.declared.action.Action.TheVariants as action
use Rattle.exec_task.specs.Steps.{WaitsFor, next_branch}

pub next_one : (total left : ℕ) → (left ≡ 0 → ⊥) → next_branch total left ≡ action.Begin (total - left)
next_one total zero h = absurd (h refl)
next_one total (suc left) h = refl

pub fork_waits : (C : PlainCode) (total : ℕ) (copies : List ℕ) (k : ℕ) (g : Level ℕ (ℕ × ℕ)) (st : List (Value ℕ)) (fs : List (Level ℕ (ℕ × ℕ)))
    → WaitsFor C (joins_fork total copies k g st fs) (next_branch total k)
fork_waits C total copies zero g st fs = record { does = _; then_on = _; waits = refl; says = refl }
fork_waits C total copies (suc k) g st fs = record { does = _; then_on = _; waits = refl; says = refl }

pub spread_waits : (C : PlainCode) (next : Value ℕ) (total k : ℕ) (g : Level ℕ (ℕ × ℕ)) (st : List (Value ℕ)) (fs : List (Level ℕ (ℕ × ℕ)))
    → WaitsFor C (joins_spread next total k g st fs) (next_branch total k)
spread_waits C next total zero g st fs = record { does = _; then_on = _; waits = refl; says = refl }
spread_waits C next total (suc k) g st fs = record { does = _; then_on = _; waits = refl; says = refl }
