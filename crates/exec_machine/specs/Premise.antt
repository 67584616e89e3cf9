-- What a machine asks of its code.
use Rattle.std.specs.Prelude.{◌≡◌, ℕ, ℤ, List, Some, None}
use Rattle.lang_base.specs.declared.outcome.Limits.{Limits}
use Rattle.code_instrs.specs.declared.code.Code.{Code}
use Rattle.code_instrs.specs.Plain.{PlainCode, plain_code}
use Rattle.exec_world.specs.Ready.{IsReady}
use Rattle.exec_machine.specs.Running.{Running, Goes}
use Rattle.exec_machine.specs.Replay.{Moment, LeadsTo}

-- at this moment the ready tasks are there, and each task goes on
pub record GoesOn (C : PlainCode) (m : Moment) : Type 0 where
  -- no task has the next number yet
  pub next : m.tasks m.world.tree.begun ≡ None
  pub live : (k : ℕ) → IsReady m.world k → (t : Running) × (m.tasks k ≡ Some t)
  pub all_go : (k : ℕ) (t : Running) → m.tasks k ≡ Some t → Goes C k t

-- so at each moment to which a schedule leads
abbrev pub CanProgress : Code → Limits → ℤ → Type 0
CanProgress code L argument = (ks : List ℕ) (m : Moment) → LeadsTo code L argument ks m → GoesOn (plain_code code) m
