-- Which calls of an end in memory fail.
use Rattle.std.specs.Prelude.{ℕ, ◌+◌, ◌-◌, ◌^◌, ◌<◌, List, Contains}

-- the numbers of the calls that fail, from 1, and how many calls and faults there were
pub record FaultPlan : Type 0 where
  pub fails : List ℕ
  pub calls : ℕ
  pub faults : ℕ

-- the plan of an end on which no call was made
abbrev pub opening_plan : List ℕ → FaultPlan
opening_plan fails = record { fails = fails; calls = 0; faults = 0 }

-- the next call is one that fails; a call after the counter's last has no number
abbrev pub FailsNext : FaultPlan → Type 0
FailsNext p = (p.calls < 2 ^ 64 - 1) × Contains p.fails (p.calls + 1)
