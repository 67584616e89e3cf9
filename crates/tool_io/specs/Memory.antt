-- Sources and sinks in memory.
use Rattle.std.specs.Prelude.{ℕ, ◌≡◌, ◌-◌, List, ◌++◌, drop, length, min, max}
use Rattle.tool_io.specs.Ends.{next_count}
use Rattle.tool_io.specs.Plan.{FaultPlan}

-- a source in memory: what is left, how much comes at a call, and which calls fail
pub record Supply : Type 0 where
  pub left : List ℕ
  pub piece : ℕ
  pub plan : FaultPlan

-- how many bytes a buffer of n bytes gets at a call that doesn't fail
abbrev pub given_next : ℕ → Supply → ℕ
given_next n s = min (min (max 1 s.piece) n) (length s.left)

-- the source after a call that gave n bytes
abbrev pub after_gift : ℕ → Supply → Supply
after_gift n s = record s { left = drop n s.left; plan = record s.plan { calls = next_count s.plan.calls } }

-- the source after a call that failed
abbrev pub after_fault : Supply → Supply
after_fault s = record s { plan = record s.plan { calls = next_count s.plan.calls; faults = next_count s.plan.faults } }

-- a sink in memory: what it holds and may hold at most, how much it takes at a call, and which calls fail
pub record Storage : Type 0 where
  pub held : List ℕ
  pub limit : ℕ
  pub piece : ℕ
  pub plan : FaultPlan

-- it holds as much as it may
abbrev pub IsFull : Storage → Type 0
IsFull s = length s.held ≡ s.limit

-- how many of n bytes are taken at a call that doesn't fail
abbrev pub taken_next : ℕ → Storage → ℕ
taken_next n s = min (min (max 1 s.piece) n) (s.limit - length s.held)

-- the sink after a call that took these bytes
abbrev pub after_taking : List ℕ → Storage → Storage
after_taking bytes s = record s { held = s.held ++ bytes; plan = record s.plan { calls = next_count s.plan.calls } }

-- the sink after a call that failed
abbrev pub after_refusal : Storage → Storage
after_refusal s = record s { plan = record s.plan { calls = next_count s.plan.calls; faults = next_count s.plan.faults } }

-- a sink in memory that fails only where it is full: what it holds, its room, and how often it failed
pub record PlainStorage : Type 0 where
  pub held : List ℕ
  pub room : ℕ
  pub faults : ℕ

-- the plain sink after a call that took these bytes
abbrev pub after_storing : List ℕ → PlainStorage → PlainStorage
after_storing bytes s = record s { held = s.held ++ bytes; room = s.room - length bytes }
