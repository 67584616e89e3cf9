-- What a call of a source or a sink does.
use Rattle.std.specs.Prelude.{ℕ, ◌≡◌, ◌+◌, ◌-◌, ◌^◌, ◌<◌, ◌≤◌, ◌⊎◌, List, [], length, min, take}

-- one more, up to the last value of a counter of 64 bits
abbrev pub next_count : ℕ → ℕ
next_count n = min (n + 1) (2 ^ 64 - 1)

-- a count rose, or stands at the counter's last value
abbrev pub Rose : ℕ → ℕ → Type 0
Rose old new = (old < new) ⊎ (new ≡ 2 ^ 64 - 1)

-- the first n bytes that were left stand at the front of the buffer, and n is 0 exactly where none was left
pub record Fills (left after : List ℕ) (n : ℕ) : Type 0 where
  pub within : n ≤ length left
  pub front : take n after ≡ take n left
  pub end : n ≡ 0 → left ≡ []
