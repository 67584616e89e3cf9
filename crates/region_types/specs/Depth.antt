-- How deep inside array types one is, counted as far as an index of a path can count.
use Rattle.std.specs.Prelude.{◌≡◌, ◌≤◌, ◌^◌, ℕ, Option, Some, None}
use Rattle.region_types.specs.declared.depth.Depth.{Depth}

abbrev pub IsCounted : Option ℕ → ℕ → Type 0
IsCounted None n = 2 ^ 32 ≤ n
IsCounted (Some depth) n = depth ≡ n

-- so many array types further in
abbrev pub IsDepth : Depth → ℕ → Type 0
IsDepth depth n = IsCounted depth.counted n
