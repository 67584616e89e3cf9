-- Where a byte stands.
use Rattle.std.specs.Prelude.{ℕ, ◌+◌, List, ◌==◌, if◌then◌else◌}
use Rattle.std.specs.List.{fold}
use Rattle.lang_base.specs.declared.place.Place.{Place}

-- the place of the first byte
abbrev pub first_place : Place
first_place = record { line = 1; col = 1 }

-- after one byte: the next line after a line feed, else the next column
abbrev pub next_place : Place → ℕ → Place
next_place place b = if b == 10 then record { line = place.line + 1; col = 1 } else record { line = place.line; col = place.col + 1 }

-- after all of these bytes
abbrev pub place_after : List ℕ → Place
place_after bytes = fold next_place first_place bytes
