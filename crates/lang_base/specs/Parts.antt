-- The places of an array, cut into parts of nearly one length.
use Rattle.std.specs.Prelude.{◌≡◌, ℕ, ◌+◌, ◌-◌, ◌*◌, ◌/◌, ◌<◌, ◌≤◌}
use Rattle.lang_base.specs.declared.array_part.Part.{Part}

-- part k of the places below a length begins here, rounded down
abbrev pub part_start : ℕ → ℕ → ℕ → ℕ
part_start len parts k = k * len / parts

-- from where this part begins up to where the next one does
abbrev pub part_of : ℕ → ℕ → ℕ → Part
part_of len parts k = record { from = part_start len parts k; len = part_start len parts (k + 1) - part_start len parts k }

-- the place after a part's last
abbrev pub part_end : Part → ℕ
part_end p = p.from + p.len

-- part 0 begins at 0
abbrev pub FirstBeginsAtZero : Type 0
FirstBeginsAtZero = (len parts : ℕ) → 0 < parts → (part_of len parts 0).from ≡ 0

-- each part begins where the one before it ends
abbrev pub NextBeginsAtEnd : Type 0
NextBeginsAtEnd = (len parts k : ℕ) → 0 < parts → (part_of len parts (k + 1)).from ≡ part_end (part_of len parts k)

-- the last part ends at the length
abbrev pub LastEndsAtLength : Type 0
LastEndsAtLength = (len parts k : ℕ) → k + 1 ≡ parts → part_end (part_of len parts k) ≡ len

-- a part ends before a later one begins
abbrev pub PartsHaveNoCommonPlace : Type 0
PartsHaveNoCommonPlace = (len parts j k : ℕ) → j < k → 0 < parts → part_end (part_of len parts j) ≤ (part_of len parts k).from
