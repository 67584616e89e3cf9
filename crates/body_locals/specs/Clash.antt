-- Branches that get in each other's way by the locals declared outside them.
use Rattle.std.specs.Prelude.{ℕ, ◌⊎◌, Contains}
use Rattle.body_locals.specs.declared.branch.Touched.{Touched}

-- the branch reads or assigns the local
abbrev pub Uses : Touched → ℕ → Type 0
Uses branch local = Contains branch.reads local ⊎ Contains branch.writes local

-- the first assigns some local that the second reads or assigns
abbrev pub Disturbs : Touched → Touched → Type 0
Disturbs a b = (local : ℕ) × Contains a.writes local × Uses b local

-- one of the two assigns a local that the other reads or assigns
abbrev pub Clash : Touched → Touched → Type 0
Clash a b = Disturbs a b ⊎ Disturbs b a
