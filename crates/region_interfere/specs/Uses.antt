-- Uses of array parts as effects, and when the branches of a `foreach_parts` interfere.
use Rattle.std.specs.Prelude.{ℕ, Bool, false, not, ◌||◌, ◌==◌, List, [], None, map, filter}
use Rattle.lang_base.specs.declared.array_part.PartUse.{PartUse}
use Rattle.lang_base.specs.declared.effect.Effect.{Effect}
use Rattle.lang_base.specs.declared.effect.Constraint.{Constraint}
use Rattle.lang_base.specs.Branches.{lists_clash, iterations_clash}
use Rattle.lang_base.specs.Effects.{gathered}

-- a read or a write of the array's region, without a mark
abbrev pub use_effect : PartUse → Effect
use_effect u = record { access = u.access; atomic = false; rpl = u.rpl }

-- the use is one of the part
abbrev pub is_use_of : ℕ → PartUse → Bool
is_use_of view u = u.view == view

-- the effects with the uses of the part added, each effect once
abbrev pub with_uses_of : ℕ → List Effect → List PartUse → List Effect
with_uses_of view es uses = gathered es (map use_effect (filter (is_use_of view) uses))

-- the effects with the uses of other parts added, each effect once
abbrev pub with_other_uses : ℕ → List Effect → List PartUse → List Effect
with_other_uses view es uses = gathered es (map use_effect (filter (λ u. not (is_use_of view u)) uses))

-- what a branch does by other ways than through its part interferes with what another branch does by them, or
-- with what it does through its part
abbrev pub parts_interfere : List Constraint → ℕ → ℕ → List Effect → List PartUse → Bool
parts_interfere given view var body uses =
    iterations_clash given None var (with_other_uses view body uses)
    || lists_clash given None (with_other_uses view body uses) (with_uses_of view [] uses)
