-- The effects that the checker has found, and those that the judgement lists: the checker keeps each once.
use Rattle.std.specs.Prelude.{◌≡◌, ◌↔◌, ◌⊎◌, List, Contains}
use Rattle.lang_base.specs.declared.array_part.PartUse.{PartUse}
use Rattle.lang_typed.specs.Effects.{Own, does, uses}
use Rattle.region_interfere.specs.Uses.{use_effect}
use Rattle.body_exprs.specs.declared.found.Found.{Found}

-- the effect is among those that were found
abbrev pub InFound : Found → Own → Type 0
InFound found (does e) = Contains found.effects e
InFound found (uses k e) = (u : PartUse) × Contains found.uses u × (u.view ≡ k) × (use_effect u ≡ e)

-- what is found after a piece is what was found before it, and these effects
abbrev pub Gathers : Found → List Own → Found → Type 0
Gathers before E after = (o : Own) → InFound after o ↔ (InFound before o ⊎ Contains E o)
