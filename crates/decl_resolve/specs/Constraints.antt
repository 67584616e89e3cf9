-- The constraints of a class or a method where region arguments are given.
use Rattle.std.specs.Prelude.{Bool, true, ◌&&◌, List, [], ◌∷◌}
use Rattle.lang_base.specs.declared.effect.Constraint.{Constraint}
use Rattle.lang_base.specs.declared.region.Rpl.{Rpl}
use Rattle.lang_base.specs.Apart.{apart}
use Rattle.lang_base.specs.Regions.{substituted}

-- its two sides are apart with the arguments put in, where the constraints in force hold
abbrev pub holds_at : List Constraint → List Rpl → Constraint → Bool
holds_at given args c = apart given (substituted args c.left) (substituted args c.right)

abbrev pub all_hold : List Constraint → List Rpl → List Constraint → Bool
all_hold given args [] = true
all_hold given args (c ∷ cs) = holds_at given args c && all_hold given args cs
