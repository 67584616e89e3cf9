-- What a class has from the classes above it.
use Rattle.std.specs.Prelude.{ℕ, zero, suc, List, [], ◌∷◌, slice_get, Option, None, Some}
use Rattle.std.specs.Option.{option_map_or}
use Rattle.lang_typed.specs.declared.program.Class.{Class}
use Rattle.lang_typed.specs.declared.program.Parent.{Parent}

-- the superclasses of a class with this superclass, the nearest first, so many at most
abbrev pub superclasses : List Class → ℕ → Option Parent → List ℕ
superclasses all zero parent = []
superclasses all (suc n) None = []
superclasses all (suc n) (Some p) = option_map_or (λ above. p.class.number ∷ superclasses all n above.parent) (slice_get all p.class.number) []
