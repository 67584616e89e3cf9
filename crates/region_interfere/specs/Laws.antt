-- The laws of interference between branches, as statements.
use Rattle.std.specs.Prelude.{◌≡◌, false, List, IsTrue, Option}
use Rattle.lang_base.specs.declared.region.Rpl.{Rpl}
use Rattle.lang_base.specs.declared.effect.Effect.{Effect}
use Rattle.lang_base.specs.declared.effect.Constraint.{Constraint}
use Rattle.lang_base.specs.Regions.{within}
use Rattle.lang_base.specs.Effects.{covers_effect}
use Rattle.lang_base.specs.Branches.{Atomic, atomic_path, clashes}

-- a path that lies in an atomic one is atomic
abbrev pub AtomicWithin : Type 0
AtomicWithin = (atomic : Atomic) (a b : Rpl) → IsTrue (within a b) → IsTrue (atomic_path atomic b) → IsTrue (atomic_path atomic a)

-- if two effects don't clash, effects that they cover don't either
abbrev pub CoveredDoNotClash : Type 0
CoveredDoNotClash = (given : List Constraint) (nd : Option Atomic) (e f c d : Effect) → IsTrue (covers_effect e c) → IsTrue (covers_effect f d) →
    clashes given nd e f ≡ false → clashes given nd c d ≡ false
