-- The laws of effects, as statements.
use Rattle.std.specs.Prelude.{◌≡◌, ◌||◌, false, List, IsTrue}
use Rattle.lang_base.specs.declared.effect.Effect.{Effect}
use Rattle.lang_base.specs.declared.effect.Constraint.{Constraint}
use Rattle.lang_base.specs.Matching.{Env, IsEnv, MatchNoCommon}
use Rattle.lang_base.specs.Effects.{is_write, covers_effect, interferes, set_covers}

-- if two effects don't interfere, effects that they cover don't either
abbrev pub CoveredDoNotInterfere : Type 0
CoveredDoNotInterfere = (given : List Constraint) (e f c d : Effect) → IsTrue (covers_effect e c) → IsTrue (covers_effect f d) → interferes given e f ≡ false →
    interferes given c d ≡ false

-- if two effects, one of them a write, don't interfere, they have no region in common, in any environment
abbrev pub NoInterferenceNoCommon : Type 0
NoInterferenceNoCommon = (given : List Constraint) (env : Env) → IsEnv given env → (e f : Effect) → interferes given e f ≡ false →
    IsTrue (is_write e.access || is_write f.access) → MatchNoCommon env e.rpl f.rpl

-- if one effect interferes with another, that one does with it
abbrev pub InterferenceIsSymmetric : Type 0
InterferenceIsSymmetric = (given : List Constraint) (e f : Effect) → IsTrue (interferes given e f) → IsTrue (interferes given f e)

-- an effect covers itself
abbrev pub CoveringIsReflexive : Type 0
CoveringIsReflexive = (e : Effect) → IsTrue (covers_effect e e)

-- what is covered by a covered effect is covered
abbrev pub CoveringIsTransitive : Type 0
CoveringIsTransitive = (e f g : Effect) → IsTrue (covers_effect e f) → IsTrue (covers_effect f g) → IsTrue (covers_effect e g)

-- a set covers itself
abbrev pub SetCoversItself : Type 0
SetCoversItself = (es : List Effect) → IsTrue (set_covers es es)

-- a set covers what a covered set covers
abbrev pub SetCoversOn : Type 0
SetCoversOn = (es fs gs : List Effect) → IsTrue (set_covers es fs) → IsTrue (set_covers fs gs) → IsTrue (set_covers es gs)
