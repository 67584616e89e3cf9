-- What is gathered of the statements of a block or of a branch.
use Rattle.std.specs.Prelude.{ℕ, ◌++◌, ◌||◌, true, not, cond, List, [], ◌∷◌, map, filter, Option, Some, None}
use Rattle.lang_base.specs.declared.effect.Effect.{Effect}
use Rattle.lang_base.specs.declared.array_part.PartUse.{PartUse}
use Rattle.lang_base.specs.Effects.{gathered, all_marked}
use Rattle.region_interfere.specs.Uses.{use_effect, is_use_of}
use Rattle.body_exprs.specs.declared.found.Found.{Found}
use Rattle.body_check.specs.declared.leaving.Leaving.{Leaving}
use Rattle.body_check.specs.Leaving.{left_effect}

abbrev pub before : Option Effect → List Effect → List Effect
before None es = es
before (Some e) es = e ∷ es

-- what is left of each effect after a scope
abbrev pub all_left : Leaving → List Effect → List Effect
all_left leaving [] = []
all_left leaving (e ∷ es) = before (left_effect leaving e) (all_left leaving es)

-- with what was found of a piece of the text, as it is after the piece
abbrev pub taken_in : Leaving → Found → Found → Found
taken_in leaving outer inner = record {
  effects = gathered outer.effects (all_left leaving inner.effects);
  uses = outer.uses ++ inner.uses;
  reaches_nd = outer.reaches_nd || inner.reaches_nd;
}

-- effects, and after them the uses of parts as effects, each once
abbrev pub with_uses : List Effect → List PartUse → List Effect
with_uses es uses = gathered es (gathered [] (map use_effect uses))

-- the effects with which an atomic block is entered that does this: all marked, but for the uses of parts
abbrev pub entered : Found → List Effect
entered found = with_uses (all_marked true found.effects) found.uses

-- the same use, of another part
abbrev pub of_view : ℕ → PartUse → PartUse
of_view view u = record u { view = view }

-- a use of the one part becomes one of the other
abbrev pub moved : ℕ → ℕ → PartUse → PartUse
moved view outer u = cond (is_use_of view u) (of_view outer u) u

-- after a `foreach_parts` the uses of its part are effects, or uses of the part that it is of
abbrev pub handed_on : ℕ → Option ℕ → Found → Found
handed_on view None found = record found {
  effects = with_uses found.effects (filter (is_use_of view) found.uses);
  uses = filter (λ u. not (is_use_of view u)) found.uses;
}
handed_on view (Some outer) found = record found { uses = map (moved view outer) found.uses }
