-- The summary that is meant where none is written.
use Rattle.std.specs.Prelude.{false, [], ◌∷◌}
use Rattle.lang_base.specs.declared.effect.Access.TheVariants.{Write}
use Rattle.lang_base.specs.declared.effect.Effect.{Effect}
use Rattle.lang_base.specs.declared.elems.Elem.TheVariants.{Star}
use Rattle.lang_base.specs.declared.region.Head.TheVariants.{Root}

-- `writes Root:*`
abbrev pub anything : Effect
anything = record { access = Write; atomic = false; rpl = record { head = Root; elems = Star ∷ [] } }
