-- The effects that expressions are found to have.
use Rattle.std.specs.Prelude.{ℕ, false, List}
use Rattle.lang_base.specs.declared.effect.Access.{Access}
use Rattle.lang_base.specs.declared.effect.Effect.{Effect}
use Rattle.lang_base.specs.declared.region.Rpl.{Rpl}
use Rattle.lang_base.specs.declared.array_part.PartUse.{PartUse}
use Rattle.lang_base.specs.Regions.{substituted}

-- a plain read or write
abbrev pub access_to : Rpl → Access → Effect
access_to rpl how = record { access = how; atomic = false; rpl = rpl }

-- a read or a write through a part
abbrev pub part_access : ℕ → Rpl → Access → PartUse
part_access view rpl how = record { view = view; rpl = rpl; access = how }

-- an effect of a summary with region arguments put in
abbrev pub effect_with : List Rpl → Effect → Effect
effect_with args e = record { access = e.access; atomic = e.atomic; rpl = substituted args e.rpl }
