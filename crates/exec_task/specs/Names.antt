-- Objects and local regions by their numbers, and the data of a task as the meaning has them.
use Rattle.std.specs.Prelude.{ℕ, map}
use Rattle.lang_base.specs.declared.effect.Effect.{Effect as PathEffect}
use Rattle.lang_base.specs.declared.elems.Elem.{Elem}
use Rattle.lang_base.specs.declared.region.Region.{Region as DeclaredRegion}
use Rattle.lang_meaning.specs.Values.{Part, Region, Naming}
use Rattle.lang_meaning.specs.Actions.{Effect}
use Rattle.exec_frames.specs.Names.{Of_task, names_by, part_by, region_by}

-- of the task with this number
abbrev pub names_of : ℕ → Naming ℕ (ℕ × ℕ)
names_of task = names_by (Of_task task)

-- an element, a region and an effect say which task made a local region, whatever task has them
abbrev pub plain_part : Elem → Part (ℕ × ℕ)
plain_part = part_by (Of_task 0)

abbrev pub plain_region : DeclaredRegion → Region (ℕ × ℕ)
plain_region = region_by (Of_task 0)

-- an effect of a run begins at the root
abbrev pub plain_effect : PathEffect → Effect (ℕ × ℕ)
plain_effect e = record { access = e.access; region = map plain_part e.rpl.elems }
