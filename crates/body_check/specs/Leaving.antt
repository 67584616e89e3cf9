-- What is left of effects after the scope of index variables and local regions.
use Rattle.std.specs.Prelude.{ℕ, Bool, true, false, cond, List, ◌∷◌, map, Option, Some, None, nat_le}
use Rattle.lang_base.specs.declared.elems.Elem.{Elem}
use Rattle.lang_base.specs.declared.elems.Elem.TheVariants.{At, Any, Local}
use Rattle.lang_base.specs.declared.elems.Index.TheVariants.{Variable}
use Rattle.lang_base.specs.declared.effect.Effect.{Effect}
use Rattle.lang_base.specs.declared.region.Rpl.{Rpl}
use Rattle.body_exprs.specs.declared.env.Env.{Env}
use Rattle.body_exprs.specs.Env.{declared_in, slots_in}
use Rattle.body_check.specs.declared.leaving.Leaving.{Leaving}
use Rattle.body_check.specs.declared.leaving.Marks.{Marks}
use Rattle.body_check.specs.declared.leaving.Marks.TheVariants as marks

-- `[?]` for an index variable that goes out of scope: one in this slot or a later one
abbrev pub left_elem : ℕ → Elem → Elem
left_elem first (At (Variable v)) = cond (nat_le first v) Any (At (Variable v))
left_elem first x = x

abbrev pub left_path : ℕ → Rpl → Rpl
left_path first a = record { head = a.head; elems = map (left_elem first) a.elems }

abbrev pub left_mark : Marks → Bool → Bool
left_mark marks.Kept mark = mark
left_mark marks.Dropped mark = false
left_mark marks.Set mark = true

-- the path begins with a local region that goes out of scope: one with this number or a later one
abbrev pub begins_inside : ℕ → List Elem → Bool
begins_inside first (Local d n ∷ rest) = nat_le first d
begins_inside first elems = false

-- nothing is left of an effect on such a region
abbrev pub left_effect : Leaving → Effect → Option Effect
left_effect leaving e =
    cond (begins_inside leaving.first_region e.rpl.elems) None
    (Some (record { access = e.access; atomic = left_mark leaving.marks e.atomic; rpl = left_path leaving.first_slot e.rpl }))

-- what is declared from here on goes out of scope
abbrev pub from_here : Env → Marks → Leaving
from_here env kept = record { first_slot = slots_in env; first_region = declared_in env; marks = kept }
