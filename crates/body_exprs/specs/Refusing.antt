-- Refusals: as what stops a pass, and the one of several faults that is reported.
use Rattle.std.specs.Prelude.{List, Option}
use Rattle.lang_base.specs.declared.place.Place.{Place}
use Rattle.lang_base.specs.declared.refusal.Kind.{Kind}
use Rattle.lang_base.specs.declared.refusal.Refusal.{Refusal}
use Rattle.lang_base.specs.declared.refusal.Stop.{Stop}
use Rattle.lang_base.specs.declared.refusal.Stop.TheVariants.{Refused}
use Rattle.decl_headers.specs.declared.faults.Order.TheVariants as order
use Rattle.decl_headers.specs.Faults.{reported, none_by, all_noted}

abbrev pub refusal_at : Kind → Place → Stop
refusal_at kind place = Refused (record { kind = kind; place = place })

-- of the faults of one expression the one with the lowest number is reported, at one number the first in the text
abbrev pub reported_first : List Refusal → Option Refusal
reported_first faults = reported (all_noted (none_by order.Kind) faults)
