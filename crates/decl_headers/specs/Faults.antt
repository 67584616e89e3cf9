-- The faults that a pass notes: of all of them one is reported.
use Rattle.std.specs.Prelude.{Bool, cond, List, fold, Option, Some, None, Result, Ok, Err}
use Rattle.std.specs.Ordering.{is_lt, on, then_cmp}
use Rattle.std.specs.declared.cmp.Ordering.{Ordering}
use Rattle.lang_base.specs.declared.refusal.Refusal.{Refusal}
use Rattle.lang_base.specs.declared.refusal.Stop.{Stop}
use Rattle.lang_base.specs.declared.refusal.Stop.TheVariants.{Refused}
use Rattle.lang_base.specs.contracts.place.PlaceOrd.TheImpl as places
use Rattle.lang_base.specs.contracts.refusal.KindOrd.TheImpl as kinds
use Rattle.decl_headers.specs.declared.faults.Faults.{Faults}
use Rattle.decl_headers.specs.declared.faults.Order.{Order}
use Rattle.decl_headers.specs.declared.faults.Order.TheVariants as order

-- how two faults stand to each other: by their places, and at one place by their kinds, in the order in which `Kind`
-- lists these; or by their kinds first
abbrev pub compared : Order → Refusal → Refusal → Ordering
compared order.Place = then_cmp (on (λ fault. fault.place) places.cmp-value.it) (on (λ fault. fault.kind) kinds.cmp-value.it)
compared order.Kind = then_cmp (on (λ fault. fault.kind) kinds.cmp-value.it) (on (λ fault. fault.place) places.cmp-value.it)

-- the first fault is reported rather than the second
abbrev pub comes_first : Order → Refusal → Refusal → Bool
comes_first by a b = is_lt (compared by a b)

-- the one that is reported, where one was reported so far and a further one is noted
abbrev pub reported_of : Order → Option Refusal → Refusal → Refusal
reported_of by None fault = fault
reported_of by (Some reported) fault = cond (comes_first by fault reported) fault reported

-- the fault that is reported, where one was noted
abbrev pub reported : Faults → Option Refusal
reported faults = faults.kept

-- no fault is noted, and the order is this one
abbrev pub none_by : Order → Faults
none_by by = record { order = by; kept = None }

-- with a further fault
unfoldable pub noted : Faults → Refusal → Faults
noted faults fault = record faults { kept = Some (reported_of faults.order faults.kept fault) }

-- with further faults, one after the other
abbrev pub all_noted : Faults → List Refusal → Faults
all_noted faults found = fold noted faults found

-- with none of its faults
abbrev pub forgotten : Faults → Faults
forgotten faults = record faults { kept = None }

-- the fault that is reported stops, where there is one
abbrev pub settled : Option Refusal → Result (Unit {0}) Stop
settled None = Ok tt
settled (Some fault) = Err (Refused fault)
