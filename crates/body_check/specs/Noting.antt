-- A statement as a node with the faults of its own that were noted.
use Rattle.std.specs.Prelude.{Bool, cond, Option, Some, None}
use Rattle.lang_base.specs.declared.place.Place.{Place}
use Rattle.lang_base.specs.declared.refusal.Kind.{Kind}
use Rattle.lang_base.specs.declared.refusal.Kind.TheVariants as kind
use Rattle.lang_base.specs.declared.refusal.Refusal.{Refusal}
use Rattle.decl_headers.specs.declared.faults.Order.TheVariants as order
use Rattle.decl_headers.specs.Faults.{none_by, noted, reported, reported_of, forgotten}
use Rattle.body_check.specs.declared.node.Node.{Node}

-- with a fault of this kind at this place
abbrev pub with_fault : Node → Kind → Place → Node
with_fault node fault place = record node { faults = noted node.faults (record { kind = fault; place = place }) }

-- with a fault at the statement's own place, where one was found
abbrev pub with_found : Node → Option Kind → Node
with_found node None = node
with_found node (Some fault) = with_fault node fault node.place

-- with a fault at the statement's own place, where it is there
abbrev pub with_fault_if : Node → Kind → Bool → Node
with_fault_if node fault is_there = cond is_there (with_fault node fault node.place) node

abbrev pub without_faults : Place → Node
without_faults place = record { place = place; faults = none_by order.Kind }

-- a statement after one that doesn't complete is a fault
abbrev pub node_at : Place → Bool → Node
node_at place follows = cond follows (with_fault (without_faults place) kind.Return place) (without_faults place)

-- the fault that is reported of a node
abbrev pub fault_of : Node → Option Refusal
fault_of node = reported node.faults

-- the fault that is reported of a node with this further one
abbrev pub refusal_with : Node → Kind → Place → Refusal
refusal_with node fault place = reported_of node.faults.order node.faults.kept (record { kind = fault; place = place })

abbrev pub settled_node : Node → Node
settled_node node = record node { faults = forgotten node.faults }
