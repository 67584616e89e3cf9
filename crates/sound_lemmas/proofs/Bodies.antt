-- When a node of a body is free of faults.
use Rattle.std.proofs.Common.{◌≡◌, ◌∙◌, ℕ, Bool, true, false, cond, List, [], ◌∷◌, Option, Some, None, refl, sym}
use Rattle.std.specs.Prelude.{is_some}
use Rattle.lang_base.specs.declared.place.Place.{Place}
use Rattle.lang_base.specs.declared.refusal.Kind.{Kind}
use Rattle.lang_base.specs.declared.refusal.Kind.TheVariants as kind
use Rattle.lang_base.specs.declared.ty.Ty.{Ty}
use Rattle.syntax_tree.specs.declared.region.Named.{Named}
use Rattle.body_exprs.specs.declared.env.Env.{Env}
use Rattle.body_exprs.specs.Env.{local_of, has_room, part_declared, region_declared}
use Rattle.body_check.specs.declared.node.Node.{Node}
use Rattle.body_check.specs.Checking.{parts_noted}
use Rattle.body_check.specs.Noting.{with_fault, with_found, with_fault_if, node_at, without_faults, fault_of}
use Rattle.body_check.specs.Simple.{with_room, declaration_noted, is_region_name, region_noted, regions_noted}
use Rattle.sound_lemmas.proofs.Free.{noted_reported}

-- a node of which no fault is reported had none before, and none was found later
pub not_faulty : (node : Node) (reason : Kind) (place : Place) → fault_of (with_fault node reason place) ≡ None → ⊥
not_faulty node reason place h =
    let reported = noted_reported node.faults (record { kind = reason; place = place }) in
    let both : Some _ ≡ None = sym reported ∙ h in cc

pub free_if : (node : Node) (reason : Kind) (b : Bool) → fault_of (with_fault_if node reason b) ≡ None → (fault_of node ≡ None) × (b ≡ false)
free_if node reason true h = absurd (not_faulty node reason node.place h)
free_if node reason false h = (h, refl)

pub free_found : (node : Node) (found : Option Kind) → fault_of (with_found node found) ≡ None → (fault_of node ≡ None) × (found ≡ None)
free_found node None h = (h, refl)
free_found node (Some reason) h = absurd (not_faulty node reason node.place h)

room_free : (env : Env) (place : Place) (node : Node) → fault_of (with_room env place node) ≡ None → fault_of node ≡ None
room_free env place node h = by (has_room env) h
  where
    by : (b : Bool) → fault_of (cond b node (with_fault node kind.TooLong place)) ≡ None → fault_of node ≡ None
    by true h = h
    by false h = absurd (not_faulty node kind.TooLong place h)

once_free : (b : Bool) (node : Node) (place : Place) → fault_of (cond b (with_fault node kind.Duplicate place) node) ≡ None → fault_of node ≡ None
once_free true node place h = absurd (not_faulty node kind.Duplicate place h)
once_free false node place h = h

pub declared_free : (env : Env) (name : ℕ) (place : Place) (node : Node) → fault_of (declaration_noted env name place node) ≡ None → fault_of node ≡ None
declared_free env name place node h =
    once_free (is_some (local_of env name)) node place (room_free env place (cond (is_some (local_of env name)) (with_fault node kind.Duplicate place) node) h)

pub parts_free : (env : Env) (view var : Named) (t : Ty) (node : Node) → fault_of (parts_noted env view var t node) ≡ None → fault_of node ≡ None
parts_free env view var t node h =
    declared_free env view.name view.place node (declared_free (part_declared env view.name t) var.name var.place (declaration_noted env view.name view.place node) h)

pub regions_free : (env : Env) (node : Node) (names : List Named) → fault_of (regions_noted env node names) ≡ None → fault_of node ≡ None
regions_free env node [] h = h
regions_free env node (named ∷ names) h =
    once_free (is_region_name env named.name) node named.place
    (room_free env named.place (cond (is_region_name env named.name) (with_fault node kind.Duplicate named.place) node)
    (regions_free (region_declared env named.name) (region_noted env named node) names h))

-- a statement that passes doesn't follow one that doesn't complete
pub follows_none : (place : Place) (follows : Bool) → fault_of (node_at place follows) ≡ None → follows ≡ false
follows_none place true h = absurd (not_faulty (without_faults place) kind.Return place h)
follows_none place false h = refl
