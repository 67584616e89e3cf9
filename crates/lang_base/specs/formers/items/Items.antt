-- How `Items` stores what it holds, so that a type may hold a list of itself.
use mathlib.Core.Path.{◌≡◌, refl, sym}
use mathlib.Core.List.{List, []}
use mathlib.Core.Former.{Former, this, list, via, children}
use base.Stored.{code_map}
use denote.RattleType.{RattleType}
use denote.HoleLaws.{Alike}
use denote.HolePlaces.{Recodes, struct_places, laid}
use denote.Hole.Carrier.{listed, list-listed}
use denote.Hole.Fix.{over}
use denote.Param.Weighed.{Weighed, w_list}
use denote.Model.Placed.{view_places}
use Rattle.std.specs.formers.vec.Vec as vector
use Rattle.std.specs.declared.alloc.Global.{Global}
use Rattle.std.specs.contracts.alloc.Global as global
use Rattle.std.specs.contracts.impls.GlobalAllocator.TheImpl.{ghosts}
use Rattle.lang_base.specs.declared.items.Items.TheInside.{Inside}
use Rattle.lang_base.specs.declared.items.Items.TheView.{view, invariant}
use Rattle.lang_base.specs.contracts.items.Items as outer
use Rattle.lang_base.specs.contracts.items.Items.TheInside as inner

-- a value is the list of what it holds, and nothing else
abbrev pub the_former : Former {0} → Former {0}
the_former held = list held

abbrev pub the_weighed : {held : Former {0}} → Weighed held → Weighed (the_former held)
the_weighed weight = w_list weight

-- the empty list holds nothing, so a type that reaches itself through `Items` has a first value
pub the_empty : List ⊥
the_empty = []

abbrev pub the_items : (X : Type 0) → List X → List X
the_items X items = items

pub the_items_listed : (X : Type 0) (items : List X) → listed _ (children (the_former this) X items) ≡ the_items X items
the_items_listed X items = list-listed X items

-- the one field, a vector
abbrev inside : Former {0}
inside = via (vector.the_former this Global) Inside (λ X fields. fields.items) (λ X items. record { items = items })
    (λ X fields. refl) (λ X items. refl)

-- two types that are stored alike give lists that are stored alike
module _ (R S : RattleType) (along : R.Denot → S.Denot) where
  pub the_places : Alike R S along → Alike (outer.the_row R) (outer.the_row S) ((the_former this).map R.Denot S.Denot along)
  the_places alike = view_places inside (list this) view (λ X Y k u. refl) (λ X u. refl) R.Denot S.Denot along
      (outer.the_row R).coded (outer.the_row S).coded (invariant R.Denot) (invariant S.Denot)
      (λ u p q. refl) (λ u p q. refl) (λ u e. tt) (λ u e. tt) (over (inner.the_row R)) (over (inner.the_row S))
      (struct_places (inner.the_type R) (inner.the_type S) (vector.mapped along, tt) _ (λ fields. refl) refl
      (laid _ _ _ (vector.the_places global.the_row ghosts R S along alike), tt))

  pub the_codes_placed : Recodes R S along → Recodes (outer.the_row R) (outer.the_row S) ((the_former this).map R.Denot S.Denot along)
  the_codes_placed recodes items = sym (code_map R.coded.code S.coded.code along (λ x. sym (recodes x)) items)
