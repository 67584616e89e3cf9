-- How `Boxed` stores what it holds, so that a type may hold itself.
use mathlib.Core.Path.{refl}
use mathlib.Core.Former.{Former, this, const, pair, via}
use base.Stored.{gnil}
use base.Fml.{ftrue}
use denote.RattleType.{RattleType}
use denote.Memory.{part_of}
use denote.RawPtr.{Ptr}
use denote.Sharing.{nothing}
use denote.HoleLaws.{Alike}
use denote.HolePlaces.{Recodes, struct_places, laid, one_value}
use denote.Hole.Fix.{over}
use denote.Param.Weighed.{Weighed}
use denote.Model.Placed.{view_places}
use Rattle.std.specs.declared.boxed.Box.{Box}
use Rattle.std.specs.contracts.boxed.Box as box
use Rattle.std.specs.declared.alloc.Global.{Global}
use Rattle.std.specs.contracts.alloc.Global as global
use Rattle.std.specs.contracts.impls.GlobalAllocator.TheImpl.{ghosts}
use Rattle.lang_base.specs.declared.boxed.Boxed.TheInside.{Inside}
use Rattle.lang_base.specs.declared.boxed.Boxed.TheView.{view, invariant}
use Rattle.lang_base.specs.contracts.boxed.Boxed as outer
use Rattle.lang_base.specs.contracts.boxed.Boxed.TheInside as inner

-- a value is what it holds, and nothing else
abbrev pub the_former : Former {0} → Former {0}
the_former held = held

abbrev pub the_weighed : {held : Former {0}} → Weighed held → Weighed (the_former held)
the_weighed weight = weight

-- the one field: a pointer with its allocator, and the value behind it
abbrev inside : Former {0}
inside = via (pair (const (Ptr × Global)) this) Inside
    (λ X fields. ((fields.inner.ptr, fields.inner.alloc), fields.inner.value))
    (λ X parts. record { inner = record { ptr = parts.0.0; alloc = parts.0.1; value = parts.1 } })
    (λ X fields. refl) (λ X parts. refl)

abbrev holding : {X Y : Type 0} → Box X Global → Y → Box Y Global
holding old value = record { ptr = old.ptr; alloc = old.alloc; value = value }

abbrev box_row : RattleType → RattleType
box_row R = box.the_row R global.the_row ghosts

-- two types that are stored alike give boxes that are stored alike
module _ (R S : RattleType) (along : R.Denot → S.Denot) where
  box_alike : Alike R S along → Alike (box_row R) (box_row S) (λ b. holding b (along b.value))
  unfolding part_of
  box_alike alike = record {
    mir_same = λ i. (box_row (one_value R (alike.mir_same i) (λ _. ftrue) (λ _ _. nothing) gnil)).mir;
    own_same = λ b i. (box_row (one_value R (alike.mir_same i) (alike.own_same b.value i) (alike.shr_same b.value i) gnil)).own_val (holding b tt);
    shr_same = λ b i. (box_row (one_value R (alike.mir_same i) (alike.own_same b.value i) (alike.shr_same b.value i) gnil)).shr_at (holding b tt);
  }

  pub the_places : Alike R S along → Alike (outer.the_row R) (outer.the_row S) ((the_former this).map R.Denot S.Denot along)
  the_places alike = view_places inside this view (λ X Y k u. refl) (λ X u. refl) R.Denot S.Denot along
      (outer.the_row R).coded (outer.the_row S).coded (invariant R.Denot) (invariant S.Denot)
      (λ u p q. refl) (λ u p q. refl) (λ u e. tt) (λ u e. tt) (over (inner.the_row R)) (over (inner.the_row S))
      (struct_places (inner.the_type R) (inner.the_type S) ((λ b. holding b (along b.value)), tt) _ (λ fields. refl) refl
      (laid _ _ _ (box_alike alike), tt))

  pub the_codes_placed : Recodes R S along → Recodes (outer.the_row R) (outer.the_row S) ((the_former this).map R.Denot S.Denot along)
  the_codes_placed recodes value = recodes value
