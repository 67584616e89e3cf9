-- Where a value fits for the checker, its type is a subtype in the judgement.
use Rattle.std.proofs.Common.{◌≡◌, ◌⊎◌, ℕ, zero, suc, ◌==◌, Bool, true, false, ◌||◌, List, map, length, inl, inr, ⊎_elim, Option, Some, None, option_map, refl, subst}
use Rattle.std.proofs.lemmas.Bool.{and_parts, eqb-true}
use Rattle.std.specs.Option.{option_map_or}
use Rattle.lang_base.specs.declared.region.Rpl.{Rpl}
use Rattle.lang_base.specs.declared.ty.Super.{Super}
use Rattle.lang_base.specs.Regions.{substituted}
use Rattle.lang_base.specs.Types.{PlainType, int, boolean, void, null, class, array, type_with, superclass, all_within, class_within, below_class}
use Rattle.lang_base.specs.Types.{Subtype as FitsBelow}
use Rattle.lang_typed.specs.Plain.{PlainProgram, PlainParent}
use Rattle.lang_typed.specs.Scope.{parent_of as parent_in}
use Rattle.lang_typed.specs.Types.{Subtype, ints, booleans, null_object, null_array, objects, arrays, inherits}
use Rattle.sound_bodies.specs.Seen.{can_stand, SupersAgree}

or_split : (a b : Bool) → (a || b) ≡ true → (a ≡ true) ⊎ (b ≡ true)
or_split true b h = inl refl
or_split false b h = inr h

module _ (P : PlainProgram) (supers : List Super) (agree : SupersAgree P supers)
  where
    within_class : (c : ℕ) (rs : List Rpl) (d : ℕ) (ss : List Rpl) → class_within (class c rs) (class d ss) ≡ true → Subtype P (class c rs) (class d ss)
    within_class c rs d ss h =
        let p = and_parts (c == d) (all_within rs ss) h in
        subst (λ k. Subtype P (class c rs) (class k ss)) (eqb-true c d p.0) (objects p.1)

    below : (n c : ℕ) (rs : List Rpl) (d : ℕ) (ss : List Rpl) → below_class supers n (class c rs) (class d ss) ≡ true → Subtype P (class c rs) (class d ss)
    below zero c rs d ss h = within_class c rs d ss h
    below (suc n) c rs d ss h =
        ⊎_elim (within_class c rs d ss) (above (below n) (superclass supers c) (agree c)) (or_split (class_within (class c rs) (class d ss)) _ h)
      where
        above : ((e : ℕ) (qs : List Rpl) (d : ℕ) (ss : List Rpl) → below_class supers n (class e qs) (class d ss) ≡ true → Subtype P (class e qs) (class d ss)) →
            (o : Option PlainType) → ((t : PlainType) → o ≡ Some t → (p : PlainParent) × (parent_in P c ≡ Some p) × (t ≡ class p.class p.args)) →
            option_map_or (λ t. below_class supers n t (class d ss)) (option_map (type_with rs) o) false ≡ true → Subtype P (class c rs) (class d ss)
        above next None known h = cc
        above next (Some t) known h =
            let w = known t refl in
            inherits w.1 (next w.0.class (map (substituted rs) w.0.args) d ss (subst (λ z. below_class supers n (type_with rs z) (class d ss) ≡ true) w.2 h))

    pub fits_subtype : (t u : PlainType) → can_stand u ≡ true → FitsBelow supers t u → Subtype P t u
    fits_subtype int int s h = ints
    fits_subtype boolean boolean s h = booleans
    fits_subtype null (class c args) s h = null_object
    fits_subtype null (array t a named) s h = null_array
    fits_subtype (class c rs) (class d ss) s h = below (length supers) c rs d ss h
    fits_subtype (array t a named) (array u b named') s h = arrays h.0 h.1
    fits_subtype t void s h = cc
    fits_subtype t null s h = cc
    fits_subtype t u s h = absurd h
