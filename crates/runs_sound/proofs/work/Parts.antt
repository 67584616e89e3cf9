-- The scope of a part of an array, and the frames that fit it.
use Rattle.std.proofs.Common.{◌≡◌, ◌≢◌, ◌<◌, ◌⊎◌, inl, inr, ℕ, ℤ, ◌+◌, Bool, true, false, cond, ◌==◌, refl, sym, ◌∙◌, subst, arith, Some, slice_index_or}
use Rattle.std.proofs.lemmas.Bool.{eqb-true, eq-eqb, cond-true, cond-false, false_from_ne_true}
use Rattle.lang_base.specs.declared.region.Rpl.{Rpl}
use Rattle.lang_base.specs.Types.{PlainType, int, array, has_index, mentions_index}
use Rattle.lang_typed.specs.Plain.{PlainProgram}
use Rattle.lang_typed.specs.Scope.{Scope, constant, part, reserved, with_local, in_loop_branch}
use Rattle.lang_typed.specs.Scope.{Local as ScopeLocal}
use Rattle.lang_typed.specs.Statements.{IsFree, with_part}
use Rattle.lang_meaning.specs.Counts.{number, slot_value}
use Rattle.runs_theory.specs.Objects.{Path}
use Rattle.runs_sound.specs.Settings.{Places, Setting, env_of, with_number}
use Rattle.runs_sound.specs.Shapes.{FitsIn}
use Rattle.runs_sound.specs.Frames.{Frame, State, PartFits, LocalFits, FrameFits}
use Rattle.runs_sound.specs.Scopes.{TypeInScope, LocalInScope, GoodScope}
use Rattle.runs_sound.proofs.scopes.Alike.{Alike, setting_alike, alike_holds, fits_alike, local_alike}
use Rattle.runs_sound.proofs.work.Forks.{loop_narrower}
use Rattle.runs_sound.proofs.scopes.Locals.{other_than}
use Rattle.runs_sound.proofs.scopes.Placed.{TypePlaced, LocalPlaced, PlacedScope, placed_wider}
use Rattle.runs_sound.proofs.scopes.Wider.{Wider, wider_path, wider_type, wider_local}

-- the setting in which a slot has this part
abbrev pub with_places : ℕ → Places → Setting → Setting
with_places k p g = record g { part = λ y. cond (k == y) p (g.part y) }

-- the scope of a part without its number
abbrev pub with_slots : ℕ → PlainType → Rpl → Scope → Scope
with_slots k t a L = with_local (k + 3) reserved (with_local (k + 2) reserved (with_local (k + 1) reserved (with_local k (part t a) L)))

-- what a slot is in the scope of a part: the number, one that the part needs, the part, or what it is outside
abbrev pub PartLocal : Scope → ℕ → PlainType → Rpl → ℕ → ScopeLocal → Type 0
PartLocal L k t a y l =
    ((y ≡ k + 4) × (constant int ≡ l)) ⊎ (((i : ℕ) × (i < 5) × (y ≡ k + i) × (reserved ≡ l)) ⊎ (((y ≡ k) × (part t a ≡ l)) ⊎ (L.local y ≡ Some l)))

module _ (L : Scope) (k : ℕ) (t : PlainType) (a : Rpl) where
  pub part_local : (y : ℕ) (l : ScopeLocal) → (with_part k t a L).local y ≡ Some l → PartLocal L k t a y l
  part_local y l e = go (y == k + 4) refl (y == k + 3) refl (y == k + 2) refl (y == k + 1) refl (y == k) refl e
    where
      go : (c4 : Bool) → (y == k + 4) ≡ c4 → (c3 : Bool) → (y == k + 3) ≡ c3 → (c2 : Bool) → (y == k + 2) ≡ c2 → (c1 : Bool) → (y == k + 1) ≡ c1 →
          (c0 : Bool) → (y == k) ≡ c0 →
          cond c4 (Some (constant int)) (cond c3 (Some reserved) (cond c2 (Some reserved) (cond c1 (Some reserved) (cond c0 (Some (part t a)) (L.local y))))) ≡ Some l →
          PartLocal L k t a y l
      go true h4 c3 h3 c2 h2 c1 h1 c0 h0 e = inl (eqb-true y (k + 4) h4, cc)
      go false h4 true h3 c2 h2 c1 h1 c0 h0 e = inr (inl (3, omega arith, eqb-true y (k + 3) h3, cc))
      go false h4 false h3 true h2 c1 h1 c0 h0 e = inr (inl (2, omega arith, eqb-true y (k + 2) h2, cc))
      go false h4 false h3 false h2 true h1 c0 h0 e = inr (inl (1, omega arith, eqb-true y (k + 1) h1, cc))
      go false h4 false h3 false h2 false h1 true h0 e = inr (inr (inl (eqb-true y k h0, cc)))
      go false h4 false h3 false h2 false h1 false h0 e = inr (inr (inr e))

  -- its slots
  apart_from : (y z : ℕ) → y ≢ z → (y == z) ≡ false
  apart_from y z ne = false_from_ne_true (y == z) (λ h. ne (eqb-true y z h))

  first_local : (with_part k t a L).local (k + 1) ≡ Some reserved
  first_local =
      cond-false (k + 1 == k + 4) _ _ (apart_from (k + 1) (k + 4) (λ e. omega (arith, e))) ∙ cond-false (k + 1 == k + 3) _ _ (apart_from (k + 1) (k + 3) (λ e. omega (arith, e)))
      ∙ cond-false (k + 1 == k + 2) _ _ (apart_from (k + 1) (k + 2) (λ e. omega (arith, e))) ∙ cond-true (k + 1 == k + 1) _ _ (eq-eqb (k + 1) (k + 1) refl)

  length_local : (with_part k t a L).local (k + 2) ≡ Some reserved
  length_local =
      cond-false (k + 2 == k + 4) _ _ (apart_from (k + 2) (k + 4) (λ e. omega (arith, e))) ∙ cond-false (k + 2 == k + 3) _ _ (apart_from (k + 2) (k + 3) (λ e. omega (arith, e)))
      ∙ cond-true (k + 2 == k + 2) _ _ (eq-eqb (k + 2) (k + 2) refl)

  pub part_is_local : (with_part k t a L).local k ≡ Some (part t a)
  part_is_local =
      cond-false (k == k + 4) _ _ (apart_from k (k + 4) (λ e. omega (arith, e))) ∙ cond-false (k == k + 3) _ _ (apart_from k (k + 3) (λ e. omega (arith, e)))
      ∙ cond-false (k == k + 2) _ _ (apart_from k (k + 2) (λ e. omega (arith, e))) ∙ cond-false (k == k + 1) _ _ (apart_from k (k + 1) (λ e. omega (arith, e)))
      ∙ cond-true (k == k) _ _ (eq-eqb k k refl)

  -- no slot but that of the number is an index variable that isn't one outside
  slots_index : (y : ℕ) → (with_slots k t a L).local y ≡ Some (constant int) → L.local y ≡ Some (constant int)
  slots_index y e = go (y == k + 3) (y == k + 2) (y == k + 1) (y == k) e
    where
      go : (c3 c2 c1 c0 : Bool) → cond c3 (Some reserved) (cond c2 (Some reserved) (cond c1 (Some reserved) (cond c0 (Some (part t a)) (L.local y)))) ≡ Some (constant int) →
          L.local y ≡ Some (constant int)
      go true c2 c1 c0 e = absurd (cc)
      go false true c1 c0 e = absurd (cc)
      go false false true c0 e = absurd (cc)
      go false false false true e = absurd (cc)
      go false false false false e = e

  module _ (free : (i : ℕ) → i < 5 → IsFree L (k + i)) where
    pub free_itself : IsFree L k
    free_itself = let e : k + 0 ≡ k = omega arith in subst (IsFree L) e (free 0 (omega arith))

    -- what is in scope outside stays
    kept : (y : ℕ) (m : ScopeLocal) → L.local y ≡ Some m → (with_part k t a L).local y ≡ Some m
    kept y m e =
        cond-false (y == k + 4) _ _ (apart_from y (k + 4) (other_than L (k + 4) y m e (free 4 (omega arith)).0))
        ∙ cond-false (y == k + 3) _ _ (apart_from y (k + 3) (other_than L (k + 3) y m e (free 3 (omega arith)).0))
        ∙ cond-false (y == k + 2) _ _ (apart_from y (k + 2) (other_than L (k + 2) y m e (free 2 (omega arith)).0))
        ∙ cond-false (y == k + 1) _ _ (apart_from y (k + 1) (other_than L (k + 1) y m e (free 1 (omega arith)).0))
        ∙ cond-false (y == k) _ _ (apart_from y k (other_than L k y m e free_itself.0)) ∙ e

    pub part_wider : Wider L (with_part k t a L)
    part_wider = record { index = λ y e. kept y (constant int) e; regions = λ r i. i }

    pub good_part : GoodScope L → TypeInScope L 0 (array t a false) → GoodScope (with_part k t a L)
    good_part good s = record {
      each = λ y l e. each y l (part_local y l e);
      slots = λ y l e. slots y l (part_local y l e);
      parts = λ y u c e. parts y u c (part_local y (part u c) e);
      result = λ u e. wider_type L (with_part k t a L) part_wider 0 u (good.result u e);
      given = λ j c l. (let z = good.given j c l in (
        wider_path L (with_part k t a L) part_wider 0 (slice_index_or L.given j c).left z.0,
        wider_path L (with_part k t a L) part_wider 0 (slice_index_or L.given j c).right z.1,
      ));
    }
      where
        each : (y : ℕ) (l : ScopeLocal) → PartLocal L k t a y l → LocalInScope (with_part k t a L) l
        each y l (inl h) = subst (LocalInScope (with_part k t a L)) h.1 tt
        each y l (inr (inl h)) = subst (LocalInScope (with_part k t a L)) h.3 tt
        each y l (inr (inr (inl h))) = subst (LocalInScope (with_part k t a L)) h.1 (wider_type L (with_part k t a L) part_wider 0 (array t a false) s)
        each y l (inr (inr (inr e))) = wider_local L (with_part k t a L) part_wider l (good.each y l e)

        slots : (y : ℕ) (l : ScopeLocal) → PartLocal L k t a y l → y < L.slots
        slots y l (inl h) = subst (λ z. z < L.slots) (sym h.0) (free 4 (omega arith)).1
        slots y l (inr (inl h)) = subst (λ z. z < L.slots) (sym h.2) (free h.0 h.1).1
        slots y l (inr (inr (inl h))) = subst (λ z. z < L.slots) (sym h.0) free_itself.1
        slots y l (inr (inr (inr e))) = good.slots y l e

        parts : (y : ℕ) (u : PlainType) (c : Rpl) → PartLocal L k t a y (part u c) →
            ((with_part k t a L).local (y + 1) ≡ Some reserved) × ((with_part k t a L).local (y + 2) ≡ Some reserved)
        parts y u c (inl h) = absurd (let z : constant int ≡ part u c = h.1 in cc)
        parts y u c (inr (inl h)) = absurd (let z : reserved ≡ part u c = h.3 in cc)
        parts y u c (inr (inr (inl h))) = subst (λ z. ((with_part k t a L).local (z + 1) ≡ Some reserved) × ((with_part k t a L).local (z + 2) ≡ Some reserved)) (sym h.0)
            (first_local, length_local)
        parts y u c (inr (inr (inr e))) = let r = good.parts y u c e in (kept (y + 1) reserved r.0, kept (y + 2) reserved r.1)

    pub placed_part : (outer : ℕ → Bool) → PlacedScope outer L → TypePlaced outer L 0 (array t a false) → PlacedScope outer (with_part k t a L)
    placed_part outer placed s = record { each = λ y l e. each y l (part_local y l e); below = placed.below }
      where
        each : (y : ℕ) (l : ScopeLocal) → PartLocal L k t a y l → LocalPlaced outer (with_part k t a L) l
        each y l (inl h) = subst (LocalPlaced outer (with_part k t a L)) h.1 tt
        each y l (inr (inl h)) = subst (LocalPlaced outer (with_part k t a L)) h.3 tt
        each y l (inr (inr (inl h))) = subst (LocalPlaced outer (with_part k t a L)) h.1 (placed_wider outer L (with_part k t a L) part_wider (part t a) s)
        each y l (inr (inr (inr e))) = placed_wider outer L (with_part k t a L) part_wider l (placed.each y l e)

    -- in the setting with the part and the number all else is alike
    pub part_alike : (g : Setting) (p : Places) (n : ℤ) → Alike L g (with_number (k + 4) n (with_places k p g))
    part_alike g p n = record {
      regions = refl;
      index = λ y e. sym (cond-false (k + 4 == y) n (g.index y) (apart_from (k + 4) y (λ q. other_than L (k + 4) y (constant int) e (free 4 (omega arith)).0 (sym q))));
      made = λ r i. refl;
      part = λ y u c e. sym (cond-false (k == y) p (g.part y) (apart_from k y (λ q. other_than L k y (part u c) e free_itself.0 (sym q))));
    }

    -- a frame that fits outside fits inside, where the slots of the part say where it stands
    pub frame_part : (P : PlainProgram) (path : Path) (st : State) (g : Setting) → GoodScope L → TypeInScope L 0 (array t a false) →
        (has_index 0 a ≡ false) × (mentions_index 0 t ≡ false) → (f : Frame) →
        FitsIn P st.shapes (env_of g) (array t a false) (slot_value f.values k) → FitsIn P st.shapes (env_of g) int (slot_value f.values (k + 1)) →
        FitsIn P st.shapes (env_of g) int (slot_value f.values (k + 2)) →
        FitsIn P st.shapes (env_of g) int (slot_value f.values (k + 4)) → FrameFits P path st g L f →
        FrameFits P path st
        (with_number (k + 4) (number (slot_value f.values (k + 4)))
        (with_places k (record { array = slot_value f.values k; first = number (slot_value f.values (k + 1)); len = number (slot_value f.values (k + 2)) }) g))
        (with_part k t a L) f
    frame_part P path st g good s alone f array_fits first_fits len_fits number_fits ff = record {
      regions = ff.regions;
      plain = ff.plain;
      atomic = ff.atomic;
      given = λ j c l. (let z = good.given j c l in alike_holds L (env_of g) (env_of inner) (setting_alike al) _ z.0 z.1 (ff.given j c l));
      index = λ y e. index y (part_local y (constant int) e);
      made = ff.made;
      distinct = ff.distinct;
      old = ff.old;
      slots = ff.slots;
      local_regions = ff.local_regions;
      each = λ y l e. each y l (part_local y l e);
    }
      where
        inner : Setting
        inner =
            with_number (k + 4) (number (slot_value f.values (k + 4)))
            (with_places k (record { array = slot_value f.values k; first = number (slot_value f.values (k + 1)); len = number (slot_value f.values (k + 2)) }) g)

        al : Alike L g inner
        al = part_alike g _ _

        index : (y : ℕ) → PartLocal L k t a y (constant int) → number (slot_value f.values y) ≡ inner.index y
        index y (inl h) = subst (λ z. number (slot_value f.values z) ≡ inner.index z) (sym h.0)
            (sym (cond-true (k + 4 == k + 4) (number (slot_value f.values (k + 4))) (g.index (k + 4)) (eq-eqb (k + 4) (k + 4) refl)))
        index y (inr (inl h)) = absurd (let z : reserved ≡ constant int = h.3 in cc)
        index y (inr (inr (inl h))) = absurd (let z : part t a ≡ constant int = h.1 in cc)
        index y (inr (inr (inr e))) = ff.index y e ∙ al.index y e

        each : (y : ℕ) (l : ScopeLocal) → PartLocal L k t a y l → LocalFits P st.shapes inner f.values y l
        each y l (inl h) = subst (LocalFits P st.shapes inner f.values y) h.1 (subst (λ z. FitsIn P st.shapes (env_of inner) int (slot_value f.values z)) (sym h.0) number_fits)
        each y l (inr (inl h)) = subst (LocalFits P st.shapes inner f.values y) h.3 tt
        each y l (inr (inr (inl h))) = subst (LocalFits P st.shapes inner f.values y) h.1 (subst (λ z. PartFits P st.shapes inner f.values z t a) (sym h.0) (record {
          no_index = alone.0;
          none_mentioned = alone.1;
          array = fits_alike P st.shapes L g inner al (array t a false) s (slot_value f.values k) array_fits;
          first = first_fits;
          len = len_fits;
          places = cond-true (k == k) _ _ (eq-eqb k k refl);
        }))
        each y l (inr (inr (inr e))) = local_alike P st.shapes L g inner al f.values y l e (good.each y l e) (ff.each y l e)

pub slots_narrower : (L : Scope) (k : ℕ) (t : PlainType) (a : Rpl) → Wider (with_slots k t a (in_loop_branch L)) L
slots_narrower L k t a = record { index = λ y e. (loop_narrower L).index y (slots_index (in_loop_branch L) k t a y e); regions = λ r i. i }
