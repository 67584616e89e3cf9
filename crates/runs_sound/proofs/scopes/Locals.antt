-- Locals that are assigned and declared.
use Rattle.std.proofs.Common.{◌≡◌, ◌≢◌, ◌<◌, ⊎_elim, inl, inr, ℕ, ℤ, ◌+◌, Bool, true, false, ◌==◌, List, [], ◌∷◌, refl, sym, ap, ◌∙◌, subst, arith, Some, None, slice_set, slice_index_or}
use Rattle.std.specs.Prelude.{All}
use Rattle.std.proofs.lemmas.List.{length-set}
use Rattle.std.proofs.lemmas.List.Elements.{All-head, All-tail}
use Rattle.std.proofs.lemmas.Bool.{cases_Bool, eqb-true, eq-eqb, eqb-false, cond-true, cond-false, false_from_ne_true}
use Rattle.lang_base.specs.declared.region.Rpl.{Rpl}
use Rattle.lang_base.specs.declared.effect.Effect.{Effect}
use Rattle.lang_base.specs.Regions.{generalised}
use Rattle.lang_base.specs.Types.{PlainType, int}
use Rattle.lang_typed.specs.Effects.{Own as EffectOwn, does, uses, effect_of, mapped, outside_variable}
use Rattle.lang_typed.specs.Plain.{PlainProgram}
use Rattle.lang_typed.specs.Scope.{Scope, variable, constant, part, reserved, with_local}
use Rattle.lang_typed.specs.Scope.{Local as ScopeLocal}
use Rattle.lang_typed.specs.Statements.{declared_as, IsFree}
use Rattle.lang_meaning.specs.Counts.{number, slot_value}
use Rattle.lang_meaning.specs.Statements.{with_value}
use Rattle.runs_theory.specs.Objects.{Path, Value}
use Rattle.runs_sound.specs.Settings.{with_number, Setting, env_of}
use Rattle.runs_sound.specs.Shapes.{Shapes, FitsIn}
use Rattle.runs_sound.specs.Accesses.{Access, Speaks, Covers, LiesIn}
use Rattle.runs_sound.specs.Frames.{Frame, State, LocalFits, FrameFits}
use Rattle.runs_sound.specs.Scopes.{PathInScope, TypeInScope, LocalInScope, GoodScope}
use Rattle.runs_sound.proofs.paths.Including.{includes_general}
use Rattle.runs_sound.proofs.scopes.Wider.{Wider, wider_path, wider_type, wider_local}
use Rattle.runs_sound.proofs.scopes.Alike.{Alike, setting_back, setting_alike, alike_holds, fits_alike, local_alike, set_other, set_same, local_kept}

-- another local than one that isn't in scope, or that is of another kind
pub other_than : (L : Scope) (x y : ℕ) (l : ScopeLocal) → L.local y ≡ Some l → L.local x ≡ None → y ≢ x
other_than L x y l e n q = let z : None ≡ Some l = sym n ∙ ap L.local (sym q) ∙ e in cc

-- a slot that isn't in scope may be set
pub frame_outside : (P : PlainProgram) (p : Path) (st : State) (g : Setting) (L : Scope) → GoodScope L → (f : Frame) (x : ℕ) (v : Value) →
    L.local x ≡ None → FrameFits P p st g L f → FrameFits P p st g L (with_value f x v)
frame_outside P p st g L good f x v n ff = record {
  regions = ff.regions;
  plain = ff.plain;
  atomic = ff.atomic;
  given = ff.given;
  index = λ y e. ap number (set_other f.values x y v (other_than L x y (constant int) e n)) ∙ ff.index y e;
  made = ff.made;
  distinct = ff.distinct;
  old = ff.old;
  slots = length-set f.values x v ∙ ff.slots;
  local_regions = ff.local_regions;
  each = λ y l e. local_kept P st.shapes g f.values x v y l (other_than L x y l e n)
      (λ t a q. (let r = good.parts y t a (e ∙ ap (λ z. Some z) q) in (other_than L x (y + 1) reserved r.0 n, other_than L x (y + 2) reserved r.1 n))) (ff.each y l e);
}

variable_not : (L : Scope) (x y : ℕ) (t : PlainType) (l : ScopeLocal) → L.local x ≡ Some (variable t) → L.local y ≡ Some l → (variable t ≡ l → ⊥) → y ≢ x
variable_not L x y t l e k ne q = ne (let z : Some (variable t) ≡ Some l = sym e ∙ ap L.local (sym q) ∙ k in cc)

-- a variable is assigned
pub frame_store : (P : PlainProgram) (p : Path) (st : State) (g : Setting) (L : Scope) → GoodScope L → (f : Frame) (x : ℕ) (t : PlainType) (v : Value) →
    L.local x ≡ Some (variable t) → FitsIn P st.shapes (env_of g) t v →
    FrameFits P p st g L f → FrameFits P p st g L (with_value f x v)
frame_store P p st g L good f x t v lx fv ff = record {
  regions = ff.regions;
  plain = ff.plain;
  atomic = ff.atomic;
  given = ff.given;
  index = λ y e. ap number (set_other f.values x y v (variable_not L x y t (constant int) lx e (λ q. cc))) ∙ ff.index y e;
  made = ff.made;
  distinct = ff.distinct;
  old = ff.old;
  slots = length-set f.values x v ∙ ff.slots;
  local_regions = ff.local_regions;
  each = λ y l e. ⊎_elim
      (λ s. (let q = eqb-true y x s in
      let k : variable t ≡ l = (let z : Some (variable t) ≡ Some l = sym lx ∙ ap L.local (sym q) ∙ e in cc) in
      subst (LocalFits P st.shapes g (slice_set f.values x v) y) k
      (subst (λ z. FitsIn P st.shapes (env_of g) t (slot_value (slice_set f.values x v) z)) (sym q)
      (subst (FitsIn P st.shapes (env_of g) t) (sym (set_same f.values x v (let b = good.slots x (variable t) lx in let d = ff.slots in omega (arith, b, d)))) fv))))
      (λ s. local_kept P st.shapes g f.values x v y l (eqb-false y x s)
      (λ u a q. (let r = good.parts y u a (e ∙ ap (λ z. Some z) q) in (variable_not L x (y + 1) t reserved lx r.0 (λ q. cc), variable_not L x (y + 2) t reserved lx r.1 (λ q. cc)))) (ff.each y l e))
      (cases_Bool (y == x));
}

-- it is alike in a scope where the local isn't
pub number_alike : (L : Scope) (g : Setting) (x : ℕ) (k : ℤ) → L.local x ≡ None → Alike L g (with_number x k g)
number_alike L g x k n = record {
  regions = refl;
  index = λ y e. sym (cond-false (x == y) k (g.index y) (false_from_ne_true (x == y) (λ t. other_than L x y (constant int) e n (sym (eqb-true x y t)))));
  made = λ r i. refl;
  part = λ y t a e. refl;
}

-- in the scope with it
pub inner_local : (L : Scope) (x y : ℕ) (l m : ScopeLocal) → (y == x) ≡ false → (with_local x l L).local y ≡ Some m → L.local y ≡ Some m
inner_local L x y l m h e = sym (cond-false (y == x) (Some l) (L.local y) h) ∙ e

pub inner_is : (L : Scope) (x y : ℕ) (l m : ScopeLocal) → (y == x) ≡ true → (with_local x l L).local y ≡ Some m → l ≡ m
inner_is L x y l m h e = let z : Some l ≡ Some m = sym (cond-true (y == x) (Some l) (L.local y) h) ∙ e in cc

-- a scope with a local more is wider
pub local_wider : (L : Scope) (x : ℕ) (l : ScopeLocal) → L.local x ≡ None → Wider L (with_local x l L)
local_wider L x l n = record {
  index = λ y s. cond-false (y == x) (Some l) (L.local y) (false_from_ne_true (y == x) (λ t. other_than L x y (constant int) s n (eqb-true y x t))) ∙ s;
  regions = λ r i. i;
}

pub no_part : (is_final : Bool) (t u : PlainType) (a : Rpl) → declared_as is_final t ≡ part u a → ⊥
no_part true t u a e = let z : constant t ≡ part u a = e in cc
no_part false t u a e = let z : variable t ≡ part u a = e in cc

declared_in : (L : Scope) (is_final : Bool) (t : PlainType) → TypeInScope L 0 t → LocalInScope L (declared_as is_final t)
declared_in L true t s = s
declared_in L false t s = s

pub good_declare : (L : Scope) → GoodScope L → (x : ℕ) (is_final : Bool) (t : PlainType) → IsFree L x → TypeInScope L 0 t →
    GoodScope (with_local x (declared_as is_final t) L)
good_declare L good x is_final t free s = record {
  each = λ y m e. ⊎_elim
      (λ h. subst (LocalInScope (with_local x (declared_as is_final t) L)) (inner_is L x y (declared_as is_final t) m h e)
      (wider_local L (with_local x (declared_as is_final t) L) (local_wider L x (declared_as is_final t) free.0) (declared_as is_final t) (declared_in L is_final t s)))
      (λ h. wider_local L (with_local x (declared_as is_final t) L) (local_wider L x (declared_as is_final t) free.0) m (good.each y m (inner_local L x y (declared_as is_final t) m h e))) (cases_Bool (y == x));
  slots = λ y m e. ⊎_elim (λ h. subst (λ z. z < L.slots) (sym (eqb-true y x h)) free.1)
      (λ h. good.slots y m (inner_local L x y (declared_as is_final t) m h e)) (cases_Bool (y == x));
  parts = λ y u a e. ⊎_elim
      (λ h. absurd (no_part is_final t u a (inner_is L x y (declared_as is_final t) (part u a) h e)))
      (λ h. (let r = good.parts y u a (inner_local L x y (declared_as is_final t) (part u a) h e) in (
        kept (y + 1) reserved r.0,
        kept
            (y + 2) reserved r.1,
      ))) (cases_Bool (y == x));
  result = λ u e. wider_type L (with_local x (declared_as is_final t) L) (local_wider L x (declared_as is_final t) free.0) 0 u (good.result u e);
  given = λ k c l. (let z = good.given k c l in (
    wider_path L (with_local x (declared_as is_final t) L) (local_wider L x (declared_as is_final t) free.0) 0
        (slice_index_or L.given k c).left z.0,
    wider_path L (with_local x (declared_as is_final t) L) (local_wider L x (declared_as is_final t) free.0) 0 (slice_index_or L.given k c).right z.1,
  ));
}
  where
    kept : (y : ℕ) (m : ScopeLocal) → L.local y ≡ Some m → (with_local x (declared_as is_final t) L).local y ≡ Some m
    kept y m e = cond-false (y == x) (Some (declared_as is_final t)) (L.local y) (false_from_ne_true (y == x) (λ h. other_than L x y m e free.0 (eqb-true y x h))) ∙ e

declared_fits : (P : PlainProgram) (S : Shapes) (g : Setting) (vs : List Value) (x : ℕ) (is_final : Bool) (t : PlainType) →
    FitsIn P S (env_of g) t (slot_value vs x) → LocalFits P S g vs x (declared_as is_final t)
declared_fits P S g vs x true t f = f
declared_fits P S g vs x false t f = f

-- a declared local: the frame fits the scope with it, in the setting with its number
pub frame_declare : (P : PlainProgram) (p : Path) (st : State) (g : Setting) (L : Scope) → GoodScope L →
    (f : Frame) (x : ℕ) (is_final : Bool) (t : PlainType) (v : Value) → IsFree L x → TypeInScope L 0 t →
    FitsIn P st.shapes (env_of g) t v → FrameFits P p st g L f → FrameFits P p st (with_number x (number v) g)
    (with_local x (declared_as is_final t) L) (with_value f x v)
frame_declare P p st g L good f x is_final t v free s fv ff = record {
  regions = ff.regions;
  plain = ff.plain;
  atomic = ff.atomic;
  given = λ k c l. (let z = good.given k c l in alike_holds L (env_of g) (env_of (with_number x (number v) g)) (setting_alike al) _ z.0 z.1 (ff.given k c l));
  index = λ y e. ⊎_elim
      (λ h. (let q = eqb-true y x h in
      ap (λ z. number (slot_value (slice_set f.values x v) z)) q ∙ ap number same
      ∙ sym (cond-true (x == y) (number v) (g.index y) (eq-eqb x y (sym q)))))
      (λ h. ap number (set_other f.values x y v (eqb-false y x h)) ∙ ff.index y (inner_local L x y (declared_as is_final t) (constant int) h e)
      ∙ al.index y (inner_local L x y (declared_as is_final t) (constant int) h e)) (cases_Bool (y == x));
  made = ff.made;
  distinct = ff.distinct;
  old = ff.old;
  slots = length-set f.values x v ∙ ff.slots;
  local_regions = ff.local_regions;
  each = λ y m e. ⊎_elim
      (λ h. subst (λ z. LocalFits P st.shapes (with_number x (number v) g) (slice_set f.values x v) z m) (sym (eqb-true y x h))
      (subst (LocalFits P st.shapes (with_number x (number v) g) (slice_set f.values x v) x) (inner_is L x y (declared_as is_final t) m h e)
      (declared_fits P st.shapes (with_number x (number v) g) (slice_set f.values x v) x is_final t
      (subst (FitsIn P st.shapes (env_of (with_number x (number v) g)) t) (sym same) (fits_alike P st.shapes L g (with_number x (number v) g) al t s v fv)))))
      (λ h. (let k = inner_local L x y (declared_as is_final t) m h e in
      local_alike P st.shapes L g (with_number x (number v) g) al (slice_set f.values x v) y m k (good.each y m k)
      ((frame_outside P p st g L good f x v free.0 ff).each y m k)))
      (cases_Bool (y == x));
}
  where
    al : Alike L g (with_number x (number v) g)
    al = number_alike L g x (number v) free.0

    same : slot_value (slice_set f.values x v) x ≡ v
    same = set_same f.values x v (let b = free.1 in let d = ff.slots in omega (arith, b, d))

-- after the block that it stands in
pub frame_leave : (P : PlainProgram) (p : Path) (st : State) (g : Setting) (L : Scope) → GoodScope L → (f : Frame) (x : ℕ) (l : ScopeLocal) (k : ℤ) →
    L.local x ≡ None →
    FrameFits P p st (with_number x k g) (with_local x l L) f → FrameFits P p st g L f
frame_leave P p st g L good f x l k n ff = record {
  regions = ff.regions;
  plain = ff.plain;
  atomic = ff.atomic;
  given = λ j c h. (let z = good.given j c h in alike_holds L (env_of (with_number x k g)) (env_of g) (setting_alike (setting_back al)) _ z.0 z.1 (ff.given j c h));
  index = λ y e. ff.index y (kept y (constant int) e) ∙ sym (al.index y e);
  made = ff.made;
  distinct = ff.distinct;
  old = ff.old;
  slots = ff.slots;
  local_regions = ff.local_regions;
  each = λ y m e. local_alike P st.shapes L (with_number x k g) g (setting_back al) f.values y m e (good.each y m e) (ff.each y m (kept y m e));
}
  where
    al : Alike L g (with_number x k g)
    al = number_alike L g x k n

    kept : (y : ℕ) (m : ScopeLocal) → L.local y ≡ Some m → (with_local x l L).local y ≡ Some m
    kept y m e = cond-false (y == x) (Some l) (L.local y) (false_from_ne_true (y == x) (λ h. other_than L x y m e n (eqb-true y x h))) ∙ e

-- what effects speak of where the variable has its number they speak of outside, where it may be any

speaks_general : (g : Setting) (x : ℕ) (k : ℤ) (L : Scope) (e : Effect) (a : Access) → PathInScope L 0 e.rpl → Speaks (with_number x k g) e a → Speaks g (record e { rpl = generalised x e.rpl }) a
speaks_general g x k L e a s h = record { includes = includes_general g x k L e.rpl s a.region h.includes; writes = h.writes; guarded = h.guarded }

covers_general : (g : Setting) (x : ℕ) (k : ℤ) (L : Scope) (o : EffectOwn) (a : Access) → PathInScope L 0 (effect_of o).rpl → Covers (with_number x k g) o a →
    Covers g (mapped (λ e. record e { rpl = generalised x e.rpl }) o) a
covers_general g x k L (does e) a s h = speaks_general g x k L e a s h
covers_general g x k L (uses j e) a s h = (speaks_general g x k L e a s h.0, h.1)

pub lies_general : (g : Setting) (x : ℕ) (k : ℤ) (L : Scope) (E : List EffectOwn) (a : Access) → All (λ o. PathInScope L 0 (effect_of o).rpl) E →
    LiesIn (with_number x k g) E a → LiesIn g (outside_variable x E) a
lies_general g x k L [] a s h = h
lies_general g x k L (o ∷ E) a s h = elim h [
  | inl c ↦ inl (covers_general g x k L o a (All-head (λ o. PathInScope L 0 (effect_of o).rpl) o E s) c)
  | inr r ↦ inr (lies_general g x k L E a (All-tail (λ o. PathInScope L 0 (effect_of o).rpl) o E s) r)
]
